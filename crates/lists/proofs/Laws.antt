-- The lists that are filled from two files that were read stand for their table.
use Prim.Native.Nat.{ℕ, ◌<◌}
use native.Mathlib.Nat.{le_of_suc-le-suc}
use native.Mathlib.Omega.{arith}
use mathlib.Core.Path.{◌≡◌, refl, sym, ◌∙◌, subst}
use mathlib.Core.Bool.{true, false≢true}
use mathlib.Core.List.{List}
use lib.ListN.{length, get_or}
use Rattle.wire.specs.Numbers.{u32_at}
use Rattle.wire.proofs.Laws.{u16-small}
use Rattle.model.specs.Tree.{Array, Node, node_at, is_agent}
use Rattle.model.specs.Nodes.{load_of}
use Rattle.model.specs.Formed.{WellFormed}
use Rattle.model.specs.Rules.{Table}
use Rattle.model.proofs.Tree.{agent-inside}
use Rattle.model.proofs.Nodes.{load_at}
use Rattle.model.proofs.Alike.{load-alike}
use Rattle.records.specs.declared.Trailer.{Trailer}
use Rattle.records.specs.Record.{array_of}
use Rattle.arrays.specs.File.{IsRead}
use Rattle.layout.specs.declared.Sizes.{Sizes}
use Rattle.layout.specs.Table.{balance_at, table_of, IsTable}
use Rattle.loads.specs.Loads.{load_in, AllLoads}
use Rattle.loads.proofs.Laws.{small-load, half-load}
use Rattle.pairs.specs.Pairs.{Weighed}
use Rattle.lists.specs.Listed.{RowsRead, Listed}

agent-load : (w : ℕ → ℕ) (i : ℕ) (f : ℕ → ℕ) (v : Node) → is_agent v ≡ true → load_of w i f v ≡ w i
unfolding is_agent load_of
agent-load w i f Node.stop e = absurd (false≢true e)
agent-load w i f (Node.new n l) e = absurd (false≢true e)
agent-load w i f (Node.par l r) e = absurd (false≢true e)
agent-load w i f (Node.choice l r) e = absurd (false≢true e)
agent-load w i f (Node.agent s x ys l) e = refl

module _ (f : List ℕ) (t : Trailer) (s : List ℕ) (z : Sizes) (read : IsRead f t) (table : IsTable f t s z) (bytes : (i : ℕ) → get_or s i 0 < 256)
    (rows loads bounds : List ℕ) (rowed : RowsRead s z rows) (manyLoads : length loads ≡ 24578) (many_bounds : length bounds ≡ 24)
    (weighs : AllLoads loads (array_of f t) (table_of s z)) (bears : (k : ℕ) → k < z.balances → get_or bounds k 0 ≡ u32_at s (balance_at z k)) where
  abbrev b : Array
  b = array_of f t

  abbrev T : Table
  T = table_of s z

  ok : WellFormed b
  ok = read.formed

  -- the entry of an agent is its weight
  weight_is : (k i : ℕ) → k < z.balances → is_agent (node_at b i) ≡ true → load_in loads i k ≡ (T.balance k).weight i
  weight_is k i h e =
      let l = agent-inside b i e in
      weighs i k l h ∙ load_at b ok.children i l (T.balance k).weight ∙ agent-load (T.balance k).weight i _ (node_at b i) e

  weighed : Weighed loads b z.balances
  weighed = record {
    half = λ i h k l.
        let few = table.laid.few_balances in
        half-load b ok (T.balance k).weight (λ j. le_of_suc-le-suc (u16-small s bytes _)) loads manyLoads i k h (omega arith) (weighs i k h l);
    weighs = λ i k h l. weighs i k h l ∙ load-alike b ok _ _ (λ j e. sym (weight_is k j l e)) i h;
    small = λ i k h l. small-load b ok (T.balance k).weight (λ j. le_of_suc-le-suc (u16-small s bytes _)) loads i k h (weighs i k h l);
    light = λ i k e l. subst (λ x. x < 65536) (sym (weight_is k i l e)) (u16-small s bytes _);
  }

  pub filled : Listed f t s z rows loads bounds
  filled = record {
    given = record {
      read = read;
      lists = record { few = table.laid.few_balances; many_rows = rowed.size; many_bounds = many_bounds };
      weighed = weighed;
    };
    same = record { rows = λ v o h. rowed.marks v o (rw table.laid.names h); many = refl; bounds = bears; weights = weight_is };
  }
