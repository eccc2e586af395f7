-- A rule's number is asked only whether it is 3, so that two numbers that agree in that find the same.
use Prim.Native.Nat.{ℕ, suc}
use mathlib.Core.Path.{◌≡◌, sym, ap, ◌∙◌}
use mathlib.Core.Bool.{Bool, cond}
use mathlib.Core.List.{[], ◌∷◌}
use lib.Dec.{eqb, leb}
use lib.ListN.{length, get_or}
use Rattle.laws.specs.Search.{test, first}
use Rattle.model.specs.Tree.{Array, Agent, agent_at}
use Rattle.model.specs.Rules.{Table, Verdict, at, within, load_left, weight_gone, on_live}
use Rattle.pairs.specs.Pairs.{at_pair, Screened}

-- what is found at a pair by rule 3, or else by rule 4
abbrev by : Bool → Table → ℕ → ℕ → Agent → Agent → Verdict
by third t i j p q =
    first (cond third (length p.args) t.balances)
    λ n. test
    (cond third (within t (get_or q.args n 0) (get_or p.args n 0)) (leb (load_left (t.balance n) p q) (weight_gone (t.balance n) i j p)))
    (cond third (at 3 (i ∷ j ∷ suc n ∷ [])) (at 4 (i ∷ j ∷ n ∷ [])))

same-pair : (r s : ℕ) → eqb r 3 ≡ eqb s 3 → (t : Table) → at_pair r t ≡ at_pair s t
unfolding at_pair
same-pair r s e t = ap (λ (third : Bool). by third t) e

pub same-screened : (r s : ℕ) → eqb r 3 ≡ eqb s 3 → (a : Array) (t : Table) (from : ℕ) → Screened r a t from → Screened s a t from
same-screened r s e a t from h i l =
    ap (λ (v : ℕ → ℕ → Agent → Agent → Verdict). first a.size λ j. on_live t i j (agent_at a i) (agent_at a j) (v i j)) (sym (same-pair r s e t)) ∙ h i l
