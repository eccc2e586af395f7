-- A verdict's number: its figures stay within their bits, and it is 0 for held alone.
use Prim.Native.Nat.{ℕ, ◌≤◌, ◌<◌}
use native.Mathlib.Omega.{arith}
use mathlib.Core.Path.{◌≡◌, refl, sym, ap, ◌∙◌, subst}
use mathlib.Core.Logic.{◌⊎◌, inl, inr}
use mathlib.Core.Bool.{true, false}
use mathlib.Core.List.{List}
use mathlib.Core.Option.{Option, none, some}
use lib.ListN.{length}
use Rattle.std.specs.Prelude.{Result}
use Rattle.laws.specs.Search.{Found, clear, hit}
use Rattle.laws.proofs.Search.{decided, and_then-split}
use Rattle.model.specs.Tree.{Agent, agent_at, is_agent}
use Rattle.model.specs.Formed as F
use Rattle.model.specs.Rules as M
use Rattle.model.specs.Rules.{Broken, FirstBroken, broken1, broken2, broken3, broken4, broken5, verdict}
use Rattle.model.proofs.Verdict.{first-broken}
use Rattle.records.specs.declared.Trailer.{Trailer}
use Rattle.records.specs.Record.{record_of, node_of, array_of}
use Rattle.arrays.specs.File.{trailer_of, array_refusal, IsRead}
use Rattle.arrays.specs.Agents.{Reads}
use Rattle.arrays.proofs.Agents.{agent-is, no-agent, arity-is, small-arity}
use Rattle.layout.specs.declared.Sizes.{Sizes}
use Rattle.layout.specs.Table.{table_of}
use Rattle.tables.specs.Read.{files_refusal}
use Rattle.tables.proofs.Laws.{passed-table}
use Rattle.records.specs.declared.Refusal.{Refusal}
use Rattle.handover.specs.declared.Verdict.{Verdict}
use Rattle.handover.specs.Front.{Outcome, held, rule, says, IsHeld, array_in, sizes_in, table_in, judged, after_rules, Judges}
use Rattle.handover.specs.Refusals.{Reply, done, refused, unless_refused, TableNumber}
use Rattle.handover_c.specs.Packed.{packed_reply, packed_outcome, FitsReply, FitsOutcome, ChecksInC}
use Rattle.handover.proofs.Refusals.{read-array, files-small}

-- an agent has at most 8 arguments
abbrev Few : Option Agent → Type 0
Few none = Unit {0}
Few (some p) = length p.args ≤ 8

few-args : {f : List ℕ} {t : Trailer} → IsRead f t → (i : ℕ) → i < t.nodes → Few (agent_at (array_of f t) i)
few-args {f} {t} read i h = go (decided (is_agent (node_of (record_of f t i))))
  where
    here : Reads f t i (record_of f t i)
    here = record { below = h; is = refl }

    go : (is_agent (node_of (record_of f t i)) ≡ true) ⊎ (is_agent (node_of (record_of f t i)) ≡ false) → Few (agent_at (array_of f t) i)
    go (inl k) = subst Few (sym (agent-is read here k)) (rw (arity-is read here) (small-arity read here))
    go (inr k) = subst Few (sym (no-agent read here k)) tt

-- the figures of a broken rule, under a table with few balances and claims
broken-fits : (f s : List ℕ) (t : Trailer) → IsRead f t → (z : Sizes) → z.balances ≤ 24 → z.claims ≤ 256 → (b : Broken)
    → FirstBroken (array_of f t) (table_of s z) b
    → FitsOutcome (rule b.rule b.place)
broken-fits f s t read z kb qb b (broken1 o w) = (omega arith, omega arith, (omega (arith, w.below, read.formed.few_names), omega arith, omega arith))
broken-fits f s t read z kb qb b (broken2 r₁ k w) = (omega arith, omega arith, (omega (arith, w.below, kb), omega arith, omega arith))
broken-fits f s t read z kb qb b (broken3 r₁ r₂ i j n x) =
    let l : length x.p.args ≤ 8 = subst Few x.receiver (few-args read i x.below.0) in
    let few = read.formed.few_nodes in
    (omega arith, omega arith, (omega (arith, x.below.0, few), omega (arith, x.below.1, few), omega (arith, x.fails.below, l)))
broken-fits f s t read z kb qb b (broken4 r₁ r₂ r₃ i j k x) =
    let few = read.formed.few_nodes in
    (omega arith, omega arith, (omega (arith, x.below.0, few), omega (arith, x.below.1, few), omega (arith, x.fails.below, kb)))
broken-fits f s t read z kb qb b (broken5 r₁ r₂ r₃ r₄ c w) = (omega arith, omega arith, (omega (arith, w.below, qb), omega arith, omega arith))

-- ---- the checker's answers

judged-fits : (f s : List ℕ) → FitsReply FitsOutcome TableNumber (judged f s)
unfolding judged
judged-fits f s = go (files_refusal f s) refl (verdict (array_in f) (table_in f s)) refl
  where
    go : (x : Found F.Refusal) → files_refusal f s ≡ x → (y : M.Verdict) → verdict (array_in f) (table_in f s) ≡ y
        → FitsReply FitsOutcome TableNumber
        (unless_refused x (after_rules y (held (sizes_in f s))))
    go (hit r) e y q = files-small f s r e
    go clear e clear q = tt
    go clear e (hit b) q =
        let c = and_then-split (array_refusal f) _ e in
        let d = (passed-table f (trailer_of f) s c.1).laid in
        broken-fits f s (trailer_of f) (read-array f c.0) (sizes_in f s) d.few_balances d.few_claims b (first-broken (array_in f) (table_in f s) b q)

-- only held has the number 0
held-zero : (x : Reply Outcome) → FitsReply FitsOutcome TableNumber x → packed_reply packed_outcome x ≡ 0 → IsHeld x
held-zero (done (held z)) h e = tt
held-zero (done (rule r figures)) h e = absurd (omega (arith, h.0, e))
held-zero (refused n p) h e = absurd (omega (arith, e))

pub verdict-fits : (f s : List ℕ) (v : Result Verdict Refusal) → Judges f s v → FitsReply FitsOutcome TableNumber (says v)
verdict-fits f s v j = subst (FitsReply FitsOutcome TableNumber) (sym j.answers) (judged-fits f s)

pub checks : (f s : List ℕ) (v : Result Verdict Refusal) → Judges f s v → (r : ℕ) → r ≡ packed_reply packed_outcome (says v) → ChecksInC f s r
checks f s v j r e =
    let held : r ≡ 0 → IsHeld (says v) = λ z. held-zero (says v) (verdict-fits f s v j) (sym e ∙ z) in
    record {
      returns = e ∙ ap (packed_reply packed_outcome) j.answers;
      fits = judged-fits f s;
      judges = (v, j);
      holds = λ z. j.holds (held z);
      bounds = λ z. j.bounds (held z);
    }
