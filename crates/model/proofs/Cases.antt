-- The rows of the table of cases, by computation, and demand 3 at array A.
use Prim.Native.Nat.{ℕ, zero, suc, ◌≤◌, ◌<◌}
use mathlib.Core.Path.{◌≡◌, refl, sym, ap, subst, ◌∙◌}
use mathlib.Core.Logic.{◌⊎◌, inl, inr, ⊎_elim}
use mathlib.Core.Bool.{Bool, true, false, not, ◌||◌, false≢true, true≢false}
use mathlib.Core.List.{List, [], ◌∷◌}
use mathlib.Core.Option.{Option, none, some}
use lib.Dec.{eqb}
use lib.ListN.{get_or}
use native.Mathlib.Omega.{arith}
use borrow.Author.Tests.{eqb-true, eqb-false}
use Rattle.laws.specs.Search as F
use Rattle.laws.specs.Search.{Found, clear, hit}
use Rattle.laws.specs.Lists as L
use Rattle.laws.specs.Lists.{All}
use Rattle.laws.proofs.Search.{or_split, clear-hit, implies, every_true}
use Rattle.model.specs.Tree as T
use Rattle.model.specs.Formed as W
use Rattle.model.specs.Formed.{WellFormed}
use Rattle.model.specs.Calculus as S
use Rattle.model.specs.Tree.{Array, Sort, Agent, Proc, out, resource}
use Rattle.model.specs.Calculus.{Marker, Cell, Thread, Config, calculus, Choices, Attempt, Answer, run}
use Rattle.model.specs.Numbers as N
use Rattle.model.specs.Memory as M
use Rattle.model.specs.declared.Ending.TheVariants.{Quiet, Spent, Full}
use Rattle.model.specs.Memory.{Result, stops, leaves, stands_for}
use Rattle.model.specs.Rules as U
use Rattle.model.specs.Rules.{Table, row_bits, Live, Each, Rule2, Rule3, Rule4At, ClaimsFit, Broken, at, verdict}
use Rattle.model.specs.Rules.{FirstPair, FirstBroken, broken1, broken2, broken3, broken4, broken5}
use Rattle.model.specs.declared.Claim.{Claim}
use Rattle.model.specs.Mend as Y
use Rattle.model.specs.Mend.{Rows, with_rows, Contained, Mends, Smallest, mended, bits_set}
use Rattle.model.specs.Safe as Z
use Rattle.model.specs.Safe.{Safe, Flows}
use Rattle.model.specs.Cases.{A, B, D, table_a, table, claim, claim_in, rows_a, weights_a}
use Rattle.model.specs.Cases.{limits, brimful, joint, table_d, opened, thread, three_of_a, twice_broken, H, table_h}
use Rattle.model.specs.Cases.{E, rows_of, flow_a, flow_e}
use Rattle.model.proofs.Verdict.{live-Live, held-rules, first5}
use Rattle.model.specs.Cases.{pair, lists, walk_ended, A₁, B₀, B₁, B₁₂, B₂, B₃, B₄, G, G₁, G₂, Row, Says}
use Rattle.model.specs.Cases.{rows, set_rows, same_rows, safe_rows, step_rows, walk_rows, told_rows, later_rows, mend_rows}
use Rattle.model.proofs.Safety.{demand3}
use Rattle.model.proofs.Alike.{placed, same_by}
use Rattle.model.proofs.Mend.{mended-smallest, smallest-same, bits-same}

-- Whoever unfolds this unfolds every definition of the model.
computed : Unit {0}
unfolding F.test F.and_then F.under F.first F.every F.any F.sum F.least L.one L.all L.has L.times L.put T.is_agent
    T.node_at T.grow T.tree T.proc_at T.as_agent T.agent_at T.receives T.free_below T.is_free T.load T.opens T.is_new
    W.children W.params W.binds W.sent W.uses W.child_fits W.refusal8 W.fields_to W.refusal9 W.refusal10 W.binders W.refusal11 W.reaches W.in_reach W.refusal12
    S.same_marker S.same_cell S.calculus S.stays S.bind S.keep S.unless S.on_agents S.after S.cut_from S.unfold_proc S.marker_of S.receiver_leaves S.sender_leaves
    S.stepped S.attempt S.start S.attempts S.run
    N.same_entry N.position N.extend N.list_after N.markers_after
    M.words M.thread_in M.threads_in M.words_of M.entry_in M.entries_in M.numbers_of M.is_resource M.is_out M.word_formed M.thread_formed M.entry_formed M.unlike M.formed
    M.decode_word M.stands_for N.decode_to N.decode Z.total
    M.store M.fitted M.start_in M.on_answer M.step_in M.is_next M.first_ready M.on_pair M.on_step M.walk_in
    U.together U.in_set U.least_weight
    U.within U.share_bit U.fit_both U.live U.taken U.on_live U.pairs U.check1 U.check2 U.arguments3 U.check3 U.balances4 U.check4 U.check5 U.verdict
    Y.bits_set
computed = tt

-- ---- safe and not

-- the free names of agents 3 and 6 of A
free3 : (v : ℕ) → T.is_free (T.proc_at A 3) v ≡ true → (v ≡ 0) ⊎ (v ≡ 1)
unfolding computed
free3 v h =
    ⊎_elim (λ e. inl (eqb-true v 0 e))
    (λ e. ⊎_elim (λ d. ⊎_elim (λ c. inr (eqb-true v 1 c)) (λ c. absurd (false≢true c)) (or_split (eqb v 1) false d))
    (λ d. absurd (false≢true d)) (or_split (eqb v 1 || false) false e))
    (or_split (eqb v 0) ((eqb v 1 || false) || false) h)

free6 : (v : ℕ) → T.is_free (T.proc_at A 6) v ≡ true → v ≡ 2
unfolding computed
free6 v h = ⊎_elim (λ e. eqb-true v 2 e) (λ e. absurd (false≢true e)) (or_split (eqb v 2) false h)

-- a cell is held
abbrev is_held : Cell → Bool
is_held Cell.unheld = false
is_held (Cell.holds o m) = true

-- the table that is filled to the brim
abbrev brim : Table
brim = limits (1 ∷ []) 131073 2

-- what Flows asks of one name of a thread
abbrev Flow : Table → Thread Marker Cell → ℕ → Type 0
Flow t th v = (o : ℕ) × (m : Marker) × (get_or th.env v Cell.unheld ≡ Cell.holds o m) × (t.row v o ≡ true)

flow3 : Flows A brim (thread 3 (opened 0 ∷ opened 1 ∷ Cell.unheld ∷ []))
unfolding computed table
flow3 v h =
    ⊎_elim
    (λ e. subst (Flow brim (thread 3 (opened 0 ∷ opened 1 ∷ Cell.unheld ∷ []))) (sym e) (0, Marker.empty, refl, refl))
    (λ e. subst (Flow brim (thread 3 (opened 0 ∷ opened 1 ∷ Cell.unheld ∷ []))) (sym e) (1, Marker.empty, refl, refl))
    (free3 v h)

flow6 : Flows A brim (thread 6 (Cell.unheld ∷ Cell.unheld ∷ opened 1 ∷ []))
unfolding computed table
flow6 v h =
    subst (Flow brim (thread 6 (Cell.unheld ∷ Cell.unheld ∷ opened 1 ∷ []))) (sym (free6 v h)) (1, Marker.empty, refl, refl)

brim-balances : (k : ℕ) → k < 1 → 131073 ≤ 131073
brim-balances k h = omega arith

brim-claims : (q : ℕ) → q < 2 → Z.count (U.in_set brim q) (three_of_a (opened 1)) ≤ (brim.claim q).most
unfolding computed table
brim-claims zero h = let z : 1 ≤ 1 = omega arith in z
brim-claims (suc zero) h = let z : 2 ≤ 2 = omega arith in z
brim-claims (suc (suc q)) h = absurd (omega arith)

safe-brim : Says (Row.safe A brim (three_of_a (opened 1)))
unfolding computed table
safe-brim = record { flows = (flow3, (flow6, (flow6, tt))); balances = brim-balances; claims = brim-claims }

unsafe-claim : Says (Row.unsafe A (limits (1 ∷ []) 131073 1) (three_of_a (opened 1)))
unfolding computed table
unsafe-claim s = let z : 2 ≤ 1 = s.claims 1 (omega arith) in absurd (omega (arith, z))

unsafe-bound : Says (Row.unsafe A (limits (1 ∷ []) 131072 2) (three_of_a (opened 1)))
unfolding computed table
unsafe-bound s = let z : 131073 ≤ 131072 = s.balances 0 (omega arith) in absurd (omega (arith, z))

unsafe-row : Says (Row.unsafe A (limits [] 131073 2) (three_of_a (opened 1)))
unfolding computed table
unsafe-row s = let f = s.flows.1.0 2 refl in absurd (false≢true f.3)

unsafe-opening : Says (Row.unsafe A brim (three_of_a Cell.unheld))
unfolding computed table
unsafe-opening s = let f = s.flows.1.1.0 2 refl in absurd (true≢false (ap is_held (sym f.2)))

joint-claims : (q : ℕ) → q < 3 → Z.count (U.in_set (joint 3) q) (three_of_a (opened 1)) ≤ ((joint 3).claim q).most
unfolding computed table
joint-claims zero h = let z : 3 ≤ 3 = omega arith in z
joint-claims (suc zero) h = let z : 3 ≤ 3 = omega arith in z
joint-claims (suc (suc zero)) h = let z : 3 ≤ 3 = omega arith in z
joint-claims (suc (suc (suc q))) h = absurd (omega arith)

-- its rows and its balance are the brim's
safe-joint : Says (Row.safe A (joint 3) (three_of_a (opened 1)))
unfolding computed table
safe-joint = record { flows = (flow3, (flow6, (flow6, tt))); balances = brim-balances; claims = joint-claims }

unsafe-joint : Says (Row.unsafe A (joint 2) (three_of_a (opened 1)))
unfolding computed table
unsafe-joint s = let z : 3 ≤ 2 = s.claims 1 (omega arith) in absurd (omega (arith, z))

unsafe-first : Says (Row.unsafe A (brimful (claim_in 7 6 1 ∷ [])) (three_of_a (opened 1)))
unfolding computed table
unsafe-first s = let z : 2 ≤ 1 = s.claims 0 (omega arith) in absurd (omega (arith, z))

sums-joint : Says (Row.sums A (joint 2) 1 (three_of_a (opened 1)) 3)
unfolding computed table
sums-joint = refl

-- ---- claims as a set

same-any : Says (Row.same (brimful (claim 6 2 ∷ claim_in 7 3 1 ∷ claim 6 2 ∷ [])) (brimful (claim_in 7 3 1 ∷ claim 6 2 ∷ [])))
unfolding computed table placed
same-any = same_by _ _ (1 ∷ 0 ∷ 1 ∷ []) (1 ∷ 0 ∷ []) refl refl

-- a table of agent 6 alone has no claim of agent 3
none-of-three : (c : ℕ) → c < 1 → (brimful (claim 6 2 ∷ [])).claim c ≡ claim_in 7 3 1 → ⊥
unfolding table
none-of-three zero h e = eqb-false 6 3 refl (ap (λ (x : Claim). x.agent) e)
none-of-three (suc c) h e = absurd (omega (arith, h))

lacks-there : Says (Row.other (brimful (claim 6 2 ∷ claim_in 7 3 1 ∷ [])) (brimful (claim 6 2 ∷ [])))
unfolding table
lacks-there s = let a = s.there 1 (omega arith) in none-of-three a.0 a.1 a.2

lacks-back : Says (Row.other (brimful (claim 6 2 ∷ [])) (brimful (claim 6 2 ∷ claim_in 7 3 1 ∷ [])))
unfolding table
lacks-back s = let a = s.back 1 (omega arith) in none-of-three a.0 a.1 a.2

other-set : Says (Row.other (brimful (claim 6 2 ∷ [])) (brimful (claim_in 7 6 2 ∷ [])))
unfolding table
other-set s = let a = s.there 0 (omega arith) in alone a.0 a.1 a.2
  where
    alone : (c : ℕ) → c < 1 → (brimful (claim_in 7 6 2 ∷ [])).claim c ≡ claim 6 2 → ⊥
    alone zero h e = eqb-false 7 0 refl (ap (λ (x : Claim). x.set) e)
    alone (suc c) h e = absurd (omega (arith, h))

-- ---- starts, steps, walks and endings that are none

-- what two unequal things differ in: a result's refusal, the configuration that it leaves, its agents, the outs of its markers
abbrev refusal_in : Result → ℕ
refusal_in (stops n) = n
refusal_in (leaves m) = 0

abbrev stands_in : Array → Result → Config Marker Cell
stands_in a (stops n) = []
stands_in a (leaves m) = stands_for a m

abbrev agents_in : Config Marker Cell → List ℕ
agents_in [] = []
agents_in (t ∷ ts) = t.agent ∷ agents_in ts

abbrev out_of : Marker → ℕ
out_of Marker.empty = 0
out_of (Marker.node r o m n) = o

abbrev outs_in : Config Marker Cell → List ℕ
outs_in [] = []
outs_in (t ∷ ts) = out_of t.marker ∷ outs_in ts

-- the first agent; the out of the second thread's marker
abbrev first_agent : Config Marker Cell → ℕ
first_agent c = get_or (agents_in c) 0 0

abbrev second_out : Config Marker Cell → ℕ
second_out c = get_or (outs_in c) 1 0

start_fits : Says (Row.no_start B (lists (7 ∷ 7 ∷ 7 ∷ 7 ∷ 7 ∷ 7 ∷ []) 0 [] 0) (stops 28))
unfolding computed
start_fits (inl (e, h)) = let z : 2 < 2 = h in absurd (omega (arith, z))
start_fits (inr (n, e, h)) = eqb-false 28 0 refl (ap refusal_in e)

start-other : Says (Row.no_start B B₀ (leaves B₁₂))
unfolding computed
start-other (inl (e, h)) = eqb-false 0 28 refl (ap refusal_in e)
start-other (inr (n, e, h)) = eqb-false 4 2 refl (ap first_agent (ap (stands_in B) e ∙ h))

step-fits-threads : Says (Row.no_step B (lists (2 ∷ 0 ∷ 1 ∷ 4 ∷ 0 ∷ 1 ∷ []) 2 (9 ∷ 9 ∷ 9 ∷ 9 ∷ []) 0) (pair 1 0) (stops 28))
unfolding computed
step-fits-threads (inl (e, h)) = let z : 2 < 2 = h in absurd (omega (arith, z))
step-fits-threads (inr (inl (e, h))) = eqb-false 28 29 refl (ap refusal_in e)
step-fits-threads (inr (inr (n, e, h))) = eqb-false 28 0 refl (ap refusal_in e)

step-fits-markers : Says (Row.no_step B (lists (2 ∷ 0 ∷ 1 ∷ 4 ∷ 0 ∷ 1 ∷ []) 2 (9 ∷ 9 ∷ 9 ∷ 9 ∷ []) 0) (pair 1 0) (stops 29))
unfolding computed
step-fits-markers (inl (e, h)) = eqb-false 29 28 refl (ap refusal_in e)
step-fits-markers (inr (inl (e, h))) = let z : 1 < 1 = h in absurd (omega (arith, z))
step-fits-markers (inr (inr (n, e, h))) = eqb-false 29 0 refl (ap refusal_in e)

step-not-refused : Says (Row.no_step B B₁ (pair 1 0) (stops 27))
unfolding computed
step-not-refused (inl (e, h)) = eqb-false 27 28 refl (ap refusal_in e)
step-not-refused (inr (inl (e, h))) = eqb-false 27 29 refl (ap refusal_in e)
step-not-refused (inr (inr (n, e, h))) = eqb-false 27 0 refl (ap refusal_in e)

step-changes : Says (Row.no_step B B₁ (pair 1 0) (leaves B₁))
unfolding computed
step-changes (inl (e, h)) = eqb-false 0 28 refl (ap refusal_in e)
step-changes (inr (inl (e, h))) = eqb-false 0 29 refl (ap refusal_in e)
step-changes (inr (inr (n, e, h))) = eqb-false 2 4 refl (ap first_agent (ap (stands_in B) e ∙ h))

refused-not-made : Says (Row.no_step B B₁ (pair 0 1) (leaves B₁))
unfolding computed
refused-not-made e = eqb-false 0 25 refl (ap refusal_in e)

refused-by-number : Says (Row.no_step B B₁ (pair 0 1) (stops 26))
unfolding computed
refused-by-number e = eqb-false 26 25 refl (ap refusal_in e)

-- the attempt that a search found, and what an attempt leads to
abbrev attempt_in : Found Attempt → Attempt
attempt_in clear = pair 0 0
attempt_in (hit u) = u

abbrev config_in : Answer Marker Cell → Config Marker Cell
config_in (S.refused n) = []
config_in (S.next c) = c

-- a walk of one step leads where the step of the first ready pair does
walk-one : (a : Array) (c e : Config Marker Cell) → M.Walks a (λ i. false) 1 c e
    → config_in (S.attempt calculus a c (attempt_in (M.first_ready calculus a (λ i. false) c))) ≡ e
walk-one a c e (u, d, f, s, h) = ap (λ (w : Attempt). config_in (S.attempt calculus a c w)) (ap attempt_in f) ∙ (ap config_in s ∙ h)

walk-not-none : Says (Row.no_walk B 1 B₁ B₁)
unfolding computed
walk-not-none w = eqb-false 4 2 refl (ap first_agent (walk-one B (stands_for B B₁) (stands_for B B₁) w))

walk-not-two : Says (Row.no_walk B 1 B₁ B₂)
unfolding computed
walk-not-two w = eqb-false 2 5 refl (ap second_out (walk-one B (stands_for B B₁) (stands_for B B₂) w))

walk_of-none : Says (Row.no_walk B 0 B₁ B₁₂)
unfolding computed
walk_of-none e = eqb-false 2 4 refl (ap first_agent e)

walk-first-pair : Says (Row.no_walk B 1 B₃ B₄)
unfolding computed
walk-first-pair w = eqb-false 5 2 refl (ap first_agent (walk-one B (stands_for B B₃) (stands_for B B₄) w))

not-quiet : Says (Row.no_end B 2 (walk_ended Quiet 2 B₂))
unfolding computed
not-quiet e = clear-hit _ (sym e)

not-spent-quiet : Says (Row.no_end A 1 (walk_ended Spent 1 A₁))
unfolding computed
not-spent-quiet (h, (u, e)) = clear-hit u e

not-spent : Says (Row.no_end B 3 (walk_ended Spent 2 B₂))
unfolding computed
not-spent (h, e) = eqb-false 2 3 refl h

not_full : Says (Row.no_end B 3 (walk_ended Full 1 B₁₂))
unfolding computed
not_full (h, (u, e, s)) =
    let q : 0 ≡ refusal_in (M.step_in B B₁₂ u) = ap (λ (w : Attempt). refusal_in (M.step_in B B₁₂ w)) (ap attempt_in e) in
    ⊎_elim (λ f. eqb-false 0 28 refl (q ∙ ap refusal_in f)) (λ f. eqb-false 0 29 refl (q ∙ ap refusal_in f)) s

not-full-spent : Says (Row.no_end B 2 (walk_ended Full 2 B₂))
unfolding computed
not-full-spent (h, e) = let z : 2 < 2 = h in absurd (omega (arith, z))

-- the agent of an answer
abbrev agent_in : Option Agent → Agent
agent_in none = record { sort = out; channel = 0; args = []; body = Proc.stop }
agent_in (some p) = p

-- ---- steps and endings that are not told

tells-not-quiet : Says (Row.not_told B 1 B₁ (M.ended Quiet))
unfolding computed
tells-not-quiet e = clear-hit _ (sym e)

tells-not-spent : Says (Row.not_told B 1 B₁ (M.ended Spent))
unfolding computed
tells-not-spent (h, e) = eqb-false 0 1 refl h

tells-not-full : Says (Row.not_told B 1 B₁ (M.ended Full))
unfolding computed
tells-not-full (h, (u, e, s)) =
    let q : 0 ≡ refusal_in (M.step_in B B₁ u) = ap (λ (w : Attempt). refusal_in (M.step_in B B₁ w)) (ap attempt_in e) in
    ⊎_elim (λ f. eqb-false 0 28 refl (q ∙ ap refusal_in f)) (λ f. eqb-false 0 29 refl (q ∙ ap refusal_in f)) s

tells-allowed : Says (Row.not_told B 0 B₁ (M.moved (pair 1 0) B₁₂))
tells-allowed (h, t) = absurd (omega (arith, h))

tells-first-pair : Says (Row.not_told B 1 B₃ (M.moved (pair 2 1) B₄))
unfolding computed
tells-first-pair (h, t) = eqb-false 0 1 refl (ap (λ (x : Found Attempt). (attempt_in x).sender) t.first)

tells-changes : Says (Row.not_told B 1 B₁ (M.moved (pair 1 0) B₁))
unfolding computed
tells-changes (h, t) = eqb-false 4 2 refl (ap first_agent (ap config_in t.steps))

-- the marker of a receiver with a given sort, under which G's resource goes on
tells-marker : Says (Row.not_told G 1 G₁ (M.moved (pair 1 0) G₂))
unfolding computed M.marker_made
tells-marker (h, t) =
    let r = get_or (stands_for G G₁) 1 (S.no_thread calculus) in
    let s = get_or (stands_for G G₁) 0 (S.no_thread calculus) in
    let q : resource ≡ t.receiver.sort = ap (λ (x : Option Agent). (agent_in x).sort) t.acts in
    eqb-false 3 2 refl (ap out_of (t.marker ∙ ap (λ (y : Sort). S.marker_of calculus y r s) (sym q)))

-- ---- broken rules that are not the first

-- what a broken rule 4 says of the rules before it and of its pair, and a broken rule 5 of its claim
abbrev Pair4 : Array → Table → List ℕ → Type 0
Pair4 a t l = FirstPair a t (λ p. t.balances) (Rule4At t) (get_or l 0 0) (get_or l 1 0) (get_or l 2 0)

first4 : (a : Array) (t : Table) (l : List ℕ) (b : Broken) → FirstBroken a t b → b ≡ at 4 l → Rule2 a t × Rule3 a t × Pair4 a t l
first4 a t l b (broken1 o w) e = absurd (eqb-false 1 4 refl (ap (λ (d : Broken). d.rule) e))
first4 a t l b (broken2 r₁ k w) e = absurd (eqb-false 2 4 refl (ap (λ (d : Broken). d.rule) e))
first4 a t l b (broken3 r₁ r₂ i j n w) e = absurd (eqb-false 3 4 refl (ap (λ (d : Broken). d.rule) e))
first4 a t l b (broken4 r₁ r₂ r₃ i j n w) e = (r₂, r₃, subst (λ (d : Broken). Pair4 a t d.place) e w)
first4 a t l b (broken5 r₁ r₂ r₃ r₄ c w) e = absurd (eqb-false 5 4 refl (ap (λ (d : Broken). d.rule) e))

-- a live pair, with its agents computed
abbrev live_pair : (a : Array) (t : Table) (i j : ℕ) → U.live t i j (agent_in (T.agent_at a i)) (agent_in (T.agent_at a j)) ≡ true
    → Live t i j (agent_in (T.agent_at a i)) (agent_in (T.agent_at a j))
live_pair a t i j e = live-Live t i j (agent_in (T.agent_at a i)) (agent_in (T.agent_at a j)) e

later-receiver : Says (Row.not_first H table_h (at 4 (5 ∷ 3 ∷ 0 ∷ [])))
unfolding computed table
later-receiver b =
    let f = (first4 H table_h (5 ∷ 3 ∷ 0 ∷ []) _ b refl).2 in
    let z : 1 ≤ 0 = f.lower 4 (omega arith) 3 (omega arith) _ _ refl refl (live_pair H table_h 4 3 refl) 0 (omega arith) in
    absurd (omega (arith, z))

later-sender : Says (Row.not_first D (table_d 9 0 1) (at 4 (2 ∷ 6 ∷ 0 ∷ [])))
unfolding computed table
later-sender b =
    let f = (first4 D (table_d 9 0 1) (2 ∷ 6 ∷ 0 ∷ []) _ b refl).2 in
    let z : 1 ≤ 0 = f.beside 5 (omega arith) _ _ refl refl (live_pair D (table_d 9 0 1) 2 5 refl) 0 (omega arith) in
    absurd (omega (arith, z))

rule-2-first : Says (Row.not_first D (table_d 1 1 2) (at 4 (2 ∷ 5 ∷ 0 ∷ [])))
unfolding computed table
rule-2-first b = let z : 2 ≤ 1 = (first4 D (table_d 1 1 2) (2 ∷ 5 ∷ 0 ∷ []) _ b refl).0 0 (omega arith) in absurd (omega (arith, z))

rule-3-first : Says (Row.not_first A twice_broken (at 4 (5 ∷ 3 ∷ 0 ∷ [])))
unfolding computed table
rule-3-first b =
    let r₃ = (first4 A twice_broken (5 ∷ 3 ∷ 0 ∷ []) _ b refl).1 in
    false≢true (r₃ 5 (omega arith) 3 (omega arith) _ _ refl refl (live_pair A twice_broken 5 3 refl) 0 (omega arith) 1 (omega arith) refl)

later-claim : Says (Row.not_first A (table rows_a 1 weights_a (claim 6 0 ∷ claim 6 0 ∷ [])) (at 5 (1 ∷ [])))
unfolding computed table
later-claim b =
    let z : 1 < 1 = (first5 A (table rows_a 1 weights_a (claim 6 0 ∷ claim 6 0 ∷ [])) (1 ∷ []) _ b refl).earlier 0 (omega arith) in absurd (omega (arith, z))

kept-claim : Says (Row.not_first A table_a (at 5 (0 ∷ [])))
unfolding computed table
kept-claim b = (first5 A table_a (0 ∷ []) _ b refl).fails (omega arith)

-- ---- mended rows

-- rows that a test finds contained in others
contained-by : (a : Array) (r s : Rows) → F.every a.names (λ v. F.every row_bits λ o. not (r v o) || s v o) ≡ true → Contained a r s
contained-by a r s e v h o l = implies _ _ (every_true row_bits _ (every_true a.names _ e v h) o l)

only : (x o : ℕ) → L.has (x ∷ []) o ≡ true → o ≡ x
unfolding L.has
only x o e = ⊎_elim (λ h. eqb-true o x h) (λ h. absurd (false≢true h)) (or_split (eqb o x) false e)

-- what every choice of rows for A has, and for E where its pair lives
record AsksA (s : Rows) : Type 0 where
  first : s 0 0 ≡ true
  second : s 1 1 ≡ true
  third : s 2 1 ≡ true
  handed : (o : ℕ) → o < row_bits → s 1 o ≡ true → s 2 o ≡ true

asks_a : (l : List (List ℕ)) (s : Rows) → Mends A (flow_a l) s → AsksA s
unfolding computed table
asks_a l s m =
    let r₀ = m.rule1 0 (omega arith) refl in
    let r₁ = m.rule1 1 (omega arith) refl in
    let lives : Live (with_rows (flow_a l) s) 5 3 (agent_in (T.agent_at A 5)) (agent_in (T.agent_at A 3)) = record {
      receiver = refl;
      sender = refl;
      arities = refl;
      shares = (0, omega arith, r₀, r₀);
      fits = λ k h. let z : 1 ≤ 1 = omega arith in z;
    } in
    let handed : (o : ℕ) → o < row_bits → s 1 o ≡ true → s 2 o ≡ true =
    m.rule3 5 (omega arith) 3 (omega arith) _ _ refl refl lives 0 (omega arith) in
    record { first = r₀; second = r₁; third = handed 1 (omega arith) r₁; handed = handed }

least_a : (s : Rows) → AsksA s → Contained A (rows_of rows_a) s
least_a s k zero h o l e = subst (λ x. s 0 x ≡ true) (sym (only 0 o e)) k.first
least_a s k (suc zero) h o l e = subst (λ x. s 1 x ≡ true) (sym (only 1 o e)) k.second
least_a s k (suc (suc zero)) h o l e = subst (λ x. s 2 x ≡ true) (sym (only 1 o e)) k.third
least_a s k (suc (suc (suc v))) h o l e = absurd (omega arith)

-- rows below A's own are mended to them
mends_a : (l : List (List ℕ)) → Contained A (rows_of l) (rows_of rows_a) → Smallest A (flow_a l) (rows_of rows_a)
unfolding computed table
mends_a l c =
    let r = (held-rules A table_a).0 refl in
    record { mends = record { contains = c; rule1 = r.rule1; rule3 = r.rule3 }; least = λ s m. least_a s (asks_a l s m) }

mend-two : Says (Row.smallest A (flow_a ((0 ∷ []) ∷ [] ∷ [] ∷ [])) rows_a 2)
unfolding computed table
mend-two = (mends_a ((0 ∷ []) ∷ [] ∷ [] ∷ []) (contained-by A _ _ refl), refl)

mend-three : Says (Row.smallest A (flow_a ([] ∷ [] ∷ [] ∷ [])) rows_a 3)
unfolding computed table
mend-three = (mends_a ([] ∷ [] ∷ [] ∷ []) (contained-by A _ _ refl), refl)

mend-none : Says (Row.smallest A table_a rows_a 0)
unfolding computed table
mend-none = (mends_a rows_a (contained-by A _ _ refl), refl)

-- a given bit stays
abbrev wide : List (List ℕ)
wide = (0 ∷ 1 ∷ []) ∷ (1 ∷ []) ∷ (1 ∷ []) ∷ []

mend-wide : Says (Row.smallest A (flow_a ((0 ∷ 1 ∷ []) ∷ [] ∷ [] ∷ [])) wide 2)
unfolding computed table
mend-wide =
    let r = (held-rules A (flow_a wide)).0 refl in
    (record { mends = record { contains = contained-by A _ _ refl; rule1 = r.rule1; rule3 = r.rule3 }; least = least }, refl)
  where
    least : (s : Rows) → Mends A (flow_a ((0 ∷ 1 ∷ []) ∷ [] ∷ [] ∷ [])) s → Contained A (rows_of wide) s
    least s m zero h o l e = m.contains 0 h o l e
    least s m (suc v) h o l e = least_a s (asks_a ((0 ∷ 1 ∷ []) ∷ [] ∷ [] ∷ []) s m) (suc v) h o l e

-- a row that gets two bits
abbrev narrow : List (List ℕ)
narrow = [] ∷ (0 ∷ []) ∷ [] ∷ []

abbrev double : List (List ℕ)
double = (0 ∷ []) ∷ (0 ∷ 1 ∷ []) ∷ (0 ∷ 1 ∷ []) ∷ []

mend-double : Says (Row.smallest A (flow_a narrow) double 4)
unfolding computed table
mend-double =
    let r = (held-rules A (flow_a double)).0 refl in
    (record { mends = record { contains = contained-by A _ _ refl; rule1 = r.rule1; rule3 = r.rule3 }; least = λ s m. least s m (asks_a narrow s m) }, refl)
  where
    both : (s : Rows) (v o : ℕ) → s v 0 ≡ true → s v 1 ≡ true → L.has (0 ∷ 1 ∷ []) o ≡ true → s v o ≡ true
    both s v o z u e =
        ⊎_elim (λ h. subst (λ x. s v x ≡ true) (sym (eqb-true o 0 h)) z) (λ h. subst (λ x. s v x ≡ true) (sym (only 1 o h)) u)
        (or_split (eqb o 0) (L.has (1 ∷ []) o) e)

    least : (s : Rows) → Mends A (flow_a narrow) s → AsksA s → Contained A (rows_of double) s
    least s m k zero h o l e = subst (λ x. s 0 x ≡ true) (sym (only 0 o e)) k.first
    least s m k (suc zero) h o l e = both s 1 o (m.contains 1 (omega arith) 0 (omega arith) refl) k.second e
    least s m k (suc (suc zero)) h o l e =
        both s 2 o (k.handed 0 (omega arith) (m.contains 1 (omega arith) 0 (omega arith) refl)) k.third e
    least s m k (suc (suc (suc v))) h o l e = absurd (omega arith)

-- E, whose pair lives under the greater bound only
mend-apart : Says (Row.smallest E (flow_e 1 ((0 ∷ []) ∷ [] ∷ [] ∷ [])) ((0 ∷ []) ∷ (1 ∷ []) ∷ [] ∷ []) 1)
unfolding computed table
mend-apart =
    let r = (held-rules E (flow_e 1 ((0 ∷ []) ∷ (1 ∷ []) ∷ [] ∷ []))).0 refl in
    (record { mends = record { contains = contained-by E _ _ refl; rule1 = r.rule1; rule3 = r.rule3 }; least = least }, refl)
  where
    least : (s : Rows) → Mends E (flow_e 1 ((0 ∷ []) ∷ [] ∷ [] ∷ [])) s → Contained E (rows_of ((0 ∷ []) ∷ (1 ∷ []) ∷ [] ∷ [])) s
    least s m zero h o l e = m.contains 0 h o l e
    least s m (suc zero) h o l e = subst (λ x. s 1 x ≡ true) (sym (only 1 o e)) (m.rule1 1 h refl)
    least s m (suc (suc zero)) h o l e = absurd (false≢true e)
    least s m (suc (suc (suc v))) h o l e = absurd (omega arith)

mend-meeting : Says (Row.smallest E (flow_e 2 ((0 ∷ []) ∷ [] ∷ [] ∷ [])) ((0 ∷ []) ∷ (1 ∷ []) ∷ (1 ∷ []) ∷ []) 2)
unfolding computed table
mend-meeting =
    let r = (held-rules E (flow_e 2 rows_a)).0 refl in
    (record { mends = record { contains = contained-by E _ _ refl; rule1 = r.rule1; rule3 = r.rule3 }; least = λ s m. least_a s (asks s m) }, refl)
  where
    asks : (s : Rows) → Mends E (flow_e 2 ((0 ∷ []) ∷ [] ∷ [] ∷ [])) s → AsksA s
    asks s m =
        let r₀ = m.rule1 0 (omega arith) refl in
        let r₁ = m.rule1 1 (omega arith) refl in
        let lives : Live (with_rows (flow_e 2 ((0 ∷ []) ∷ [] ∷ [] ∷ [])) s) 4 3 (agent_in (T.agent_at E 4)) (agent_in (T.agent_at E 3)) = record {
          receiver = refl;
          sender = refl;
          arities = refl;
          shares = (0, omega arith, r₀, r₀);
          fits = λ k h. let z : 2 ≤ 2 = omega arith in z;
        } in
        let handed : (o : ℕ) → o < row_bits → s 1 o ≡ true → s 2 o ≡ true =
        m.rule3 4 (omega arith) 3 (omega arith) _ _ refl refl lives 0 (omega arith) in
        record { first = r₀; second = r₁; third = handed 1 (omega arith) r₁; handed = handed }

lacks-rule1 : Says (Row.not_smallest A (flow_a ((0 ∷ []) ∷ [] ∷ [] ∷ [])) ((0 ∷ []) ∷ [] ∷ [] ∷ []))
unfolding computed table
lacks-rule1 s = false≢true (s.mends.rule1 1 (omega arith) refl)

lacks-rule3 : Says (Row.not_smallest A (flow_a ((0 ∷ []) ∷ [] ∷ [] ∷ [])) ((0 ∷ []) ∷ (1 ∷ []) ∷ [] ∷ []))
unfolding computed table
lacks-rule3 s = false≢true (asks_a ((0 ∷ []) ∷ [] ∷ [] ∷ []) _ s.mends).third

lacks-given : Says (Row.not_smallest A (flow_a ((0 ∷ 1 ∷ []) ∷ [] ∷ [] ∷ [])) rows_a)
unfolding computed table
lacks-given s = false≢true (s.mends.contains 0 (omega arith) 1 (omega arith) refl)

has_more : Says (Row.not_smallest A (flow_a ((0 ∷ []) ∷ [] ∷ [] ∷ [])) ((0 ∷ 1 ∷ []) ∷ (1 ∷ []) ∷ (1 ∷ []) ∷ []))
unfolding computed table
has_more s = false≢true (s.least (rows_of rows_a) mend-two.0.mends 0 (omega arith) 1 (omega arith) refl)

-- ---- the rows

pub cases : All Says rows
unfolding computed table
cases = (refl, (refl, (refl, (refl, (refl, (refl, (refl, (refl, (refl, (refl, (refl, (refl, (refl, (refl, (refl, (refl, (refl, (refl, tt))))))))))))))))))

pub set_cases : All Says set_rows
unfolding computed table
set_cases = (refl, (refl, (refl, (safe-joint, (unsafe-joint, (unsafe-first, (sums-joint, tt)))))))

pub same_cases : All Says same_rows
same_cases = (same-any, (lacks-there, (lacks-back, (other-set, tt))))

pub safe-cases : All Says safe_rows
safe-cases = (safe-brim, (unsafe-claim, (unsafe-bound, (unsafe-row, (unsafe-opening, tt)))))

pub step-cases : All Says step_rows
step-cases =
    (start_fits, (start-other, (step-fits-threads, (step-fits-markers, (step-not-refused, (step-changes, (refused-not-made, (refused-by-number, tt))))))))

pub walk-cases : All Says walk_rows
walk-cases =
    (walk-not-none, (walk-not-two, (walk_of-none, (walk-first-pair, (not-quiet, (not-spent-quiet, (not-spent, (not_full, (not-full-spent, tt)))))))))

pub told-cases : All Says told_rows
told-cases =
    (tells-not-quiet, (tells-not-spent, (tells-not-full, (tells-allowed, (tells-first-pair, (tells-changes, (tells-marker, tt)))))))

pub later-cases : All Says later_rows
later-cases = (later-receiver, (later-sender, (rule-2-first, (rule-3-first, (later-claim, (kept-claim, tt))))))

pub mend-cases : All Says mend_rows
mend-cases = (
  mend-two,
  (
    mend-three,
    (
      mend-none,
      (
        mend-wide,
        (
          mend-double,
          (
            mend-apart,
            (
              mend-meeting,
              (
                lacks-rule1,
                (
                  lacks-rule3,
                  (
                    lacks-given,
                    (
                      has_more,
                      tt,
                    ),
                  ),
                ),
              ),
            ),
          ),
        ),
      ),
    ),
  ),
)

-- ---- demand 3 at A: its array is well formed, its table is accepted, so every configuration that A can come to is safe

pub A-formed : WellFormed A
unfolding computed
A-formed = record {
  some = omega arith;
  few_nodes = omega arith;
  few_names = omega arith;
  children = refl;
  parents = refl;
  named = refl;
  bound = refl;
  scoped = refl;
}

A-claims : ClaimsFit table_a
unfolding table
A-claims zero h = omega arith
A-claims (suc c) h = omega arith

pub A-safe : (ch : Choices) (us : List Attempt) → Safe A table_a (run calculus A ch us)
unfolding computed table
A-safe = demand3 A table_a A-formed A-claims refl

-- ---- the rounds at A, with rows 1 and 2 empty: they set bit 1 in both, and no other

abbrev emptied : Table
emptied = flow_a ((0 ∷ []) ∷ [] ∷ [] ∷ [])

pub A-mended : Each 3 λ v. Each row_bits λ o. mended A emptied v o ≡ L.has (get_or rows_a v []) o
A-mended = smallest-same A emptied (mended A emptied) (rows_of rows_a) (mended-smallest A A-formed emptied) mend-two.0

pub A-bits : bits_set A emptied.row (mended A emptied) ≡ 2
A-bits = bits-same A emptied.row (mended A emptied) emptied.row (rows_of rows_a) (λ v h o l. refl) A-mended ∙ mend-two.1
