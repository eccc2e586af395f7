-- The marked cases over bytes, and the other entries' rows, by computation.
use Prim.Native.Nat.{ℕ, zero, suc, ◌≤◌, ◌<◌}
use native.Mathlib.Omega.{arith}
use mathlib.Core.Path.{◌≡◌, refl, sym, ap, ◌∙◌}
use mathlib.Core.Logic.{◌≢◌, inl, inr, ⊎_elim}
use mathlib.Core.Bool.{Bool, true, false, cond, not, true≢false}
use mathlib.Core.List.{List, [], ◌∷◌, map}
use lib.Dec.{eqb, ltb}
use lib.ListN.{get_or}
use borrow.Author.Tests.{eqb-true, ltb-true}
use Rattle.std.specs.Prelude.{Result, Ok, Err}
use Rattle.laws.specs.Search as F
use Rattle.laws.specs.Lists as L
use Rattle.laws.specs.Lists.{All}
use Rattle.laws.specs.Search.{every}
use Rattle.laws.proofs.Search.{every_true, hit-test}
use Rattle.laws.proofs.Lists.{All-map, every-All}
use Rattle.wire.specs.Numbers as N
use Rattle.model.specs.Tree as T
use Rattle.model.specs.Formed as W
use Rattle.model.specs.Calculus as S
use Rattle.model.specs.Calculus.{Attempt}
use Rattle.model.specs.Numbers as I
use Rattle.model.specs.Memory as M
use Rattle.model.specs.Rules as U
use Rattle.model.specs.Rules.{Table}
use Rattle.model.specs.Safe as Z
use Rattle.model.specs.Tree.{node_at, is_agent}
use Rattle.model.specs.Same.{Alike, SameClaims}
use Rattle.model.proofs.Alike.{placed, same_by, alike-back, claims-back}
use Rattle.model.proofs.Tree.{agent-inside}
use Rattle.records.specs.Record as R
use Rattle.fields.specs.Fields as D
use Rattle.layout.specs.Table as Y
use Rattle.arrays.specs.File.{remark_of, read_array}
use Rattle.records.specs.declared.Refusal.{Refusal}
use Rattle.records.specs.declared.Trailer.{Trailer}
use Rattle.layout.specs.declared.Sizes.{Sizes}
use Rattle.handover.specs.Front.{judged, Judges, array_in, sizes_in, table_in, array_read, table_read}
use Rattle.handover.proofs.Laws.{read_table_lem, ruled-judges, untouched}
use Rattle.handover.proofs.Refusals.{read-array}
use Rattle.engine.specs.declared.Walk.{Walk}
use Rattle.handover.specs.Bodies.{verdict_of}
use Rattle.handover.specs.Engine.{start_of, step_of, walk_of, next_left, stride_of, Left}
use Rattle.handover.specs.Files.{pis, nodes_a, in_order_a, turned_a, repeated_a, Case, cases, Unkept, Kept, remark, remarked_b}
use Rattle.handover.specs.Files.{tables_read, arrays_read, Letters, OtherFormats, Denies, unmended}
use Rattle.handover.specs.Files.{Answered, calls, to_left, Ended, Answers, endings, Unlisted}
use Rattle.handover.specs.Mending.{mend_reply, mend_output}
use Rattle.handover.specs.Refusals.{done, said, TableNumber, StartNumber, WalkNumber}

-- Whoever unfolds this unfolds every definition behind the answer.
computed : Unit {0}
unfolding F.test F.and_then F.under F.first F.every F.any F.sum F.least L.one L.all L.has L.times
    N.u16_at N.u32_at N.word_sum
    T.node_at T.grow T.tree T.proc_at T.as_agent T.agent_at T.receives T.load T.opens T.is_agent T.is_new
    W.children W.params W.binds W.sent W.uses W.child_fits W.refusal8 W.fields_to W.refusal9 W.refusal10 W.binders W.refusal11 W.reaches W.in_reach W.refusal12
    R.sort_of R.node_of D.refusal6 D.refusal7 Y.parts_fit Y.refusal19 Y.refusal20 Y.refusal21 Y.set_fits Y.refusal30 Y.in_order Y.refusal31
    L.put T.free_below T.is_free S.choices_of S.stays S.bind S.keep S.unless S.on_agents S.cut_from S.unfold_proc S.marker_of S.receiver_leaves S.sender_leaves
    S.stepped S.attempt S.start I.same_entry I.position I.extend I.list_after I.markers_after
    M.words M.thread_in M.threads_in M.words_of M.entry_in M.entries_in M.numbers_of M.is_resource M.is_out M.word_formed M.thread_formed M.entry_formed M.unlike M.formed
    M.store M.fitted M.start_in M.on_answer M.step_in M.is_next M.first_ready M.on_pair M.on_step M.walk_in
    S.same_marker S.same_cell S.calculus S.after S.attempts S.run Z.total U.together U.in_set U.least_weight
    U.within U.share_bit U.fit_both U.live U.taken U.on_live U.pairs U.check1 U.check2 U.arguments3 U.check3 U.balances4 U.check4 U.check5 U.verdict
computed = tt

pub cases-hold : map (λ (c : Case). judged c.array c.table) cases ≡ map (λ (c : Case). done c.says) cases
unfolding computed judged
cases-hold = refl

-- A's step
abbrev meets : Attempt
meets = record { receiver = 1; sender = 0; choices = λ i. false }

-- ---- the same claims in files of array A

-- the array file, and what is read in it and in a table beside it
abbrev file_a : List ℕ
file_a = pis 3 nodes_a

abbrev read : List ℕ → Table
read s = table_in file_a s

-- the table in order consists of bytes
in_bytes : All (λ b. b < 256) in_order_a
unfolding computed
in_bytes = All-map (λ b h. ltb-true b 256 h) in_order_a (every-All (λ b. ltb b 256) 0 in_order_a refl)

-- the same claims as those of the table in order
turned : (w : ℕ) → SameClaims (read (turned_a w)) (read in_order_a)
unfolding computed placed
turned w = same_by (read (turned_a w)) (read in_order_a) (1 ∷ 0 ∷ []) (1 ∷ 0 ∷ []) refl refl

repeated : SameClaims (read repeated_a) (read in_order_a)
unfolding computed placed
repeated = same_by (read repeated_a) (read in_order_a) (1 ∷ 0 ∷ 1 ∷ []) (1 ∷ 0 ∷ []) refl refl

-- the same rows and balances as those of the table in order: bit o of row v, and weight i
abbrev same_bit : List ℕ → ℕ → ℕ → Bool
same_bit s v o = cond ((read s).row v o) ((read in_order_a).row v o) (not ((read in_order_a).row v o))

abbrev same_weight : List ℕ → ℕ → Bool
same_weight s i = eqb (((read s).balance 0).weight i) (((read in_order_a).balance 0).weight i)

as_bits : (b c : Bool) → cond b c (not c) ≡ true → b ≡ c
as_bits true c e = sym e
as_bits false true e = e
as_bits false false e = refl

alike-by : (s : List ℕ) → every 3 (λ v. every 256 (same_bit s v)) ≡ true → (read s).balances ≡ 1 → ((read s).balance 0).bound ≡ 1 → every 8 (same_weight s) ≡ true
    → Alike (array_in file_a) (read s) (read in_order_a)
unfolding computed
alike-by s bits many bound same = record {
  rows = λ v o h l. as_bits _ _ (every_true 256 (same_bit s v) (every_true 3 (λ w. every 256 (same_bit s w)) bits v h) o l);
  many = many;
  bounds = λ k h. bounds k (rw (← many) h);
  weights = λ k i h a. weights k i (rw (← many) h) a;
}
  where
    bounds : (k : ℕ) → k < 1 → ((read s).balance k).bound ≡ ((read in_order_a).balance k).bound
    bounds zero h = bound
    bounds (suc k) h = absurd (omega (arith, h))

    weights : (k i : ℕ) → k < 1 → is_agent (node_at (array_in file_a) i) ≡ true → ((read s).balance k).weight i ≡ ((read in_order_a).balance k).weight i
    weights zero i h a = eqb-true _ _ (every_true 8 (same_weight s) same i (agent-inside (array_in file_a) i a))
    weights (suc k) i h a = absurd (omega (arith, h))

turned-alike : Alike (array_in file_a) (read (turned_a 1)) (read in_order_a)
unfolding computed
turned-alike = alike-by (turned_a 1) refl refl refl refl

repeated-alike : Alike (array_in file_a) (read repeated_a) (read in_order_a)
unfolding computed
repeated-alike = alike-by repeated_a refl refl refl refl

-- what is promised of the table in order, which is held
promised : Judges file_a in_order_a (Ok (verdict_of (Ok tt) (sizes_in file_a in_order_a)))
unfolding computed
promised = ruled-judges file_a in_order_a refl (read-array file_a refl) (read_table_lem file_a in_order_a refl) (Ok tt) refl

pub kept : Kept
unfolding computed
kept =
    let there =
    untouched file_a in_order_a repeated_a refl refl (alike-back (array_in file_a) _ _ repeated-alike) (claims-back _ _ repeated) in
    let back = untouched file_a repeated_a in_order_a refl refl repeated-alike repeated in
    record {
      refuses = refl;
      rules = there.0.0 ((promised.exactly refl).0 tt);
      holds = back.1.1 (promised.holds tt);
      bounds = back.2.1 (promised.bounds tt);
    }

pub unkept : Unkept
unfolding computed
unkept = record {
  holds = λ d. let z : 1 ≤ 0 = (d (λ i. false) (meets ∷ [])).claims 0 (omega arith) in absurd (omega (arith, z));
  at_start = λ b. let z : 1 ≤ 0 = b (λ i. false) [] 0 (omega arith) in absurd (omega (arith, z));
  after_step = λ b. let z : 1 ≤ 0 = b (λ i. false) (meets ∷ []) 1 (omega arith) in absurd (omega (arith, z));
  repeat = λ o. let z : ◌≡◌ {A = ℕ} 3 2 = (o in_order_a in_bytes refl repeated).many in absurd (omega (arith, z));
  order = λ o. let z : ◌≡◌ {A = ℕ} 6 5 = (o in_order_a in_bytes refl (turned 0)).bytes 0 (omega arith) 0 (omega arith) in absurd (omega (arith, z));
  file = λ o. let z : ◌≡◌ {A = ℕ} 6 5 = ap (λ s. get_or s 116 0) (o in_order_a in_bytes refl turned-alike (turned 1)) in absurd (omega (arith, z));
  bytes = λ b. let z : ◌≡◌ {A = ℕ} 0 1 = b.bytes 1 (omega arith) 7 (omega arith) in absurd (omega (arith, z));
}

pub remark-holds : remark_of remarked_b ≡ remark
unfolding computed read_array
remark-holds = refl

pub arrays_read_lem : map (λ (c : List ℕ × Trailer). array_read c.0) arrays_read ≡ map (λ (c : List ℕ × Trailer). done c.1) arrays_read
unfolding computed array_read
arrays_read_lem = refl

pub tables_read_lem : map (λ (c : List ℕ × List ℕ × Sizes). table_read c.0 c.1) tables_read
    ≡ map (λ (c : List ℕ × List ℕ × Sizes). done c.2) tables_read
unfolding computed table_read
tables_read_lem = refl

pub letters-hold : Letters
letters-hold = (refl, refl)

pub other-formats : OtherFormats
other-formats = record { array = λ start nodes names sum n. hit-test false _ refl; table = λ nodes names balances claims n. hit-test false _ refl }

pub unmended-hold : All Denies unmended
unfolding computed mend_reply mend_output
unmended-hold = ((refl, refl), ((refl, refl), tt))

pub calls-hold : All Answered calls
unfolding computed start_of step_of stride_of next_left M.marker_made M.on_result M.turn_in M.on_found M.next_in
calls-hold = (refl, (refl, (refl, (refl, (refl, tt)))))

-- ---- the walk's own answer

done-same : {A : Type 0} {x y : A} → done x ≡ done y → x ≡ y
done-same e = cc

answer-same : (w : Walk) (x : Result Walk Refusal) → said x ≡ done w → x ≡ Ok w
answer-same w (Ok v) e = ap Ok (done-same e)
answer-same w (Err r) e = let z : true ≡ false = cc in absurd (true≢false z)

-- the reply that the definition gives names the answer
answer-is : (c : Ended) → (walk_of c.array to_left c.lent c.allowed).reply ≡ done c.walk → Answers c
answer-is c e x l ml p = answer-same c.walk x (ap (λ (o : Left Walk). o.reply) p.leaves ∙ e)

pub endings-hold : All Answers endings
unfolding computed walk_of
endings-hold = (answer-is _ refl, (answer-is _ refl, (answer-is _ refl, tt)))

-- ---- numbers that are not listed

past : (n m : ℕ) → n < m → m ≤ n → ⊥
past n m h k = absurd (omega (arith, h, k))

pub unlisted : Unlisted
unlisted = record {
  array = (λ h. past 0 1 (omega arith) h.0, λ h. past 12 13 (omega arith) h.1);
  table = (none, middle 22 (omega arith) (omega arith), middle 29 (omega arith) (omega arith), above 32 (omega arith));
  mend = (
    ⊎_elim none (omega arith),
    ⊎_elim (middle 22 (omega arith) (omega arith)) (omega arith),
    ⊎_elim (middle 29 (omega arith) (omega arith)) (omega arith),
    ⊎_elim (above 33 (omega arith)) (omega arith),
  );
  start = (
    start-not 13 (omega arith) (omega arith) (omega arith),
    start-not 23 (omega arith) (omega arith) (omega arith),
    start-not 27 (omega arith) (omega arith) (omega arith),
    start-not 29 (omega arith) (omega arith) (omega arith),
  );
  step = (
    λ h. ⊎_elim (λ a. past 12 13 (omega arith) a.1) (λ b. past 13 22 (omega arith) b.0) h,
    λ h. ⊎_elim (λ a. past 12 21 (omega arith) a.1) (λ b. past 21 22 (omega arith) b.0) h,
    λ h. ⊎_elim (λ a. past 12 30 (omega arith) a.1) (λ b. past 29 30 (omega arith) b.1) h,
  );
  walk = (
    walk-not 13 (omega arith) (omega arith) (omega arith),
    walk-not 21 (omega arith) (omega arith) (omega arith),
    walk-not 24 (omega arith) (omega arith) (omega arith),
    walk-not 28 (omega arith) (omega arith) (omega arith),
  );
}
  where
    -- below the numbers of table calls, between them and above them
    none : TableNumber 0 → ⊥
    none (inl k) = past 0 1 (omega arith) k.0
    none (inr k) = past 0 30 (omega arith) k.0

    middle : (n : ℕ) → 21 < n → n < 30 → TableNumber n → ⊥
    middle n h l (inl k) = past 21 n h k.1
    middle n h l (inr k) = past n 30 l k.0

    above : (n : ℕ) → 31 < n → TableNumber n → ⊥
    above n h (inl k) = past 21 n (omega arith) k.1
    above n h (inr k) = past 31 n h k.1

    start-not : (n : ℕ) → 12 < n → n ≢ 22 → n ≢ 28 → StartNumber n → ⊥
    start-not n h a b (inl k) = past 12 n h k.1
    start-not n h a b (inr (inl k)) = a k
    start-not n h a b (inr (inr k)) = b k

    walk-not : (n : ℕ) → 12 < n → n ≢ 22 → n ≢ 23 → WalkNumber n → ⊥
    walk-not n h a b (inl k) = past 12 n h k.1
    walk-not n h a b (inr (inl k)) = a k
    walk-not n h a b (inr (inr k)) = b k
