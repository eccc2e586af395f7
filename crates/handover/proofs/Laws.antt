-- From the parts to the whole promise: what the readers and the rules found is the definition's answer; with it come demand 2 and,
-- where it is held, demand 3.
use Prim.Native.Nat.{ℕ, ◌≤◌, ◌<◌}
use native.Mathlib.Omega.{arith}
use mathlib.Core.Path.{◌≡◌, refl, sym, ap, ◌∙◌, subst}
use mathlib.Core.Logic.{◌↔◌}
use mathlib.Core.Bool.{true, false, true≢false}
use mathlib.Core.List.{List, [], ◌∷◌}
use lib.ListN.{get_or}
use Rattle.std.specs.Prelude.{Result, Ok, Err}
use Rattle.laws.specs.Search.{Found, clear, hit}
use Rattle.laws.specs.Lists.{All}
use Rattle.laws.proofs.Search.{clear-hit, and_then-split, and_then-join, clear-and_then, hit-and_then}
use Rattle.laws.proofs.Lists.{All-at}
use Rattle.model.specs.Formed as F
use Rattle.model.specs.Rules as M
use Rattle.model.specs.Calculus.{Choices, Attempt, calculus, run}
use Rattle.model.specs.Rules.{in_set, Each, Rules, Named, SetsAgree, Rising, FirstBroken, at, verdict}
use Rattle.model.specs.Safe.{set_sum, Safe}
use Rattle.model.proofs.Tree.{agent-inside}
use Rattle.model.proofs.Verdict.{held-rules, first-broken, first5}
use Rattle.model.proofs.Sets.{set-claim, first-of-set, count-sums}
use Rattle.model.proofs.Safety.{demand3}
use Rattle.model.proofs.Order as O
use Rattle.model.proofs.Alike.{rules-alike, sums-alike, safe-alike}
use Rattle.model.proofs.Configs.{reached}
use Rattle.records.specs.declared.Refusal.{Refusal}
use Rattle.records.specs.declared.Trailer.{Trailer}
use Rattle.records.specs.Record.{told, answered, array_of}
use Rattle.arrays.specs.File.{trailer_of, array_refusal, trailer_answer, read_array, IsRead}
use Rattle.arrays.proofs.Laws.{read-passes, read-refuses, read_is}
use Rattle.layout.specs.declared.Sizes.{Sizes}
use Rattle.layout.specs.Table.{claim_at, sizes_of, table_of, IsTable}
use Rattle.layout.proofs.Laws.{claim-bytes}
use Rattle.claims.proofs.Laws.{claims-named, sets-agree, claims-rise}
use Rattle.tables.specs.Read as T
use Rattle.tables.specs.Read.{table_refusal, files_refusal, read_table}
use Rattle.tables.proofs.Laws.{Passed, passed, passed-table}
use Rattle.tables.proofs.OneFile as W
use Rattle.rules.specs.declared.Broken.{Broken}
use Rattle.rules.specs.declared.Broken.TheVariants as R
use Rattle.rules.specs.Ruling.{ruled}
use Rattle.handover.specs.declared.Verdict.{Verdict}
use Rattle.handover.specs.Front.{Outcome, held, rule, says, IsHeld, array_in, sizes_in, table_in, after_rules, judged, Demand3, Judges}
use Rattle.handover.specs.Front.{array_read, table_read, OneOrder, OneFile, ArrayPromise, TablePromise, Untouched}
use Rattle.handover.specs.Bodies.{verdict_of}
use Rattle.handover.specs.Refusals.{Reply, done, refused, said, unless_refused, ArrayNumber, TableNumber}
use Rattle.handover.proofs.Refusals.{Small, read-array, array-small, files-small}

-- ---- the readers

-- a refusal is one of those that were looked for
reply-listed : {A : Type 0} (P : ℕ → Type 0) (x : Found F.Refusal) (a : A) → Small P x → (n p : ℕ) → unless_refused x a ≡ refused n p → P n
reply-listed P clear a s n p e = let z : true ≡ false = cc in absurd (true≢false z)
reply-listed P (hit r) a s n p e = let z : r.number ≡ n = cc in subst P z (s r refl).0

-- an answer with the refusal in 01's numbers
module _ {A : Type 0} where
  abbrev reply : Result A F.Refusal → Reply A
  reply (Ok x) = done x
  reply (Err r) = refused r.number r.place

  said_is : (x : Result A Refusal) → said x ≡ reply (answered x)
  said_is (Ok x) = refl
  said_is (Err r) = refl

array-says : (x : Found F.Refusal) (t : Trailer) → reply (trailer_answer x t) ≡ unless_refused x t
array-says clear t = refl
array-says (hit r) t = refl

pub array-promise : (f : List ℕ) (x : Result Trailer Refusal) → answered x ≡ read_array f → ArrayPromise f x
unfolding read_array array_read
array-promise f x e =
    let a : said x ≡ array_read f = said_is x ∙ ap reply e ∙ array-says (array_refusal f) (trailer_of f) in
    record { answers = a; listed = λ n p q. reply-listed ArrayNumber (array_refusal f) _ (array-small f) n p (sym a ∙ q) }

table-says : (x : Found F.Refusal) (z : Sizes) → reply (T.sizes_answer x z) ≡ unless_refused x z
table-says clear z = refl
table-says (hit r) z = refl

-- a table that was read
pub read_table_lem : (f s : List ℕ) → files_refusal f s ≡ clear → IsTable f (trailer_of f) s (sizes_in f s)
read_table_lem f s e = passed-table f (trailer_of f) s (and_then-split (array_refusal f) _ e).1

was_read : {A : Type 0} (x : Found F.Refusal) (a b : A) → unless_refused x a ≡ done b → x ≡ clear
was_read clear a b e = refl
was_read (hit r) a b e = let z : true ≡ false = cc in absurd (true≢false z)

small : (u : List ℕ) → All (λ b. b < 256) u → (i : ℕ) → get_or u i 0 < 256
small u all i = All-at (λ b. b < 256) u i 0 (omega arith) all

one-order : (f s : List ℕ) → ((i : ℕ) → get_or s i 0 < 256) → files_refusal f s ≡ clear → OneOrder f s
one-order f s bytes e u all d same =
    let rise : (w : List ℕ) → files_refusal f w ≡ clear → Rising (table_in f w) = λ w q. claims-rise (table_in f w) (read_table_lem f w q).order in
    let o = O.one-order (table_in f s) (table_in f u) (rise s e) (rise u d) same in
    record { many = o.0; bytes = λ c h i l. claim-bytes s u (claim_at (sizes_in f s) c) (claim_at (sizes_in f u) c) bytes (small u all) (o.1 c h) i l }

one-file : (f s : List ℕ) → ((i : ℕ) → get_or s i 0 < 256) → files_refusal f s ≡ clear → OneFile f s
one-file f s bytes e u all d alike same =
    let was : (w : List ℕ) → files_refusal f w ≡ clear → Passed f (trailer_of f) w = λ w q. passed f (trailer_of f) w (and_then-split (array_refusal f) _ q).1 in
    W.one-file f (trailer_of f) s u bytes (small u all) (was s e) (was u d) alike same

pub table-promise : (f s : List ℕ) (x : Result Sizes Refusal) → ((i : ℕ) → get_or s i 0 < 256) → answered x ≡ read_table f s → TablePromise f s x
unfolding read_table table_read
table-promise f s x bytes e =
    let a : said x ≡ table_read f s = said_is x ∙ ap reply e ∙ table-says (files_refusal f s) (sizes_in f s) in
    record {
      answers = a;
      order = λ z q. one-order f s bytes (was_read (files_refusal f s) _ z (sym a ∙ q));
      file = λ z q. one-file f s bytes (was_read (files_refusal f s) _ z (sym a ∙ q));
      listed = λ n p q. reply-listed TableNumber (files_refusal f s) _ (files-small f s) n p (sym a ∙ q);
    }

-- ---- the checker

-- a refusal by the checker is one of the readers'
judged-listed : (f s : List ℕ) (n p : ℕ) → judged f s ≡ refused n p → TableNumber n
unfolding judged
judged-listed f s n p e = reply-listed TableNumber (files_refusal f s) _ (files-small f s) n p e

-- no rule is named exactly where held is said
held_after : (x : M.Verdict) (z : Sizes) → IsHeld (done (after_rules x (held z))) ↔ (x ≡ clear)
held_after clear z = (λ h. refl, λ e. tt)
held_after (hit b) z = (λ h. absurd h, λ e. clear-hit _ (sym e))

-- demand 2: a table that no refusal meets is held exactly when the five rules hold
pub held-exactly : (f s : List ℕ) → files_refusal f s ≡ clear → IsHeld (judged f s) ↔ Rules (array_in f) (table_in f s)
unfolding judged
held-exactly f s e =
    let both = held-rules (array_in f) (table_in f s) in
    let after = held_after (verdict (array_in f) (table_in f s)) (sizes_in f s) in
    rw e (λ h. both.0 (after.0 h), λ h. after.1 (both.1 h))

-- the broken rule that an answer names, if any
abbrev broken : Reply Outcome → M.Verdict
broken (done (held z)) = clear
broken (done (rule r figures)) = hit (at r figures)
broken (refused n p) = clear

module _ (f s : List ℕ) where
  pub refused-judges : (r : Refusal) → files_refusal f s ≡ hit (told r) → Judges f s (Err r)
  unfolding judged
  refused-judges r e =
      let a : says (Err r) ≡ judged f s = sym (rw e) in
      record {
        answers = a;
        exactly = λ none. clear-hit _ (sym none ∙ e);
        breaks = λ n figures h. clear-hit _ (ap broken h);
        names = λ c h. clear-hit _ (ap broken h);
        holds = λ h. absurd h;
        bounds = λ h. absurd h;
        listed = λ n p q. judged-listed f s n p (sym a ∙ q);
      }

  module _ (clear' : files_refusal f s ≡ clear) (read : IsRead f (trailer_of f)) (table : IsTable f (trailer_of f) s (sizes_in f s)) where
    abbrev sized : Outcome
    sized = held (sizes_in f s)

    ruled-says : (x : Result (Unit {0}) Broken) → done (after_rules (ruled x) sized) ≡ says (Ok (verdict_of x (sizes_in f s)))
    ruled-says (Ok u) = refl
    ruled-says (Err (R.Rule1 o)) = refl
    ruled-says (Err (R.Rule2 k)) = refl
    ruled-says (Err (R.Rule3 p q n)) = refl
    ruled-says (Err (R.Rule4 p q k)) = refl
    ruled-says (Err (R.Rule5 c)) = refl

    broken-ruled : (x : Result (Unit {0}) Broken) → broken (says (Ok (verdict_of x (sizes_in f s)))) ≡ ruled x
    broken-ruled (Ok u) = refl
    broken-ruled (Err (R.Rule1 o)) = refl
    broken-ruled (Err (R.Rule2 k)) = refl
    broken-ruled (Err (R.Rule3 p q n)) = refl
    broken-ruled (Err (R.Rule4 p q k)) = refl
    broken-ruled (Err (R.Rule5 c)) = refl

    -- what refusals 21 and 30 leave of the claims
    named : Named (array_in f) (table_in f s)
    named = claims-named (array_in f) (table_in f s) table.claims

    agree : SetsAgree (table_in f s)
    agree = sets-agree (table_in f s) table.sets

    -- the agents of a set are nodes
    inside : (q i : ℕ) → in_set (table_in f s) q i ≡ true → i < (array_in f).size
    inside q i e =
        let c = set-claim (table_in f s) q i e in
        subst (λ x. x < (array_in f).size) (sym c.3) (agent-inside (array_in f) _ (named c.0 c.1).0)

    pub ruled-judges : (x : Result (Unit {0}) Broken) → ruled x ≡ verdict (array_in f) (table_in f s) → Judges f s (Ok (verdict_of x (sizes_in f s)))
    unfolding judged
    ruled-judges x e =
        let a : says (Ok (verdict_of x (sizes_in f s))) ≡ judged f s = sym (rw (clear', ← e) (ruled-says x)) in
        let exact : IsHeld (says (Ok (verdict_of x (sizes_in f s)))) ↔ Rules (array_in f) (table_in f s) =
        subst (λ y. IsHeld y ↔ Rules (array_in f) (table_in f s)) (sym a) (held-exactly f s clear') in
        let breaks : (n : ℕ) (l : List ℕ) → says (Ok (verdict_of x (sizes_in f s))) ≡ done (rule n l) → FirstBroken (array_in f) (table_in f s) (at n l) =
        λ n figures h. first-broken (array_in f) (table_in f s) (at n figures) (sym e ∙ sym (broken-ruled x) ∙ ap broken h) in
        let safe : IsHeld (says (Ok (verdict_of x (sizes_in f s)))) → Demand3 f s =
        λ h. demand3 (array_in f) (table_in f s) read.formed (λ c k. (named c k).1) ((held-rules (array_in f) (table_in f s)).1 (exact.0 h)) in
        record {
          answers = a;
          exactly = λ u. exact;
          breaks = breaks;
          names = λ c h. first-of-set (table_in f s) agree c (first5 (array_in f) (table_in f s) (c ∷ []) _ (breaks 5 (c ∷ []) h) refl);
          holds = safe;
          bounds = λ h ch us q k. rw (count-sums (table_in f s) q (array_in f).size (inside q) (run calculus (array_in f) ch us)) ((safe h ch us).claims q k);
          listed = λ n p q. judged-listed f s n p (sym a ∙ q);
        }

  -- the same by what the calls answered: trailer t, sizes z, ruling x
  pub passed-judges : (t : Trailer) (z : Sizes) (x : Result (Unit {0}) Broken) → read_array f ≡ Ok t → table_refusal f t s ≡ clear → z ≡ sizes_of t s
      → ruled x ≡ verdict (array_of f t) (table_of s z) → Judges f s (Ok (verdict_of x z))
  passed-judges t z x e none size found =
      let p = read-passes f t e in
      let none' : table_refusal f (trailer_of f) s ≡ clear = subst (λ u. table_refusal f u s ≡ clear) (sym p.1) none in
      let size' : z ≡ sizes_in f s = size ∙ ap (λ u. sizes_of u s) (sym p.1) in
      let found' : ruled x ≡ verdict (array_in f) (table_in f s) =
      found ∙ ap (λ u. verdict (array_of f u) (table_of s z)) (sym p.1) ∙ ap (λ u. verdict (array_in f) (table_of s u)) size' in
      subst (λ u. Judges f s (Ok (verdict_of x u))) (sym size')
      (ruled-judges (and_then-join (array_refusal f) _ p.0 none') (subst (IsRead f) (sym p.1) (read_is f t e))
      (passed-table f (trailer_of f) s none') x found')

  pub array-refused : (r : Refusal) → read_array f ≡ Err (told r) → Judges f s (Err r)
  array-refused r e = refused-judges r (hit-and_then (array_refusal f) _ _ (read-refuses f (told r) e))

  pub table-refused : (t : Trailer) (r : Refusal) → read_array f ≡ Ok t → hit (told r) ≡ table_refusal f t s → Judges f s (Err r)
  table-refused t r e found =
      let p = read-passes f t e in
      refused-judges r (clear-and_then (array_refusal f) (table_refusal f (trailer_of f) s) p.0 ∙ ap (λ u. table_refusal f u s) p.1 ∙ sym found)

-- ---- claims as a set

pub untouched : (f s u : List ℕ) → Untouched f s u
untouched f s u read claims e same =
    let a = array_in f in
    let ok = (read-array f read).formed in
    let safe : (ch : Choices) (us : List Attempt) → Safe a (table_in f s) (run calculus a ch us) ↔ Safe a (table_in f u) (run calculus a ch us) =
    λ ch us. safe-alike a ok (table_in f s) (table_in f u) e same (run calculus a ch us) (reached a ok ch us) in
    let bounded : List ℕ → Choices → List Attempt → Type 0 =
    λ w ch us. Each (table_in f w).claims (λ q. set_sum a.size (table_in f w) q (run calculus a ch us) ≤ ((table_in f w).claim q).most) in
    let sums : (ch : Choices) (us : List Attempt) → bounded s ch us ↔ bounded u ch us =
    λ ch us. sums-alike a ok (table_in f s) (table_in f u) same a.size (run calculus a ch us) in (
      rules-alike a ok (table_in f s) (table_in f u) e same (claims-named a (table_in f s) claims),
      (λ h ch us. (safe ch us).0 (h ch us), λ h ch us. (safe ch us).1 (h ch us)),
      (λ h ch us. (sums ch us).0 (h ch us), λ h ch us. (sums ch us).1 (h ch us)),
    )
