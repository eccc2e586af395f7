-- Refusals checked one after another: a check that refuses ends the search, one that passes lets it go on.
use mathlib.Core.Path.{◌≡◌, sym, ap, ◌∙◌}
use mathlib.Core.Bool.{Bool, true, false}
use Rattle.laws.specs.Search.{Found, clear, and_then}
use Rattle.laws.proofs.Search.{clear-test, hit-test, clear-and_then, hit-and_then}
use Rattle.model.specs.Formed as F
use Rattle.model.specs.Formed.{refuse}
use Rattle.std.specs.Prelude.{Result, Ok, Err, IsErrAnd}
use Rattle.std.proofs.lemmas.Result.{err_from_is_err_and}
use Rattle.records.specs.declared.Reason.{Reason}
use Rattle.records.specs.declared.Refusal.{Refusal}
use Rattle.records.specs.Record.{number_of, found_of}

pub refuses : (f g : Found F.Refusal) (x : Result (Unit {0}) Refusal) (r : Refusal) → found_of x ≡ f → x ≡ Err r → found_of (Err r) ≡ and_then f g
refuses f g x r e p = sym (hit-and_then f g _ (sym e ∙ ap found_of p))

-- the same of the answer that `?` hands on
pub handed_on : (f g : Found F.Refusal) (x : Result (Unit {0}) Refusal) (y : Result (Unit {0}) Refusal) (r : Refusal)
    → found_of x ≡ f → x ≡ Err r → IsErrAnd y (λ e. e ≡ r) → found_of y ≡ and_then f g
handed_on f g x y r e p q = let s = err_from_is_err_and y q in rw (s.1, s.2) (refuses f g x r e p)

pub goes_on : (f g : Found F.Refusal) {y : Found F.Refusal} → f ≡ clear → y ≡ g → y ≡ and_then f g
goes_on f g e q = q ∙ sym (clear-and_then f g e)

pub passes : {f : Found F.Refusal} {u : Unit {0}} (x : Result (Unit {0}) Refusal) → found_of x ≡ f → x ≡ Ok u → f ≡ clear
passes x e p = sym e ∙ ap found_of p

-- a check that passed, and the rest of the search
pub passed_on : (f g : Found F.Refusal) {y : Found F.Refusal} {u : Unit {0}} (x : Result (Unit {0}) Refusal) → found_of x ≡ f → x ≡ Ok u → y ≡ g → y ≡ and_then f g
passed_on f g x e p q = goes_on f g (passes x e p) q

-- ---- a refusal that names no place, by its test

pub fails : (w : Reason) (b : Bool) (g : Found F.Refusal) (x : Result (Unit {0}) Refusal) → x ≡ Err record { reason = w; place = 0 } → b ≡ false
    → found_of x ≡ and_then (refuse (number_of w) 0 b) g
fails w b g x e f = ap found_of e ∙ sym (hit-and_then (refuse (number_of w) 0 b) g _ (hit-test b _ f))

pub holds : (w : Reason) (b : Bool) (g : Found F.Refusal) {y : Found F.Refusal} → b ≡ true → y ≡ g → y ≡ and_then (refuse (number_of w) 0 b) g
holds w b g e q = goes_on (refuse (number_of w) 0 b) g (clear-test b _ e) q
