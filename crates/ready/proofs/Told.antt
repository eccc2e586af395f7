-- What the code answers of a pair: it passes exactly where the number told is 0.
use mathlib.Core.Path.{◌≡◌, refl, sym, ◌∙◌}
use mathlib.Core.Logic.{◌≢◌}
use mathlib.Core.Bool.{false, true≢false}
use lib.Dec.{eqb}
use borrow.Author.Tests.{eq-eqb}
use Rattle.std.specs.Prelude.{Result, Ok, Err}
use Rattle.std.specs.Result.{is_ok}
use Rattle.records.specs.declared.Reason.{Reason}
use Rattle.records.specs.declared.Reason.TheVariants as R
use Rattle.records.specs.Record as N
use Rattle.ready.specs.Ready.{told}

-- no reason has the number 0
pub some-number : (e : Reason) → eqb (N.number_of e) 0 ≡ false
some-number R.ArrayLength = refl
some-number R.ArrayLetters = refl
some-number R.ArraySizes = refl
some-number R.ArrayParts = refl
some-number R.ArraySum = refl
some-number R.Shape = refl
some-number R.Unused = refl
some-number R.Child = refl
some-number R.Parent = refl
some-number R.Name = refl
some-number R.Binding = refl
some-number R.Reach = refl
some-number R.TableLength = refl
some-number R.TableLetters = refl
some-number R.TableSizes = refl
some-number R.TableParts = refl
some-number R.TableSum = refl
some-number R.OtherArray = refl
some-number R.Row = refl
some-number R.Balance = refl
some-number R.Claim = refl
some-number R.Choices = refl
some-number R.Lists = refl
some-number R.Position = refl
some-number R.Roles = refl
some-number R.Arities = refl
some-number R.Channels = refl
some-number R.Threads = refl
some-number R.Markers = refl
some-number R.Set = refl
some-number R.Order = refl
some-number R.Output = refl

pub ok-told : (r : Result (Unit {0}) Reason) → is_ok r ≡ eqb (told r) 0
ok-told (Ok u) = refl
ok-told (Err e) = sym (some-number e)

pub some-refusal : (e : Reason) → N.number_of e ≢ 0
some-refusal e q = true≢false (sym (eq-eqb (N.number_of e) 0 q) ∙ some-number e)
