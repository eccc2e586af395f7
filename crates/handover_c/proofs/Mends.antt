-- The number of a mending's answer: its parts stay within their bits.
use Prim.Native.Nat.{ℕ, ◌≤◌}
use native.Mathlib.Omega.{arith}
use mathlib.Core.Path.{◌≡◌, refl, sym, ap, ◌∙◌, subst}
use mathlib.Core.Logic.{inl, inr}
use mathlib.Core.Bool.{Bool, true, false, not, ◌&&◌}
use mathlib.Core.List.{List}
use lib.Dec.{leb}
use lib.ListN.{length}
use Rattle.std.specs.Prelude as P
use Rattle.laws.specs.Search.{Found, clear, hit, test, and_then, sum}
use Rattle.laws.specs.Lists.{one}
use Rattle.laws.proofs.Search.{and_then-split, sum_bound}
use Rattle.laws.proofs.Lists.{one-le}
use Rattle.model.specs.Tree.{Array}
use Rattle.model.specs.Formed as F
use Rattle.model.specs.Rules.{row_bits}
use Rattle.model.specs.Mend.{Rows, bits_set}
use Rattle.records.specs.declared.Refusal.{Refusal}
use Rattle.arrays.specs.File.{array_refusal}
use Rattle.tables.specs.Read.{files_refusal}
use Rattle.handover.specs.Front.{array_in, table_in}
use Rattle.handover.specs.Mending.{mended_rows, mend_reply, MendPromise}
use Rattle.handover.specs.Refusals.{said, unless_refused, MendNumber}
use Rattle.handover.proofs.Refusals.{read-array, files-small}
use Rattle.handover_c.specs.Packed.{packed_reply, packed_mend, FitsReply, FitsMend, MendsInC}

-- a row has 256 bits
bits-few : (a : Array) (r s : Rows) → a.names ≤ 256 → bits_set a r s ≤ 65536
unfolding bits_set
bits-few a r s few =
    let b = sum_bound a.names (λ v. sum row_bits λ o. one (s v o && not (r v o))) row_bits (λ v. sum_bound row_bits _ 1 (λ o. one-le _)) in
    omega (arith, b)

module _ (f s out : List ℕ) where
  mend-fits : FitsReply FitsMend MendNumber (mend_reply f s out)
  unfolding mend_reply and_then test
  mend-fits = go (files_refusal f s) refl (leb (length s) (length out))
    where
      go : (x : Found F.Refusal) → files_refusal f s ≡ x → (b : Bool)
          → FitsReply FitsMend MendNumber
          (unless_refused (and_then x (test b record { number = 32; place = 0 })) (bits_set (array_in f) (table_in f s).row (mended_rows f s)))
      go (hit r) e b = let h = files-small f s r e in (inl h.0, h.1)
      go clear e true =
          bits-few (array_in f) (table_in f s).row (mended_rows f s) (read-array f (and_then-split (array_refusal f) _ e).0).formed.few_names
      go clear e false = (inr refl, omega arith)

  module _ (x : P.Result ℕ Refusal) (left : List ℕ) (p : MendPromise f s out x left) where
    pub mend-answer : FitsReply FitsMend MendNumber (said x)
    mend-answer = subst (FitsReply FitsMend MendNumber) (sym p.answers) mend-fits

    pub mends : (r : ℕ) → r ≡ packed_reply packed_mend (said x) → MendsInC f s out r left
    mends r e = record { returns = e ∙ ap (packed_reply packed_mend) p.answers; fits = mend-fits; leaves = p.leaves; promise = (x, p) }
