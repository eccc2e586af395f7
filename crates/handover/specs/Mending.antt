-- Mending (02, request iv): what the answer says, what it must say and leave in the output, and what that promises of the mended table.
use Rattle.std.specs.Prelude.{ℕ, ◌≤◌, ◌≡◌, ◌↔◌, List, leb, length, take, drop, Result}
use Rattle.laws.specs.Search.{Found, clear, hit, and_then}
use Rattle.laws.specs.Lists.{put}
use Rattle.model.specs.Formed as F
use Rattle.model.specs.Formed.{refuse}
use Rattle.model.specs.Rules.{Each, Rule2, Rule4, Rule5}
use Rattle.model.specs.Mend.{Rows, mended, bits_set, Smallest}
use Rattle.records.specs.declared.Refusal.{Refusal}
use Rattle.flows.specs.Written.{rewritten}
use Rattle.tables.specs.Read.{files_refusal}
use Rattle.handover.specs.Front.{array_in, sizes_in, table_in, judged, IsHeld}
use Rattle.handover.specs.Refusals.{Reply, done, refused, said, unless_refused, MendNumber}

-- "32 when the lent output is shorter than the table, checked after 31."
abbrev pub refusal32 : List ℕ → List ℕ → Found F.Refusal
refusal32 s out = refuse 32 0 (leb (length s) (length out))

abbrev pub mend_refusal : List ℕ → List ℕ → List ℕ → Found F.Refusal
mend_refusal f s out = and_then (files_refusal f s) (refusal32 s out)

-- "Its rows are the smallest that contain the given ones and meet both rules under those balances."
abbrev pub mended_rows : List ℕ → List ℕ → Rows
mended_rows f s = mended (array_in f) (table_in f s)

-- "It writes the mended table with its new word sum"
abbrev pub mended_table : List ℕ → List ℕ → List ℕ
mended_table f s = rewritten (sizes_in f s) (mended_rows f s) s

-- ---- what the answer must be, "the number of bits set" or the refusal, and the output

unfoldable pub mend_reply : List ℕ → List ℕ → List ℕ → Reply ℕ
mend_reply f s out = unless_refused (mend_refusal f s out) (bits_set (array_in f) (table_in f s).row (mended_rows f s))

-- a refusal leaves every byte as it was
abbrev pub unless_written : Found F.Refusal → List ℕ → List ℕ → List ℕ
unless_written clear out written = written
unless_written (hit r) out written = out

-- "Output bytes past the table keep their content."
unfoldable pub mend_output : List ℕ → List ℕ → List ℕ → List ℕ
mend_output f s out = unless_written (mend_refusal f s out) out (put 0 (mended_table f s) out)

-- ---- what is promised of the mended table u, of which n bits were set

pub record MendedTable (f s u : List ℕ) (n : ℕ) : Type 0 where
  -- it is read beside the same array, and has the same sizes, balances and claims
  pub read : files_refusal f u ≡ clear
  pub size : length u ≡ length s
  pub sizes : sizes_in f u ≡ sizes_in f s
  pub bounds : Each (table_in f s).balances λ k. ((table_in f u).balance k).bound ≡ ((table_in f s).balance k).bound
  pub weights : Each (table_in f s).balances λ k. Each (array_in f).size λ i. ((table_in f u).balance k).weight i ≡ ((table_in f s).balance k).weight i
  pub claims : Each (table_in f s).claims λ c. (table_in f u).claim c ≡ (table_in f s).claim c
  -- its rows are the smallest that contain the given ones and meet rules 1 and 3
  pub smallest : Smallest (array_in f) (table_in f s) (table_in f u).row
  -- the number is that of the bits that are set now and were not
  pub counts : n ≡ bits_set (array_in f) (table_in f s).row (table_in f u).row
  -- "where none was missing the table is copied as it came"
  pub copied : n ≡ 0 → u ≡ s
  -- so it is accepted exactly when the other rules hold
  pub accepted : IsHeld (judged f u) ↔ (Rule2 (array_in f) (table_in f u) × Rule4 (array_in f) (table_in f u) × Rule5 (array_in f) (table_in f u))
  -- and mending it sets no bit
  pub again : (out : List ℕ) → length u ≤ length out → mend_reply f u out ≡ done 0

-- ---- the whole promise of an answer x that finds the output `out` and leaves `left`

pub record MendPromise (f s out : List ℕ) (x : Result ℕ Refusal) (left : List ℕ) : Type 0 where
  pub answers : said x ≡ mend_reply f s out
  pub leaves : left ≡ mend_output f s out
  pub mends : (n : ℕ) → said x ≡ done n → MendedTable f s (take (length s) left) n
  pub listed : (n p : ℕ) → said x ≡ refused n p → MendNumber n
  -- the output that 02 lends is lent memory: after a refusal, also 32, every byte is as it was
  pub kept : (n p : ℕ) → said x ≡ refused n p → left ≡ out
  -- "Output bytes past the table keep their content." (02)
  pub past : (n : ℕ) → said x ≡ done n → (length left ≡ length out) × (drop (length s) left ≡ drop (length s) out)
