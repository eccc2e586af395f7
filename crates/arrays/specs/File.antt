-- The array file: its trailer, refusals 1 to 12 in checking order, and the reader's answers (01, "The array file", "Refusals").
use Rattle.std.specs.Prelude.{ℕ, ◌+◌, ◌*◌, ◌-◌, ◌/◌, ◌%◌, ◌≤◌, ◌≡◌, Bool, cond, ◌&&◌, true, false, List, [], eqb, leb, length, take, Option, Some, None, Result, Ok, Err}
use Rattle.laws.specs.Search.{Found, clear, hit, and_then}
use Rattle.wire.specs.Numbers.{u16_at, u32_at, word_sum}
use Rattle.model.specs.Formed as F
use Rattle.model.specs.Formed.{WellFormed, refuse, refusal8, refusal9, refusal10, refusal11, refusal12}
use Rattle.records.specs.declared.Form.{Form}
use Rattle.records.specs.declared.Form.TheVariants.{Pis1, Other}
use Rattle.records.specs.declared.Trailer.{Trailer}
use Rattle.records.specs.Record.{array_of}
use Rattle.fields.specs.Fields.{refusal6, refusal7}

-- the letters P, I, S, 1 as one number
abbrev pub pis1 : ℕ
pis1 = 80 + 256 * 73 + 65536 * 83 + 16777216 * 49

-- the format that the letters name, if any
abbrev pub array_form : ℕ → Option Form
array_form letters = cond (eqb letters pis1) (Some Pis1) None

-- the format is the one that array files have
abbrev pub is_pis1 : Option Form → Bool
is_pis1 None = false
is_pis1 (Some Pis1) = true
is_pis1 (Some (Other n)) = false

-- "a 16-byte trailer that points back: start of the records (32 bits), M (16), N (16), word sum (32), the letters `PIS1`"
abbrev pub trailer_of : List ℕ → Trailer
trailer_of s = record {
  start = u32_at s (length s - 16);
  nodes = u16_at s (length s - 12);
  names = u16_at s (length s - 10);
  sum = u32_at s (length s - 8);
  form = array_form (u32_at s (length s - 4));
}

-- "1. The array file is shorter than 16 bytes, longer than 17,424, or no multiple of 4."
abbrev pub array_length_fits : List ℕ → Bool
array_length_fits s = leb 16 (length s) && leb (length s) 17424 && eqb (length s % 4) 0

abbrev pub refusal1 : List ℕ → Found F.Refusal
refusal1 s = refuse 1 0 (array_length_fits s)

-- "2. Its letters are wrong."
abbrev pub refusal2 : Trailer → Found F.Refusal
refusal2 t = refuse 2 0 (is_pis1 t.form)

-- "3. M is 0 or above 1,024, or N is above 256."
abbrev pub array_counts_fit : Trailer → Bool
array_counts_fit t = leb 1 t.nodes && leb t.nodes 1024 && leb t.names 256

abbrev pub refusal3 : Trailer → Found F.Refusal
refusal3 t = refuse 3 0 (array_counts_fit t)

-- "4. Start above 1,024, or start + 16 × M + 16 is not the length."
abbrev pub start_fits : List ℕ → Trailer → Bool
start_fits s t = leb t.start 1024 && eqb (t.start + 16 * t.nodes + 16) (length s)

abbrev pub refusal4 : List ℕ → Trailer → Found F.Refusal
refusal4 s t = refuse 4 0 (start_fits s t)

-- "5. The word sum is wrong." It stands 8 bytes before the end, and covers the trailer's own first fields.
abbrev pub refusal5 : List ℕ → Trailer → Found F.Refusal
refusal5 s t = refuse 5 0 (eqb t.sum (word_sum s ((length s - 8) / 4)))

-- refusals 1 to 12, in checking order
abbrev pub array_refusal : List ℕ → Found F.Refusal
array_refusal s =
    let t = trailer_of s in
    and_then (refusal1 s)
    (and_then (refusal2 t)
    (and_then (refusal3 t)
    (and_then (refusal4 s t)
    (and_then (refusal5 s t)
    (and_then (refusal6 s t)
    (and_then (refusal7 s t)
    (and_then (refusal8 (array_of s t))
    (and_then (refusal9 (array_of s t))
    (and_then (refusal10 (array_of s t))
    (and_then (refusal11 (array_of s t)) (refusal12 (array_of s t))))))))))))

-- the reader's answer: what the trailer says, or the first refusal
abbrev pub trailer_answer : Found F.Refusal → Trailer → Result Trailer F.Refusal
trailer_answer clear t = Ok t
trailer_answer (hit r) t = Err r

unfoldable pub read_array : List ℕ → Result Trailer F.Refusal
read_array s = trailer_answer (array_refusal s) (trailer_of s)

-- "The reader hands back the remark as a part of the caller's own file, an empty part after a refusal."
abbrev pub remark_in : Result Trailer F.Refusal → List ℕ → List ℕ
remark_in (Ok t) s = take t.start s
remark_in (Err r) s = []

abbrev pub remark_of : List ℕ → List ℕ
remark_of s = remark_in (read_array s) s

-- ---- a file that was read

-- file s was read, and its trailer says t
pub record IsRead (s : List ℕ) (t : Trailer) : Type 0 where
  pub trailer : t ≡ trailer_of s
  pub start : t.start ≤ 1024
  pub fills : t.start + 16 * t.nodes + 16 ≡ length s
  pub sum : t.sum ≡ word_sum s ((length s - 8) / 4)
  pub shapes : refusal6 s t ≡ clear
  pub unused : refusal7 s t ≡ clear
  pub formed : WellFormed (array_of s t)

-- ---- the search over a trailer, and its rest from refusal 6 on

abbrev pub from6 : List ℕ → Trailer → Found F.Refusal
from6 s t =
    and_then (refusal6 s t)
    (and_then (refusal7 s t)
    (and_then (refusal8 (array_of s t))
    (and_then (refusal9 (array_of s t))
    (and_then (refusal10 (array_of s t))
    (and_then (refusal11 (array_of s t)) (refusal12 (array_of s t)))))))

abbrev pub refusal_by : List ℕ → Trailer → Found F.Refusal
refusal_by s t = and_then (refusal1 s) (and_then (refusal2 t) (and_then (refusal3 t) (and_then (refusal4 s t) (and_then (refusal5 s t) (from6 s t)))))
