-- The table reader: refusals 13 to 21, 30 and 31 in checking order, after the array's, and its answers (01, "Refusals, in checking order"; 02,
-- request i: "30 .. checked after 21"; request ii: "31 .. checked after 30").
use Rattle.std.specs.Prelude.{ℕ, List, Result, Ok, Err}
use Rattle.laws.specs.Search.{Found, clear, hit, and_then}
use Rattle.model.specs.Formed as F
use Rattle.records.specs.declared.Trailer.{Trailer}
use Rattle.records.specs.Record.{array_of}
use Rattle.arrays.specs.File.{array_refusal, trailer_of}
use Rattle.layout.specs.declared.Sizes.{Sizes}
use Rattle.layout.specs.Table.{sizes_of, refusal13, refusal14, refusal15, refusal16, refusal17, refusal18, refusal19, refusal20}
use Rattle.layout.specs.Table.{table_of, refusal21, refusal30, refusal31}

-- refusals 13 to 21, 30 and 31 of table s for the array file f whose trailer says t, in checking order
abbrev pub table_refusal : List ℕ → Trailer → List ℕ → Found F.Refusal
table_refusal f t s =
    let z = sizes_of t s in
    and_then (refusal13 s)
    (and_then (refusal14 z)
    (and_then (refusal15 z)
    (and_then (refusal16 s z)
    (and_then (refusal17 s)
    (and_then (refusal18 t s)
    (and_then (refusal19 (array_of f t) s z)
    (and_then (refusal20 (array_of f t) s z)
    (and_then (refusal21 (array_of f t) (table_of s z)) (and_then (refusal30 (table_of s z)) (refusal31 (table_of s z)))))))))))

-- "The array is checked before anything else in every call."
abbrev pub files_refusal : List ℕ → List ℕ → Found F.Refusal
files_refusal f s = and_then (array_refusal f) (table_refusal f (trailer_of f) s)

abbrev pub sizes_answer : Found F.Refusal → Sizes → Result Sizes F.Refusal
sizes_answer clear z = Ok z
sizes_answer (hit r) z = Err r

unfoldable pub read_table : List ℕ → List ℕ → Result Sizes F.Refusal
read_table f s = sizes_answer (files_refusal f s) (sizes_of (trailer_of f) s)

-- ---- the rest of the search, from a refusal on

abbrev pub from21 : List ℕ → Trailer → List ℕ → Sizes → Found F.Refusal
from21 f t s z = and_then (refusal21 (array_of f t) (table_of s z)) (and_then (refusal30 (table_of s z)) (refusal31 (table_of s z)))

abbrev pub from20 : List ℕ → Trailer → List ℕ → Sizes → Found F.Refusal
from20 f t s z = and_then (refusal20 (array_of f t) s z) (from21 f t s z)

abbrev pub from18 : List ℕ → Trailer → List ℕ → Sizes → Found F.Refusal
from18 f t s z = and_then (refusal18 t s) (and_then (refusal19 (array_of f t) s z) (from20 f t s z))

abbrev pub from16 : List ℕ → Trailer → List ℕ → Sizes → Found F.Refusal
from16 f t s z = and_then (refusal16 s z) (and_then (refusal17 s) (from18 f t s z))

abbrev pub from14 : List ℕ → Trailer → List ℕ → Sizes → Found F.Refusal
from14 f t s z = and_then (refusal14 z) (and_then (refusal15 z) (from16 f t s z))
