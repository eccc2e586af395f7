-- Answers and their numbers, worked out by hand, and the number that a step returns on a file, as rows.
use Rattle.std.specs.Prelude.{ℕ, ◌≡◌, List, [], ◌∷◌}
use Rattle.model.specs.declared.Ending.TheVariants.{Spent}
use Rattle.handover.specs.Refusals.{Reply, done, refused}
use Rattle.handover.specs.Front.{Outcome, rule}
use Rattle.engine.specs.declared.Walk.{Walk}
use Rattle.handover.specs.Files.{pis, nodes_e, to_right, started_e, counts}
use Rattle.handover_c.specs.Packed.{StepsInC}

-- ---- answers, and their numbers

-- 4 + 2^8 × 1,000 + 2^24 × 700 + 2^40 × 23
abbrev pub verdicts : List (Outcome × ℕ)
verdicts = (rule 4 (1000 ∷ 700 ∷ 23 ∷ []), 25300511746052) ∷ []

-- bits that were set, 2^8 × 300 and 2^8 × 65,536, the most that there are; refusal 31 at claim 300, 131 + 2^8 × 300
abbrev pub mends : List (Reply ℕ × ℕ)
mends = (done 300, 76800) ∷ (done 65536, 16777216) ∷ (refused 31 300, 76931) ∷ []

-- 1 + 2^8 × 256 + 2^18 × 4,096 + 2^32 × 70,000
abbrev pub walks : List (Walk × ℕ)
walks = (record { ending = Spent; steps = 70000; counts = counts 256 4096 }, 300648784527361) ∷ []

-- E's step leaves three threads and a marker, so whatever number has the promise of the step is 2^8 × 3 + 2^18 + 2^32
abbrev pub Stepped : Type 0
Stepped = (r : ℕ) (l ml : List ℕ) → StepsInC (pis 5 nodes_e) to_right started_e 1 0 r l ml → r ≡ 4295230208
