-- `Names::threads_formed` meets its contract: the chain's parts are the threads' words.
use native.Mathlib.Nat.{mul-div_cancel}
use native.Mathlib.Omega.{arith}
use Prim.Native.Nat.{ℕ, ◌+◌, ◌*◌, ◌/◌}
use mathlib.Core.Path.{◌≡◌, ap, ◌∙◌}
use lib.ListN.{length, take}
use lib.Seq.{length-take-le}
use borrow.Author.Rules.{rules}
use Rattle.std.proofs.lemmas.Iterator.Search.{all_from_yields_List}
use Rattle.model.specs.Memory.{thread_in, thread_formed}
use Rattle.records.specs.ArrayFile.{array_in}
use Rattle.threads.proofs.Chunks.{chunks_yield, told}
use Rattle.threads.proofs.Names.threads_formed.Goals as goal

pub returns : goal.returns
returns c =
    let x = c.args in
    let n = x.self.now.array.trailer.names in
    let w = 2 + n in
    let part = take (x.count * w) x.threads.now in
    let many : length part / w ≡ x.count = ap (λ (k : ℕ). k / w) (length-take-le (x.count * w) x.threads.now c.requires.1) ∙ mul-div_cancel x.count (omega arith) in
    all_from_yields_List (λ t. thread_formed (array_in x.self.now.array) x.listed (thread_in n t)) _ _ c.all.result c.all.ensures.ran
    (chunks_yield w x.count part (omega arith) c.chunks_exact.ensures.size c.chunks_exact.ensures.rest many) (λ t b q h. search rules)
    ∙ told (array_in x.self.now.array) x.listed x.count x.threads.now
