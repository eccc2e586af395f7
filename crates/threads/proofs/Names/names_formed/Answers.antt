-- `Names::names_formed` meets its contract: all words are well formed where each name's is.
use Rattle.std.proofs.Common.{rules, ◌≡◌, ℕ, length, get_or, true, Bool}
use Rattle.std.specs.Prelude.{IsTrue, ◌↔◌, EachIndex}
use Rattle.laws.proofs.Search.{every-told}
use Rattle.marks.specs.Marks.{marked}
use Rattle.threads.specs.Threads.{word_ok}
use Rattle.threads.proofs.Names.names_formed.Goals as goal

pub returns : goal.returns
returns c =
    let x = c.args in
    let f : ℕ → Bool = λ v. word_ok (marked x.self.now.news 0) x.listed (marked x.self.now.frees.now x.i v) (get_or x.words.now v 0) in
    let told : IsTrue c.all.result ↔ EachIndex x.words.now (λ v. f v ≡ true) = search rules in
    every-told (length x.words.now) f told
