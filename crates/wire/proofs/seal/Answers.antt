-- The letters stand right behind the sum.
use Rattle.std.proofs.Common.{ℕ, ◌+◌, ◌/◌, ap, ◌∙◌, arith}
use Rattle.laws.specs.Lists.{put}
use Rattle.laws.proofs.Put.{put-put}
use Rattle.wire.specs.Numbers.{word_sum, le32}
use Rattle.wire.proofs.seal.Goals as goal

pub returns : goal.returns
returns c =
    let x = c.args in
    c.put_word-2.ensures
    ∙ ap (put (x.at + 4) (le32 x.letters)) (c.put_word.ensures ∙ ap (λ (n : ℕ). put x.at (le32 n) x.s.now) c.word_sum-sum.ensures)
    ∙ put-put x.at (le32 (word_sum x.s.now (x.at / 4))) x.s.now (let h = c.requires in omega arith) (le32 x.letters)
