-- The four bytes stand where they were put.
use Rattle.std.proofs.Common.{◌+◌, arith}
use Rattle.laws.proofs.Put.{put-part}
use Rattle.wire.proofs.put_word.Goals as goal

pub returns : goal.returns
returns c =
    let x = c.args in
    rw (c.copy_from_slice.ensures.after, c.to_le_bytes.ensures) (put-part x.at (x.at + 4) _ x.s.now (omega arith) (omega arith))
