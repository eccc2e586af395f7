-- The loop's invariant: the first s threads are seen, and none of them is ready with receiver p.
use mathlib.Core.Path.{◌≡◌}
use lib.ListN.{length}
use Rattle.ready.specs.Ready.{NoneReady, Noted}
use Rattle.ready.proofs.Threads.first_unseen.Given as goal

abbrev pub invariant-loop-s : goal.invariant-loop-s
invariant-loop-s l =
    let f = l.self.array.bytes.now in
    let t = l.self.array.trailer in
    (l.senders.seen ≡ l.s) × (length l.senders.at ≡ 256) × Noted f t l.self.words.now l.s l.senders.at l.senders.noted
    × NoneReady f t l.self.words.now l.p l.s
