-- `ready::first_ready` meets its contract. The loop's invariant: none of the threads before the receiver is ready with any sender.
use mathlib.Core.Path.{◌≡◌}
use Rattle.laws.specs.Search.{clear, first}
use Rattle.model.specs.Calculus.{Choices}
use Rattle.ready.specs.Ready.{Seen}
use Rattle.ready.proofs.Laws.{row}
use Rattle.ready.proofs.first_ready.Given as goal

abbrev pub invariant-loop-receiver : goal.invariant-loop-receiver
invariant-loop-receiver l =
    let f = l.array.bytes.now in
    let t = l.array.trailer in
    ((ch : Choices) → first l.receiver (row f t l.threads l.count ch) ≡ clear) × Seen f t l.threads l.count l.senders
