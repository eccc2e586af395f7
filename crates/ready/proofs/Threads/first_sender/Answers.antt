-- `ready::Threads::first_sender` meets its contract: a noted sender comes before every thread that was not seen yet.
use borrow.Author.Tests.{not-true}
use Rattle.ready.proofs.Laws.{no-receiver}
use Rattle.ready.proofs.Threads.first_sender.Goals as goal

pub returns-then-not-p : goal.returns-then-not-p
returns-then-not-p c = (λ j h. no-receiver c.args.p _ (not-true _ c.if-not-p.true), c.requires)
