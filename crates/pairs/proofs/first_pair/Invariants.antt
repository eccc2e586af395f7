-- Nothing is found so far, at each of the three loops; each way through them is one law of proofs/Search. The margins are the receiver's.
use Rattle.pairs.specs.Pairs.{DifferencesOf}
use Rattle.pairs.specs.Weighing.{beside}
use Rattle.pairs.proofs.Search.{AtReceiver, AtSender, AtFigure}
use Rattle.pairs.proofs.first_pair.Given as goal

abbrev pub invariant-balance : goal.invariant-balance
invariant-balance l =
    let S = beside l.w l.rows in
    AtFigure l.number S l.p l.count l.q l.answer l.n × DifferencesOf S l.p l.margins.gives l.margins.rooms

abbrev pub invariant-sender : goal.invariant-sender
invariant-sender l =
    let S = beside l.w l.rows in
    AtSender l.number S l.p l.count l.answer l.j × DifferencesOf S l.p l.margins.gives l.margins.rooms

abbrev pub invariant-receiver : goal.invariant-receiver
invariant-receiver l = AtReceiver l.number (beside l.w l.rows) l.answer l.i
