-- The number without its first `arity` bytes is 0, so the others are.
use Rattle.std.proofs.Common.{◌/◌, ◌*◌, ◌^◌, sym, ap, ◌∙◌}
use borrow.Author.Tests.{eqb-true}
use Rattle.scans.proofs.Args.{rest-zeros, used-up}
use Rattle.scans.proofs.rest_zero.Goals as goal

pub returns-then-r-lt8 : goal.returns-then-r-lt8
returns-then-r-lt8 c e =
    let r = c.args.r in
    rest-zeros r (ap (λ n. n / 2 ^ (8 * r.arity)) (sym c.from_le_bytes.ensures) ∙ eqb-true _ 0 e)

pub returns : goal.returns
returns c e = used-up c.args.r c.if-r-lt8.false
