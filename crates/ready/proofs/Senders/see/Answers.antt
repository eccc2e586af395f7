-- `ready::Senders::see` meets its contract: one more is noted exactly where the thread sends.
use Prim.Native.Nat.{ℕ, ◌+◌}
use mathlib.Core.Path.{◌≡◌, refl, ap, ◌∙◌}
use mathlib.Core.Bool.{Bool, true, false}
use lib.ListN.{set}
use mir.Val.{bool_byte}
use Rattle.laws.specs.Lists.{one}
use Rattle.ready.specs.declared.Senders.{Senders}
use Rattle.ready.proofs.Senders.see.Goals as goal

one-is : (b : Bool) → bool_byte b ≡ one b
unfolding one
one-is true = refl
one-is false = refl

after : Senders → ℕ → Senders
after x k = record { at = set x.at x.noted x.seen; noted = x.noted + k; seen = x.seen + 1 }

pub returns : goal.returns
unfolding after
returns c = ap (after c.args.self.now) (c.from.ensures ∙ one-is c.args.q.sends)
