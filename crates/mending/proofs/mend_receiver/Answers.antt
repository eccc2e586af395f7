use mathlib.Core.Path.{◌≡◌, refl}
use native.Mathlib.Omega.{arith}
use Rattle.pairs.proofs.Beside.{given-beside}
use Rattle.mending.proofs.Growth.{grew_trans}
use Rattle.mending.proofs.Skipping.{stale-grew, sets_more}
use Rattle.mending.proofs.mend_receiver.Goals as goal

pub loop-g-preserved : goal.loop-g-preserved
loop-g-preserved c =
    let l = c.loop-g in
    let a = l.invariant.grew in
    let r = c.requires.receiver in record {
      grew = grew_trans a c.mend_set.ensures.grew;
      noted = λ chosen k.
          sets_more (given-beside c.args.w.now l.so_far.rows (omega (arith, a.size))) r.held r.receives l.so_far.names chosen k.gathered.sets l.g
          (l.invariant.noted chosen k) c.mend_set.ensures.grew (c.mend_set.ensures.noted chosen (stale-grew k a));
    }

pub returns-clause-noted : goal.returns-clause-noted
returns-clause-noted c chosen k q hq by =
    let l = c.loop-g in
    let done : l.g ≡ 12 = omega arith in
    l.invariant.noted chosen k (k.gathered.sets q.number) (rw done (k.gathered.few q.number)) q hq by refl
