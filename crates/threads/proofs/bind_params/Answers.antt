use Prim.Native.Nat.{ℕ, suc, ◌-◌, ◌<◌}
use native.Mathlib.Omega.{arith}
use mathlib.Core.Path.{◌≡◌, sym, ap, ap₂, ◌∙◌}
use mathlib.Core.List.{List, map}
use lib.ListN.{length, get_or, set, take}
use borrow.Author.Rules.{rules}
use Rattle.model.specs.Calculus.{bind}
use Rattle.laws.proofs.Lists.{All-front}
use Rattle.threads.proofs.Laws.{bound_from, bound-none, bound-turn}
use Rattle.threads.proofs.bind_params.Goals as goal

pub loop-k-init : goal.loop-k-init
loop-k-init c =
    let x = c.args in
    let eight : length x.p.args ≡ 8 = search rules in
    sym (bound-none x.p.arity x.p.args x.q.args x.sent.now x.env.now (omega arith))

pub bounds-sent-from : goal.bounds-sent-from
bounds-sent-from c =
    let x = c.args in
    let l = c.loop-k in
    let eight : length x.q.args ≡ 8 = search rules in
    let h = All-front (λ y. y < length x.sent.now) x.q.arity x.q.args (l.k - 1) 0 c.requires.all.1 (omega arith) (omega arith) in
    omega arith

pub bounds-env-from : goal.bounds-env-from
bounds-env-from c =
    let x = c.args in
    let l = c.loop-k in
    let eight : length x.p.args ≡ 8 = search rules in
    let h = All-front (λ y. y < length x.env.now) x.p.arity x.p.args (l.k - 1) 0 c.requires.all.0 (omega arith) (omega arith) in
    omega arith

pub loop-k-preserved : goal.loop-k-preserved
loop-k-preserved c =
    let x = c.args in
    let l = c.loop-k in
    let n = x.p.arity in
    let eight-p : length x.p.args ≡ 8 = search rules in
    let eight-q : length x.q.args ≡ 8 = search rules in
    let k : suc (l.k - 1) ≡ l.k = omega arith in
    let bound : l.env ≡ bound_from (suc (l.k - 1)) n x.p.args x.q.args x.sent.now x.env.now = rw k l.invariant in
    ap₂ (λ (y z : ℕ). set l.env y (get_or x.sent.now z 0)) c.from-in-loop-k.ensures c.from.ensures
    ∙ ap (λ (e : List ℕ). set e (get_or x.p.args (l.k - 1) 0) (get_or x.sent.now (get_or x.q.args (l.k - 1) 0) 0)) bound
    ∙ sym (bound-turn (l.k - 1) n x.p.args x.q.args x.sent.now x.env.now (omega arith) (omega arith) (omega arith))

pub returns : goal.returns
returns c =
    let x = c.args in
    let l = c.loop-k in
    let done : l.k ≡ 0 = omega arith in
    l.invariant
    ∙ ap (λ (k : ℕ). bound_from k x.p.arity x.p.args x.q.args x.sent.now x.env.now) done
    ∙ ap (λ (n : ℕ). bind (take x.p.arity x.p.args) (map (λ z. get_or x.sent.now z 0) (take n x.q.args)) x.env.now) c.requires.arity_value.0
