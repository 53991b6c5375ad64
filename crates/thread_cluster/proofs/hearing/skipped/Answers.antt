use Rattle.std.proofs.Common.{◌≡◌, ℕ, ◌+◌, ◌-◌, suc, drop, ap, ◌∙◌, arith}
use Rattle.thread_cluster.proofs.Lists.{drop_first}
use Rattle.thread_cluster.proofs.hearing.skipped.Goals as goal

pub loop-i-preserved : goal.loop-i-preserved
loop-i-preserved g c =
    let k = c.args.count - (c.loop-i._i + 1) in
    let more : suc k ≡ c.args.count - c.loop-i._i = let t = c.loop-i-test.true in omega arith in
    ap (drop k) c.pop_front-first.ensures.rest
    ∙ (drop_first k c.loop-i.messages.items
    ∙ (ap (λ (j : ℕ). drop j c.loop-i.messages.items) more ∙ c.loop-i.invariant))

pub returns : goal.returns
returns g c =
    let none : 0 ≡ c.args.count - c.loop-i._i = let t = c.loop-i-test.false in omega arith in
    ap (λ (j : ℕ). drop j c.loop-i.messages.items) none ∙ c.loop-i.invariant
