use Rattle.std.proofs.Common.{◌≡◌, arith}
use Rattle.mon_downtime.proofs.plan.Plan.copies.Goals as goal

pub loop-init : goal.loop-init
loop-init c = c.new-copies.ensures.items

pub returns : goal.returns
returns c =
    let done : c.loop.counter ≡ c.args.count = omega (arith, c.loop-test.false) in
    rw (← done) c.loop.invariant
