use Rattle.std.proofs.lemmas.List.Edits.{map_over_more}
use Rattle.mon_carry.specs.Carried.{downtime_carried}
use Rattle.mon_carry.proofs.downtimes.carry_downtimes.Goals as goal

pub loop-downtime-preserved : goal.loop-downtime-preserved
loop-downtime-preserved c =
    rw (c.move_downtime.ensures, c.moved-place.ensures, ← c.downtime-item.is)
    (map_over_more (downtime_carried c.args.old.now.objects c.args.new.now.objects) c.args.downtimes.now c.loop-downtime.downtimes c.loop-downtime.downtime-index c.downtime-item.result c.loop-downtime-test.true c.loop-downtime.invariant c.downtime-item.is)
