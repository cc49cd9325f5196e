use Rattle.std.proofs.Common.{◌≡◌, ◌++◌, map, take, drop}
use Rattle.mon_carry.specs.Carried.{downtime_carried}
use Rattle.mon_carry.proofs.downtimes.carry_downtimes.Given as goal

abbrev pub invariant-loop-downtime : goal.invariant-loop-downtime
invariant-loop-downtime l = l.downtimes ≡ map (downtime_carried l.old.objects l.new.objects) (take l.downtime-index l.fn.downtimes) ++ drop l.downtime-index l.fn.downtimes
