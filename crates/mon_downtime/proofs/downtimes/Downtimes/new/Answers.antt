use Rattle.mon_downtime.proofs.downtimes.Downtimes.new.Goals as goal

pub invariant_of-result : goal.invariant_of-result
invariant_of-result c = rw c.new.ensures.items c.new-2.ensures
