use Rattle.mon_downtime.proofs.downtimes.Downtimes.find.Goals as goal

pub returns : goal.returns
returns c = rw (← c.self.view_is) (rw c.deref.ensures.value at c.find_record.ensures)
