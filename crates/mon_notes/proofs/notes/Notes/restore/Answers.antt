use Rattle.mon_notes.proofs.notes.Notes.restore.Goals as goal

pub invariant_of-result : goal.invariant_of-result
invariant_of-result c = record { list = rw c.of.ensures c.requires; listed = rw c.of.ensures (rw c.deref.ensures.value at c.in_ok-lists.ensures) }
