use Rattle.mon_notes.proofs.notes.Notes.last_id.Goals as goal

pub returns : goal.returns
returns c = rw (← c.self.view_is)
