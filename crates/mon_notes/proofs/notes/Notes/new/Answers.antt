use Rattle.std.proofs.Common.{refl}
use Rattle.mon_notes.proofs.notes.Notes.new.Goals as goal

pub returns-clause-last_id : goal.returns-clause-last_id
returns-clause-last_id c = refl
