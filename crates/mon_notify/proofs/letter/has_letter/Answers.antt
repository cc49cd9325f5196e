use Rattle.mon_notify.proofs.letter.has_letter.Goals as goal

pub returns-in-R : goal.returns-in-R
returns-in-R c = rw c.in-R.is
