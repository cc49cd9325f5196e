use Rattle.mon_notes.proofs.IdLemmas.{comments_stay_in_order}
use Rattle.mon_notes.proofs.laws.comments_stay_in_order.Goals as goal

pub returns : goal.returns
returns c = comments_stay_in_order
