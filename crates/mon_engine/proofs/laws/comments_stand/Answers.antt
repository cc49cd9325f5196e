use Rattle.mon_engine.proofs.CommentLemmas.{comments_stand}
use Rattle.mon_engine.proofs.laws.comments_stand.Goals as goal

pub returns : goal.returns
returns c = comments_stand
