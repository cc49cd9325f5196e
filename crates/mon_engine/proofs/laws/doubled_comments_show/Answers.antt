use Rattle.mon_engine.proofs.DoubledLemmas.{doubled_comments_show}
use Rattle.mon_engine.proofs.laws.doubled_comments_show.Goals as goal

pub returns : goal.returns
returns c = doubled_comments_show
