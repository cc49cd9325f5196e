-- The text of a world is that of the world that resumes from it, and of no world that resumes differently.
use Rattle.std.proofs.Common.{◌≡◌, ◌+◌, ap, arith}
use Rattle.mon_engine.specs.Sound.{ever}
use Rattle.mon_engine.specs.Saved.{going_on}
use Rattle.mon_state.specs.declared.version.StateVersion.TheVariants.{Two}
use Rattle.mon_state.specs.State.{text_of}
use Rattle.mon_state.specs.StateLaws.{AResumedWorldIsWrittenTheSame, ATextIsOfOneWorld}
use Rattle.mon_state.proofs.WholeLemmas.{text_with}
use Rattle.mon_state.proofs.AnswerLemmas.{spells, read_is}

pub a_resumed_world_is_written_the_same : AResumedWorldIsWrittenTheSame
unfolding text_of
a_resumed_world_is_written_the_same inv w = let same : ever w + 0 ≡ ever w = omega arith in ap (text_with Two inv w) same

pub a_text_is_of_one_world : ATextIsOfOneWorld
a_text_is_of_one_world inv text v w sound h k one other = read_is inv text (going_on v) w sound (spells inv text v sound h one) k other
