use Rattle.mon_engine.proofs.ByClockLemmas.{the_clock_tells_what_is_ready}
use Rattle.mon_engine.proofs.StepLemmas.{nobody_is_forgotten, nothing_is_told_by_the_clock}
use Rattle.mon_engine.proofs.WithheldLemmas.{each_word_is_true}
use Rattle.mon_engine.proofs.notice_laws.nobody_is_forgotten.Goals as goal

pub returns-clause-forgotten : goal.returns-clause-forgotten
returns-clause-forgotten c = nobody_is_forgotten

pub returns-clause-words : goal.returns-clause-words
returns-clause-words c = each_word_is_true

pub returns-clause-ready : goal.returns-clause-ready
returns-clause-ready c = the_clock_tells_what_is_ready

pub returns-clause-without : goal.returns-clause-without
returns-clause-without c = nothing_is_told_by_the_clock
