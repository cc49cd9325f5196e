use Rattle.mon_engine.proofs.RecoveryLemmas.{a_recovery_is_told}
use Rattle.mon_engine.proofs.notice_laws.a_recovery_is_told.Goals as goal

pub returns : goal.returns
returns c = a_recovery_is_told
