use Rattle.std.proofs.Common.{arith}
use Rattle.mon_engine.proofs.state.State.tell_change.Goals as goal

pub recovery_notice-requires-clause-host : goal.recovery_notice-requires-clause-host
recovery_notice-requires-clause-host c = (let host = (c.requires.sound.objects _ _ c.found-found.ensures.spec).host_stands.within in omega (arith, host, c.requires.tellable.objects))
