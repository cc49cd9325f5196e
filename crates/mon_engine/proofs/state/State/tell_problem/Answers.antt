use Rattle.std.proofs.Common.{arith}
use Rattle.mon_engine.proofs.state.State.tell_problem.Goals as goal

pub problem_notice-requires-clause-host : goal.problem_notice-requires-clause-host
problem_notice-requires-clause-host c = (let host = (c.requires.sound.objects _ _ c.found-found.ensures.spec).host_stands.within in omega (arith, host, c.requires.tellable.objects))
