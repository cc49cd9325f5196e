use Rattle.std.proofs.Common.{arith}
use Rattle.cmd_answer.proofs.reading.read_all.Goals as goal

pub returns-in-Ok-eq0-clause-bound : goal.returns-in-Ok-eq0-clause-bound
returns-in-Ok-eq0-clause-bound g c = omega (arith, c.reads.invariant.bound, c.reads-test.true)

pub returns-in-Err-2-clause-read : goal.returns-in-Err-2-clause-read
returns-in-Err-2-clause-read g c = tt
