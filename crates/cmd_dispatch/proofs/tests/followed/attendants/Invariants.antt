use Rattle.std.proofs.Common.{◌≡◌, length}
use Rattle.cmd_dispatch.proofs.tests.followed.attendants.Given as goal

abbrev pub invariant-numbers : goal.invariant-numbers
invariant-numbers l = length l.all.items ≡ l.number
