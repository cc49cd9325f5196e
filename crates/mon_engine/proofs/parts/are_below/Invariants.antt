use Rattle.std.proofs.Common.{ℕ, ◌<◌, get_or}
use Rattle.mon_engine.proofs.parts.are_below.Given as goal

abbrev pub invariant-loop-number : goal.invariant-loop-number
invariant-loop-number l = (k d : ℕ) → k < l.number-index → get_or l.numbers k d < l.end
