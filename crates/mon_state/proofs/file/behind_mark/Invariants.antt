use Rattle.std.proofs.Common.{◌≡◌, [], length}
use Rattle.mon_state.specs.FileReading.{behind_mark}
use Rattle.mon_state.proofs.file.behind_mark.Given as goal

abbrev pub invariant-loop-line : goal.invariant-loop-line
invariant-loop-line l = behind_mark [] l.rest ≡ behind_mark [] l.fn.text

abbrev pub decreases-loop-line : goal.decreases-loop-line
decreases-loop-line l = length l.rest
