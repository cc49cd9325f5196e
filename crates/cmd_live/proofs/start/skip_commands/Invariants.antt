-- What stays true in the loop of `skip_commands`.
use Rattle.std.proofs.Common.{◌≡◌, ◌++◌, List, ℕ, Some}
use Rattle.cmd_lines.specs.Skips.{HasPassed}
use Rattle.cmd_live.proofs.start.skip_commands.Given as goal

abbrev pub invariant-pieces : goal.invariant-pieces
invariant-pieces g l = (text : List ℕ) → g.R.Read.remaining l.fn.reader ≡ Some text
    → (fed rest : List ℕ) × (text ≡ fed ++ rest) × (g.R.Read.remaining l.reader ≡ Some rest) × HasPassed l.fn.commands fed l.skip
