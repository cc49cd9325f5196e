-- What stays true in the loop of `Skipping::feed`.
use Rattle.std.proofs.Common.{◌≡◌, ◌++◌, ◌+◌, ℕ, List, length}
use Rattle.cmd_lines.specs.Skips.{Skips}
use Rattle.cmd_lines.proofs.skip.Skipping.feed.Given as goal

abbrev pub invariant-lines : goal.invariant-lines
invariant-lines l = (taken : List ℕ) × (l.fn.piece ≡ taken ++ l.rest) × (l.self.fed ≡ l.fn.self.fed + length taken) × ((n : ℕ) (f : List ℕ) → Skips l.fn.self n f → Skips l.self n (f ++ taken))

abbrev pub decreases-lines : goal.decreases-lines
decreases-lines l = length l.rest
