use Rattle.std.proofs.Common.{◌≡◌, ◌≤◌, length, vec_capacity}
use Rattle.cmd_answer.proofs.files.open_all.Given as goal

abbrev pub invariant-loop-path : goal.invariant-loop-path
invariant-loop-path g l = (length l.files.items ≡ l.path-index) × (length l.paths ≤ vec_capacity l.files)
