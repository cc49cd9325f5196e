use Rattle.std.proofs.Common.{◌≡◌, ◌<◌, ℕ, None, length}
use Rattle.std.specs.Prelude.{slice_index_or}
use Rattle.cmd_ledger.proofs.last_commands.forget.Given as goal

abbrev pub invariant-loop-number : goal.invariant-loop-number
invariant-loop-number l = (length l.lasts.items ≡ length l.fn.lasts.items) × ((k : ℕ) → k < l.number → slice_index_or l.lasts.items k None ≡ None)
