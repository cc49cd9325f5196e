use Rattle.std.proofs.Common.{◌≡◌, ◌-◌, [], length}
use Rattle.mon_state.specs.Reading.{many_at, next_owed}
use Rattle.mon_state.proofs.owed_lines.read_each_owed.Given as goal

abbrev pub invariant-loop-spec : goal.invariant-loop-spec
invariant-loop-spec l = record {
  long : length l.owed.items ≡ l.spec-index;
  left : many_at (next_owed l.inventory.objects) (length l.inventory.objects - l.spec-index) l.owed.items l.cursor.rest ≡ many_at (next_owed l.inventory.objects) (length l.inventory.objects) [] l.fn.cursor.rest;
}
