use Rattle.std.proofs.Common.{◌≡◌, ◌-◌, [], length}
use Rattle.mon_state.specs.Reading.{many_at, next_switch}
use Rattle.mon_state.proofs.reading.read_contacts.Given as goal

abbrev pub invariant-loop-spec : goal.invariant-loop-spec
invariant-loop-spec l = record {
  long : length l.contacts.items ≡ l.spec-index;
  left : many_at (next_switch l.inventory.contacts) (length l.inventory.contacts - l.spec-index) l.contacts.items l.cursor.rest ≡ many_at (next_switch l.inventory.contacts) (length l.inventory.contacts) [] l.fn.cursor.rest;
}
