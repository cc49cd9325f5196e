use Rattle.std.proofs.Common.{◌≡◌, ◌-◌, []}
use Rattle.mon_state.specs.Reading.{many_at, next_index}
use Rattle.mon_state.proofs.owed_lines.read_owing.Given as goal

abbrev pub invariant-loop : goal.invariant-loop
invariant-loop l = many_at next_index (l.count - l.counter) l.contacts.items l.cursor.rest ≡ many_at next_index l.count [] l.fn.cursor.rest
