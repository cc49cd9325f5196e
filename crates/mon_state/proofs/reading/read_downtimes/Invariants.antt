use Rattle.std.proofs.Common.{◌≡◌, ◌-◌, []}
use Rattle.mon_state.specs.Reading.{many_at, next_downtime}
use Rattle.mon_state.proofs.reading.read_downtimes.Given as goal

abbrev pub invariant-loop : goal.invariant-loop
invariant-loop l = many_at (next_downtime l.inventory.objects) (l.count - l.counter) l.downtimes.items l.cursor.rest ≡ many_at (next_downtime l.inventory.objects) l.count [] l.fn.cursor.rest
