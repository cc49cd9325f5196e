use Rattle.std.proofs.Common.{◌≡◌, ◌-◌, []}
use Rattle.mon_state.specs.Reading.{many_at}
use Rattle.mon_state.specs.FileReading.{next_feed}
use Rattle.mon_state.proofs.feeds.read_each.Given as goal

abbrev pub invariant-loop : goal.invariant-loop
invariant-loop l = many_at next_feed (l.count - l.counter) l.feeds.items l.cursor.rest ≡ many_at next_feed l.count [] l.fn.cursor.rest
