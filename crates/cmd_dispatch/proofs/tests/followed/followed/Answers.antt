use Rattle.std.proofs.Common.{[], Some, None, ap, inr}
use Rattle.cmd_dispatch.proofs.tests.followed.followed.Goals as goal

-- the teller has taken nothing, and takes only what the journal of the run prints
pub follow-requires-clause-allowed : goal.follow-requires-clause-allowed
follow-requires-clause-allowed g c κs within = inr (record {
  before = [];
  known = ap Some c.new.ensures.items;
  text = λ taken part of_feeds journal begins. (c.in_ok-inventory.inventory, None, taken, journal, begins);
})
