use Rattle.std.proofs.Common.{rules, ap}
use Rattle.cmd_dispatch.specs.BoardViews.{Sat}
use Rattle.cmd_dispatch.proofs.BoardSteps.{joins, checks, gathered}
use Rattle.cmd_dispatch.proofs.board.join_at.Goals as goal

pub join_seat-requires : goal.join_seat-requires
join_seat-requires c = (search rules, search rules, search rules, search rules, joins _ _ _ _ _ c.requires.writer.1 c.requires.reader.1)

pub load-requires : goal.load-requires
load-requires c = (search rules, search rules, checks _ _ _ _ (ap (λ (m : Sat). m.0.writes) c.join_seat.ensures.2))

pub returns-clause-seen : goal.returns-clause-seen
returns-clause-seen c = gathered c.args.place.now.me.0 c.args.theirs.me.0 _ _ _ c.join_seat.ensures.2 c.load.ensures.2
