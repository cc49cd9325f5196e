use Rattle.std.proofs.Common.{rules}
use Rattle.cmd_dispatch.proofs.BoardSteps.{splits}
use Rattle.cmd_dispatch.proofs.board.split_at.Goals as goal

pub split_seat-requires : goal.split_seat-requires
split_seat-requires c = (search rules, search rules, splits _ _ _ c.requires.1)
