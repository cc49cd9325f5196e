use Rattle.cmd_dispatch.proofs.BoardSteps.{begins, empty_shows}
use Rattle.cmd_dispatch.proofs.board.Board.create.Goals as goal

pub of_words-requires : goal.of_words-requires
of_words-requires c = begins c.args.inventory.now (empty_shows c.nothing_is_counted_at_first.ensures c.args.inventory.now)
