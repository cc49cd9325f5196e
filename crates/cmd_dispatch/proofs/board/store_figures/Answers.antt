use Rattle.std.proofs.Common.{rules}
use Rattle.cmd_dispatch.proofs.board.store_figures.Goals as goal

pub put-requires-clause-shows : goal.put-requires-clause-shows
put-requires-clause-shows c = search rules
