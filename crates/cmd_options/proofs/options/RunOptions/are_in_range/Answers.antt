use Rattle.std.proofs.Common.{rules}
use Rattle.cmd_options.proofs.options.RunOptions.are_in_range.Goals as goal

pub returns-then-is_limit : goal.returns-then-is_limit
returns-then-is_limit c = search rules

pub returns-else-is_limit : goal.returns-else-is_limit
returns-else-is_limit c = search rules
