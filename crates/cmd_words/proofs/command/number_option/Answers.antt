use Rattle.std.proofs.Common.{ap}
use Rattle.clap.specs.Words.{is_integer_parser}
use Rattle.cmd_words.proofs.command.number_option.Goals as goal

pub range-requires-clause-bounds : goal.range-requires-clause-bounds
range-requires-clause-bounds c = c.new-2.ensures.exhausted

pub range-requires-clause-integer : goal.range-requires-clause-integer
range-requires-clause-integer c = ap is_integer_parser c.value_parser.ensures
