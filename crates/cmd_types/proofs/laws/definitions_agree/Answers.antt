-- Why `definitions_agree` keeps its contract.
use Rattle.cmd_types.proofs.ByteLists.{Decides-lacks, Lacks-append, Lacks-front, Lacks-back, Lacks-without_returns, without_returns-append, without_returns-other, without_returns-split, without_returns-twice, without_returns-back}
use Rattle.cmd_types.proofs.Cuts.{before_lacks}
use Rattle.cmd_types.proofs.Numerals.{number_is, is_number_of, number_lacks, decimal_is, decimal_short}
use Rattle.cmd_types.proofs.LineLaws.{split_lines_are, split_lines_only, split_lines_ended, split_lines_last}
use Rattle.cmd_types.proofs.TableLaws.{name_laws, command_laws}
use Rattle.cmd_types.proofs.laws.definitions_agree.Goals as goal

pub returns : goal.returns
returns c = record {
  lacking = record { tested = λ b xs. (Decides-lacks b xs).0; join = Lacks-append; front = Lacks-front; back = Lacks-back; up_to = before_lacks; trimmed = Lacks-without_returns };
  returns = record { dropped = without_returns-append; kept = without_returns-other; split = without_returns-split; twice = without_returns-twice; back = without_returns-back };
  numbers = record { read = number_is; spelled = is_number_of; digits_alone = number_lacks; by_decimal = decimal_is; shortest = decimal_short };
  lines = record { parts = split_lines_are; only = split_lines_only; ended = split_lines_ended; last = split_lines_last };
  names = name_laws;
  commands = command_laws;
}
