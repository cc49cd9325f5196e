use Rattle.std.proofs.Common.{◌≡◌, ◌+◌, ◌≤◌, length, take, drop, Ok}
use Rattle.cmd_types.specs.TextLines.{split_lines, lines_left, left}
use Rattle.mon_inventory.specs.Configuration.{nothing, inventory}
use Rattle.mon_inventory.specs.Index.{configuration, IsIndexed}
use Rattle.mon_inventory.proofs.Lines.{read_from}
use Rattle.mon_inventory.proofs.parse.index_of.Given as goal

abbrev pub invariant-loop-line : goal.invariant-loop-line
invariant-loop-line l = record {
  read : read_from (l.count + 1) (configuration l.index) (lines_left l.line-iterator) ≡ inventory l.text;
  indexed : IsIndexed l.index;
  here : lines_left l.line-iterator ≡ drop l.count (split_lines l.text);
  fine : read_from 1 nothing (take l.count (split_lines l.text)) ≡ Ok (configuration l.index);
  few : l.count + left l.line-iterator ≤ length l.text + 1;
}
