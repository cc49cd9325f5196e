-- Why `parts_of_items` keeps its contract.
use Rattle.std.proofs.lemmas.List.Elements.{filter_map-append}
use Rattle.cmd_lines.specs.Items.{command_in, refusal_in}
use Rattle.cmd_lines.proofs.theorems.parts_of_items.Goals as goal

pub returns-clause-commands : goal.returns-clause-commands
returns-clause-commands c = filter_map-append command_in

pub returns-clause-refusals : goal.returns-clause-refusals
returns-clause-refusals c = filter_map-append refusal_in
