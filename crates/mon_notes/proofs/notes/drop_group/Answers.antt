use Rattle.std.proofs.Common.{◌∙◌}
use Rattle.mon_notes.proofs.DropLemmas.{all_that_go}
use Rattle.mon_notes.proofs.notes.drop_group.Goals as goal

pub returns-else-listed-gt-FEW : goal.returns-else-listed-gt-FEW
returns-else-listed-gt-FEW c = c.drop_each.ensures ∙ all_that_go c.args.listed.now c.args.group c.args.row.now c.requires.among
