use Rattle.std.proofs.Common.{Some, ap, sym, ◌∙◌, refl}
use Rattle.mon_inventory.specs.Line.{form_of}
use Rattle.mon_inventory.proofs.Cuts.{parts_next}
use Rattle.mon_inventory.proofs.form.form_of.Goals as goal

pub returns : goal.returns
returns c = c.form_of_word.ensures ∙ ap form_of (sym (parts_next 59 (Some c.args.line.now) _ _ _ refl c.cut.ensures.front c.cut.ensures.back))
