use Rattle.std.proofs.Common.{◌≡◌, Some, rules}
use Rattle.std.specs.Option.{option_copied}
use Rattle.mon_inventory.proofs.Cuts.{parts_next}
use Rattle.mon_inventory.proofs.form.LineFields.field.Goals as goal

pub returns : goal.returns
returns c =
    let is : option_copied c.args.self.now.rest ≡ Some c.in_ok-self.field-0.now = search rules in
    parts_next 59 _ _ c.in_ok-self.field-0.now _ is c.cut.ensures.front c.cut.ensures.back
