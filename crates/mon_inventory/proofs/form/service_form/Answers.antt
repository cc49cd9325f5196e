use Rattle.std.proofs.Common.{◌≡◌, ◌∷◌, rules}
use Rattle.std.specs.Option.{option_copied}
use Rattle.mon_inventory.specs.Texts.{parts_left}
use Rattle.mon_inventory.proofs.Forms.{service_more}
use Rattle.mon_inventory.proofs.form.service_form.Goals as goal

pub returns-in-Some : goal.returns-in-Some
returns-in-Some c =
    let all : parts_left 59 (option_copied c.args.fields.rest)
    ≡ c.in_ok-field.field-0.now ∷ (c.in_ok-field-2.field-0.now ∷ (c.in_ok-field-3.field-0.now ∷ (c.in_ok-field-4.field-0.now ∷ (c.in_ok-field-5.field-0.now ∷ (c.in_ok-field-6.field-0.now ∷ (c.in-Some.field-0.now ∷ parts_left 59 (option_copied c.field-7.new.self.rest))))))) = search rules in
    service_more _ _ _ _ _ _ _ _ _ all
