use Rattle.std.proofs.Common.{ℕ, false, ap, sym, ◌∙◌, subst}
use Rattle.std.specs.Option.{unwrap_or}
use Rattle.mon_inventory.specs.Configuration.{Configuration}
use Rattle.mon_inventory.specs.Lists.{StandsAt}
use Rattle.mon_inventory.specs.Lookups.{IsOptionOn}
use Rattle.mon_inventory.proofs.Said.{said_on}
use Rattle.mon_inventory.proofs.inventory.Inventory.is_on.Goals as goal

pub returns-clause-value : goal.returns-clause-value
returns-clause-value c = rw (← c.self.view_is) (c.unwrap_or.ensures ∙ ap (λ o. unwrap_or o false) c.said_of.ensures)

pub returns-clause-found : goal.returns-clause-found
returns-clause-found c = λ on.
    subst (λ (k : Configuration). (n : ℕ) × StandsAt (IsOptionOn c.args.option.now) k.options n) c.self.view_is
    (said_on c.self.inside.index.options.items c.args.option.now (ap (λ o. unwrap_or o false) (sym c.said_of.ensures) ∙ sym c.unwrap_or.ensures ∙ on))
