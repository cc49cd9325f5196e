use Rattle.std.proofs.Common.{Bool, Option, ℕ, map, unwrap_or, sym, ap, ◌∙◌}
use Rattle.mon_notify.specs.declared.letter.Letter.{Letter}
use Rattle.mon_notify.specs.Letters.{letter_of}
use Rattle.mon_notify.specs.Objects.{is_service}
use Rattle.mon_notify.specs.Escalations.{matching}
use Rattle.mon_notify.specs.Interval.{least_of, intervals}
use Rattle.mon_notify.proofs.Least.{least_is}
use Rattle.mon_notify.proofs.interval.interval_in_force.Goals as goal

pub returns-clause-least : goal.returns-clause-least
returns-clause-least c coded some =
    let k = c.args.inventory.now in
    let own = c.object-spec.result.now.interval in
    let letter = c.letter_of-letter.ensures ∙ ap (λ (s : Bool). letter_of s c.args.code) (c.is_some.ensures ∙ sym (ap is_service c.object-spec.ensures.value)) in
    let least = c.least_interval.ensures ∙ ap (λ (l : Letter). least_of (map (λ e. e.interval) (matching k c.args.object c.args.number l))) letter in
    least_is (intervals k c.args.object c.args.number c.args.code) own c.unwrap_or.result some (c.unwrap_or.ensures ∙ ap (λ (o : Option ℕ). unwrap_or o own) least)
