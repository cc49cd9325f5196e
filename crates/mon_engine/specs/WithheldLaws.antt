-- What it means that a test holds a PROBLEM back: laws over the definitions, for any world.
use Rattle.std.specs.Prelude.{◌≡◌, ◌≢◌, ◌⊎◌, ℕ, ◌+◌, ◌<◌, true, false, [], Some, slice_get}
use Rattle.mon_downtime.specs.Records.{depth_of}
use Rattle.mon_inventory.specs.declared.records.ObjectSpec.{ObjectSpec}
use Rattle.mon_inventory.specs.Configuration.{Configuration, directives_at}
use Rattle.mon_notify.specs.Interval.{interval_in_force}
use Rattle.mon_notify.specs.Letters.{letter_of, has_letter}
use Rattle.mon_notify.specs.Recipients.{recipients}
use Rattle.mon_notify.specs.Viable.{have_gone_by, is_delayed, is_of_code, is_over}
use Rattle.mon_engine.specs.declared.notices.Occasion.{Occasion}
use Rattle.mon_engine.specs.declared.object.Object.{Object}
use Rattle.mon_engine.specs.declared.withheld.Withheld.{Withheld}
use Rattle.mon_engine.specs.declared.withheld.Withheld.TheVariants as by
use Rattle.mon_engine.specs.Notices.{is_volatile_on}
use Rattle.mon_engine.specs.Objects.{back_since, host_is_up, is_acknowledged, is_service}
use Rattle.mon_engine.specs.Withheld.{withheld}
use Rattle.mon_engine.specs.World.{World}

-- what each word says of an object, by its line of the inventory and its state
abbrev pub Says : Configuration → World → Occasion → (object : ℕ) → ObjectSpec → Object → Withheld → Type 0
Says inv w occasion object spec o by.Program = w.program.notifications ≡ false
Says inv w occasion object spec o by.Switch = o.notify ≡ false
Says inv w occasion object spec o by.Downtime = (0 < depth_of w.downtimes object) ⊎ ((is_service spec ≡ true) × (0 < depth_of w.downtimes spec.host_object))
Says inv w occasion object spec o by.Host = (is_service spec ≡ true) × (host_is_up w.objects spec ≡ false)
Says inv w occasion object spec o by.Letter = has_letter spec.letters (letter_of (is_service spec) o.status.code) ≡ false
Says inv w occasion object spec o by.Acknowledged = is_acknowledged o.acknowledgement ≡ true
Says inv w occasion object spec o by.Soft = o.status.hard ≡ false
Says inv w occasion object spec o by.NotBefore = is_delayed o.not_before w.clock ≡ true
Says inv w occasion object spec o by.Interval =
    (is_volatile_on occasion inv object ≡ false) × (o.number ≢ 0) × (is_of_code o.notified o.status.code ≡ true)
    × ((interval_in_force inv object o.number o.status.code ≡ 0) ⊎ (is_over o.last (interval_in_force inv object o.number o.status.code) w.clock ≡ false))
Says inv w occasion object spec o by.Delay = have_gone_by o.moments.since (directives_at inv (Some object)).first_notification_delay w.clock ≡ false
Says inv w occasion object spec o by.Settle = (o.number ≡ 0) × (is_service spec ≡ true) × (have_gone_by (back_since (slice_get w.objects spec.host_object)) inv.settle w.clock ≡ false)
Says inv w occasion object spec o by.Nobody = recipients inv w.contacts object (o.number + 1) (letter_of (is_service spec) o.status.code) true ≡ []

-- where a test holds the PROBLEM of an object back, what its word says is so
abbrev pub EachWordIsTrue : Type 0
EachWordIsTrue = (inv : Configuration) (w : World) (occasion : Occasion) (object : ℕ) (spec : ObjectSpec) (o : Object) (why : Withheld) →
    slice_get inv.objects object ≡ Some spec → slice_get w.objects object ≡ Some o → withheld inv w occasion object ≡ Some why →
    Says inv w occasion object spec o why
