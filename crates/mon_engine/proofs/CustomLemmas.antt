-- A custom notice leads from a world that holds together to another.
use Rattle.std.proofs.Common.{ℕ, ◌+◌, ◌≤◌, Bool, true, false, if◌then◌else◌, Some, refl, subst, arith}
use Rattle.std.proofs.lemmas.Option.{slice_get_within}
use Rattle.cmd_types.specs.declared.limits.TheConstants.{GREATEST_NUMBER}
use Rattle.mon_inventory.specs.Configuration.{Configuration}
use Rattle.mon_notify.specs.Custom.{increments}
use Rattle.mon_engine.specs.declared.object.Object.{Object}
use Rattle.mon_engine.specs.declared.objects.Setting.TheVariants as settings
use Rattle.mon_engine.specs.Objects.{custom_number, with_setting}
use Rattle.mon_engine.specs.World.{World}
use Rattle.mon_engine.specs.Notices.{told, after_custom}
use Rattle.mon_engine.specs.Sound.{IsNoticeOf, IsWorld, Follows, ever, raised}
use Rattle.mon_engine.proofs.ActLemmas.{custom_cases}
use Rattle.mon_engine.proofs.NoticeLemmas.{IfAny, custom_notice_as, sound_as}
use Rattle.mon_engine.proofs.StateLemmas.{changed_states, same_status}
use Rattle.mon_engine.proofs.PartLemmas.{next_world, with_states, with_more_notices}

-- it is one more at most
number_small : (n options : ℕ) (o : Object) → o.number ≤ GREATEST_NUMBER + n → custom_number options o ≤ GREATEST_NUMBER + (n + 1)
number_small n options o few = by (increments options)
  where
    by : (b : Bool) → (if b then o.number + 1 else o.number) ≤ GREATEST_NUMBER + (n + 1)
    by true = omega (arith, few)
    by false = omega (arith, few)

pub custom_follows : (inv : Configuration) (w : World) (object options : ℕ) → IsWorld inv w → Follows inv w (after_custom inv w object options)
custom_follows inv w object options h =
    let next = next_world inv w h in
    custom_cases (Follows inv w) inv w object options (record { world = next; entries = refl; before = refl })
    (λ spec o known at n e. (let number = custom_number options o in
    let sound = sound_as _ (custom_notice_as inv w object number options spec o (slice_get_within inv.objects object spec known)) in
    record {
      world = with_states inv (ever w + 1) (raised w + 1) (raised w + 1) (told w (Some n)) _ (omega arith) (with_more_notices inv (ever w + 1) (raised w + 1) w _ next (subst (IfAny (IsNoticeOf inv)) e sound))
          (changed_states (raised w + 1) (raised w + 1) inv.objects w.objects object (with_setting (settings.Number number)) (omega arith) next.states (λ spec o a s. same_status spec o _ refl refl s)
          (λ x few. number_small (raised w) options o (h.states.numbers object o at)));
      entries = refl;
      before = refl;
    }))
