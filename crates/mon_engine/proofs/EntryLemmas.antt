-- An entry by cases: rejected, or the act that it asks for is done. What time leaves alone.
use Rattle.std.proofs.Common.{◌≡◌, ℕ, ◌+◌, [], ◌∷◌, ◌++◌, None, Result, Ok, Err, max, refl, ap, sym, ◌∙◌, arith}
use Rattle.cmd_types.specs.declared.entry.Entry.{Entry}
use Rattle.mon_downtime.specs.declared.event.Event.{Event}
use Rattle.mon_downtime.specs.Clock.{WhatIsDueHappens, NothingIsLeft}
use Rattle.mon_inventory.specs.Configuration.{Configuration}
use Rattle.mon_engine.specs.declared.outcome.Reason.{Reason}
use Rattle.mon_engine.specs.declared.outcome.Outcome.{Outcome}
use Rattle.mon_engine.specs.declared.outcome.Outcome.TheVariants.{Applied, Rejected}
use Rattle.mon_engine.specs.World.{World}
use Rattle.mon_engine.specs.Effects.{Act, act, named}
use Rattle.mon_engine.specs.Clock.{due_in, fired, drained, advanced}
use Rattle.mon_engine.specs.Step.{act_on, settled, closed_at, counted, acted}
use Rattle.mon_engine.specs.Laws.{moment_of, RejectedEntriesChangeNothing}
use Rattle.mon_engine.proofs.ClockLemmas.{drained_none, drained_keeps, nothing_is_left}

-- ---- time

-- a world in which only the downtimes and the notices differ
abbrev pub IsTimed : World → World → Type 0
IsTimed w v = v ≡ record w { downtimes = v.downtimes; notices = v.notices }

pub fired_timed : (inv : Configuration) (w v : World) (e : Event) → IsTimed w v → IsTimed w (fired inv v e)
unfolding fired
fired_timed inv w v e h = ap (λ (x : World). record x { downtimes = (fired inv v e).downtimes; notices = (fired inv v e).notices }) h

drained_timed : (inv : Configuration) (w : World) (t : ℕ) → IsTimed w (drained inv w t)
drained_timed inv w t = drained_keeps inv (IsTimed w) t (λ v e g d. fired_timed inv w v e g) w refl

-- time changes the clock, the downtimes and the notices alone
pub advanced_leaves : (inv : Configuration) (w : World) (t : ℕ) → advanced inv w t ≡ record w { clock = max w.clock t; downtimes = (advanced inv w t).downtimes; notices = (advanced inv w t).notices }
unfolding advanced
advanced_leaves inv w t = ap (λ (x : World). record x { clock = max w.clock t }) (drained_timed inv w t)

-- where nothing is due by then, time changes the clock alone
pub advanced_idle : (each : WhatIsDueHappens) (inv : Configuration) (w : World) (t : ℕ) → due_in w t ≡ None → advanced inv w t ≡ record w { clock = max w.clock t }
unfolding advanced
advanced_idle each inv w t h = ap (λ (x : World). record x { clock = max w.clock t }) (drained_none each inv w t h)

-- ---- an entry

-- the world that the effect of an entry finds
abbrev pub found : Configuration → World → Entry → World
found inv w e = advanced inv w (moment_of w e)

pub entry_cases : (inv : Configuration) (w : World) (e : Entry) (P : World × Outcome → Type 0)
    → ((why : Reason) → P (closed_at inv (moment_of w e) (settled (found inv w e) e.sender e.place (Err why))))
    → ((a : Act) (b : World) → named inv e.stamped.command ≡ Ok a → act inv (found inv w e) a ≡ Ok b → P (closed_at inv (moment_of w e) (b, Applied)))
    → P (acted inv w e)
unfolding acted
entry_cases inv w e P rejected applied = by_named (named inv e.stamped.command) refl
  where
    by_act : (a : Act) → named inv e.stamped.command ≡ Ok a → (r : Result World Reason) → act inv (found inv w e) a ≡ r → P (closed_at inv (moment_of w e) (settled (found inv w e) e.sender e.place r))
    by_act a n (Err why) h = rejected why
    by_act a n (Ok b) h = applied a b n h

    by_named : (r : Result Act Reason) → named inv e.stamped.command ≡ r → P (closed_at inv (moment_of w e) (settled (found inv w e) e.sender e.place (act_on inv (found inv w e) r)))
    by_named (Err why) n = rejected why
    by_named (Ok a) n = by_act a n (act inv (found inv w e) a) refl

-- an entry that is applied, by what its act leaves
pub applied_by : (inv : Configuration) (w : World) (e : Entry) (a : Act) (b : World) → named inv e.stamped.command ≡ Ok a → act inv (found inv w e) a ≡ Ok b → acted inv w e ≡ closed_at inv (moment_of w e) (b, Applied)
unfolding acted
applied_by inv w e a b n h =
    ap (λ (r : Result Act Reason). closed_at inv (moment_of w e) (settled (found inv w e) e.sender e.place (act_on inv (found inv w e) r))) n
    ∙ ap (λ (r : Result World Reason). closed_at inv (moment_of w e) (settled (found inv w e) e.sender e.place r)) h

pub applied_from : (inv : Configuration) (w : World) (e : Entry) (a : Act) → (acted inv w e).1 ≡ Applied → named inv e.stamped.command ≡ Ok a
    → (b : World) × (act inv (found inv w e) a ≡ Ok b) × (acted inv w e ≡ closed_at inv (moment_of w e) (b, Applied))
applied_from inv w e a applied asked = entry_cases inv w e
    (λ p. p.1 ≡ Applied → (b : World) × (act inv (found inv w e) a ≡ Ok b) × (p ≡ closed_at inv (moment_of w e) (b, Applied)))
    (λ why k. absurd (cc))
    (λ x b n h k. (let same : x ≡ a = cc in (b, ap (λ (y : Act). act inv (found inv w e) y) (sym same) ∙ h, refl)))
    applied

pub found_clock : (inv : Configuration) (w : World) (e : Entry) → (found inv w e).clock ≡ moment_of w e
found_clock inv w e = ap (λ (x : World). x.clock) (advanced_leaves inv w (moment_of w e)) ∙ omega arith

pub found_notes : (inv : Configuration) (w : World) (e : Entry) → (found inv w e).notes ≡ w.notes
found_notes inv w e = ap (λ (x : World). x.notes) (advanced_leaves inv w (moment_of w e))

pub end_notes : (inv : Configuration) (b : World) (t : ℕ) → (advanced inv (counted b) t).notes ≡ b.notes
end_notes inv b t = ap (λ (x : World). x.notes) (advanced_leaves inv (counted b) t)

pub kept_objects : (inv : Configuration) (w : World) (t : ℕ) → (advanced inv w t).objects ≡ w.objects
kept_objects inv w t = ap (λ (x : World). x.objects) (advanced_leaves inv w t)

-- ---- a rejected entry

abbrev with_rejection : World → Entry → Reason → World
with_rejection a e why = record a { rejections = a.rejections ++ record { sender = e.sender; place = e.place; reason = why } ∷ []; entries = a.entries + 1 }

-- what it leaves
abbrev rejected : Configuration → World → Entry → Reason → World
rejected inv w e why = record w {
  clock = moment_of w e;
  downtimes = (found inv w e).downtimes;
  notices = (found inv w e).notices;
  rejections = w.rejections ++ record { sender = e.sender; place = e.place; reason = why } ∷ [];
  entries = w.entries + 1;
}

rejected_leaves : (each : WhatIsDueHappens) (done : NothingIsLeft) (inv : Configuration) (w : World) (e : Entry) (why : Reason) → advanced inv (with_rejection (found inv w e) e why) (moment_of w e) ≡ rejected inv w e why
rejected_leaves each done inv w e why =
    let clock : max (max w.clock (moment_of w e)) (moment_of w e) ≡ moment_of w e = omega arith in
    advanced_idle each inv (with_rejection (found inv w e) e why) (moment_of w e) (nothing_is_left done inv w (moment_of w e))
    ∙ ap (λ (x : World). record (with_rejection x e why) { clock = max x.clock (moment_of w e); downtimes = (found inv w e).downtimes; notices = (found inv w e).notices }) (advanced_leaves inv w (moment_of w e))
    ∙ ap (λ (c : ℕ). record (rejected inv w e why) { clock = c }) clock

pub rejected_entries_change_nothing : (each : WhatIsDueHappens) (done : NothingIsLeft) → RejectedEntriesChangeNothing
rejected_entries_change_nothing each done inv w e why = entry_cases inv w e (λ p. p.1 ≡ Rejected why → p.0 ≡ rejected inv w e why)
    (λ x k. (let same : x ≡ why = cc in ap (λ (y : Reason). advanced inv (with_rejection (found inv w e) e y) (moment_of w e)) same ∙ rejected_leaves each done inv w e why))
    (λ a b n h k. absurd (cc))
