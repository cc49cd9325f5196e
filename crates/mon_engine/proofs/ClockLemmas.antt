-- The clock of the whole world.
use Rattle.std.proofs.Common.{◌≡◌, ℕ, ◌≤◌, ◌<◌, List, [], ◌∷◌, Option, Some, None, All, length, fold, refl, ap, sym, ◌∙◌, subst, arith, max, zero, suc}
use Rattle.std.proofs.lemmas.List.Sums.{fold-append}
use Rattle.mon_downtime.specs.declared.event.Event.{Event}
use Rattle.mon_downtime.specs.declared.downtime.Downtime.{Downtime}
use Rattle.mon_downtime.specs.declared.event.EventKind.{EventKind}
use Rattle.mon_downtime.specs.declared.event.EventKind.TheVariants.{Ends, Expires, Starts}
use Rattle.mon_downtime.specs.Records.{record_of}
use Rattle.mon_downtime.specs.Events.{due, after_event, work}
use Rattle.mon_downtime.specs.Clock as records
use Rattle.mon_downtime.specs.Clock.{and_after, next_events, happening, WhatIsDueHappens}
use Rattle.mon_inventory.specs.Configuration.{Configuration}
use Rattle.mon_engine.specs.World.{World}
use Rattle.mon_engine.specs.Notices.{told, downtime_notice}
use Rattle.mon_engine.specs.Sound.{IsTimely}
use Rattle.mon_engine.proofs.DowntimeLemmas.{after_event_known, cancelled_known}
use Rattle.mon_downtime.specs.Cancel.{cancelled}
use Rattle.mon_engine.specs.Clock.{due_in, event_notice, told_event, with_event, fired, drained, advanced, LawOfTheClock, NothingIsLeft, TheClockIsNotRead}

-- the definition takes the step that the code takes
drained_step : (each : WhatIsDueHappens) (inv : Configuration) (w : World) (t : ℕ) (e : Event) → due w.downtimes t ≡ Some e → drained inv w t ≡ drained inv (fired inv w e) t
unfolding drained fired
drained_step each inv w t e h = ap (fold (fired inv) w) (each w.downtimes t ∙ ap (λ (o : Option Event). and_after o (λ e. happening (after_event w.downtimes e) t)) h)

pub drained_none : (each : WhatIsDueHappens) (inv : Configuration) (w : World) (t : ℕ) → due w.downtimes t ≡ None → drained inv w t ≡ w
unfolding drained
drained_none each inv w t h = ap (fold (fired inv) w) (each w.downtimes t ∙ ap (λ (o : Option Event). and_after o (λ e. happening (after_event w.downtimes e) t)) h)

-- what each event that is due by t keeps is kept
pub drained_keeps : (inv : Configuration) (Good : World → Type 0) (t : ℕ) → ((w : World) (e : Event) → Good w → due_in w t ≡ Some e → Good (fired inv w e)) → (w : World) → Good w → Good (drained inv w t)
unfolding drained fired happening next_events
drained_keeps inv Good t stays w g = keeps (work w.downtimes) w g
  where
    keeps : (n : ℕ) (v : World) → Good v → Good (fold (fired inv) v (next_events n v.downtimes t))
    keeps zero v g = g
    keeps (suc n) v g = by_next (λ u gu. keeps n u gu) (due v.downtimes t) refl
      where
        by_next : ((u : World) → Good u → Good (fold (fired inv) u (next_events n u.downtimes t))) → (o : Option Event) → due v.downtimes t ≡ o → Good (fold (fired inv) v (and_after o (λ e. next_events n (after_event v.downtimes e) t)))
        by_next again None e = g
        by_next again (Some x) e = again (fired inv v x) (stays v x g e)

-- ---- the loop over what is due

-- w is a world on the way from start to what is drained by t
pub record IsTurn (inv : Configuration) (start w : World) (t : ℕ) : Type 0 where
  pub run : drained inv start t ≡ drained inv w t
  pub timely : IsTimely inv w

-- downtimes that an event brought on
pub event_timely : (inv : Configuration) (w : World) (e : Event) (ds : List Downtime) → IsTimely inv w → ds ≡ after_event w.downtimes e → IsTimely inv (record w { downtimes = ds })
event_timely inv w e ds h is = record {
  tellable = record { objects = h.tellable.objects; contacts = h.tellable.contacts };
  known = subst (λ (xs : List Downtime). All (λ (d : Downtime). d.object < length inv.objects) xs) (sym is) (after_event_known (length inv.objects) w.downtimes e h.known);
}

-- downtimes of which some are cancelled
pub cancelled_timely : (inv : Configuration) (w : World) (id : ℕ) (ds : List Downtime) → IsTimely inv w → ds ≡ cancelled w.downtimes id → IsTimely inv (record w { downtimes = ds })
cancelled_timely inv w id ds h is = record {
  tellable = record { objects = h.tellable.objects; contacts = h.tellable.contacts };
  known = subst (λ (xs : List Downtime). All (λ (d : Downtime). d.object < length inv.objects) xs) (sym is) (cancelled_known (length inv.objects) w.downtimes id h.known);
}

-- w0 is the world by its fields, w the same as the loop has it
pub turn_on : (each : WhatIsDueHappens) (inv : Configuration) (start w0 w w' : World) (t : ℕ) (e : Event) (ds : List Downtime) → IsTurn inv start w t → w0 ≡ w → due w0.downtimes t ≡ Some e → ds ≡ after_event w0.downtimes e
    → w' ≡ told_event inv (record w0 { downtimes = ds }) e → IsTurn inv start w' t
unfolding fired
turn_on each inv start w0 w w' t e ds i v d s n =
    let here : IsTimely inv w0 = subst (IsTimely inv) (sym v) i.timely in
    let after : IsTimely inv (record w0 { downtimes = ds }) = event_timely inv w0 e ds here s in
    let is : w' ≡ fired inv w0 e = n ∙ ap (λ (xs : List Downtime). told_event inv (record w0 { downtimes = xs }) e) s in
    record {
      run = i.run ∙ ap (λ (x : World). drained inv x t) (sym v) ∙ drained_step each inv w0 t e d ∙ ap (λ (x : World). drained inv x t) (sym is);
      timely = subst (IsTimely inv) (sym n) (record { tellable = record { objects = after.tellable.objects; contacts = after.tellable.contacts }; known = after.known });
    }

pub turn_last : (each : WhatIsDueHappens) (inv : Configuration) (start w0 w w' : World) (t : ℕ) → IsTurn inv start w t → w0 ≡ w → due w0.downtimes t ≡ None → w' ≡ w0 → w' ≡ drained inv start t
turn_last each inv start w0 w w' t i v d s = s ∙ sym (i.run ∙ ap (λ (x : World). drained inv x t) (sym v) ∙ drained_none each inv w0 t d)

-- ---- the law of the clock

fired_clock : (inv : Configuration) (w : World) (c : ℕ) (e : Event) → fired inv (record w { clock = c }) e ≡ record (fired inv w e) { clock = c }
unfolding fired downtime_notice
fired_clock inv w c e = by_kind e.kind (record_of (after_event w.downtimes e) e.id)
  where
    by_kind : (k : EventKind) (d : Option Downtime) → told (record (with_event w e) { clock = c }) (event_notice inv (record (with_event w e) { clock = c }) k e.moment d) ≡ record (told (with_event w e) (event_notice inv (with_event w e) k e.moment d)) { clock = c }
    by_kind k None = refl
    by_kind Ends (Some d) = refl
    by_kind Expires (Some d) = refl
    by_kind Starts (Some d) = refl

drained_clock : (inv : Configuration) (w : World) (c t : ℕ) → drained inv (record w { clock = c }) t ≡ record (drained inv w t) { clock = c }
unfolding drained
drained_clock inv w c t = each w (happening w.downtimes t)
  where
    each : (v : World) (es : List Event) → fold (fired inv) (record v { clock = c }) es ≡ record (fold (fired inv) v es) { clock = c }
    each v [] = refl
    each v (e ∷ es) = ap (λ (x : World). fold (fired inv) x es) (fired_clock inv v c e) ∙ each (fired inv v e) es

-- the downtimes go on as they would by themselves
drained_downtimes : (inv : Configuration) (w : World) (t : ℕ) → (drained inv w t).downtimes ≡ records.advanced w.downtimes t
unfolding drained fired records.advanced
drained_downtimes inv w t = each w (happening w.downtimes t)
  where
    each : (v : World) (es : List Event) → (fold (fired inv) v es).downtimes ≡ fold after_event v.downtimes es
    each v [] = refl
    each v (e ∷ es) = each (fired inv v e) es

drained_twice : (twice : records.LawOfTheClock) (inv : Configuration) (w : World) (a b : ℕ) → a ≤ b → drained inv (drained inv w a) b ≡ drained inv w b
unfolding drained
drained_twice twice inv w a b l =
    ap (λ (ds : List Downtime). fold (fired inv) (drained inv w a) (happening ds b)) (drained_downtimes inv w a)
    ∙ sym (fold-append (fired inv) w (happening w.downtimes a) (happening (records.advanced w.downtimes a) b))
    ∙ ap (fold (fired inv) w) (sym (twice w.downtimes a b l).0)

pub law_of_the_clock : (twice : records.LawOfTheClock) → LawOfTheClock
unfolding advanced
law_of_the_clock twice inv w a b l =
    let m : max (max w.clock a) b ≡ max w.clock b = omega arith in
    ap (λ (v : World). record v { clock = max (max w.clock a) b }) (drained_clock inv (drained inv w a) (max w.clock a) b)
    ∙ ap (λ (v : World). record v { clock = max (max w.clock a) b }) (drained_twice twice inv w a b l)
    ∙ ap (λ (k : ℕ). record (drained inv w b) { clock = k }) m

pub nothing_is_left : (done : records.NothingIsLeft) → NothingIsLeft
unfolding advanced
nothing_is_left done inv w t = ap (λ (ds : List Downtime). due ds t) (drained_downtimes inv w t) ∙ done w.downtimes t

pub the_clock_is_not_read : TheClockIsNotRead
the_clock_is_not_read inv w c t e = (refl, fired_clock inv w c e)
