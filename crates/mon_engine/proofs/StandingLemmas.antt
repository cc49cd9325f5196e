-- A downtime ends by its time or by a cancellation.
use Rattle.std.proofs.Common.{◌≡◌, ℕ, true, false, List, ◌++◌, Some, ◌⊎◌, inl, inr, refl, ap, sym, ◌∙◌, subst, arith}
use Rattle.cmd_types.specs.declared.entry.Entry.{Entry}
use Rattle.mon_downtime.specs.declared.downtime.Downtime.{Downtime}
use Rattle.mon_downtime.specs.declared.downtime.Fate.{Fate}
use Rattle.mon_downtime.specs.declared.downtime.Fate.TheVariants.{Pending, Active, Over}
use Rattle.mon_downtime.specs.Records.{record_of, is_over}
use Rattle.mon_downtime.specs.Due.{DueIsFirst}
use Rattle.mon_downtime.specs.Times.{StartsAreInTime, WhatIsNotDueIsToCome}
use Rattle.mon_downtime.specs.Clock as records
use Rattle.mon_downtime.specs.Problem.{all_started}
use Rattle.mon_downtime.specs.Cancel.{depends, cancelled}
use Rattle.mon_inventory.specs.Configuration.{Configuration}
use Rattle.mon_engine.specs.World.{World}
use Rattle.mon_engine.specs.Effects.{Act}
use Rattle.mon_engine.specs.Step.{counted, acted, step, meaning}
use Rattle.mon_engine.specs.Laws.{moment_of, AppliesOne}
use Rattle.mon_engine.specs.DowntimeLaws.{KeepsItsTime, HasBegun, TimeIsOver, CancelsDowntime, IsStillThere, DowntimeStands, DowntimesStand}
use Rattle.mon_engine.proofs.EntryLemmas.{found, found_clock, entry_cases}
use Rattle.mon_engine.proofs.FoundLemmas.{known_downtime}
use Rattle.mon_engine.proofs.MoveLemmas.{Moves, act_moves, IsEntered, AreEntered}
use Rattle.mon_engine.proofs.StageLemmas.{IsStage, Goes, goes_on, advanced_goes, more_go, OutlastsFrom, started_goes, cancel_goes}
use Rattle.mon_engine.proofs.TimeLemmas.{IsOnTime, acted_on_time, acted_clock, keeps_time, meaning_on_time}
use Rattle.mon_engine.proofs.EndLemmas.{step_leaves}

-- ---- an act

moves_go : (inv : Configuration) (d : Downtime) (t : ℕ) (v b : World) (a : Act) → OutlastsFrom d t v.clock → Goes d t ⊥ v.downtimes → Moves inv v b a → Goes d t (CancelsDowntime inv v.downtimes d a) b.downtimes
moves_go inv d t v b a young g (inl same) = subst (Goes d t (CancelsDowntime inv v.downtimes d a)) (sym same) (goes_on d t ⊥ (CancelsDowntime inv v.downtimes d a) v.downtimes (λ (x : ⊥). absurd x) g)
moves_go inv d t v b a young g (inr (inl more)) =
    subst (Goes d t (CancelsDowntime inv v.downtimes d a)) (sym more.1) (goes_on d t ⊥ (CancelsDowntime inv v.downtimes d a) (v.downtimes ++ more.0) (λ (x : ⊥). absurd x) (more_go d t ⊥ v.downtimes more.0 more.2 g))
moves_go inv d t v b a young g (inr (inr (inl begun))) =
    subst (Goes d t (CancelsDowntime inv v.downtimes d a)) (sym begun.4) (goes_on d t ⊥ (CancelsDowntime inv v.downtimes d a) (all_started v.downtimes begun.0 v.clock) (λ (x : ⊥). absurd x) (started_goes d t ⊥ begun.0 v.clock v.downtimes young g))
moves_go inv d t v b a young g (inr (inr (inr gone))) =
    subst (Goes d t (CancelsDowntime inv v.downtimes d a)) (sym gone.4) (goes_on d t (depends v.downtimes gone.1 d.id ≡ true) (CancelsDowntime inv v.downtimes d a) (cancelled v.downtimes gone.1)
    (λ h. subst (CancelsDowntime inv v.downtimes d) (sym gone.2) (h, gone.3)) (cancel_goes d t v.downtimes gone.1 g))

-- ---- an entry

first_stage : (d : Downtime) (t : ℕ) (f : Fate) → d.fate ≡ f → is_over f ≡ false → IsStage ⊥ d t f
first_stage d t Pending e h = e
first_stage d t (Active since until) e h = inl e
first_stage d t Over e h = absurd (cc)

-- each of these keeps its time
abbrev AllKeepTime : List Downtime → (t : ℕ) → Type 0
AllKeepTime ds t = (x : Downtime) → record_of ds x.id ≡ Some x → KeepsItsTime ds x t x.fate

there_or : (C : Type 0) (d : Downtime) (t : ℕ) (ds : List Downtime) → AllKeepTime ds t → Goes d t C ds → IsStillThere ds d t ⊎ (TimeIsOver d t d.fate ⊎ C)
there_or C d t ds keep g = by_fate g.at.fate refl g.stage kept
  where
    -- its time is that of the record now
    kept : KeepsItsTime ds d t g.at.fate
    kept =
        let same_id : g.at.id ≡ d.id = ap (λ (y : Downtime). y.id) g.same in
        as_before g.at.fate (subst (λ (y : Downtime). KeepsItsTime ds y t g.at.fate) g.same (keep g.at (ap (record_of ds) same_id ∙ g.there)))
      where
        as_before : (f : Fate) → KeepsItsTime ds (record d { fate = g.at.fate }) t f → KeepsItsTime ds d t f
        as_before Pending h = record { before_end = h.before_end; trigger = h.trigger; before_window = h.before_window }
        as_before (Active since until) h =
            let s = h.started in
            record { started = record { entered = s.entered; before_end = s.before_end; trigger = s.trigger; window = s.window; at_window = s.at_window }; begun = h.begun; ends = h.ends; not_ended = h.not_ended }
        as_before Over h = tt

    still_there : (f : Fate) → g.at.fate ≡ f → is_over f ≡ false → (f ≡ d.fate) ⊎ ((d.fate ≡ Pending) × HasBegun ds d t f) → IsStillThere ds d t
    still_there f e h was = record { now = g.at; there = g.there; same = g.same; alive = ap is_over e ∙ h; fate = subst (λ (x : Fate). (x ≡ d.fate) ⊎ ((d.fate ≡ Pending) × HasBegun ds d t x)) (sym e) was }

    by_fate : (f : Fate) → g.at.fate ≡ f → IsStage C d t f → KeepsItsTime ds d t f → IsStillThere ds d t ⊎ (TimeIsOver d t d.fate ⊎ C)
    by_fate Pending e s k = inl (still_there Pending e refl (inl (sym s)))
    by_fate (Active since until) e s k = inl (still_there (Active since until) e refl (elim s [
      | inl was ↦ inl (sym was)
      | inr begun ↦ inr (begun.0, k)
    ]))
    by_fate Over e s k = inr s

downtime_stands : DueIsFirst → StartsAreInTime → WhatIsNotDueIsToCome → records.NothingIsLeft → (inv : Configuration) (w : World) (e : Entry) (d : Downtime) → IsOnTime w → record_of w.downtimes d.id ≡ Some d → is_over d.fate ≡ false → DowntimeStands inv w e d
unfolding step
downtime_stands first in_time to_come done inv w e d on_time there alive = subst (λ (ds : List Downtime). IsStillThere ds d (moment_of w e) ⊎ (TimeIsOver d (moment_of w e) d.fate ⊎ AppliesOne inv e (acted inv w e).1 (CancelsDowntime inv (found inv w e).downtimes d)))
    (sym (ap (λ (x : World). x.downtimes) (step_leaves inv w e))) (entry_cases inv w e
    (λ p. AllKeepTime p.0.downtimes (moment_of w e) → IsStillThere p.0.downtimes d (moment_of w e) ⊎ (TimeIsOver d (moment_of w e) d.fate ⊎ AppliesOne inv e p.1 (CancelsDowntime inv (found inv w e).downtimes d)))
    (λ why keep. elim (there_or ⊥ d (moment_of w e) _ keep (advanced_goes first inv d (moment_of w e) ⊥ _ at_found)) [
      | inl there ↦ inl there
      | inr over ↦ elim over [
        | inl time ↦ inr (inl time)
        | inr never ↦ absurd never
      ]
    ])
    (λ a b n h keep. (let went = moves_go inv d (moment_of w e) (found inv w e) b a late at_found (act_moves inv (found inv w e) b a h) in
    elim (there_or (CancelsDowntime inv (found inv w e).downtimes d a) d (moment_of w e) _ keep (advanced_goes first inv d (moment_of w e) (CancelsDowntime inv (found inv w e).downtimes d a) (counted b) went)) [
      | inl there ↦ inl there
      | inr over ↦ elim over [
        | inl time ↦ inr (inl time)
        | inr cancels ↦ inr (inr (record { applied = refl; does = a; asked_for = n; among = cancels }))
      ]
    ]))
    kept)
  where
    entered : AreEntered w.clock w.downtimes
    entered = on_time.entered

    kept : AllKeepTime (acted inv w e).0.downtimes (moment_of w e)
    kept x at = (let after = acted_on_time in_time done inv w e on_time in subst (λ (c : ℕ). KeepsItsTime (acted inv w e).0.downtimes x c x.fate) (acted_clock inv w e) (keeps_time to_come (acted inv w e).0 x after at))

    at_first : Goes d (moment_of w e) ⊥ w.downtimes
    at_first = record { ids = entered.ids; at = d; there = there; same = refl; stage = first_stage d (moment_of w e) d.fate refl alive }

    at_found : Goes d (moment_of w e) ⊥ (found inv w e).downtimes
    at_found = advanced_goes first inv d (moment_of w e) ⊥ w at_first

    late : OutlastsFrom d (moment_of w e) (found inv w e).clock
    late = let clock = found_clock inv w e in let young = known_downtime (IsEntered w.clock) w.downtimes d.id d entered.each there in (let early = young.0 in omega (arith, clock, early), λ flexible. (let long = young.1 flexible in omega (arith, clock, long)))

pub downtimes_stand : DueIsFirst → StartsAreInTime → WhatIsNotDueIsToCome → records.NothingIsLeft → DowntimesStand
downtimes_stand first in_time to_come done inv journal e d there alive = downtime_stands first in_time to_come done inv (meaning inv journal) e d (meaning_on_time in_time done inv journal) there alive
