-- A downtime is active only inside its time, after any journal.
use Rattle.std.proofs.Common.{◌≡◌, ◌≢◌, ℕ, ◌+◌, ◌<◌, ◌≤◌, Bool, true, false, eqb, leb, ltb, cond, not, ◌&&◌, max, List, [], ◌∷◌, ◌++◌, length, map, All, Option, Some, None, Ok, ◌⊎◌, inl, inr, if◌then◌else◌, refl, ap, sym, ◌∙◌, subst, arith}
use Rattle.std.specs.Option.{option_or}
use Rattle.std.proofs.lemmas.Bool.{eqb-true, eq-eqb, ne_eqb, and_parts}
use Rattle.std.proofs.lemmas.Bool.Decides.{nat_tests}
use Rattle.std.proofs.lemmas.List.Folds.{find-append}
use Rattle.std.proofs.lemmas.List.Elements.{All-nil, All-weaker}
use Rattle.cmd_types.specs.declared.entry.Entry.{Entry}
use Rattle.mon_checks.specs.States.{change_by}
use Rattle.mon_downtime.specs.declared.downtime.Downtime.{Downtime}
use Rattle.mon_downtime.specs.declared.downtime.Fate.{Fate}
use Rattle.mon_downtime.specs.declared.downtime.Fate.TheVariants.{Pending, Active, Over}
use Rattle.mon_downtime.specs.declared.event.Event.{Event}
use Rattle.mon_downtime.specs.declared.event.EventKind.{EventKind}
use Rattle.mon_downtime.specs.declared.event.EventKind.TheVariants.{Ends, Expires, Starts}
use Rattle.mon_downtime.specs.Records.{record_of, is_active, changed}
use Rattle.mon_downtime.specs.Events.{least, events, start_of, from_entry, active_since, since_of, fate_by, due, after_event}
use Rattle.mon_downtime.specs.Times.{StartedWith, StartedBy, StartedInTime, is_active_in, StartsAreInTime, IsAfter, WhatIsNotDueIsToCome}
use Rattle.mon_downtime.specs.Clock as records
use Rattle.mon_downtime.specs.Problem.{is_pending, all_started, started, started_by, waits_for}
use Rattle.mon_downtime.specs.Cancel.{depends, cancelled, cancelled_record}
use Rattle.mon_inventory.specs.Configuration.{Configuration}
use Rattle.mon_engine.specs.World.{World, initial}
use Rattle.mon_engine.specs.Results.{with_result, with_started}
use Rattle.mon_engine.specs.Effects as acts
use Rattle.mon_engine.specs.Effects.{Act, act}
use Rattle.mon_engine.specs.Clock.{due_in, fired, advanced}
use Rattle.mon_engine.specs.Step.{counted, acted, step, meaning_from, meaning}
use Rattle.mon_engine.specs.Laws.{moment_of, NothingIsDue}
use Rattle.mon_engine.specs.DowntimeLaws.{KeepsItsTime, DowntimesKeepTheirTime}
use Rattle.mon_engine.proofs.ActLemmas.{started_leaves, noticed_leaves, check_result_cases, act_leaves}
use Rattle.mon_engine.proofs.ClockLemmas.{drained_keeps, nothing_is_left}
use Rattle.mon_engine.proofs.DowntimeLemmas.{OnlyFates, changed_only, started_only, cancelled_only, waits_as}
use Rattle.mon_engine.proofs.EndLemmas.{step_leaves}
use Rattle.mon_engine.proofs.EntryLemmas.{found, found_clock, advanced_leaves, entry_cases}
use Rattle.mon_engine.proofs.FoundLemmas.{known_downtime}
use Rattle.mon_engine.proofs.IdLemmas.{AreIds, each_found, mapped_ids, more_ids, mapped_record, more_record}
use Rattle.mon_engine.proofs.MoveLemmas.{Moves, act_moves, IsEntered, AreEntered, moves_entered, advanced_entered}

-- ---- records by their ids

-- each is the one with its id
abbrev EachFound : List Downtime → Type 0
EachFound ds = All (λ (x : Downtime). record_of ds x.id ≡ Some x) ds

ids_found : (ds : List Downtime) → AreIds 0 ds → EachFound ds
ids_found ds ids = All-weaker (λ (r : Downtime). (0 < r.id) × (record_of ds r.id ≡ Some r)) (λ (r : Downtime). record_of ds r.id ≡ Some r) (λ r k. k.1) ds (each_found 0 ds ids)

id_found : (ds : List Downtime) (id : ℕ) (x : Downtime) → record_of ds id ≡ Some x → x.id ≡ id
id_found [] id x h = absurd (cc)
id_found (d ∷ ds) id x h = by_test (λ k. id_found ds id x k) (eqb d.id id) refl h
  where
    by_test : (record_of ds id ≡ Some x → x.id ≡ id) → (b : Bool) → eqb d.id id ≡ b → cond b (Some d) (record_of ds id) ≡ Some x → x.id ≡ id
    by_test again true e k = let same : d ≡ x = cc in subst (λ (y : Downtime). y.id ≡ id) same (eqb-true d.id id e)
    by_test again false e k = again k

unmapped : (f : Downtime → Downtime) → OnlyFates f → (ds : List Downtime) (id : ℕ) (y : Downtime) → record_of (map f ds) id ≡ Some y → (x : Downtime) × (record_of ds id ≡ Some x) × (y ≡ f x)
unmapped f only [] id y h = absurd (cc)
unmapped f only (d ∷ ds) id y h = by_test (λ k. unmapped f only ds id y k) (eqb d.id id) (ap (λ (x : Downtime). eqb x.id id) (only d)) h
  where
    by_test : (record_of (map f ds) id ≡ Some y → (x : Downtime) × (record_of ds id ≡ Some x) × (y ≡ f x)) → (b : Bool) → eqb (f d).id id ≡ b → cond (eqb (f d).id id) (Some (f d)) (record_of (map f ds) id) ≡ Some y → (x : Downtime) × (cond b (Some d) (record_of ds id) ≡ Some x) × (y ≡ f x)
    by_test again true e h = (d, refl, (let k = sym (ap (λ (b : Bool). cond b (Some (f d)) (record_of (map f ds) id)) e) ∙ h in cc))
    by_test again false e h = again (sym (ap (λ (b : Bool). cond b (Some (f d)) (record_of (map f ds) id)) e) ∙ h)

-- ---- those that have begun

-- an active one of this fate began in its time by t
abbrev IsBegun : List Downtime → Downtime → (t : ℕ) → Fate → Type 0
IsBegun ds d t Pending = Unit {0}
IsBegun ds d t (Active since until) = StartedInTime ds d since × (since ≤ t) × (until ≡ (if d.plan.times.fixed then d.plan.times.end_time else since + d.plan.times.duration))
IsBegun ds d t Over = Unit {0}

pub record AreBegun (t : ℕ) (ds : List Downtime) : Type 0 where
  pub ids : AreIds 0 ds
  pub each : (id : ℕ) (x : Downtime) → record_of ds id ≡ Some x → IsBegun ds x t x.fate

-- what has started by a trigger of the one list has by that of the other
abbrev TriggersStay : (ds es : List Downtime) → Type 0
TriggersStay ds es = (d : Downtime) (since id : ℕ) → StartedBy d since (record_of ds id) → StartedBy d since (record_of es id)

begun_on : (ds es : List Downtime) (d : Downtime) (t c : ℕ) (f g : Fate) → t ≤ c → TriggersStay ds es → IsBegun ds d t f → IsBegun es (record d { fate = g }) c f
begun_on ds es d t c Pending g l stay h = tt
begun_on ds es d t c (Active since until) g l stay h =
    let s = h.0 in
    let begun = h.1 in
    (record { entered = s.entered; before_end = s.before_end; trigger = λ some. stay d since d.plan.times.trigger_id (s.trigger some); window = s.window; at_window = s.at_window }, omega arith, h.2)
begun_on ds es d t c Over g l stay h = tt

later : (t c : ℕ) (ds : List Downtime) → t ≤ c → AreBegun t ds → AreBegun c ds
later t c ds l h = record { ids = h.ids; each = λ id x k. begun_on ds ds x t c x.fate x.fate l (λ d since i s. s) (h.each id x k) }

-- a fate that stays, is over, or begins in its time
abbrev Turns : List Downtime → Downtime → (t : ℕ) → Fate → Type 0
Turns ds x t fate = (fate ≡ x.fate) ⊎ ((fate ≡ Over) ⊎ ((x.fate ≡ Pending) × IsBegun ds x t fate))

abbrev AllTurn : List Downtime → (t : ℕ) → (Downtime → Downtime) → Type 0
AllTurn ds t f = (id : ℕ) (x : Downtime) → record_of ds id ≡ Some x → Turns ds x t (f x).fate

triggers_stay : (ds : List Downtime) (f : Downtime → Downtime) (t : ℕ) → OnlyFates f → AllTurn ds t f → TriggersStay ds (map f ds)
triggers_stay ds f t only turn d since id h = by_record (record_of ds id) refl h
  where
    by_record : (o : Option Downtime) → record_of ds id ≡ o → StartedBy d since o → StartedBy d since (record_of (map f ds) id)
    by_record None e h = absurd h
    by_record (Some x) e h = subst (StartedBy d since) (sym (mapped_record f only ds id x e)) (elim (turn id x e) [
      | inl same ↦ subst (StartedWith d since) (sym same) h
      | inr other ↦ elim other [
        | inl over ↦ subst (StartedWith d since) (sym over) tt
        | inr began ↦ absurd (subst (StartedWith d since) began.0 h)
      ]
    ])

turned : (ds : List Downtime) (f : Downtime → Downtime) (t : ℕ) → OnlyFates f → AllTurn ds t f → AreBegun t ds → AreBegun t (map f ds)
turned ds f t only turn h = record {
  ids = mapped_ids f only 0 ds h.ids;
  each = λ id y k. (let u = unmapped f only ds id y k in subst (λ (z : Downtime). IsBegun (map f ds) z t z.fate) (sym u.2) (one u.0 id u.1));
}
  where
    as_it_is : (x : Downtime) (id : ℕ) → record_of ds id ≡ Some x → IsBegun (map f ds) (record x { fate = (f x).fate }) t (f x).fate
    as_it_is x id k = elim (turn id x k) [
      | inl same ↦ begun_on ds (map f ds) x t t (f x).fate (f x).fate (omega arith) (triggers_stay ds f t only turn) (subst (IsBegun ds x t) (sym same) (h.each id x k))
      | inr other ↦ elim other [
        | inl over ↦ subst (IsBegun (map f ds) (record x { fate = (f x).fate }) t) (sym over) tt
        | inr began ↦ begun_on ds (map f ds) x t t (f x).fate (f x).fate (omega arith) (triggers_stay ds f t only turn) began.1
      ]
    ]

    one : (x : Downtime) (id : ℕ) → record_of ds id ≡ Some x → IsBegun (map f ds) (f x) t (f x).fate
    one x id k = subst (λ (z : Downtime). IsBegun (map f ds) z t (f x).fate) (sym (only x)) (as_it_is x id k)

more_begun : (t : ℕ) (ds new : List Downtime) → AreIds (length ds) new → All (λ (d : Downtime). d.fate ≡ Pending) new → AreBegun t ds → AreBegun t (ds ++ new)
more_begun t ds new ids pending h =
    let first : length ds ≡ 0 + length ds = omega arith in
    record { ids = more_ids 0 ds new h.ids (subst (λ (n : ℕ). AreIds n new) first ids); each = λ id y k. by_record id y (record_of ds id) refl k }
  where
    stay : TriggersStay ds (ds ++ new)
    stay d since id h = by_trigger (record_of ds id) refl h
      where
        by_trigger : (o : Option Downtime) → record_of ds id ≡ o → StartedBy d since o → StartedBy d since (record_of (ds ++ new) id)
        by_trigger None e h = absurd h
        by_trigger (Some x) e h = subst (StartedBy d since) (sym (more_record ds new id x e)) h

    by_record : (id : ℕ) (y : Downtime) (o : Option Downtime) → record_of ds id ≡ o → record_of (ds ++ new) id ≡ Some y → IsBegun (ds ++ new) y t y.fate
    by_record id y None e k =
        let there : record_of new id ≡ Some y = ap (λ (o : Option Downtime). option_or o (record_of new id)) (sym e) ∙ sym (find-append (λ (d : Downtime). eqb d.id id) ds new) ∙ k in
        subst (IsBegun (ds ++ new) y t) (sym (known_downtime (λ (d : Downtime). d.fate ≡ Pending) new id y pending there)) tt
    by_record id y (Some x) e k =
        let same : x ≡ y = (let it = more_record ds new id x e in cc) in
        subst (λ (z : Downtime). IsBegun (ds ++ new) z t z.fate) same (begun_on ds (ds ++ new) x t t x.fate x.fate (omega arith) stay (h.each id x e))

-- ---- what changes fates

kind_turns : (ds : List Downtime) (x : Downtime) (t m : ℕ) (kind : EventKind) → (kind ≡ Starts → (x.fate ≡ Pending) × (m ≤ t) × StartedInTime ds x m) → Turns ds x t (fate_by m kind x)
kind_turns ds x t m Ends start = inr (inl refl)
kind_turns ds x t m Expires start = inr (inl refl)
kind_turns ds x t m Starts start = (let s = start refl in inr (inr (s.0, (s.2, s.1, refl))))

event_turns : StartsAreInTime → (ds : List Downtime) (k : ℕ) (e : Event) → AreIds 0 ds → due ds k ≡ Some e → AllTurn ds k (changed e.id (fate_by e.moment e.kind))
event_turns in_time ds k e ids h id x there = by_test (eqb x.id e.id) refl
  where
    by_test : (b : Bool) → eqb x.id e.id ≡ b → Turns ds x k (cond b (record x { fate = fate_by e.moment e.kind x }) x).fate
    by_test true hit =
        let found : record_of ds e.id ≡ Some x = ap (record_of ds) (sym (eqb-true x.id e.id hit) ∙ id_found ds id x there) ∙ there in
        kind_turns ds x k e.moment e.kind (λ starts. (let it = in_time ds k e x (ids_found ds ids) h starts found in (it.0, it.1, it.2)))
    by_test false miss = inl refl

fired_begun : StartsAreInTime → (inv : Configuration) (k : ℕ) (w : World) (e : Event) → due_in w k ≡ Some e → (t : ℕ) → k ≤ t → AreBegun t w.downtimes → AreBegun t (fired inv w e).downtimes
unfolding fired after_event
fired_begun in_time inv k w e h t l b = turned w.downtimes (changed e.id (fate_by e.moment e.kind)) t (changed_only e.id (fate_by e.moment e.kind)) (λ id x there. up x (event_turns in_time w.downtimes k e b.ids h id x there)) b
  where
    up : (x : Downtime) → Turns w.downtimes x k (changed e.id (fate_by e.moment e.kind) x).fate → Turns w.downtimes x t (changed e.id (fate_by e.moment e.kind) x).fate
    up x (inl same) = inl same
    up x (inr (inl over)) = inr (inl over)
    up x (inr (inr began)) = inr (inr (began.0, begun_on w.downtimes w.downtimes x k t (changed e.id (fate_by e.moment e.kind) x).fate x.fate l (λ d since i s. s) began.1))

advanced_begun : StartsAreInTime → (inv : Configuration) (c t : ℕ) (w : World) → c ≤ max w.clock t → AreBegun c w.downtimes → AreBegun (advanced inv w t).clock (advanced inv w t).downtimes
unfolding advanced
advanced_begun in_time inv c t w l h = drained_keeps inv (λ (v : World). AreBegun (max w.clock t) v.downtimes) t (λ v e g d. fired_begun in_time inv t v e d (max w.clock t) (omega arith) g) w (later c (max w.clock t) w.downtimes l h)

-- one that waits for a problem: its window holds the clock, and it has no trigger
pub waits_inside : (object clock : ℕ) (d : Downtime) → waits_for object clock d ≡ true → (d.plan.times.trigger_id ≡ 0) × (d.plan.times.start_time ≤ clock) × (clock < d.plan.times.end_time)
waits_inside object clock d h =
    let before = and_parts (eqb d.object object && is_pending d.fate && not d.plan.times.fixed && eqb d.plan.times.trigger_id 0 && leb d.plan.times.start_time clock) (ltb clock d.plan.times.end_time) h in
    let from = and_parts (eqb d.object object && is_pending d.fate && not d.plan.times.fixed && eqb d.plan.times.trigger_id 0) (leb d.plan.times.start_time clock) before.0 in
    let alone = and_parts (eqb d.object object && is_pending d.fate && not d.plan.times.fixed) (eqb d.plan.times.trigger_id 0) from.0 in
    (eqb-true d.plan.times.trigger_id 0 alone.1, (let from_start = from.1 in grind (arith, nat_tests)), (let to_end = before.1 in grind (arith, nat_tests)))

problem_turns : (ds : List Downtime) (object clock : ℕ) → All (IsEntered clock) ds → AllTurn ds clock (started object clock)
problem_turns ds object clock entered id x there = by_test (waits_for object clock x) refl
  where
    by_test : (b : Bool) → waits_for object clock x ≡ b → Turns ds x clock (cond b (record x { fate = started_by clock x }) x).fate
    by_test true waits =
        let waiting = waits_as object clock x waits in
        let inside = waits_inside object clock x waits in
        let early = known_downtime (IsEntered clock) ds id x entered there in
        let start : StartedInTime ds x clock = record {
          entered = early.0;
          before_end = inside.2;
          trigger = λ some. absurd (some inside.0);
          window = λ none. inside.1;
          at_window = λ none fixed. absurd (let flexible = waiting.2 in cc);
        } in
        inr (inr (waiting.1, (start, omega arith, ap (λ (b : Bool). if b then x.plan.times.end_time else clock + x.plan.times.duration) (sym waiting.2))))
    by_test false idle = inl refl

cancel_turns : (ds : List Downtime) (id t : ℕ) → AllTurn ds t (cancelled_record ds id)
cancel_turns ds id t i x there = by_test (depends ds id x.id)
  where
    by_test : (b : Bool) → Turns ds x t (cond b (record x { fate = Over }) x).fate
    by_test true = inr (inl refl)
    by_test false = inl refl

moves_begun : (inv : Configuration) (v b : World) (a : Act) → AreEntered v.clock v.downtimes → AreBegun v.clock v.downtimes → Moves inv v b a → AreBegun v.clock b.downtimes
unfolding all_started cancelled
moves_begun inv v b a n h (inl same) = subst (AreBegun v.clock) (sym same) h
moves_begun inv v b a n h (inr (inl more)) = subst (AreBegun v.clock) (sym more.1) (more_begun v.clock v.downtimes more.0 more.2 more.4 h)
moves_begun inv v b a n h (inr (inr (inl begun))) = subst (AreBegun v.clock) (sym begun.4) (turned v.downtimes (started begun.0 v.clock) v.clock (started_only begun.0 v.clock) (problem_turns v.downtimes begun.0 v.clock n.each) h)
moves_begun inv v b a n h (inr (inr (inr gone))) = subst (AreBegun v.clock) (sym gone.4) (turned v.downtimes (cancelled_record v.downtimes gone.1) v.clock (cancelled_only v.downtimes gone.1) (cancel_turns v.downtimes gone.1 v.clock) h)

-- ---- an entry

act_clock : (inv : Configuration) (v b : World) (a : Act) → act inv v a ≡ Ok b → b.clock ≡ v.clock
unfolding act
act_clock inv v b (acts.CheckResult x code output) e = check_result_cases (λ (y : World). y.clock ≡ v.clock) inv v b x code output e
    (λ spec o known at. (let on : World = with_started inv (with_result inv v x spec o code output) x in
    ap (λ (y : World). y.clock) (noticed_leaves inv on x (change_by o.status code)) ∙ ap (λ (y : World). y.clock) (started_leaves inv (with_result inv v x spec o code output) x)))
act_clock inv v b a e = ap (λ (y : World). y.clock) (act_leaves inv v b a e)

-- a world on whose downtimes time has done all that it does by its clock
pub record IsOnTime (w : World) : Type 0 where
  pub entered : AreEntered w.clock w.downtimes
  pub begun : AreBegun w.clock w.downtimes
  pub idle : due w.downtimes w.clock ≡ None

closes : StartsAreInTime → records.NothingIsLeft → (inv : Configuration) (u : World) (t : ℕ) → u.clock ≡ t → AreEntered t u.downtimes → AreBegun t u.downtimes → IsOnTime (advanced inv u t)
closes in_time done inv u t clock n h = record {
  entered = advanced_entered inv t t u (omega arith) n;
  begun = advanced_begun in_time inv t t u (omega arith) h;
  idle = ap (λ (c : ℕ). due (advanced inv u t).downtimes c) (ap (λ (x : World). x.clock) (advanced_leaves inv u t) ∙ at_t) ∙ nothing_is_left done inv u t;
}
  where
    at_t : max u.clock t ≡ t
    at_t = omega arith

pub acted_on_time : StartsAreInTime → records.NothingIsLeft → (inv : Configuration) (w : World) (e : Entry) → IsOnTime w → IsOnTime (acted inv w e).0
acted_on_time in_time done inv w e h = entry_cases inv w e (λ p. IsOnTime p.0)
    (λ why. closes in_time done inv _ (moment_of w e) (found_clock inv w e) (at_moment AreEntered (found inv w e).downtimes found_entered) (at_moment AreBegun (found inv w e).downtimes found_begun))
    (λ a b n k. (let moves = act_moves inv (found inv w e) b a k in
    closes in_time done inv (counted b) (moment_of w e) (act_clock inv (found inv w e) b a k ∙ found_clock inv w e)
    (at_moment AreEntered b.downtimes (moves_entered inv (found inv w e) b a found_entered moves)) (at_moment AreBegun b.downtimes (moves_begun inv (found inv w e) b a found_entered found_begun moves))))
  where
    found_entered : AreEntered (found inv w e).clock (found inv w e).downtimes
    found_entered = advanced_entered inv w.clock (moment_of w e) w (omega arith) h.entered

    found_begun : AreBegun (found inv w e).clock (found inv w e).downtimes
    found_begun = advanced_begun in_time inv w.clock (moment_of w e) w (omega arith) h.begun

    at_moment : (P : ℕ → List Downtime → Type 0) (ds : List Downtime) → P (found inv w e).clock ds → P (moment_of w e) ds
    at_moment P ds k = subst (λ (c : ℕ). P c ds) (found_clock inv w e) k

pub acted_clock : (inv : Configuration) (w : World) (e : Entry) → (acted inv w e).0.clock ≡ moment_of w e
acted_clock inv w e = entry_cases inv w e (λ p. p.0.clock ≡ moment_of w e)
    (λ why. closes_clock _ (found_clock inv w e))
    (λ a b n k. closes_clock (counted b) (act_clock inv (found inv w e) b a k ∙ found_clock inv w e))
  where
    closes_clock : (u : World) → u.clock ≡ moment_of w e → (advanced inv u (moment_of w e)).clock ≡ moment_of w e
    closes_clock u clock = ap (λ (x : World). x.clock) (advanced_leaves inv u (moment_of w e)) ∙ omega arith

-- neither the clock nor the downtimes change where what stands is told
pub step_on_time : StartsAreInTime → records.NothingIsLeft → (inv : Configuration) (w : World) (e : Entry) → IsOnTime w → IsOnTime (step inv w e).0
step_on_time in_time done inv w e h =
    let acts = acted_on_time in_time done inv w e h in
    subst IsOnTime (sym (step_leaves inv w e)) (record { entered = acts.entered; begun = acts.begun; idle = acts.idle })

meant_on_time : StartsAreInTime → records.NothingIsLeft → (inv : Configuration) (w : World) (journal : List Entry) → IsOnTime w → IsOnTime (meaning_from inv w journal)
unfolding meaning_from
meant_on_time in_time done inv w [] h = h
meant_on_time in_time done inv w (e ∷ es) h = meant_on_time in_time done inv (step inv w e).0 es (step_on_time in_time done inv w e h)

none_due : (t : ℕ) → due [] t ≡ None
unfolding due events least
none_due t = refl

pub meaning_on_time : StartsAreInTime → records.NothingIsLeft → (inv : Configuration) (journal : List Entry) → IsOnTime (meaning inv journal)
unfolding initial
meaning_on_time in_time done inv journal = meant_on_time in_time done inv (initial inv) journal (record {
  entered = record { ids = tt; each = All-nil (IsEntered (initial inv).clock) };
  begun = record { ids = tt; each = λ id x k. absurd (cc) };
  idle = none_due 0;
})

-- ---- the law

start_fixed : (ds : List Downtime) (d : Downtime) → d.plan.times.trigger_id ≡ 0 → d.plan.times.fixed ≡ true → start_of ds d ≡ Some (max d.plan.times.start_time d.entered)
start_fixed ds d none fixed =
    ap (λ (b : Bool). if b then (if d.plan.times.fixed then from_entry (Some d.plan.times.start_time) d.entered else None) else from_entry (since_of (record_of ds d.plan.times.trigger_id)) d.entered) (eq-eqb d.plan.times.trigger_id 0 none)
    ∙ ap (λ (b : Bool). if b then from_entry (Some d.plan.times.start_time) d.entered else None) fixed

start_triggered : (ds : List Downtime) (d t : Downtime) (since until : ℕ) → d.plan.times.trigger_id ≢ 0 → record_of ds d.plan.times.trigger_id ≡ Some t → t.fate ≡ Active since until → start_of ds d ≡ Some (max since d.entered)
start_triggered ds d t since until some there active =
    ap (λ (b : Bool). if b then (if d.plan.times.fixed then from_entry (Some d.plan.times.start_time) d.entered else None) else from_entry (since_of (record_of ds d.plan.times.trigger_id)) d.entered) (ne_eqb d.plan.times.trigger_id 0 some)
    ∙ ap (λ (o : Option Downtime). from_entry (since_of o) d.entered) there
    ∙ ap (λ (f : Fate). from_entry (active_since f) d.entered) active

pub keeps_time : WhatIsNotDueIsToCome → (w : World) (d : Downtime) → IsOnTime w → record_of w.downtimes d.id ≡ Some d → KeepsItsTime w.downtimes d w.clock d.fate
keeps_time to_come w d h there = by_fate d.fate refl (h.begun.each d.id d there) (to_come w.downtimes w.clock d h.idle there)
  where
    entered : d.entered ≤ w.clock
    entered = (known_downtime (IsEntered w.clock) w.downtimes d.id d h.entered.each there).0

    not_active : (t : Downtime) (f : Fate) → t.fate ≡ f → record_of w.downtimes d.plan.times.trigger_id ≡ Some t → d.plan.times.trigger_id ≢ 0 → ((m : ℕ) → start_of w.downtimes d ≡ Some m → w.clock < m) → is_active f ≡ false
    not_active t Pending e at some later = refl
    not_active t (Active since until) e at some later = absurd (
        let late = later (max since d.entered) (start_triggered w.downtimes d t since until some at e) in
        let began = subst (IsBegun w.downtimes t w.clock) e (h.begun.each d.plan.times.trigger_id t at) in
        let by_now = began.1 in
        let in_time = entered in
        omega arith)
    not_active t Over e at some later = refl

    by_trigger : (o : Option Downtime) → record_of w.downtimes d.plan.times.trigger_id ≡ o → d.plan.times.trigger_id ≢ 0 → ((m : ℕ) → start_of w.downtimes d ≡ Some m → w.clock < m) → is_active_in o ≡ false
    by_trigger None at some later = refl
    by_trigger (Some t) at some later = not_active t t.fate refl at some later

    by_fate : (f : Fate) → d.fate ≡ f → IsBegun w.downtimes d w.clock f → IsAfter w.downtimes d w.clock f → KeepsItsTime w.downtimes d w.clock f
    by_fate Pending e b a = record {
      before_end = a.0;
      trigger = λ some. by_trigger (record_of w.downtimes d.plan.times.trigger_id) refl some a.1;
      before_window = λ none fixed. (let late = a.1 (max d.plan.times.start_time d.entered) (start_fixed w.downtimes d none fixed) in let in_time = entered in omega arith);
    }
    by_fate (Active since until) e b a = record { started = b.0; begun = b.1; ends = b.2; not_ended = a }
    by_fate Over e b a = tt

pub downtimes_keep_their_time : StartsAreInTime → WhatIsNotDueIsToCome → records.NothingIsLeft → DowntimesKeepTheirTime
downtimes_keep_their_time in_time to_come done inv journal d there = keeps_time to_come (meaning inv journal) d (meaning_on_time in_time done inv journal) there

-- ---- after an entry

pub nothing_is_due : (done : records.NothingIsLeft) → NothingIsDue
nothing_is_due done inv w e = ap (λ (x : World). due_in x x.clock) (step_leaves inv w e) ∙ ap (due_in v) (acted_clock inv w e) ∙ left
  where
    v : World
    v = (acted inv w e).0

    left : due_in v (moment_of w e) ≡ None
    left = entry_cases inv w e (λ p. due_in p.0 (moment_of w e) ≡ None) (λ why. nothing_is_left done inv _ (moment_of w e)) (λ a b n h. nothing_is_left done inv (counted b) (moment_of w e))
