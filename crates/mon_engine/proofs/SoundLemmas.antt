-- Each entry leads from a world that holds together to another: what it does, and the clock's telling after it.
use Rattle.std.proofs.Common.{◌≡◌, true, false, true≢false, ◌⊎◌, inl, inr, Bool, true, ℕ, ◌+◌, ◌*◌, ◌<◌, ◌≤◌, false, not, eqb, List, [], ◌∷◌, ◌++◌, length, is_some, slice_get, if◌then◌else◌, Some, Result, Ok, Err, max, refl, ap, sym, ◌∙◌, subst, arith, All, Option, None}
use Rattle.std.specs.Prelude.{OnOk, option_to_list}
use Rattle.std.specs.List.{fold, range_with_len}
use Rattle.std.proofs.lemmas.List.Elements.{All-nil, All-head, All-filter, All-get_or}
use Rattle.std.proofs.lemmas.Option.{same_Some, get_or_from_slice_get, slice_get_cases, slice_get_within}
use Rattle.cmd_types.specs.declared.limits.TheConstants.{GREATEST_NUMBER}
use Rattle.cmd_journal.specs.declared.journal.TheConstants.{GREATEST_LIMIT}
use Rattle.mon_downtime.specs.declared.event.Event.{Event}
use Rattle.mon_downtime.specs.Schedule.{fault_of, new_record, new_records}
use Rattle.mon_inventory.specs.Configuration.{Configuration, recovers_the_told, tells_by_clock}
use Rattle.mon_inventory.specs.Facts.{IsInventory}
use Rattle.mon_inventory.specs.Lookups.{services_of}
use Rattle.mon_inventory.specs.declared.records.ObjectSpec.{ObjectSpec}
use Rattle.mon_engine.specs.declared.notices.Occasion.TheVariants.{Clock}
use Rattle.mon_engine.specs.declared.notice.Notice.{Notice}
use Rattle.mon_engine.specs.declared.object.Object.{Object}
use Rattle.mon_engine.specs.declared.switches.Program.{Program}
use Rattle.mon_engine.specs.declared.outcome.Reason.{Reason}
use Rattle.mon_engine.specs.declared.outcome.Rejection.{Rejection}
use Rattle.mon_engine.specs.declared.stop.ActStop.{ActStop}
use Rattle.mon_engine.specs.declared.stop.ActStop.TheVariants.{Rejected, Memory}
use Rattle.mon_engine.specs.declared.ends.Owed.{Owed}
use Rattle.mon_engine.specs.declared.notice.Word.TheVariants.{Recovery}
use Rattle.mon_engine.specs.Ends.{end_notice, owed_at, owed_of, told_end, told_ends, told_ends_among, with_owed}
use Rattle.mon_engine.specs.Notices.{subject_of, told, told_problem, with_problem}
use Rattle.mon_engine.specs.Step.{stood}
use Rattle.mon_notify.specs.Ends.{is_within_reach, missed, reached}
use Rattle.mon_engine.specs.Places.{changed_at}
use Rattle.mon_engine.specs.World.{World}
use Rattle.mon_engine.specs.Clock.{due_in, with_event, fired, drained, advanced}
use Rattle.mon_engine.specs.Switches.{with_accepting, with_notifications, with_switch}
use Rattle.mon_engine.specs.Objects.{after_told}
use Rattle.mon_engine.specs.ByClock.{told_by_clock}
use Rattle.mon_engine.specs.ByClockLaws.{ready_notice, TellsWhatIsReady}
use Rattle.mon_engine.specs.Stops.{Acts}
use Rattle.mon_engine.specs.Sound.{IsObjectState, AreObjectStates, IsNoticeOf, IsWorldAt, IsWorld, Follows, ever, raised, IsTellable, IsOwing}
use Rattle.mon_engine.proofs.ClockLemmas.{drained_keeps}
use Rattle.mon_engine.proofs.DowntimeLemmas.{length-after_event, after_event_known}
use Rattle.mon_engine.proofs.ListLemmas.{All-changed_at, length-changed_at}
use Rattle.mon_engine.proofs.NoticeLemmas.{IfAny, downtime_notice_as, event_notice_as, problem_notice_as, sound_as, to_someone_sound}
use Rattle.mon_engine.proofs.StateLemmas.{same_status, set_states, set_each_states}
use Rattle.mon_engine.specs.Effects as acts
use Rattle.mon_engine.specs.Effects.{Act, act, IsFit, Stands}
use Rattle.mon_engine.proofs.PartLemmas.{later, next_world, with_states, with_others, with_contacts, with_downtimes, with_more_notices, with_owed_all}
use Rattle.mon_engine.proofs.ActLemmas.{ok_is}
use Rattle.mon_engine.proofs.AcknowledgementLemmas.{commented_world, fewer, del_follows, acknowledge_follows, unacknowledge_follows}
use Rattle.mon_engine.proofs.ScheduledLemmas.{scheduled_follows, one_record, service_records, cancelled_follows}
use Rattle.mon_engine.proofs.ResultLemmas.{result_follows}
use Rattle.mon_engine.proofs.CustomLemmas.{custom_follows}
use Rattle.mon_engine.proofs.ByClockLemmas.{ready_says, clock_cases, clock_more, clock_leaves, told_tellable, told_problem_is}
use Rattle.mon_engine.proofs.EndLemmas.{end_cases, end_leaves, ends_leave}
use Rattle.mon_engine.specs.Wakes.{told_one, problem_told, end_told}

-- ---- what commands set

abbrev done : World → Result World Reason
done w = Ok w

set_follows : (inv : Configuration) (w w' : World) (os : List Object) → IsWorld inv w → AreObjectStates (raised w + 1) inv.objects os → done (record w { objects = os }) ≡ Ok w' → Follows inv w w'
set_follows inv w w' os h states e =
    ok_is (Follows inv w) (done (record w { objects = os })) _ w' refl e (record { world = with_states inv (ever w + 1) (raised w + 1) (raised w + 1) w os (omega arith) (next_world inv w h) states; entries = refl; before = refl })

program_follows : (inv : Configuration) (w w' : World) (program : Program) → IsWorld inv w → done (record w { program = program }) ≡ Ok w' → Follows inv w w'
program_follows inv w w' program h e =
    ok_is (Follows inv w) (done (record w { program = program })) _ w' refl e (record { world = (let next = next_world inv w h in with_others inv (ever w + 1) (raised w + 1) w w.clock program w.rejections w.entries next.clock next.limit next); entries = refl; before = refl })

-- ---- each act

pub act_follows : (inv : Configuration) (w w' : World) (a : Act) → IsInventory inv → IsWorld inv w → Stands inv a → IsFit inv a → act inv w a ≡ Ok w' → Follows inv w w'
unfolding act
act_follows inv w w' (acts.AddComment object persistent author text) sound h there fit e = ok_is (Follows inv w) _ _ w' refl e (record { world = commented_world inv w object false persistent author text h there; entries = refl; before = refl })
act_follows inv w w' (acts.DelComment kind id) sound h there fit e = del_follows inv w w' kind id h e
act_follows inv w w' (acts.DelAllComments object) sound h there fit e = ok_is (Follows inv w) _ _ w' refl e (fewer inv w (λ c. not (eqb c.object object)) h)
act_follows inv w w' (acts.Acknowledge object sticky notify persistent author text) sound h there fit e = acknowledge_follows inv w w' object sticky notify persistent author text h there e
act_follows inv w w' (acts.RemoveAcknowledgement object) sound h there fit e = ok_is (Follows inv w) _ _ w' refl e (unacknowledge_follows inv w object h)
act_follows inv w w' (acts.CheckResult object code output) sound h there fit e = result_follows inv w w' object code output sound h e
act_follows inv w w' (acts.Set object setting) sound h there fit e = set_follows inv w w' _ h (set_states _ inv.objects w.objects object setting fit (next_world inv w h).states) e
act_follows inv w w' (acts.SetServices host setting) sound h there fit e = set_follows inv w w' _ h (set_each_states _ inv.objects w.objects (services_of inv.objects host) setting fit (next_world inv w h).states) e
act_follows inv w w' (acts.SetAccepting kind on) sound h there fit e = program_follows inv w w' (with_accepting kind on w.program) h e
act_follows inv w w' (acts.Schedule object plan) sound h there fit e =
    scheduled_follows inv w w' (new_record (length w.downtimes) w.clock object plan ∷ []) (fault_of w.downtimes w.clock plan) h (one_record inv w object plan h there) e
act_follows inv w w' (acts.ScheduleServices host plan) sound h there fit e =
    scheduled_follows inv w w' (new_records (length w.downtimes) w.clock (services_of inv.objects host) plan) (fault_of w.downtimes w.clock plan) h (service_records inv w host plan sound h) e
act_follows inv w w' (acts.DelDowntime kind id) sound h there fit e = cancelled_follows inv w w' kind id h e
act_follows inv w w' (acts.SetNotifications on) sound h there fit e = program_follows inv w w' (with_notifications on w.program) h e
act_follows inv w w' (acts.SetContact contact kind on) sound h there fit e =
    ok_is (Follows inv w) _ (record w { contacts = changed_at w.contacts contact (with_switch kind on) }) w' refl e
    (record { world = with_contacts inv (ever w + 1) (raised w + 1) w _ (next_world inv w h) (length-changed_at w.contacts contact (with_switch kind on) ∙ h.contacts); entries = refl; before = refl })
act_follows inv w w' (acts.SendCustom object options) sound h there fit e = ok_is (Follows inv w) _ _ w' refl e (custom_follows inv w object options h)
act_follows inv w w' acts.Restart sound h there fit e = ok_is (Follows inv w) _ _ w' refl e (fewer inv w (λ c. c.persistent) h)

-- what the code answers, as the effect that it had
pub effect_follows : (inv : Configuration) (w w' : World) (a : Act) (r : Result (Unit {0}) ActStop) → IsInventory inv → IsWorld inv w → Stands inv a → IsFit inv a → Acts (act inv w a) r w w' → OnOk r (Follows inv w w')
effect_follows inv w w' a (Ok x) sound h there fit e = act_follows inv w w' a sound h there fit e
effect_follows inv w w' a (Err why) sound h there fit e = tt

-- a rejected effect leaves all as it was
pub rejected_same : (r : Result World Reason) (s : ActStop) (why : Reason) (old new : World) → Acts r (Err s) old new → s ≡ Rejected why → new ≡ old
rejected_same r (Rejected x) why old new a e = a.1
rejected_same r Memory why old new a e = absurd (cc)

-- a rejected entry is listed
pub rejected_follows : (inv : Configuration) (w w0 w1 : World) (rs : List Rejection) → IsWorld inv w → w0 ≡ w1 → w1 ≡ w → Follows inv w (record w0 { rejections = rs })
rejected_follows inv w w0 w1 rs h v same =
    let is : w0 ≡ w = v ∙ same in
    let next : IsWorldAt inv (ever w + 1) (raised w + 1) w0 = subst (IsWorldAt inv (ever w + 1) (raised w + 1)) (sym is) (next_world inv w h) in
    record { world = with_others inv (ever w + 1) (raised w + 1) w0 w0.clock w0.program rs w0.entries next.clock next.limit next; entries = ap (λ (x : World). x.entries) is; before = ap (λ (x : World). x.before) is }

max_small : (a b : ℕ) → a ≤ GREATEST_NUMBER → b ≤ GREATEST_NUMBER → max a b ≤ GREATEST_NUMBER
max_small a b h k = omega arith

-- ---- time

fired_counts : (inv : Configuration) (w : World) (e : Event) (entries before : ℕ) → (w.entries ≡ entries) × (w.before ≡ before) → ((fired inv w e).entries ≡ entries) × ((fired inv w e).before ≡ before)
unfolding fired
fired_counts inv w e entries before h = h

fired_sound : (inv : Configuration) (w : World) (n m t : ℕ) (e : Event) → IsWorldAt inv n m w → due_in w t ≡ Some e → IsWorldAt inv n m (fired inv w e)
unfolding fired
fired_sound inv w n m t e h d =
    let few = h.downtimes in
    let same = length-after_event w.downtimes e in
    with_more_notices inv n m (with_event w e) _
    (with_downtimes inv n m w _ h (record {
      few = omega arith;
      known = after_event_known (length inv.objects) w.downtimes e h.known;
    }))
    (event_notice_as (IsNoticeOf inv) inv (with_event w e) e.kind e.moment _ (λ word object other. sound_as _ (downtime_notice_as inv (with_event w e) word e.moment object)))

drained_sound : (inv : Configuration) (w : World) (n m t : ℕ) → IsWorldAt inv n m w → IsWorldAt inv n m (drained inv w t)
drained_sound inv w n m t h = drained_keeps inv (IsWorldAt inv n m) t (λ v e g d. fired_sound inv v n m t e g d) w h

pub advanced_sound : (inv : Configuration) (w : World) (t n m : ℕ) → t ≤ GREATEST_NUMBER → IsWorldAt inv n m w → IsWorldAt inv n m (advanced inv w t)
unfolding advanced
advanced_sound inv w t n m small h =
    let g = drained_sound inv w n m t h in
    with_others inv n m (drained inv w t) (max w.clock t) (drained inv w t).program (drained inv w t).rejections (drained inv w t).entries (max_small w.clock t h.clock small) g.limit g

counted_sound : (inv : Configuration) (b : World) (n m : ℕ) → b.entries + 1 ≤ GREATEST_LIMIT → IsWorldAt inv n m b → IsWorldAt inv n m (record b { entries = b.entries + 1 })
counted_sound inv b n m few h = with_others inv n m b b.clock b.program b.rejections (b.entries + 1) h.clock few h

-- so many entries were counted, and so many before
abbrev IsCountedAt : (entries before : ℕ) → World → Type 0
IsCountedAt entries before w = (w.entries ≡ entries) × (w.before ≡ before)

drained_counts : (inv : Configuration) (w : World) (t entries before : ℕ) → IsCountedAt entries before w → IsCountedAt entries before (drained inv w t)
drained_counts inv w t entries before h = drained_keeps inv (IsCountedAt entries before) t (λ v e g d. fired_counts inv v e entries before g) w h

advanced_counts : (inv : Configuration) (w : World) (t : ℕ) → IsCountedAt w.entries w.before (advanced inv w t)
unfolding advanced
advanced_counts inv w t = drained_counts inv w t w.entries w.before (refl, refl)

advanced_ever : (inv : Configuration) (w a : World) (t : ℕ) → a ≡ advanced inv w t → ever a ≡ ever w
advanced_ever inv w a t first =
    let counts = advanced_counts inv w t in
    let entries : a.entries ≡ w.entries = ap (λ (x : World). x.entries) first ∙ counts.0 in
    let before : a.before ≡ w.before = ap (λ (x : World). x.before) first ∙ counts.1 in
    omega (arith, entries, before)

-- what an entry does: a is the world that it finds, b what its effect leaves, d what stands at its end
pub acted_sound : (inv : Configuration) (w a b c d : World) (t : ℕ) → IsWorld inv w → w.entries < GREATEST_LIMIT → t ≤ GREATEST_NUMBER
    → a ≡ advanced inv w t → Follows inv a b → c ≡ b → d ≡ advanced inv (record c { entries = c.entries + 1 }) t → IsWorldAt inv (ever w + 1) (raised w + 1) d × (d.entries ≡ w.entries + 1) × (d.before ≡ w.before)
acted_sound inv w a b c d t h room small first f same last =
    let found = advanced_counts inv w t in
    let count : a.entries ≡ w.entries = ap (λ (x : World). x.entries) first ∙ found.0 in
    let kept : c.entries ≡ a.entries = ap (λ (x : World). x.entries) same ∙ f.entries in
    let counts = advanced_counts inv (record c { entries = c.entries + 1 }) t in
    let entries : d.entries ≡ c.entries + 1 = ap (λ (x : World). x.entries) last ∙ counts.0 in
    let before : d.before ≡ w.before = ap (λ (x : World). x.before) last ∙ counts.1 ∙ ap (λ (x : World). x.before) same ∙ f.before ∙ ap (λ (x : World). x.before) first ∙ found.1 in
    let at_c : IsWorldAt inv (ever w + 1) (raised w + 1) c = subst (IsWorldAt inv (ever w + 1) (raised w + 1)) (sym same) (subst (λ (n : ℕ). IsWorldAt inv (n + 1) (2 * n + 1) b) (advanced_ever inv w a t first) f.world) in
    let after = counted_sound inv c (ever w + 1) (raised w + 1) (omega (arith, room, kept, count)) at_c in
    (subst (IsWorldAt inv (ever w + 1) (raised w + 1)) (sym last) (advanced_sound inv (record c { entries = c.entries + 1 }) t (ever w + 1) (raised w + 1) small after), omega (arith, entries, kept, count), before)

-- one object more has its number raised by one at most where the clock tells
told_states : (inv : Configuration) (n : ℕ) (w v : World) → TellsWhatIsReady inv w v → AreObjectStates n inv.objects w.objects → AreObjectStates (n + 1) inv.objects v.objects
told_states inv n w v h states = record {
  as_many = h.as_many ∙ states.as_many;
  each = λ k spec o known at. (let was = before k o at in state spec o was.0 (states.each k spec was.0 known was.1) was.2);
  numbers = λ k o at. (let was = before k o at in let few = states.numbers k was.0 was.1 in raise o was.0 few was.2);
}
  where
    -- an object is as it was, or told
    before : (k : ℕ) (o : Object) → slice_get v.objects k ≡ Some o → (p : Object) × (slice_get w.objects k ≡ Some p) × ((o ≡ p) ⊎ (o ≡ after_told w.clock p))
    before k o at = elim (slice_get_cases w.objects k).1 [
      | inl there ↦ (there.0, there.2, by (is_some (ready_notice inv w k)) there.0 (h.each k there.0 there.2))
      | inr past ↦ absurd (let high = past.0 in let low = slice_get_within v.objects k o at in let long = h.as_many in omega (arith, high, low, long))
    ]
      where
        by : (b : Bool) (p : Object) → slice_get v.objects k ≡ Some (if b then after_told w.clock p else p) → (o ≡ p) ⊎ (o ≡ after_told w.clock p)
        by true p now = inr (same_Some o (after_told w.clock p) (sym at ∙ now))
        by false p now = inl (same_Some o p (sym at ∙ now))

    state : (spec : ObjectSpec) (o p : Object) → IsObjectState spec p → (o ≡ p) ⊎ (o ≡ after_told w.clock p) → IsObjectState spec o
    state spec o p s (inl same) = subst (IsObjectState spec) (sym same) s
    state spec o p s (inr told) = subst (IsObjectState spec) (sym told) (same_status spec p (after_told w.clock p) refl refl s)

    raise : (o p : Object) → p.number ≤ GREATEST_NUMBER + n → (o ≡ p) ⊎ (o ≡ after_told w.clock p) → o.number ≤ GREATEST_NUMBER + (n + 1)
    raise o p few (inl same) = subst (λ (x : Object). x.number ≤ GREATEST_NUMBER + (n + 1)) (sym same) (omega (arith, few))
    raise o p few (inr told) = subst (λ (x : Object). x.number ≤ GREATEST_NUMBER + (n + 1)) (sym told) (omega (arith, few))

ready_sound : (inv : Configuration) (w : World) (k : ℕ) (n : Notice) → ready_notice inv w k ≡ Some n → IsNoticeOf inv n
ready_sound inv w k n e =
    let ready = ready_says inv w k n e in
    All-head (IsNoticeOf inv) n [] (subst (IfAny (IsNoticeOf inv)) ready.5 (sound_as _ (problem_notice_as inv w Clock k ready.0 ready.1 (slice_get_within inv.objects k ready.0 ready.2))))

pub clock_sound : (inv : Configuration) (n m : ℕ) (w : World) → IsWorldAt inv n m w → IsWorldAt inv n (m + 1) (told_by_clock inv w)
clock_sound inv n m w h = clock_cases inv w (IsWorldAt inv n (m + 1)) (later inv n m n (m + 1) w (omega arith) (omega arith) h)
    (λ v tells. (let more = clock_more inv w v (IsNoticeOf inv) tells (ready_sound inv w) in
    subst (IsWorldAt inv n (m + 1)) (sym (tells.same ∙ ap (λ (ns : List Notice). record w { objects = v.objects; notices = ns }) (ap (λ (x : World). x.notices) (sym tells.same) ∙ more.1)))
    (with_states inv n m (m + 1) (record w { notices = w.notices ++ more.0 }) v.objects (omega arith) (with_more_notices inv n m w more.0 h more.2) (told_states inv m w v tells h.states))))

-- who is owed ends stays in the inventory
owing_with : (inv : Configuration) (owed : List Owed) (k : ℕ) (cs : List ℕ) → IsOwing inv owed → All (λ c. c < length inv.contacts) cs → IsOwing inv (changed_at owed k (λ x. record x { contacts = cs }))
owing_with inv owed k cs h known = record {
  as_many = length-changed_at owed k (λ x. record x { contacts = cs }) ∙ h.as_many;
  within = All-changed_at (λ x. All (λ c. c < length inv.contacts) x.contacts) owed k (λ x. record x { contacts = cs }) (λ x at was. known) h.within;
}

owed_known : (inv : Configuration) (owed : List Owed) (k : ℕ) → IsOwing inv owed → All (λ c. c < length inv.contacts) (owed_of (slice_get owed k)).contacts
owed_known inv owed k h = by (slice_get owed k) refl
  where
    by : (x : Option Owed) → slice_get owed k ≡ x → All (λ c. c < length inv.contacts) (owed_of x).contacts
    by None at = All-nil (λ c. c < length inv.contacts)
    by (Some x) at = subst (λ (y : Owed). All (λ c. c < length inv.contacts) y.contacts) (get_or_from_slice_get owed k x x at) (All-get_or (λ y. All (λ c. c < length inv.contacts) y.contacts) owed k x (slice_get_within owed k x at) h.within)

pub end_owing : (inv : Configuration) (w : World) (k : ℕ) → IsOwing inv w.owed → IsOwing inv (told_end inv w k).owed
end_owing inv w k h = end_cases (λ v. IsOwing inv v.owed) inv w k (λ idle. h) (λ spec o known at due stale. owing_with inv w.owed k [] h (All-nil (λ c. c < length inv.contacts)))
    (λ spec o known at due news. owing_with inv w.owed k (missed inv w.contacts k (owed_at w k).contacts) h (All-filter (λ c. not (is_within_reach inv w.contacts k c)) (λ c. c < length inv.contacts) (owed_at w k).contacts (owed_known inv w.owed k h)))

pub end_tellable : (inv : Configuration) (w : World) (k : ℕ) → IsTellable inv w → IsTellable inv (told_end inv w k)
end_tellable inv w k h = (let left = end_leaves inv w k in record { objects = ap (λ (x : World). length x.objects) left ∙ h.objects; contacts = ap (λ (x : World). length x.contacts) left ∙ h.contacts })

pub clock_tellable : (inv : Configuration) (w : World) → IsTellable inv w → IsTellable inv (told_by_clock inv w)
clock_tellable inv w h = clock_cases inv w (IsTellable inv) h (λ v tells. record { objects = tells.as_many ∙ h.objects; contacts = ap (λ (x : World). length x.contacts) tells.same ∙ h.contacts })

pub clock_owing : (inv : Configuration) (w : World) → IsOwing inv w.owed → IsOwing inv (told_by_clock inv w).owed
clock_owing inv w h = subst (λ (x : World). IsOwing inv x.owed) (sym (clock_leaves inv w)) h

pub ends_tellable : (inv : Configuration) (w : World) → IsTellable inv w → IsTellable inv (told_ends inv w)
ends_tellable inv w h = (let left = ends_leave inv w in record { objects = ap (λ (x : World). length x.objects) left ∙ h.objects; contacts = ap (λ (x : World). length x.contacts) left ∙ h.contacts })

pub ends_owing : (inv : Configuration) (w : World) → IsOwing inv w.owed → IsOwing inv (told_ends inv w).owed
unfolding told_ends
ends_owing inv w h = by_option (recovers_the_told inv)
  where
    each : (v : World) (ks : List ℕ) → IsOwing inv v.owed → IsOwing inv (fold (told_end inv) v ks).owed
    each v [] g = g
    each v (k ∷ ks) g = each (told_end inv v k) ks (end_owing inv v k g)

    by_option : (b : Bool) → IsOwing inv (if b then told_ends_among inv w (length inv.objects) else w).owed
    by_option true = each w (range_with_len 0 (length inv.objects)) h
    by_option false = h

pub one_tellable : (inv : Configuration) (w : World) (k : ℕ) → IsTellable inv w → IsTellable inv (told_one inv w k)
one_tellable inv w k h = by_option (recovers_the_told inv) (tells_by_clock inv)
  where
    by_option : (ends tells : Bool) → IsTellable inv (problem_told tells inv (end_told ends inv w k) k)
    by_option true true = told_tellable inv (told_end inv w k) (told_problem inv Clock (told_end inv w k) k) k (end_tellable inv w k h) refl
    by_option true false = end_tellable inv w k h
    by_option false true = told_tellable inv w (told_problem inv Clock w k) k h refl
    by_option false false = h

pub one_owing : (inv : Configuration) (w : World) (k : ℕ) → IsOwing inv w.owed → IsOwing inv (told_one inv w k).owed
one_owing inv w k h = by_option (recovers_the_told inv) (tells_by_clock inv)
  where
    left : (v : World) → IsOwing inv v.owed → IsOwing inv (told_problem inv Clock v k).owed
    left v g = subst (λ (x : World). IsOwing inv x.owed) (sym (told_problem_is inv v k)) (by_ready v g (ready_notice inv v k))
      where
        by_ready : (v : World) → IsOwing inv v.owed → (r : Option Notice) → IsOwing inv (with_problem v k r).owed
        by_ready v g None = g
        by_ready v g (Some n) = g

    by_option : (ends tells : Bool) → IsOwing inv (problem_told tells inv (end_told ends inv w k) k).owed
    by_option true true = left (told_end inv w k) (end_owing inv w k h)
    by_option true false = end_owing inv w k h
    by_option false true = left w h
    by_option false false = h

-- what is told of an end
end_sound : (inv : Configuration) (n m : ℕ) (w : World) (k : ℕ) → recovers_the_told inv ≡ true → IsWorldAt inv n m w → IsWorldAt inv n m (told_end inv w k)
end_sound inv n m w k on h = end_cases (IsWorldAt inv n m) inv w k (λ idle. h)
    (λ spec o known at due stale. owed_sound w h [] (λ x there few. All-nil (λ c. c < length inv.contacts)))
    (λ spec o known at due news. owed_sound (told w (end_notice inv w k o (owed_at w k))) (with_more_notices inv n m w _ h (notice spec o known)) (missed inv w.contacts k (owed_at w k).contacts)
    (λ x there few. All-filter (λ c. not (is_within_reach inv w.contacts k c)) (λ c. c < length inv.contacts) (owed_at w k).contacts (within w h k)))
  where
    Known : List ℕ → Type 0
    Known cs = All (λ c. c < length inv.contacts) cs

    within : (v : World) → IsWorldAt inv n m v → (j : ℕ) → Known (owed_at v j).contacts
    within v g j = by (slice_get v.owed j) refl
      where
        by : (x : Option Owed) → slice_get v.owed j ≡ x → Known (owed_of x).contacts
        by None at = All-nil (λ c. c < length inv.contacts)
        by (Some x) at = subst (λ (y : Owed). Known y.contacts) (get_or_from_slice_get v.owed j x x at) (All-get_or (λ y. Known y.contacts) v.owed j x (slice_get_within v.owed j x at) g.owing.within)

    owed_sound : (v : World) → IsWorldAt inv n m v → (cs : List ℕ) → ((x : Owed) → slice_get v.owed k ≡ Some x → Known x.contacts → Known cs) → IsWorldAt inv n m (with_owed v k cs)
    owed_sound v g cs known = with_owed_all inv n m m v (changed_at v.owed k (λ x. record x { contacts = cs })) (omega arith) g
        (record { as_many = length-changed_at v.owed k (λ x. record x { contacts = cs }) ∙ g.owing.as_many; within = All-changed_at (λ x. Known x.contacts) v.owed k (λ x. record x { contacts = cs }) known g.owing.within })
        (All-changed_at (λ x. x.number ≤ GREATEST_NUMBER + m) v.owed k (λ x. record x { contacts = cs }) (λ x at few. few) g.ends)
        (λ off. absurd (true≢false (sym on ∙ off)))

    notice : (spec : ObjectSpec) (o : Object) → slice_get inv.objects k ≡ Some spec → All (IsNoticeOf inv) (option_to_list (end_notice inv w k o (owed_at w k)))
    notice spec o known = to_someone_sound inv (subject_of w.clock Recovery k o (owed_at w k).number) (reached inv w.contacts k (owed_at w k).contacts) (slice_get_within inv.objects k spec known)
        (All-filter (is_within_reach inv w.contacts k) (λ c. c < length inv.contacts) (owed_at w k).contacts (within w h k))

pub ends_sound : (inv : Configuration) (n m : ℕ) (w : World) → IsWorldAt inv n m w → IsWorldAt inv n m (told_ends inv w)
unfolding told_ends
ends_sound inv n m w h = by_option (recovers_the_told inv) refl
  where
    each : recovers_the_told inv ≡ true → (v : World) (ks : List ℕ) → IsWorldAt inv n m v → IsWorldAt inv n m (fold (told_end inv) v ks)
    each on v [] g = g
    each on v (k ∷ ks) g = each on (told_end inv v k) ks (end_sound inv n m v k on g)

    by_option : (b : Bool) → recovers_the_told inv ≡ b → IsWorldAt inv n m (if b then told_ends_among inv w (length inv.objects) else w)
    by_option true on = each on w (range_with_len 0 (length inv.objects)) h
    by_option false off = h

pub stood_sound : (inv : Configuration) (n m : ℕ) (v u : World) → IsWorldAt inv n m v → u ≡ stood inv v → IsWorldAt inv n (m + 1) u
stood_sound inv n m v u h is = subst (IsWorldAt inv n (m + 1)) (sym is) (clock_sound inv n m (told_ends inv v) (ends_sound inv n m v h))

pub found_sound : (inv : Configuration) (w a : World) (t : ℕ) → IsWorld inv w → t ≤ GREATEST_NUMBER → a ≡ advanced inv w t → IsWorld inv a
found_sound inv w a t h small first =
    subst (λ (n : ℕ). IsWorldAt inv n (2 * n) a) (sym (advanced_ever inv w a t first)) (subst (IsWorldAt inv (ever w) (raised w)) (sym first) (advanced_sound inv w t (ever w) (raised w) small h))
