-- A problem is told: where a notice of it is due and nothing holds it back, the notice goes out.
use Rattle.std.proofs.Common.{◌≡◌, ◌⊎◌, inl, inr, ℕ, suc, ◌+◌, ◌<◌, Bool, true, false, not, ◌&&◌, ◌||◌, eqb, cond, nat_lt, if◌then◌else◌, List, [], ◌∷◌, ◌++◌, length, drop, map, filter, Option, Some, None, Contains, slice_get, refl, ap, sym, ◌∙◌, subst, append_assoc, arith, rules}
use Rattle.std.proofs.lemmas.Bool.{and_from, and_right, or_left, or_right, eq-eqb, eqb-true, ne_eqb, lt-ltb, not_from_false}
use Rattle.std.proofs.lemmas.Option.{same_Some}
use Rattle.cmd_types.specs.declared.entry.Entry.{Entry}
use Rattle.mon_checks.specs.declared.status.Status.{Status}
use Rattle.mon_checks.specs.declared.transition.Change.{Change}
use Rattle.mon_checks.specs.States.{status_after, change_by}
use Rattle.mon_downtime.specs.declared.downtime.Downtime.{Downtime}
use Rattle.mon_downtime.specs.Problem.{all_started, all_waiting, started, started_by, waits_for}
use Rattle.mon_downtime.specs.Records.{depth_of}
use Rattle.mon_inventory.specs.declared.records.ObjectSpec.{ObjectSpec}
use Rattle.mon_inventory.specs.Configuration.{Configuration, directives_at, passive_hosts_soft}
use Rattle.mon_notify.specs.declared.contacts.ContactSwitch.{ContactSwitch}
use Rattle.mon_notify.specs.declared.facts.Facts.{Facts}
use Rattle.mon_notify.specs.declared.letter.Letter.{Letter}
use Rattle.mon_notify.specs.Letters.{letter_of, has_letter}
use Rattle.mon_notify.specs.Objects as kinds
use Rattle.mon_notify.specs.Recipients.{recipients}
use Rattle.mon_notify.specs.Viable.{problem_viable, is_open, is_delayed, is_due, is_of_code, is_over, have_gone_by, is_old, is_settled}
use Rattle.mon_engine.specs.declared.notices.Occasion.{Occasion}
use Rattle.mon_engine.specs.declared.notices.Occasion.TheVariants.{Check}
use Rattle.mon_engine.specs.declared.notice.Notice.{Notice}
use Rattle.mon_engine.specs.declared.notice.Subject.{Subject}
use Rattle.mon_engine.specs.declared.notice.Word.TheVariants as words
use Rattle.mon_engine.specs.declared.notice.Word.TheVariants.{DowntimeStart}
use Rattle.mon_engine.specs.declared.object.Moments.{Moments}
use Rattle.mon_engine.specs.declared.object.Object.{Object}
use Rattle.mon_engine.specs.declared.outcome.Outcome.{Outcome}
use Rattle.mon_engine.specs.Objects.{is_service, is_acknowledged, is_up, host_is_up, back_since, object_after, after_told, reset}
use Rattle.mon_engine.specs.World.{World}
use Rattle.mon_engine.specs.Notices.{addressed, problem_facts, subject_of, of_object, noticed, noticed_by, problem_notice, recovery_notice, with_problem, with_recovery}
use Rattle.mon_engine.specs.Results.{with_result, started_all, with_started, after_taken}
use Rattle.mon_engine.specs.Effects as acts
use Rattle.mon_engine.specs.Effects.{act, named}
use Rattle.mon_engine.specs.Clock.{advanced}
use Rattle.mon_engine.specs.Laws.{moment_of}
use Rattle.mon_engine.specs.Step.{counted}
use Rattle.mon_engine.specs.NoticeLaws.{went_out, nth_problem, is_service_at, IsNoticeDue, IsProblemToTell, IsUndisturbed, AProblemIsTold}
use Rattle.mon_engine.proofs.ActLemmas.{started_cases, started_leaves, noticed_cases, check_result_cases}
use Rattle.mon_engine.proofs.EntryLemmas.{found, found_clock, advanced_leaves, kept_objects, applied_from}
use Rattle.mon_engine.proofs.ListLemmas.{changed_here, changed_reads}
use Rattle.mon_engine.proofs.NewsLemmas.{More, more_same, more_on, more_after, advanced_more, drop_front}

-- ---- lists

contains_middle : (xs ys : List Notice) (n : Notice) → Contains (xs ++ n ∷ ys) n
contains_middle [] ys n = (0, omega arith, refl)
contains_middle (x ∷ xs) ys n = let c = contains_middle xs ys n in (suc c.0, (let lt = c.1 in omega arith), c.2)

-- any notices behind the first
abbrev pub Any : Notice → Type 0
Any n = Unit {0}

pub went_through : (w u b d : World) (n : Notice) → More Any w.notices u.notices → b.notices ≡ u.notices ++ n ∷ [] → More Any b.notices d.notices → Contains (went_out w d) n
went_through w u b d n first one last = subst (λ (ns : List Notice). Contains ns n) (sym (ap (drop (length w.notices)) all ∙ drop_front w.notices (first.0 ++ n ∷ last.0))) (contains_middle first.0 last.0 n)
  where
    all : d.notices ≡ w.notices ++ (first.0 ++ n ∷ last.0)
    all = last.1 ∙ ap (λ (ns : List Notice). ns ++ last.0) (one ∙ ap (λ (ns : List Notice). ns ++ n ∷ []) first.1)
        ∙ append_assoc (w.notices ++ first.0) (n ∷ []) last.0 ∙ append_assoc w.notices first.0 (n ∷ last.0)

-- ---- the downtimes

none_start : (object clock : ℕ) (ds : List Downtime) → filter (waits_for object clock) ds ≡ [] → map (started object clock) ds ≡ ds
none_start object clock [] h = refl
none_start object clock (d ∷ ds) h = by (waits_for object clock d) (none_start object clock ds) h
  where
    by : (b : Bool) → (filter (waits_for object clock) ds ≡ [] → map (started object clock) ds ≡ ds) → cond b (d ∷ filter (waits_for object clock) ds) (filter (waits_for object clock) ds) ≡ []
        → cond b (record d { fate = started_by clock d }) d ∷ map (started object clock) ds ≡ d ∷ ds
    by true rest k = absurd (cc)
    by false rest k = ap (λ (xs : List Downtime). d ∷ xs) (rest k)

-- where none waits, none starts, and nothing but notices is new
started_same : (inv : Configuration) (u : World) (object : ℕ) → all_waiting u.downtimes object u.clock ≡ [] → (with_started inv u object).downtimes ≡ u.downtimes
unfolding started_all all_started all_waiting
started_same inv u object none = started_cases (λ (x : World). x.downtimes ≡ u.downtimes) inv u object refl (none_start object u.clock u.downtimes none)

pub started_more : (inv : Configuration) (u : World) (object : ℕ) → More Any u.notices (with_started inv u object).notices
unfolding started_all
started_more inv u object = started_cases (λ (x : World). More Any u.notices x.notices) inv u object (more_same Any u.notices) (more_on Any u.notices u.notices _ (more_same Any u.notices) (λ k d lt. tt))

-- ---- the state that a result leaves

pub code_after : (old : Status) (code : ℕ) (up soft : Bool) (max : ℕ) → (status_after old code up soft max).code ≡ code
code_after old code up soft max = search rules

-- notices leave the status
pub noticed_status : (inv : Configuration) (u : World) (object : ℕ) (change : Change) (o after : Object) → slice_get u.objects object ≡ Some o → slice_get (noticed inv u object change).objects object ≡ Some after → after.status ≡ o.status
noticed_status inv u object change o after at = noticed_cases (λ (x : World). slice_get x.objects object ≡ Some after → after.status ≡ o.status) inv u object change
    (λ left. status_of o (same_Some o after (sym at ∙ left)))
    (λ spec p known there left. status_of (reset o) (same_Some (reset o) after (sym (changed_here u.objects object reset o at) ∙ left)))
    (λ spec p known there n e left. status_of (after_told u.clock o) (same_Some (after_told u.clock o) after (sym (changed_here u.objects object (after_told u.clock) o at) ∙ left)))
  where
    status_of : (x : Object) → x ≡ after → after.status ≡ x.status
    status_of x same = ap (λ (y : Object). y.status) (sym same)

-- what a PROBLEM leaves as it was
record IsKept (o after : Object) : Type 0 where
  status : after.status ≡ o.status
  acknowledgement : after.acknowledgement ≡ o.acknowledgement
  not_before : after.not_before ≡ o.not_before
  moments : after.moments ≡ o.moments

kept_as : (o x after : Object) → IsKept o x → x ≡ after → IsKept o after
kept_as o x after h same = subst (IsKept o) same h

problem_keeps : (u : World) (object : ℕ) (o after : Object) (n : Option Notice) → slice_get u.objects object ≡ Some o → slice_get (with_problem u object n).objects object ≡ Some after → IsKept o after
problem_keeps u object o after None at left = kept_as o o after (record { status = refl; acknowledgement = refl; not_before = refl; moments = refl }) (same_Some o after (sym at ∙ left))
problem_keeps u object o after (Some n) at left =
    kept_as o (after_told u.clock o) after (record { status = refl; acknowledgement = refl; not_before = refl; moments = refl }) (same_Some (after_told u.clock o) after (sym (changed_here u.objects object (after_told u.clock) o at) ∙ left))

problem_host : (u : World) (object : ℕ) (n : Option Notice) (spec : ObjectSpec) → host_is_up (with_problem u object n).objects spec ≡ host_is_up u.objects spec
problem_host u object None spec = refl
problem_host u object (Some n) spec = changed_reads is_up u.objects object spec.host_object (after_told u.clock) (λ p. refl)

problem_back : (u : World) (object : ℕ) (n : Option Notice) (spec : ObjectSpec) → back_since (slice_get (with_problem u object n).objects spec.host_object) ≡ back_since (slice_get u.objects spec.host_object)
problem_back u object None spec = refl
problem_back u object (Some n) spec = changed_reads back_since u.objects object spec.host_object (after_told u.clock) (λ p. refl)

-- ---- the notice

pub open_is : (f : Facts) → f.program_on ≡ true → f.object_on ≡ true → f.depth ≡ 0 → f.host_depth ≡ 0 → is_open f ≡ true
open_is f program object depth host = and_from _ (eqb f.host_depth 0) (and_from _ (eqb f.depth 0) (and_from f.program_on f.object_on program object) (eq-eqb f.depth 0 depth)) (eq-eqb f.host_depth 0 host)

-- a notice is due: of a volatile service, the first, one of another code, or the next one
due_is : (f : Facts) → (f.volatile ≡ true) ⊎ ((f.number ≡ 0) ⊎ ((is_of_code f.notified f.code ≡ false) ⊎ ((0 < f.interval) × (is_over f.last f.interval f.clock ≡ true)))) → is_due f ≡ true
due_is f (inl volatile) = or_left (f.volatile || eqb f.number 0 || not (is_of_code f.notified f.code)) (nat_lt 0 f.interval && is_over f.last f.interval f.clock)
    (or_left (f.volatile || eqb f.number 0) (not (is_of_code f.notified f.code)) (or_left f.volatile (eqb f.number 0) volatile))
due_is f (inr (inl first)) = or_left (f.volatile || eqb f.number 0 || not (is_of_code f.notified f.code)) (nat_lt 0 f.interval && is_over f.last f.interval f.clock)
    (or_left (f.volatile || eqb f.number 0) (not (is_of_code f.notified f.code)) (or_right f.volatile (eqb f.number 0) (eq-eqb f.number 0 first)))
due_is f (inr (inr (inl other))) = or_left (f.volatile || eqb f.number 0 || not (is_of_code f.notified f.code)) (nat_lt 0 f.interval && is_over f.last f.interval f.clock)
    (or_right (f.volatile || eqb f.number 0) (not (is_of_code f.notified f.code)) (not_from_false _ other))
due_is f (inr (inr (inr over))) = or_right (f.volatile || eqb f.number 0 || not (is_of_code f.notified f.code)) (nat_lt 0 f.interval && is_over f.last f.interval f.clock)
    (and_from (nat_lt 0 f.interval) (is_over f.last f.interval f.clock) (lt-ltb 0 f.interval over.0) over.1)

viable : (f : Facts) → is_open f ≡ true → f.host_up ≡ true → f.letter_on ≡ true → f.acknowledged ≡ false → f.hard ≡ true → is_delayed f.not_before f.clock ≡ false → is_due f ≡ true → is_old f ≡ true → is_settled f ≡ true → problem_viable f ≡ true
viable f open_it up letter unacknowledged hard delay due old settled =
    and_from _ (is_settled f) (and_from _ (is_old f) (and_from _ (is_due f) (and_from _ (not (is_delayed f.not_before f.clock)) (and_from _ f.hard (and_from _ (not f.acknowledged) (and_from _ f.letter_on (and_from (is_open f) f.host_up open_it up) letter) (not_from_false f.acknowledged unacknowledged)) hard) (not_from_false _ delay)) due) old) settled

pub addressed_some : (inv : Configuration) (switches : List ContactSwitch) (s : Subject) (l : Letter) → 0 < length (recipients inv switches s.object s.number l true)
    → addressed inv switches s l true ≡ Some (record { subject = s; contacts = recipients inv switches s.object s.number l true })
unfolding addressed
addressed_some inv switches s l someone =
    ap (λ (b : Bool). if b then Some (record { subject = s; contacts = recipients inv switches s.object s.number l true }) else None) (lt-ltb 0 (length (recipients inv switches s.object s.number l true)) someone)

problem_goes_out : (inv : Configuration) (u : World) (occasion : Occasion) (object : ℕ) (spec : ObjectSpec) (o : Object) → problem_viable (problem_facts inv u occasion object spec o) ≡ true
    → 0 < length (recipients inv u.contacts object (o.number + 1) (letter_of (is_service spec) o.status.code) true)
    → problem_notice inv u occasion object spec o ≡ Some (record { subject = subject_of u.clock words.Problem object o (o.number + 1); contacts = recipients inv u.contacts object (o.number + 1) (letter_of (is_service spec) o.status.code) true })
unfolding problem_notice
problem_goes_out inv u occasion object spec o may someone =
    let s = subject_of u.clock words.Problem object o (o.number + 1) in
    let l = letter_of (is_service spec) o.status.code in
    ap (λ (b : Bool). if b then addressed inv u.contacts s l true else None) may ∙ addressed_some inv u.contacts s l someone

-- a result that leaves a problem
pub noticed_problem : (inv : Configuration) (u : World) (object : ℕ) (change : Change) (spec : ObjectSpec) (o : Object) → slice_get inv.objects object ≡ Some spec → slice_get u.objects object ≡ Some o → change.recovered ≡ false → eqb o.status.code 0 ≡ false
    → noticed inv u object change ≡ with_problem u object (problem_notice inv u Check object spec o)
unfolding noticed
noticed_problem inv u object change spec o known at recovered problem =
    ap (λ (s : Option ObjectSpec). of_object u (noticed_by inv u object change) s (slice_get u.objects object)) known
    ∙ ap (λ (p : Option Object). of_object u (noticed_by inv u object change) (Some spec) p) at
    ∙ ap (λ (b : Bool). if b then with_recovery u object (recovery_notice inv u object change.hard_recovery spec o) else (if eqb o.status.code 0 then u else with_problem u object (problem_notice inv u Check object spec o))) recovered
    ∙ ap (λ (b : Bool). if b then u else with_problem u object (problem_notice inv u Check object spec o)) problem

-- ---- a result

taken_told : (inv : Configuration) (w : World) (e : Entry) (object code : ℕ) (output : List ℕ) (spec : ObjectSpec) (o after : Object) → slice_get inv.objects object ≡ Some spec → slice_get (found inv w e).objects object ≡ Some o
    → IsProblemToTell inv w (advanced inv (counted (after_taken inv (found inv w e) object code output spec o)) (moment_of w e)) (moment_of w e) object spec o after → IsUndisturbed inv w (moment_of w e) object
    → Contains (went_out w (advanced inv (counted (after_taken inv (found inv w e) object code output spec o)) (moment_of w e))) (nth_problem inv w (moment_of w e) object after.status.code (o.number + 1))
taken_told inv w e object code output spec o after known at h free =
    subst (Contains (went_out w end)) is_it (went_through w u b end notice (more_after Any w.notices v.notices u.notices (advanced_more inv w t Any (λ n k. tt)) (started_more inv with_it object)) added (advanced_more inv (counted b) t Any (λ n k. tt)))
  where
    t : ℕ
    t = moment_of w e

    v : World
    v = found inv w e

    with_it : World
    with_it = with_result inv v object spec o code output

    u : World
    u = with_started inv with_it object

    b : World
    b = after_taken inv v object code output spec o

    end : World
    end = advanced inv (counted b) t

    o1 : Object
    o1 = object_after v.clock code output (host_is_up v.objects spec) (passive_hosts_soft inv) spec.max o

    l : Letter
    l = letter_of (is_service spec) o1.status.code

    notice : Notice
    notice = record { subject = subject_of u.clock words.Problem object o1 (o1.number + 1); contacts = recipients inv u.contacts object (o1.number + 1) l true }

    -- the world in which the notice is looked for
    leaves : u ≡ record with_it { downtimes = u.downtimes; notices = u.notices }
    leaves = started_leaves inv with_it object

    timed : v ≡ record w { clock = v.clock; downtimes = v.downtimes; notices = v.notices }
    timed = advanced_leaves inv w t ∙ ap (λ (c : ℕ). record w { clock = c; downtimes = v.downtimes; notices = v.notices }) (sym (ap (λ (x : World). x.clock) (advanced_leaves inv w t)))

    clock : u.clock ≡ t
    clock = ap (λ (x : World). x.clock) leaves ∙ found_clock inv w e

    downtimes : u.downtimes ≡ v.downtimes
    downtimes = started_same inv with_it object (ap (λ (c : ℕ). all_waiting v.downtimes object c) (found_clock inv w e) ∙ free.none_waits)

    contacts : u.contacts ≡ w.contacts
    contacts = ap (λ (x : World). x.contacts) leaves ∙ ap (λ (x : World). x.contacts) timed

    there : slice_get u.objects object ≡ Some o1
    there = ap (λ (x : World). slice_get x.objects object) leaves ∙ changed_here v.objects object (object_after v.clock code output (host_is_up v.objects spec) (passive_hosts_soft inv) spec.max) o at

    ended : end.objects ≡ b.objects
    ended = kept_objects inv (counted b) t

    -- the problem that it leaves
    left : slice_get b.objects object ≡ Some after
    left = ap (λ (os : List Object). slice_get os object) (sym ended) ∙ h.left

    code_is : after.status.code ≡ code
    code_is = ap (λ (s : Status). s.code) (noticed_status inv u object (change_by o.status code) o1 after there left) ∙ code_after o.status code (host_is_up v.objects spec) (passive_hosts_soft inv) spec.max

    problem : eqb code 0 ≡ false
    problem = ne_eqb code 0 (λ k. h.problem (code_is ∙ k))

    told : b ≡ with_problem u object (problem_notice inv u Check object spec o1)
    told = noticed_problem inv u object (change_by o.status code) spec o1 known there (and_right (not (eqb o.status.code 0)) (eqb code 0) problem)
        (ap (λ (c : ℕ). eqb c 0) (code_after o.status code (host_is_up v.objects spec) (passive_hosts_soft inv) spec.max) ∙ problem)

    kept : IsKept o1 after
    kept = problem_keeps u object o1 after (problem_notice inv u Check object spec o1) there (ap (λ (x : World). slice_get x.objects object) (sym told) ∙ left)

    -- the notice
    service : is_service_at inv object ≡ is_service spec
    service = ap kinds.is_service known

    letter_is : letter_of (is_service_at inv object) after.status.code ≡ l
    letter_is = ap (λ (s : Bool). letter_of s after.status.code) service ∙ ap (λ (s : Status). letter_of (is_service spec) s.code) kept.status

    host : is_service spec ≡ true → host_is_up u.objects spec ≡ true
    host is = sym (problem_host u object (problem_notice inv u Check object spec o1) spec) ∙ ap (λ (x : World). host_is_up x.objects spec) (sym told) ∙ ap (λ (os : List Object). host_is_up os spec) (sym ended) ∙ h.host_up (service ∙ is)

    host_depth : is_service spec ≡ true → depth_of u.downtimes spec.host_object ≡ 0
    host_depth is = ap (λ (ds : List Downtime). depth_of ds spec.host_object) downtimes ∙ free.no_downtime.host_depth spec known is

    only_service : {A : Type 0} (x y : A) → (is_service spec ≡ true → x ≡ y) → (if is_service spec then x else y) ≡ y
    only_service x y if_service = by (is_service spec) if_service
      where
        by : (s : Bool) → (s ≡ true → x ≡ y) → (if s then x else y) ≡ y
        by true k = k refl
        by false k = refl

    back : is_service spec ≡ true → back_since (slice_get u.objects spec.host_object) ≡ back_since (slice_get end.objects spec.host_object)
    back is = sym (problem_back u object (problem_notice inv u Check object spec o1) spec) ∙ ap (λ (x : World). back_since (slice_get x.objects spec.host_object)) (sym told) ∙ ap (λ (os : List Object). back_since (slice_get os spec.host_object)) (sym ended)

    old : is_old (problem_facts inv u Check object spec o1) ≡ true
    old = ap (λ (m : Moments). have_gone_by m.since (directives_at inv (Some object)).first_notification_delay u.clock) (sym kept.moments) ∙ ap (have_gone_by after.moments.since (directives_at inv (Some object)).first_notification_delay) clock ∙ h.old

    settled : is_settled (problem_facts inv u Check object spec o1) ≡ true
    settled = by_number (eqb o.number 0) refl
      where
        by_service : (s : Bool) → is_service spec ≡ s → o.number ≡ 0 → have_gone_by (if s then back_since (slice_get u.objects spec.host_object) else None) inv.settle u.clock ≡ true
        by_service true is first = ap (λ (m : Option ℕ). have_gone_by m inv.settle u.clock) (back is) ∙ ap (have_gone_by (back_since (slice_get end.objects spec.host_object)) inv.settle) clock ∙ h.settled first (service ∙ is)
        by_service false is first = refl

        by_number : (b : Bool) → eqb o.number 0 ≡ b → (not b || have_gone_by (if is_service spec then back_since (slice_get u.objects spec.host_object) else None) inv.settle u.clock) ≡ true
        by_number true is = by_service (is_service spec) refl (eqb-true o.number 0 is)
        by_number false is = refl

    may : problem_viable (problem_facts inv u Check object spec o1) ≡ true
    may = viable (problem_facts inv u Check object spec o1)
        (open_is (problem_facts inv u Check object spec o1) (ap (λ (x : World). x.program.notifications) leaves ∙ ap (λ (x : World). x.program.notifications) timed ∙ h.program_on) h.object_on
        (ap (λ (ds : List Downtime). depth_of ds object) downtimes ∙ free.no_downtime.depth) (only_service (depth_of u.downtimes spec.host_object) 0 host_depth)) (only_service (host_is_up u.objects spec) true host)
        (ap (has_letter spec.letters) (sym letter_is) ∙ h.letter_on) (ap is_acknowledged (sym kept.acknowledgement) ∙ h.unacknowledged) (ap (λ (s : Status). s.hard) (sym kept.status) ∙ h.hard)
        (ap (λ (m : Option ℕ). is_delayed m u.clock) (sym kept.not_before) ∙ ap (is_delayed after.not_before) clock ∙ h.no_delay)
        (due_is (problem_facts inv u Check object spec o1) (subst (λ (c : ℕ). IsNoticeDue inv c object o1 o1.status.code) (sym clock) (subst (λ (s : Status). IsNoticeDue inv t object o1 s.code) kept.status h.due)))
        old settled

    made : (c k n : ℕ) (cs : List ContactSwitch) → Letter → Notice
    made c k n cs m = record { subject = record { moment = c; word = words.Problem; object = object; code = k; number = n }; contacts = recipients inv cs object n m true }

    is_it : notice ≡ nth_problem inv w t object after.status.code (o.number + 1)
    is_it =
        ap (λ (c : ℕ). made c o1.status.code (o1.number + 1) u.contacts l) clock
        ∙ ap (λ (s : Status). made t s.code (o1.number + 1) u.contacts l) (sym kept.status)
        ∙ ap (λ (cs : List ContactSwitch). made t after.status.code (o1.number + 1) cs l) contacts
        ∙ ap (λ (m : Letter). made t after.status.code (o1.number + 1) w.contacts m) (sym letter_is)

    out : problem_notice inv u Check object spec o1 ≡ Some notice
    out = problem_goes_out inv u Check object spec o1 may (subst (λ (n : Notice). 0 < length n.contacts) (sym is_it) h.someone)

    added : b.notices ≡ u.notices ++ notice ∷ []
    added = ap (λ (x : World). x.notices) told ∙ ap (λ (n : Option Notice). (with_problem u object n).notices) out

pub a_problem_is_told : AProblemIsTold
unfolding act
a_problem_is_told inv w e object code output spec before after applied asked h free =
    let from = applied_from inv w e (acts.CheckResult object code output) applied asked in
    subst (λ (p : World × Outcome). IsProblemToTell inv w p.0 (moment_of w e) object spec before after → Contains (went_out w p.0) (nth_problem inv w (moment_of w e) object after.status.code (before.number + 1))) (sym from.2)
    (check_result_cases (λ (b : World). IsProblemToTell inv w (advanced inv (counted b) (moment_of w e)) (moment_of w e) object spec before after
    → Contains (went_out w (advanced inv (counted b) (moment_of w e))) (nth_problem inv w (moment_of w e) object after.status.code (before.number + 1))) inv (found inv w e) from.0 object code output from.1
    (λ s o known at k. (let of : spec ≡ s = same_Some spec s (sym k.known ∙ known) in
    let was : before ≡ o = same_Some before o (sym k.found ∙ ap (λ (os : List Object). slice_get os object) (sym (kept_objects inv w (moment_of w e))) ∙ at) in
    let left : World = advanced inv (counted (after_taken inv (found inv w e) object code output s o)) (moment_of w e) in
    subst (λ (p : Object). Contains (went_out w left) (nth_problem inv w (moment_of w e) object after.status.code (p.number + 1))) (sym was)
    (taken_told inv w e object code output s o after known at
    (subst (λ (p : Object). IsProblemToTell inv w left (moment_of w e) object s p after) was (subst (λ (x : ObjectSpec). IsProblemToTell inv w left (moment_of w e) object x before after) of k)) free)))) h
