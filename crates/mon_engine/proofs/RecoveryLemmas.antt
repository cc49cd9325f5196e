-- A recovery is told: where its problem was hard and notified, and nothing holds the notice back, the notice goes out.
use Rattle.std.proofs.Common.{◌≡◌, ℕ, ◌<◌, Bool, true, false, ◌&&◌, not, eqb, nat_lt, if◌then◌else◌, List, [], ◌∷◌, ◌++◌, length, Option, Some, None, Contains, slice_get, refl, ap, sym, ◌∙◌, subst}
use Rattle.std.proofs.lemmas.Bool.{and_from, ne_eqb, not_from_false, lt-ltb}
use Rattle.std.proofs.lemmas.Option.{same_Some}
use Rattle.cmd_types.specs.declared.entry.Entry.{Entry}
use Rattle.mon_checks.specs.declared.transition.Change.{Change}
use Rattle.mon_checks.specs.States.{change_by, recovers}
use Rattle.mon_downtime.specs.Records.{depth_of}
use Rattle.mon_inventory.specs.declared.records.ObjectSpec.{ObjectSpec}
use Rattle.mon_inventory.specs.Configuration.{Configuration, passive_hosts_soft, recovers_the_told}
use Rattle.mon_notify.specs.declared.contacts.ContactSwitch.{ContactSwitch}
use Rattle.mon_notify.specs.declared.letter.Letter.TheVariants as letter
use Rattle.mon_notify.specs.Recipients.{recipients}
use Rattle.mon_notify.specs.Viable.{is_open, recovery_viable}
use Rattle.mon_engine.specs.declared.notices.Occasion.TheVariants.{Check}
use Rattle.mon_engine.specs.declared.notice.Notice.{Notice}
use Rattle.mon_engine.specs.declared.notice.Word.TheVariants as words
use Rattle.mon_engine.specs.declared.object.Object.{Object}
use Rattle.mon_engine.specs.declared.outcome.Outcome.{Outcome}
use Rattle.mon_engine.specs.Objects.{is_service, host_is_up, object_after}
use Rattle.mon_engine.specs.World.{World}
use Rattle.mon_engine.specs.Notices.{addressed, facts, subject_of, of_object, noticed, noticed_by, problem_notice, recovery_notice, with_problem, with_recovery}
use Rattle.mon_engine.specs.Results.{is_hard_problem, with_result, started_all, with_started, after_taken}
use Rattle.mon_engine.specs.Effects as acts
use Rattle.mon_engine.specs.Effects.{act}
use Rattle.mon_engine.specs.Clock.{advanced}
use Rattle.mon_engine.specs.Laws.{moment_of}
use Rattle.mon_engine.specs.Step.{counted}
use Rattle.mon_engine.specs.NoticeLaws.{went_out, recovery_of, IsRecoveryToTell, ARecoveryIsTold}
use Rattle.mon_engine.proofs.ActLemmas.{check_result_cases}
use Rattle.mon_engine.proofs.EntryLemmas.{found, found_clock, advanced_leaves, kept_objects, applied_from}
use Rattle.mon_engine.proofs.FirstLemmas.{Any, went_through, started_more, open_is, addressed_some}
use Rattle.mon_engine.proofs.ListLemmas.{changed_here}
use Rattle.mon_engine.proofs.NewsLemmas.{more_after, advanced_more}

-- a result that ends a problem
noticed_recovery : (inv : Configuration) (u : World) (object : ℕ) (change : Change) (spec : ObjectSpec) (o : Object) → slice_get inv.objects object ≡ Some spec → slice_get u.objects object ≡ Some o → change.recovered ≡ true
    → noticed inv u object change ≡ with_recovery u object (recovery_notice inv u object change.hard_recovery spec o)
unfolding noticed
noticed_recovery inv u object change spec o known at recovered =
    ap (λ (s : Option ObjectSpec). of_object u (noticed_by inv u object change) s (slice_get u.objects object)) known
    ∙ ap (λ (p : Option Object). of_object u (noticed_by inv u object change) (Some spec) p) at
    ∙ ap (λ (b : Bool). if b then with_recovery u object (recovery_notice inv u object change.hard_recovery spec o) else (if eqb o.status.code 0 then u else with_problem u object (problem_notice inv u Check object spec o))) recovered

recovery_goes_out : (inv : Configuration) (u : World) (object : ℕ) (hard : Bool) (spec : ObjectSpec) (o : Object) → hard ≡ true → recovers_the_told inv ≡ false → recovery_viable (facts inv u object spec o letter.R) ≡ true → 0 < length (recipients inv u.contacts object o.number letter.R true)
    → recovery_notice inv u object hard spec o ≡ Some (record { subject = subject_of u.clock words.Recovery object o o.number; contacts = recipients inv u.contacts object o.number letter.R true })
unfolding recovery_notice
recovery_goes_out inv u object hard spec o is off may someone =
    let s = subject_of u.clock words.Recovery object o o.number in
    ap (λ (b : Bool). if b then addressed inv u.contacts s letter.R true else None) (and_from (hard && not (recovers_the_told inv)) (recovery_viable (facts inv u object spec o letter.R)) (and_from hard (not (recovers_the_told inv)) is (not_from_false (recovers_the_told inv) off)) may) ∙ addressed_some inv u.contacts s letter.R someone

taken_recovers : (inv : Configuration) (w : World) (e : Entry) (object : ℕ) (output : List ℕ) (spec : ObjectSpec) (o : Object) → slice_get (found inv w e).objects object ≡ Some o → IsRecoveryToTell inv w (moment_of w e) object spec o
    → Contains (went_out w (advanced inv (counted (after_taken inv (found inv w e) object 0 output spec o)) (moment_of w e))) (recovery_of inv w (moment_of w e) object o.number)
taken_recovers inv w e object output spec o at h =
    subst (Contains (went_out w end)) is_it (went_through w u b end notice (more_after Any w.notices v.notices u.notices (advanced_more inv w t Any (λ n k. tt)) (started_more inv with_it object)) added (advanced_more inv (counted b) t Any (λ n k. tt)))
  where
    t : ℕ
    t = moment_of w e

    v : World
    v = found inv w e

    with_it : World
    with_it = with_result inv v object spec o 0 output

    u : World
    u = with_started inv with_it object

    b : World
    b = after_taken inv v object 0 output spec o

    end : World
    end = advanced inv (counted b) t

    o1 : Object
    o1 = object_after v.clock 0 output (host_is_up v.objects spec) (passive_hosts_soft inv) spec.max o

    notice : Notice
    notice = record { subject = subject_of u.clock words.Recovery object o1 o1.number; contacts = recipients inv u.contacts object o1.number letter.R true }

    here : slice_get with_it.objects object ≡ Some o1
    here = changed_here v.objects object (object_after v.clock 0 output (host_is_up v.objects spec) (passive_hosts_soft inv) spec.max) o at

    -- no problem, so that no downtime starts
    same : u ≡ with_it
    same = ap (λ (p : Option Object). if is_hard_problem p then started_all inv with_it object else with_it) here

    there : slice_get u.objects object ≡ Some o1
    there = ap (λ (x : World). slice_get x.objects object) same ∙ here

    timed : v ≡ record w { clock = v.clock; downtimes = v.downtimes; notices = v.notices }
    timed = advanced_leaves inv w t ∙ ap (λ (c : ℕ). record w { clock = c; downtimes = v.downtimes; notices = v.notices }) (sym (ap (λ (x : World). x.clock) (advanced_leaves inv w t)))

    clock : u.clock ≡ t
    clock = ap (λ (x : World). x.clock) same ∙ found_clock inv w e

    contacts : u.contacts ≡ w.contacts
    contacts = ap (λ (x : World). x.contacts) same ∙ ap (λ (x : World). x.contacts) timed

    ended : recovers o.status 0 ≡ true
    ended = and_from (not (eqb o.status.code 0)) true (not_from_false (eqb o.status.code 0) (ne_eqb o.status.code 0 h.problem)) refl

    told : b ≡ with_recovery u object (recovery_notice inv u object (change_by o.status 0).hard_recovery spec o1)
    told = noticed_recovery inv u object (change_by o.status 0) spec o1 h.known there ended

    host_depth : (s : Bool) → is_service spec ≡ s → (if s then depth_of u.downtimes spec.host_object else 0) ≡ 0
    host_depth true is = ap (λ (x : World). depth_of x.downtimes spec.host_object) same ∙ h.no_downtime.host_depth spec h.known is
    host_depth false is = refl

    open_it : is_open (facts inv u object spec o1 letter.R) ≡ true
    open_it = open_is (facts inv u object spec o1 letter.R) (ap (λ (x : World). x.program.notifications) same ∙ ap (λ (x : World). x.program.notifications) timed ∙ h.program_on) h.object_on
        (ap (λ (x : World). depth_of x.downtimes object) same ∙ h.no_downtime.depth) (host_depth (is_service spec) refl)

    may : recovery_viable (facts inv u object spec o1 letter.R) ≡ true
    may = and_from (nat_lt 0 o1.number && is_open (facts inv u object spec o1 letter.R)) spec.letters.r (and_from (nat_lt 0 o1.number) (is_open (facts inv u object spec o1 letter.R)) (lt-ltb 0 o1.number h.numbered) open_it) h.letter_on

    is_it : notice ≡ recovery_of inv w t object o.number
    is_it =
        ap (λ (c : ℕ). made c u.contacts) clock
        ∙ ap (λ (cs : List ContactSwitch). made t cs) contacts
      where
        made : ℕ → List ContactSwitch → Notice
        made c cs = record { subject = record { moment = c; word = words.Recovery; object = object; code = 0; number = o.number }; contacts = recipients inv cs object o.number letter.R true }

    out : recovery_notice inv u object (change_by o.status 0).hard_recovery spec o1 ≡ Some notice
    out = recovery_goes_out inv u object (change_by o.status 0).hard_recovery spec o1 (and_from (recovers o.status 0) o.status.hard ended h.hard) h.without may (subst (λ (n : Notice). 0 < length n.contacts) (sym is_it) h.someone)

    added : b.notices ≡ u.notices ++ notice ∷ []
    added = ap (λ (x : World). x.notices) told ∙ ap (λ (n : Option Notice). (with_recovery u object n).notices) out

pub a_recovery_is_told : ARecoveryIsTold
unfolding act
a_recovery_is_told inv w e object output spec before applied asked h =
    let from = applied_from inv w e (acts.CheckResult object 0 output) applied asked in
    let at : slice_get (found inv w e).objects object ≡ Some before = ap (λ (os : List Object). slice_get os object) (kept_objects inv w (moment_of w e)) ∙ h.found in
    let goal : World → Type 0 = λ (b : World). Contains (went_out w (advanced inv (counted b) (moment_of w e))) (recovery_of inv w (moment_of w e) object before.number) in
    subst (λ (p : World × Outcome). Contains (went_out w p.0) (recovery_of inv w (moment_of w e) object before.number)) (sym from.2)
    (check_result_cases goal inv (found inv w e) from.0 object 0 output from.1
    (λ s o of is. subst (λ (x : ObjectSpec). goal (after_taken inv (found inv w e) object 0 output x o)) (same_Some spec s (sym h.known ∙ of))
    (subst (λ (y : Object). goal (after_taken inv (found inv w e) object 0 output spec y)) (same_Some before o (sym at ∙ is))
    (taken_recovers inv w e object output spec before at h))))
