-- A check result leads from a world that holds together to another.
use Rattle.std.proofs.Common.{◌≡◌, ℕ, ◌+◌, Bool, true, false, not, ◌&&◌, eqb, List, length, Some, Ok, map, slice_get, if◌then◌else◌, refl, ap, sym, ◌∙◌, subst, arith}
use Rattle.std.proofs.lemmas.List.{length-map}
use Rattle.std.proofs.lemmas.Option.{slice_get_within}
use Rattle.mon_checks.specs.declared.transition.Change.{Change}
use Rattle.mon_downtime.specs.Problem.{all_started, all_waiting, started}
use Rattle.mon_notes.specs.Comments.{CommentList, without_acknowledged}
use Rattle.mon_inventory.specs.declared.records.ObjectSpec.{ObjectSpec}
use Rattle.mon_inventory.specs.Configuration.{Configuration, passive_hosts_soft}
use Rattle.mon_inventory.specs.Facts.{IsInventory}
use Rattle.mon_engine.specs.declared.notices.Occasion.TheVariants.{Check}
use Rattle.mon_engine.specs.declared.notice.Word.TheVariants.{DowntimeStart}
use Rattle.mon_engine.specs.declared.results.Checked.{Checked}
use Rattle.mon_engine.specs.declared.object.Object.{Object}
use Rattle.mon_engine.specs.Places.{changed_at}
use Rattle.mon_engine.specs.Objects.{object_after, result_unacknowledges, after_told, reset, host_is_up}
use Rattle.mon_engine.specs.World.{World}
use Rattle.mon_engine.specs.Notices.{told, recovery_notice, noticed}
use Rattle.mon_engine.specs.Results.{with_result, checked_as, started_all, with_started, after_check_result}
use Rattle.mon_engine.specs.Sound.{IsObjectState, AreObjectStates, IsNoticeOf, IsWorldAt, IsWorld, Follows, ever, raised}
use Rattle.mon_engine.proofs.ActLemmas.{started_cases, noticed_cases, check_result_cases}
use Rattle.mon_engine.proofs.DowntimeLemmas.{started_only, fates_known}
use Rattle.mon_engine.proofs.ListLemmas.{All-each}
use Rattle.mon_engine.proofs.NoticeLemmas.{IfAny, downtime_notice_as, problem_notice_as, recovery_notice_as, sound_as}
use Rattle.mon_engine.proofs.StateLemmas.{changed_states, same_status, result_state}
use Rattle.mon_checks.specs.States.{change_by}
use Rattle.mon_engine.proofs.PartLemmas.{later, with_states, with_downtimes, with_more_notices, Reaches}
use Rattle.mon_engine.proofs.AcknowledgementLemmas.{fewer_world}

-- the objects after a result
result_states : (inv : Configuration) (n : ℕ) (os : List Object) (object : ℕ) (spec : ObjectSpec) (clock code : ℕ) (output : List ℕ) (up soft : Bool) → IsInventory inv → AreObjectStates n inv.objects os
    → slice_get inv.objects object ≡ Some spec → AreObjectStates n inv.objects (changed_at os object (object_after clock code output up soft spec.max))
result_states inv n os object spec clock code output up soft sound states at = changed_states n n inv.objects os object (object_after clock code output up soft spec.max) (omega arith) states
    (λ s o a k. (let same : spec ≡ s = cc in
    subst (λ (t : ObjectSpec). IsObjectState t (object_after clock code output up soft spec.max o)) same
    (result_state spec o clock code output up soft (sound.objects object spec at).max_least (subst (λ (t : ObjectSpec). IsObjectState t o) (sym same) k))))
    (λ o k. k)

-- the comments after it
result_world : (inv : Configuration) (n m : ℕ) (w : World) (object : ℕ) (spec : ObjectSpec) (o : Object) (code : ℕ) (output : List ℕ) → IsInventory inv → IsWorldAt inv n m w
    → slice_get inv.objects object ≡ Some spec → IsWorldAt inv n m (with_result inv w object spec o code output)
result_world inv n m w object spec o code output sound h at = by_removed (result_unacknowledges o code)
  where
    after : List Object
    after = changed_at w.objects object (object_after w.clock code output (host_is_up w.objects spec) (passive_hosts_soft inv) spec.max)

    states : AreObjectStates m inv.objects after
    states = result_states inv m w.objects object spec w.clock code output (host_is_up w.objects spec) (passive_hosts_soft inv) sound h.states at

    by_removed : (b : Bool) → IsWorldAt inv n m (record w { objects = after; notes = if b then without_acknowledged object w.notes else w.notes })
    by_removed true = with_states inv n m m (record w { notes = without_acknowledged object w.notes }) after (omega arith) (fewer_world inv n m w (λ c. not ((eqb c.object object) && c.ack && not c.persistent)) h) states
    by_removed false = with_states inv n m m w after (omega arith) h states

-- the flexible downtimes that start
started_world : (inv : Configuration) (n m : ℕ) (w : World) (object : ℕ) → IsWorldAt inv n m w → Reaches inv n m w (started_all inv w object)
unfolding started_all all_started
started_world inv n m w object h =
    let few = h.downtimes in
    let same : length (map (started object w.clock) w.downtimes) ≡ length w.downtimes = length-map w.downtimes (started object w.clock) in
    record {
      world = with_more_notices inv n m (record w { downtimes = map (started object w.clock) w.downtimes }) _
          (with_downtimes inv n m w _ h (record {
            few = omega arith;
            known = fates_known (length inv.objects) (started object w.clock) (started_only object w.clock) w.downtimes h.known;
          }))
          (All-each (IsNoticeOf inv) _ (λ d. sound_as _ (downtime_notice_as inv w DowntimeStart w.clock object)) (all_waiting w.downtimes object w.clock));
      entries = refl;
      before = refl;
    }

with_started_world : (inv : Configuration) (n m : ℕ) (w : World) (object : ℕ) → IsWorldAt inv n m w → Reaches inv n m w (with_started inv w object)
with_started_world inv n m w object h = started_cases (Reaches inv n m w) inv w object (record { world = h; entries = refl; before = refl }) (started_world inv n m w object h)

-- the notice of what changed
noticed_world : (inv : Configuration) (n m : ℕ) (w : World) (object : ℕ) (change : Change) → IsWorldAt inv n m w → Reaches inv n (m + 1) w (noticed inv w object change)
noticed_world inv n m w object change h = noticed_cases (Reaches inv n (m + 1) w) inv w object change (record { world = later inv n m n (m + 1) w (omega arith) (omega arith) h; entries = refl; before = refl })
    (λ spec o known at. (let x = recovery_notice inv w object change.hard_recovery spec o in
    let sound = sound_as x (recovery_notice_as inv w object change.hard_recovery spec o (slice_get_within inv.objects object spec known)) in
    record {
      world = with_states inv n m (m + 1) (told w x) _ (omega arith) (with_more_notices inv n m w _ h sound)
          (changed_states m (m + 1) inv.objects w.objects object reset (omega arith) h.states (λ spec o a s. same_status spec o _ refl refl s) (λ o few. omega arith));
      entries = refl;
      before = refl;
    }))
    (λ spec o known at n1 e. (let sound = sound_as _ (problem_notice_as inv w Check object spec o (slice_get_within inv.objects object spec known)) in
    record {
      world = with_states inv n m (m + 1) (told w (Some n1)) _ (omega arith) (with_more_notices inv n m w _ h (subst (IfAny (IsNoticeOf inv)) e sound))
          (changed_states m (m + 1) inv.objects w.objects object (after_told w.clock) (omega arith) h.states (λ spec o a s. same_status spec o _ refl refl s) (λ o few. omega (arith, few)));
      entries = refl;
      before = refl;
    }))

-- w0 is the world by its fields, os and notes are what the result leaves of it: what changed is told of in a world that holds together
pub change_found : (inv : Configuration) (n m : ℕ) (w0 w w' : World) (object : ℕ) (spec : ObjectSpec) (o : Object) (clock code : ℕ) (output text : List ℕ) (up soft : Bool) (checked : Checked) (os : List Object) (notes : CommentList)
    → IsInventory inv → IsWorldAt inv n m w → slice_get inv.objects object ≡ Some spec → w0 ≡ w → clock ≡ w0.clock → text ≡ output → up ≡ host_is_up w0.objects spec → soft ≡ passive_hosts_soft inv → checked ≡ checked_as o code
    → os ≡ changed_at w0.objects object (object_after clock code text up soft spec.max) → notes ≡ (if checked.unacknowledges then without_acknowledged object w0.notes else w0.notes)
    → w' ≡ with_started inv (record w0 { objects = os; notes = notes }) object → IsWorldAt inv n m w'
change_found inv n m w0 w w' object spec o clock code output text up soft checked os notes sound h at v now same host hosts is objects dropped last =
    subst (IsWorldAt inv n m) (sym (last ∙ ap (λ (x : World). with_started inv x object) taken)) (with_started_world inv n m (with_result inv w object spec o code output) object (result_world inv n m w object spec o code output sound h at)).world
  where
    after : ℕ → List ℕ → Bool → Bool → List Object
    after t x b s = changed_at w0.objects object (object_after t code x b s spec.max)

    left : Bool → CommentList
    left b = if b then without_acknowledged object w0.notes else w0.notes

    taken : record w0 { objects = os; notes = notes } ≡ with_result inv w object spec o code output
    taken =
        ap (λ (xs : List Object). record w0 { objects = xs; notes = notes }) (objects ∙ ap (λ (t : ℕ). after t text up soft) now ∙ ap (λ (x : List ℕ). after w0.clock x up soft) same ∙ ap (λ (b : Bool). after w0.clock output b soft) host ∙ ap (after w0.clock output (host_is_up w0.objects spec)) hosts)
        ∙ ap (λ (ns : CommentList). record w0 { objects = after w0.clock output (host_is_up w0.objects spec) (passive_hosts_soft inv); notes = ns }) (dropped ∙ ap (λ (c : Checked). left c.unacknowledges) is)
        ∙ ap (λ (x : World). with_result inv x object spec o code output) v

pub result_follows : (inv : Configuration) (w w' : World) (object code : ℕ) (output : List ℕ) → IsInventory inv → IsWorld inv w → after_check_result inv w object code output ≡ Ok w' → Follows inv w w'
result_follows inv w w' object code output sound h e = check_result_cases (Follows inv w) inv w w' object code output e
    (λ spec o known at. (let taken = with_result inv w object spec o code output in
    let started = with_started_world inv (ever w + 1) (raised w) taken object (result_world inv (ever w + 1) (raised w) w object spec o code output sound (later inv (ever w) (raised w) (ever w + 1) (raised w) w (omega arith) (omega arith) h) known) in
    let told = noticed_world inv (ever w + 1) (raised w) (with_started inv taken object) object (change_by o.status code) started.world in
    record { world = told.world; entries = told.entries ∙ started.entries; before = told.before ∙ started.before }))
