-- A comment goes only by what removes it.
use Rattle.std.proofs.Common.{◌≡◌, ℕ, Bool, true, false, not, ◌&&◌, eqb, List, Option, Some, Result, Ok, ◌⊎◌, inl, inr, slice_get, if◌then◌else◌, refl, ap, sym, ◌∙◌, subst}
use Rattle.std.specs.Prelude.{Contains, filter}
use Rattle.std.proofs.lemmas.Bool.{and_parts, eqb-true, not-true, not-false}
use Rattle.std.proofs.lemmas.List.Elements.{Contains-append_left}
use Rattle.mon_checks.specs.States.{change_by}
use Rattle.mon_notes.specs.declared.comment.Comment.{Comment}
use Rattle.mon_notes.specs.Comments.{comment_of, without_acknowledged}
use Rattle.mon_inventory.specs.declared.records.ObjectSpec.{ObjectSpec}
use Rattle.mon_inventory.specs.Configuration.{Configuration, passive_hosts_soft}
use Rattle.mon_engine.specs.declared.object.Kind.{Kind}
use Rattle.mon_engine.specs.declared.object.Acknowledgement.{Acknowledgement}
use Rattle.mon_engine.specs.declared.object.Acknowledgement.TheVariants.{Unacknowledged, Normal, Sticky}
use Rattle.mon_engine.specs.declared.object.Object.{Object}
use Rattle.mon_engine.specs.declared.outcome.Reason.{Reason}
use Rattle.mon_engine.specs.declared.outcome.Outcome.TheVariants.{Applied}
use Rattle.mon_engine.specs.Objects.{is_acknowledged, host_is_up, object_after, acknowledgement_after, result_unacknowledges, with_acknowledgement}
use Rattle.mon_engine.specs.World.{World}
use Rattle.mon_engine.specs.Results.{with_result, with_started, after_taken, after_check_result}
use Rattle.mon_engine.specs.Acknowledgements.{after_acknowledge, after_unacknowledge, after_del_comment, has_comment_by}
use Rattle.mon_engine.specs.Effects as acts
use Rattle.mon_engine.specs.Effects.{Act, act, named}
use Rattle.mon_engine.specs.Clock.{advanced}
use Rattle.mon_engine.specs.Step.{counted}
use Rattle.mon_engine.specs.Laws.{moment_of, acknowledgement_in, acknowledgement_at, AppliesOne, GoesWithAcknowledgement, RemovesComment, CommentsStand}
use Rattle.mon_engine.proofs.ActLemmas.{ok_is, del_comment_cases, acknowledge_cases, unacknowledge_cases, started_leaves, noticed_leaves, check_result_cases, act_leaves}
use Rattle.mon_engine.proofs.EntryLemmas.{found, found_notes, end_notes, kept_objects, entry_cases}
use Rattle.mon_engine.proofs.AcknowledgedLemmas.{Has, has_is, noticed_has}
use Rattle.mon_engine.proofs.ListLemmas.{contains_filter, changed_here}

-- ---- what acts remove

-- the comment goes with its object's acknowledgement, from v to b
abbrev Goes : (v b : World) → Comment → Type 0
Goes v b c = GoesWithAcknowledgement v b c

-- the comment stands in b, or the act removes it
abbrev Stands : Configuration → (v b : World) → Comment → Act → Type 0
Stands inv v b c a = Contains b.notes.comments c ⊎ RemovesComment inv v b c a

stands_ok : (inv : Configuration) (v b w : World) (c : Comment) (a : Act) (r : Result World Reason) → r ≡ Ok b → r ≡ Ok w → Stands inv v b c a → Stands inv v w c a
stands_ok inv v b w c a r e f h = ok_is (λ (x : World). Stands inv v x c a) r b w e f h

-- those that pass a test are kept, and why one does not
kept_or : {R : Type 0} (keeps : Comment → Bool) (cs : List Comment) (c : Comment) → Contains cs c → (keeps c ≡ false → R) → Contains (filter keeps cs) c ⊎ R
kept_or {R = R} keeps cs c there why = by_test (keeps c) refl
  where
    by_test : (b : Bool) → keeps c ≡ b → Contains (filter keeps cs) c ⊎ R
    by_test true e = inl (contains_filter keeps cs c there e)
    by_test false e = inr (why e)

-- ---- comments of acknowledgements

-- the comment is of an acknowledgement of this object, and not persistent
abbrev IsOfAcknowledgement : Comment → ℕ → Type 0
IsOfAcknowledgement c x = (c.object ≡ x) × (c.ack ≡ true) × (c.persistent ≡ false)

dropped : (c : Comment) (x : ℕ) → not (eqb c.object x && c.ack && not c.persistent) ≡ false → IsOfAcknowledgement c x
dropped c x h =
    let all = and_parts (eqb c.object x && c.ack) (not c.persistent) (not-false _ h) in
    let two = and_parts (eqb c.object x) c.ack all.0 in
    (eqb-true c.object x two.0, two.1, not-true c.persistent all.1)

-- it goes where the acknowledgement stood before, and is gone
goes : (v b : World) (c : Comment) (x : ℕ) (o : Object) → IsOfAcknowledgement c x → slice_get v.objects x ≡ Some o → is_acknowledged o.acknowledgement ≡ true → acknowledgement_at b x ≡ Unacknowledged → Goes v b c
goes v b c x o of e stood gone = record {
  ack = of.1;
  transient = of.2;
  stood = ap (λ (k : ℕ). is_acknowledged (acknowledgement_at v k)) of.0 ∙ ap (λ (p : Option Object). is_acknowledged (acknowledgement_in p)) e ∙ stood;
  gone = ap (λ (k : ℕ). acknowledgement_at b k) of.0 ∙ gone;
}

unacknowledge_stands : (inv : Configuration) (v : World) (x : ℕ) (c : Comment) → Contains v.notes.comments c → Stands inv v (after_unacknowledge v x) c (acts.RemoveAcknowledgement x)
unacknowledge_stands inv v x c there = unacknowledge_cases (λ (w : World). Stands inv v w c (acts.RemoveAcknowledgement x)) v x (inl there)
    (λ o at is. kept_or (λ (y : Comment). not (eqb y.object x && y.ack && not y.persistent)) v.notes.comments c there
    (λ h. goes v _ c x o (dropped c x h) at is (ap acknowledgement_in (changed_here v.objects x (with_acknowledgement Unacknowledged) o at))))

-- ---- a check result

none_of : (a : Acknowledgement) → is_acknowledged a ≡ false → a ≡ Unacknowledged
none_of Unacknowledged e = refl
none_of Normal e = absurd (cc)
none_of Sticky e = absurd (cc)

taken_stands : (inv : Configuration) (v : World) (x code : ℕ) (output : List ℕ) (spec : ObjectSpec) (o : Object) (c : Comment) → slice_get v.objects x ≡ Some o → Contains v.notes.comments c
    → Stands inv v (after_taken inv v x code output spec o) c (acts.CheckResult x code output)
taken_stands inv v x code output spec o c e there = by_removed (result_unacknowledges o code) refl
  where
    notes : (after_taken inv v x code output spec o).notes ≡ (with_result inv v x spec o code output).notes
    notes =
        ap (λ (y : World). y.notes) (noticed_leaves inv (with_started inv (with_result inv v x spec o code output) x) x (change_by o.status code))
        ∙ ap (λ (y : World). y.notes) (started_leaves inv (with_result inv v x spec o code output) x)

    gone : (a : Acknowledgement) → acknowledgement_after o.acknowledgement (change_by o.status code).code_changed (change_by o.status code).recovered ≡ a → acknowledgement_at (after_taken inv v x code output spec o) x ≡ a
    gone a is =
        let f : Object → Object = object_after v.clock code output (host_is_up v.objects spec) (passive_hosts_soft inv) spec.max in
        let first : Has (with_result inv v x spec o code output).objects x a = (f o, changed_here v.objects x f o e, is) in
        let started : Has (with_started inv (with_result inv v x spec o code output) x).objects x a = subst (λ (os : List Object). Has os x a) (sym (ap (λ (y : World). y.objects) (started_leaves inv (with_result inv v x spec o code output) x))) first in
        has_is _ x a (noticed_has inv (with_started inv (with_result inv v x spec o code output) x) x x (change_by o.status code) a started)

    by_removed : (r : Bool) → result_unacknowledges o code ≡ r → Stands inv v (after_taken inv v x code output spec o) c (acts.CheckResult x code output)
    by_removed false h =
        let same : (after_taken inv v x code output spec o).notes ≡ v.notes = notes ∙ ap (λ (r : Bool). if r then without_acknowledged x v.notes else v.notes) h in
        inl (subst (λ n. Contains n.comments c) (sym same) there)
    by_removed true h =
        let less : (after_taken inv v x code output spec o).notes ≡ without_acknowledged x v.notes = notes ∙ ap (λ (r : Bool). if r then without_acknowledged x v.notes else v.notes) h in
        let both = and_parts (is_acknowledged o.acknowledgement) (not (is_acknowledged (acknowledgement_after o.acknowledgement (change_by o.status code).code_changed (change_by o.status code).recovered))) h in
        let ended = none_of (acknowledgement_after o.acknowledgement (change_by o.status code).code_changed (change_by o.status code).recovered) (not-true _ both.1) in
        subst (λ n. Contains n.comments c ⊎ Goes v (after_taken inv v x code output spec o) c) (sym less)
        (kept_or (λ (y : Comment). not (eqb y.object x && y.ack && not y.persistent)) v.notes.comments c there
        (λ k. goes v (after_taken inv v x code output spec o) c x o (dropped c x k) e both.0 (gone Unacknowledged ended)))

result_stands : (inv : Configuration) (v w : World) (x code : ℕ) (output : List ℕ) (c : Comment) → Contains v.notes.comments c → after_check_result inv v x code output ≡ Ok w → Stands inv v w c (acts.CheckResult x code output)
result_stands inv v w x code output c there e =
    check_result_cases (λ (y : World). Stands inv v y c (acts.CheckResult x code output)) inv v w x code output e (λ spec o known at. taken_stands inv v x code output spec o c at there)

-- ---- the other acts

acknowledge_stands : (inv : Configuration) (v w : World) (x sticky : ℕ) (notify persistent : Bool) (author text : List ℕ) (c : Comment) → Contains v.notes.comments c → after_acknowledge inv v x sticky notify persistent author text ≡ Ok w
    → Stands inv v w c (acts.Acknowledge x sticky notify persistent author text)
acknowledge_stands inv v w x sticky notify persistent author text c there e =
    acknowledge_cases (λ (y : World). Stands inv v y c (acts.Acknowledge x sticky notify persistent author text)) inv v w x sticky notify persistent author text e
    (λ o at problem. inl (Contains-append_left v.notes.comments _ c there)) (λ o at problem. inl (Contains-append_left v.notes.comments _ c there))

del_stands : (inv : Configuration) (v w : World) (kind : Kind) (id : ℕ) (c : Comment) → Contains v.notes.comments c → after_del_comment inv v kind id ≡ Ok w → Stands inv v w c (acts.DelComment kind id)
del_stands inv v w kind id c there e = del_comment_cases (λ (y : World). Stands inv v y c (acts.DelComment kind id)) inv v w kind id e
    (λ found. kept_or (λ (y : Comment). not (eqb y.id id)) v.notes.comments c there (λ h. (eqb-true c.id id (not-false _ h), found)))

act_stands : (inv : Configuration) (v w : World) (c : Comment) (a : Act) → Contains v.notes.comments c → act inv v a ≡ Ok w → Stands inv v w c a
unfolding act
act_stands inv v w c (acts.AddComment x persistent author text) there e = stands_ok inv v _ w c (acts.AddComment x persistent author text) _ refl e (inl (Contains-append_left v.notes.comments _ c there))
act_stands inv v w c (acts.DelComment kind id) there e = del_stands inv v w kind id c there e
act_stands inv v w c (acts.DelAllComments x) there e = stands_ok inv v _ w c (acts.DelAllComments x) _ refl e
    (kept_or (λ (y : Comment). not (eqb y.object x)) v.notes.comments c there (λ h. sym (eqb-true c.object x (not-false _ h))))
act_stands inv v w c (acts.Acknowledge x sticky notify persistent author text) there e = acknowledge_stands inv v w x sticky notify persistent author text c there e
act_stands inv v w c (acts.RemoveAcknowledgement x) there e = stands_ok inv v _ w c (acts.RemoveAcknowledgement x) _ refl e (unacknowledge_stands inv v x c there)
act_stands inv v w c (acts.CheckResult x code output) there e = result_stands inv v w x code output c there e
act_stands inv v w c acts.Restart there e = stands_ok inv v _ w c acts.Restart _ refl e (kept_or (λ (y : Comment). y.persistent) v.notes.comments c there (λ h. h))
act_stands inv v w c a there e = inl (subst (λ n. Contains n.comments c) (sym (ap (λ (x : World). x.notes) (act_leaves inv v w a e))) there)

-- ---- an entry

-- what is removed from v to b is removed from w to d, which have the same comments and objects
goes_around : (v b w d : World) (c : Comment) → v.objects ≡ w.objects → d.objects ≡ b.objects → Goes v b c → Goes w d c
goes_around v b w d c before after h = record {
  ack = h.ack;
  transient = h.transient;
  stood = ap (λ (os : List Object). is_acknowledged (acknowledgement_in (slice_get os c.object))) (sym before) ∙ h.stood;
  gone = ap (λ (os : List Object). acknowledgement_in (slice_get os c.object)) after ∙ h.gone;
}

around : (inv : Configuration) (v b w d : World) (c : Comment) → v.notes ≡ w.notes → v.objects ≡ w.objects → d.objects ≡ b.objects → (a : Act) → RemovesComment inv v b c a → RemovesComment inv w d c a
around inv v b w d c notes before after (acts.DelComment kind id) h = (h.0, ap (λ n. has_comment_by inv kind (comment_of n.comments id)) (sym notes) ∙ h.1)
around inv v b w d c notes before after (acts.DelAllComments _) h = h
around inv v b w d c notes before after (acts.RemoveAcknowledgement _) h = goes_around v b w d c before after h
around inv v b w d c notes before after (acts.CheckResult _ _ _) h = goes_around v b w d c before after h
around inv v b w d c notes before after acts.Restart h = h
around inv v b w d c notes before after _ h = absurd h

pub comments_stand : CommentsStand
comments_stand inv w e c there = entry_cases inv w e
    (λ p. Contains p.0.notes.comments c ⊎ AppliesOne inv e p.1 (RemovesComment inv w p.0 c))
    (λ why. inl (subst (λ n. Contains n.comments c) (sym (end_notes inv _ (moment_of w e))) found_there))
    applied
  where
    found_there : Contains (found inv w e).notes.comments c
    found_there = subst (λ n. Contains n.comments c) (sym (found_notes inv w e)) there

    applied : (a : Act) (b : World) → named inv e.stamped.command ≡ Ok a → act inv (found inv w e) a ≡ Ok b
        → Contains (advanced inv (counted b) (moment_of w e)).notes.comments c ⊎ AppliesOne inv e Applied (RemovesComment inv w (advanced inv (counted b) (moment_of w e)) c)
    applied a b n h = elim (act_stands inv (found inv w e) b c a found_there h) [
      | inl stays ↦ inl (subst (λ n. Contains n.comments c) (sym (end_notes inv b (moment_of w e))) stays)
      | inr gone ↦ inr (record {
        applied = refl;
        does = a;
        asked_for = n;
        among = around inv (found inv w e) b w (advanced inv (counted b) (moment_of w e)) c (found_notes inv w e) (kept_objects inv w (moment_of w e)) (kept_objects inv (counted b) (moment_of w e)) a gone;
      })
    ]
