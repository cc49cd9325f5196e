-- An act that adds a comment adds it each time that it is done.
use Rattle.std.proofs.Common.{◌≡◌, ℕ, ◌+◌, Bool, true, false, eqb, List, [], ◌∷◌, ◌++◌, Some, Ok, Err, slice_get, if◌then◌else◌, append_assoc, inl, inr, refl, ap, sym, ◌∙◌, subst, arith}
use Rattle.cmd_types.specs.declared.command.Command.{Command}
use Rattle.cmd_types.specs.declared.entry.Entry.{Entry}
use Rattle.mon_notes.specs.declared.comment.Comment.{Comment}
use Rattle.mon_notes.specs.Comments.{CommentList}
use Rattle.mon_inventory.specs.Configuration.{Configuration}
use Rattle.mon_engine.specs.declared.object.Object.{Object}
use Rattle.mon_engine.specs.declared.outcome.Reason.TheVariants.{NotAProblem}
use Rattle.mon_engine.specs.declared.outcome.Outcome.{Outcome}
use Rattle.mon_engine.specs.declared.outcome.Outcome.TheVariants.{Applied}
use Rattle.mon_engine.specs.Places.{changed_at}
use Rattle.mon_engine.specs.Objects.{after_told, with_acknowledgement, acknowledgement_of}
use Rattle.mon_engine.specs.World.{World}
use Rattle.mon_engine.specs.ByClock.{told_by_clock}
use Rattle.mon_engine.specs.Effects as acts
use Rattle.mon_engine.specs.Effects.{Act, act, named}
use Rattle.mon_engine.specs.Acknowledgements.{commented, acknowledge, told_acknowledged, acknowledged_by, after_acknowledge}
use Rattle.mon_engine.specs.Step.{counted, acted, step}
use Rattle.mon_engine.specs.Laws.{moment_of, comment_by, DoubledCommentsShow}
use Rattle.mon_engine.proofs.ActLemmas.{ok_is, acknowledge_cases}
use Rattle.mon_engine.proofs.ByClockLemmas.{clock_object}
use Rattle.mon_engine.proofs.EntryLemmas.{found, applied_from, applied_by, found_clock, found_notes, kept_objects, end_notes}
use Rattle.mon_engine.proofs.ListLemmas.{changed_here}
use Rattle.mon_engine.proofs.EndLemmas.{step_leaves, step_objects, ends_objects}
use Rattle.mon_engine.specs.Ends.{told_ends}

-- ---- an acknowledgement's comment

acknowledged_notes : (inv : Configuration) (v b : World) (object sticky : ℕ) (notify persistent : Bool) (author text : List ℕ) → after_acknowledge inv v object sticky notify persistent author text ≡ Ok b
    → b.notes ≡ (commented v object true persistent author text).notes
acknowledged_notes inv v b object sticky notify persistent author text e =
    acknowledge_cases (λ (x : World). x.notes ≡ (commented v object true persistent author text).notes) inv v b object sticky notify persistent author text e (λ o at problem. refl) (λ o at problem. refl)

-- the object is there, and has a problem
abbrev IsProblemAt : List Object → ℕ → Type 0
IsProblemAt os object = (o : Object) × (slice_get os object ≡ Some o) × (eqb o.status.code 0 ≡ false)

-- what was acknowledged is still a problem
acknowledged_problem : (inv : Configuration) (v b : World) (object sticky : ℕ) (notify persistent : Bool) (author text : List ℕ) → after_acknowledge inv v object sticky notify persistent author text ≡ Ok b
    → IsProblemAt b.objects object
acknowledged_problem inv v b object sticky notify persistent author text e = acknowledge_cases (λ (x : World). IsProblemAt x.objects object) inv v b object sticky notify persistent author text e set set
  where
    f : Object → Object
    f = with_acknowledgement (acknowledgement_of sticky)

    set : (o : Object) → slice_get v.objects object ≡ Some o → eqb o.status.code 0 ≡ false → IsProblemAt (changed_at v.objects object (with_acknowledgement (acknowledgement_of sticky))) object
    set o at problem = (f o, changed_here v.objects object f o at, problem)

-- a problem can be acknowledged
acknowledged_again : (inv : Configuration) (v : World) (object sticky : ℕ) (notify persistent : Bool) (author text : List ℕ) → IsProblemAt v.objects object
    → (b : World) × (after_acknowledge inv v object sticky notify persistent author text ≡ Ok b)
unfolding after_acknowledge
acknowledged_again inv v object sticky notify persistent author text h = (
  told_acknowledged inv (acknowledge v object sticky persistent author text) object notify,
  ap (acknowledged_by inv v object sticky notify persistent author text) h.1
      ∙ ap (λ (x : Bool). if x then Err NotAProblem else Ok (told_acknowledged inv (acknowledge v object sticky persistent author text) object notify)) h.2,
)

-- ---- each act

-- the comments after one more
abbrev Adds : (v b : World) → (time id : ℕ) → Comment → Type 0
Adds v b time id c = b.notes ≡ record { comments = v.notes.comments ++ c ∷ []; last_id = id }

added : (v b : World) (object : ℕ) (ack persistent : Bool) (author text : List ℕ) (c : Comment) (time id : ℕ) → b.notes ≡ (commented v object ack persistent author text).notes
    → Some (record { id = id; object = object; ack = ack; persistent = persistent; time = time; author = author; text = text }) ≡ Some c → id ≡ v.notes.last_id + 1 → v.clock ≡ time → Adds v b time id c
added v b object ack persistent author text c time id e h l t =
    let one : record { id = id; object = object; ack = ack; persistent = persistent; time = time; author = author; text = text } ≡ c = cc in
    e
    ∙ ap (λ (k : ℕ). record { comments = v.notes.comments ++ record { id = k; object = object; ack = ack; persistent = persistent; time = v.clock; author = author; text = text } ∷ []; last_id = k }) (sym l)
    ∙ ap (λ (k : ℕ). record { comments = v.notes.comments ++ record { id = id; object = object; ack = ack; persistent = persistent; time = k; author = author; text = text } ∷ []; last_id = id }) t
    ∙ ap (λ (x : Comment). record { comments = v.notes.comments ++ x ∷ []; last_id = id }) one

brings : (inv : Configuration) (v b : World) (time id : ℕ) (c : Comment) (a : Act) → act inv v a ≡ Ok b → comment_by a time id ≡ Some c → id ≡ v.notes.last_id + 1 → v.clock ≡ time → Adds v b time id c
unfolding act
brings inv v b time id c (acts.AddComment object persistent author text) e h l t = added v b object false persistent author text c time id (ok_is (λ (x : World). x.notes ≡ (commented v object false persistent author text).notes) _ _ b refl e refl) h l t
brings inv v b time id c (acts.Acknowledge object sticky notify persistent author text) e h l t = added v b object true persistent author text c time id (acknowledged_notes inv v b object sticky notify persistent author text e) h l t
brings inv v b time id c _ e h l t = absurd (cc)

-- an act that was done, and adds a comment, can be done again
again : (inv : Configuration) (v b v2 : World) (time id : ℕ) (c : Comment) (a : Act) → act inv v a ≡ Ok b → comment_by a time id ≡ Some c → ((object : ℕ) → IsProblemAt b.objects object → IsProblemAt v2.objects object)
    → (b2 : World) × (act inv v2 a ≡ Ok b2)
unfolding act
again inv v b v2 time id c (acts.AddComment object persistent author text) e h still = (commented v2 object false persistent author text, refl)
again inv v b v2 time id c (acts.Acknowledge object sticky notify persistent author text) e h still = acknowledged_again inv v2 object sticky notify persistent author text (still object (acknowledged_problem inv v b object sticky notify persistent author text e))
again inv v b v2 time id c _ e h still = absurd (cc)

-- ---- entries

-- one entry adds one comment
adds : (inv : Configuration) (w : World) (e : Entry) (a : Act) (id : ℕ) (c : Comment) → (acted inv w e).1 ≡ Applied → named inv e.stamped.command ≡ Ok a → comment_by a (moment_of w e) id ≡ Some c → id ≡ w.notes.last_id + 1
    → (step inv w e).0.notes ≡ record { comments = w.notes.comments ++ c ∷ []; last_id = id }
adds inv w e a id c applied asked is l =
    let from = applied_from inv w e a applied asked in
    let notes : (found inv w e).notes ≡ w.notes = found_notes inv w e in
    let next : id ≡ (found inv w e).notes.last_id + 1 = l ∙ ap (λ (n : CommentList). n.last_id + 1) (sym notes) in
    ap (λ (x : World). x.notes) (step_leaves inv w e)
    ∙ ap (λ (p : World × Outcome). p.0.notes) from.2
    ∙ end_notes inv from.0 (moment_of w e)
    ∙ brings inv (found inv w e) from.0 (moment_of w e) id c a from.1 is next (found_clock inv w e)
    ∙ ap (λ (n : CommentList). record { comments = n.comments ++ c ∷ []; last_id = id }) notes

-- a problem is one also once the clock has told
still_problem : (inv : Configuration) (w : World) (object : ℕ) → IsProblemAt w.objects object → IsProblemAt (told_by_clock inv w).objects object
still_problem inv w object h = elim (clock_object inv w object h.0 h.1) [
  | inl same ↦ (h.0, same, h.2)
  | inr told ↦ (after_told w.clock h.0, told.0, h.2)
]

applied_again : (inv : Configuration) (w : World) (first second : Entry) (a : Act) (id : ℕ) (c : Comment) → (acted inv w first).1 ≡ Applied → named inv first.stamped.command ≡ Ok a → named inv second.stamped.command ≡ Ok a
    → comment_by a (moment_of w first) id ≡ Some c → (acted inv (step inv w first).0 second).1 ≡ Applied
applied_again inv w first second a id c applied asked asked2 is =
    let from = applied_from inv w first a applied asked in
    let v = (acted inv w first).0 in
    let u = (step inv w first).0 in
    let same : v.objects ≡ from.0.objects = ap (λ (p : World × Outcome). p.0.objects) from.2 ∙ kept_objects inv (counted from.0) (moment_of w first) in
    let on = again inv (found inv w first) from.0 (found inv u second) (moment_of w first) id c a from.1 is
    (λ object problem. subst (λ (os : List Object). IsProblemAt os object) (sym (kept_objects inv u (moment_of u second))) (subst (λ (os : List Object). IsProblemAt os object) (sym (step_objects inv w first)) (still_problem inv (told_ends inv v) object (subst (λ (os : List Object). IsProblemAt os object) (sym (ends_objects inv v ∙ same)) problem)))) in
    ap (λ (p : World × Outcome). p.1) (applied_by inv u second a on.0 asked2 on.1)

pub doubled_comments_show : DoubledCommentsShow
unfolding step
doubled_comments_show inv w first second a c d applied asked same is is2 =
    let asked2 : named inv second.stamped.command ≡ Ok a = ap (λ (x : Command). named inv x) same ∙ asked in
    let after = applied_again inv w first second a (w.notes.last_id + 1) c applied asked asked2 is in
    let one = adds inv w first a (w.notes.last_id + 1) c applied asked is refl in
    let next : w.notes.last_id + 2 ≡ (step inv w first).0.notes.last_id + 1 = (let count : (step inv w first).0.notes.last_id ≡ w.notes.last_id + 1 = ap (λ (n : CommentList). n.last_id) one in omega arith) in
    let two = adds inv (step inv w first).0 second a (w.notes.last_id + 2) d after asked2 is2 next in (
      after,
      two
          ∙ ap (λ (n : CommentList). record { comments = n.comments ++ d ∷ []; last_id = w.notes.last_id + 2 }) one
          ∙ ap (λ (cs : List Comment). record { comments = cs; last_id = w.notes.last_id + 2 }) (append_assoc w.notes.comments (c ∷ []) (d ∷ [])),
    )
