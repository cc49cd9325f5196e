-- Comments and acknowledgements lead from a world that holds together to another.
use Rattle.std.proofs.Common.{◌≡◌, ℕ, ◌+◌, ◌<◌, Bool, true, not, ◌&&◌, eqb, List, length, Ok, refl, arith}
use Rattle.std.proofs.lemmas.List.Elements.{All-filter, All-push}
use Rattle.mon_notes.specs.declared.comment.Comment.{Comment}
use Rattle.mon_notes.specs.Comments.{kept, without_acknowledged}
use Rattle.mon_inventory.specs.Configuration.{Configuration}
use Rattle.mon_engine.specs.declared.object.Kind.{Kind}
use Rattle.mon_engine.specs.declared.object.Acknowledgement.TheVariants.{Unacknowledged}
use Rattle.mon_engine.specs.Objects.{with_acknowledgement, acknowledgement_of}
use Rattle.mon_engine.specs.World.{World}
use Rattle.mon_engine.specs.Acknowledgements.{commented, acknowledge, after_acknowledge, after_unacknowledge, after_del_comment}
use Rattle.mon_engine.specs.Sound.{IsWorldAt, IsWorld, Follows, ever, raised}
use Rattle.mon_engine.proofs.NoticeLemmas.{acknowledgement_notice_as, sound_as}
use Rattle.mon_engine.proofs.StateLemmas.{kept_states}
use Rattle.mon_engine.proofs.ActLemmas.{del_comment_cases, acknowledge_cases, unacknowledge_cases}
use Rattle.mon_engine.proofs.PartLemmas.{next_world, with_states, with_notes, with_more_notices}

pub commented_world : (inv : Configuration) (w : World) (object : ℕ) (ack persistent : Bool) (author text : List ℕ) → IsWorld inv w → object < length inv.objects → IsWorldAt inv (ever w + 1) (raised w + 1) (commented w object ack persistent author text)
commented_world inv w object ack persistent author text h within =
    let few = h.comments in
    with_notes inv (ever w + 1) (raised w + 1) w _ (next_world inv w h) (omega arith) (All-push (λ c. c.object < length inv.objects) w.notes.comments _ h.noted within)

-- fewer comments
pub fewer_world : (inv : Configuration) (n m : ℕ) (w : World) (keeps : Comment → Bool) → IsWorldAt inv n m w → IsWorldAt inv n m (record w { notes = kept keeps w.notes })
fewer_world inv n m w keeps h = with_notes inv n m w (kept keeps w.notes) h h.comments (All-filter keeps (λ c. c.object < length inv.objects) w.notes.comments h.noted)

pub fewer : (inv : Configuration) (w : World) (keeps : Comment → Bool) → IsWorld inv w → Follows inv w (record w { notes = kept keeps w.notes })
fewer inv w keeps h = record { world = fewer_world inv (ever w + 1) (raised w + 1) w keeps (next_world inv w h); entries = refl; before = refl }

pub del_follows : (inv : Configuration) (w w' : World) (kind : Kind) (id : ℕ) → IsWorld inv w → after_del_comment inv w kind id ≡ Ok w' → Follows inv w w'
del_follows inv w w' kind id h e = del_comment_cases (Follows inv w) inv w w' kind id e (λ there. fewer inv w (λ c. not (eqb c.id id)) h)

acknowledged_world : (inv : Configuration) (w : World) (object sticky : ℕ) (persistent : Bool) (author text : List ℕ) → IsWorld inv w → object < length inv.objects → IsWorldAt inv (ever w + 1) (raised w + 1) (acknowledge w object sticky persistent author text)
acknowledged_world inv w object sticky persistent author text h within =
    let next = commented_world inv w object true persistent author text h within in
    with_states inv (ever w + 1) (raised w + 1) (raised w + 1) (commented w object true persistent author text) _ (omega arith) next
    (kept_states (raised w + 1) inv.objects w.objects object (with_acknowledgement (acknowledgement_of sticky)) (λ o. refl) (λ o. refl) (λ o. refl) next.states)

pub acknowledge_follows : (inv : Configuration) (w w' : World) (object sticky : ℕ) (notify persistent : Bool) (author text : List ℕ) → IsWorld inv w → object < length inv.objects
    → after_acknowledge inv w object sticky notify persistent author text ≡ Ok w' → Follows inv w w'
acknowledge_follows inv w w' object sticky notify persistent author text h within e =
    let next = acknowledged_world inv w object sticky persistent author text h within in
    let after = acknowledge w object sticky persistent author text in
    acknowledge_cases (Follows inv w) inv w w' object sticky notify persistent author text e
    (λ o at problem. record { world = next; entries = refl; before = refl })
    (λ o at problem. record { world = with_more_notices inv (ever w + 1) (raised w + 1) after _ next (sound_as _ (acknowledgement_notice_as inv after object)); entries = refl; before = refl })

pub unacknowledge_follows : (inv : Configuration) (w : World) (object : ℕ) → IsWorld inv w → Follows inv w (after_unacknowledge w object)
unacknowledge_follows inv w object h =
    let next = next_world inv w h in
    unacknowledge_cases (Follows inv w) w object (record { world = next; entries = refl; before = refl })
    (λ o at is. record {
      world = with_states inv (ever w + 1) (raised w + 1) (raised w + 1) (record w { notes = without_acknowledged object w.notes }) _ (omega arith)
          (fewer_world inv (ever w + 1) (raised w + 1) w (λ c. not ((eqb c.object object) && c.ack && not c.persistent)) next)
          (kept_states (raised w + 1) inv.objects w.objects object (with_acknowledgement Unacknowledged) (λ o. refl) (λ o. refl) (λ o. refl) next.states);
      entries = refl;
      before = refl;
    })
