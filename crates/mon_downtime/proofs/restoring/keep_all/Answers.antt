use Rattle.std.proofs.Common.{◌≡◌, true, sym, ◌∙◌, ap, List, subst}
use Rattle.std.proofs.lemmas.List.{take_all}
use Rattle.mon_downtime.specs.declared.downtime.Downtime.{Downtime}
use Rattle.mon_downtime.specs.declared.event.Event.{Event}
use Rattle.mon_downtime.specs.Order.{has}
use Rattle.mon_downtime.specs.Queue.{queued}
use Rattle.mon_downtime.specs.Waiting.{is_opening}
use Rattle.mon_downtime.specs.Kept.{AreNoted}
use Rattle.mon_downtime.specs.Rings.{AreRings}
use Rattle.mon_downtime.proofs.OpenLemmas.{openings_are_once, openings_by_id, all_unopened}
use Rattle.mon_downtime.proofs.RecordLemmas.{numbered}
use Rattle.mon_downtime.proofs.ListedLemmas.{events_by_id}
use Rattle.mon_downtime.proofs.OnceLemmas.{events_are_once}
use Rattle.mon_downtime.proofs.restoring.keep_all.Goals as goal

pub of_events-requires : goal.of_events-requires
of_events-requires c = rw c.in_ok-all_events.ensures.events (events_are_once c.args.records.now (numbered 0 _ c.requires))

pub of_events-requires-2 : goal.of_events-requires-2
of_events-requires-2 c = rw c.in_ok-all_openings.ensures.openings (openings_are_once c.args.records.now (numbered 0 _ c.requires))

pub returns : goal.returns
returns c =
    let ds = c.args.records.now in
    let noted : AreNoted ds c.loop-place.kept = subst (λ (xs : List Downtime). AreNoted xs c.loop-place.kept) (take_all c.loop-place.place ds c.loop-place-test.false) c.loop-place.invariant.noted in
    let in_order : (e : Event) → has (queued c.of_events-2.result) e ≡ is_opening ds e = λ e. c.of_events-2.ensures.events e ∙ ap (λ (es : List Event). has es e) c.in_ok-all_openings.ensures.openings ∙ openings_by_id ds e (numbered 0 _ c.requires) in
    record {
      records = c.requires;
      listed = record {
        queue = c.of_events.ensures.queue;
        exact = λ e. c.of_events.ensures.events e ∙ ap (λ (es : List Event). has es e) c.in_ok-all_events.ensures.events ∙ events_by_id ds e (numbered 0 _ c.requires);
        room = rw c.of_events.ensures.room c.in_ok-all_events.ensures.room;
      };
      linked = noted.linked;
      marked = noted.marked;
      counted = noted.counted;
      waiting = record {
        openings = record {
          queue = c.of_events-2.ensures.queue;
          some = λ e h. sym (in_order e) ∙ h;
          room = rw c.of_events-2.ensures.room c.in_ok-all_openings.ensures.room;
        };
        rings = all_unopened ds _ c.loop-place.kept.waiting.rings in_order (subst (λ (xs : List Downtime). AreRings xs (λ _. true) c.loop-place.kept.waiting.rings) (take_all c.loop-place.place ds c.loop-place-test.false) c.loop-place.invariant.ringed);
      };
    }
