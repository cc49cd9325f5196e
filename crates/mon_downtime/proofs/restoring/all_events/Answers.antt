use Rattle.std.proofs.Common.{◌∙◌, ap, arith, List}
use Rattle.std.proofs.lemmas.List.{take_all}
use Rattle.std.specs.List.{flat_map}
use Rattle.mon_downtime.specs.declared.downtime.Downtime.{Downtime}
use Rattle.mon_downtime.specs.Events.{events, events_of}
use Rattle.mon_downtime.specs.Listed.{events_in}
use Rattle.mon_downtime.proofs.RecordLemmas.{numbered}
use Rattle.mon_downtime.proofs.RestoreLemmas.{one_pushed}
use Rattle.mon_downtime.proofs.restoring.all_events.Goals as goal

pub loop-place-preserved : goal.loop-place-preserved
loop-place-preserved c =
    let i = c.loop-place.invariant in
    let len = c.push_events.ensures.len in
    let before = i.len in
    record {
      items = c.push_events.ensures.items ∙ (rw i.items (one_pushed (events_in c.args.records.now) c.args.records.now c.loop-place.place (numbered 0 _ c.requires) c.loop-place-test.true));
      len = omega arith;
      room = rw c.push_events.ensures.room i.room;
    }

pub returns-clause-events : goal.returns-clause-events
unfolding events
returns-clause-events c = c.loop-place.invariant.items ∙ ap (λ (xs : List Downtime). flat_map (events_of c.args.records.now) xs) (take_all c.loop-place.place c.args.records.now c.loop-place-test.false)
