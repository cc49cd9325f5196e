use Rattle.std.proofs.Common.{◌∙◌, ◌++◌, ap, arith, List}
use Rattle.std.proofs.lemmas.List.{take_all}
use Rattle.std.specs.List.{flat_map}
use Rattle.mon_downtime.specs.declared.downtime.Downtime.{Downtime}
use Rattle.mon_downtime.specs.declared.event.Event.{Event}
use Rattle.mon_downtime.specs.Waiting.{openings_of, openings_in, all_openings}
use Rattle.mon_downtime.proofs.RecordLemmas.{numbered}
use Rattle.mon_downtime.proofs.RestoreLemmas.{one_pushed}
use Rattle.mon_downtime.proofs.restoring.all_openings.Goals as goal

pub loop-place-preserved : goal.loop-place-preserved
loop-place-preserved c =
    let i = c.loop-place.invariant in
    let len = c.push.ensures.len in
    let before = i.len in
    record {
      items = c.push.ensures.items ∙ ap (λ (es : List Event). c.loop-place.list.items ++ es) c.opening_of.ensures ∙ (rw i.items (one_pushed openings_in c.args.records.now c.loop-place.place (numbered 0 _ c.requires) c.loop-place-test.true));
      len = omega arith;
      room = rw c.push.ensures.room i.room;
    }

pub returns-clause-openings : goal.returns-clause-openings
unfolding all_openings
returns-clause-openings c = c.loop-place.invariant.items ∙ ap (λ (xs : List Downtime). flat_map openings_of xs) (take_all c.loop-place.place c.args.records.now c.loop-place-test.false)
