use Rattle.std.proofs.Common.{List, sym, subst, rules}
use Rattle.std.specs.Prelude.{IfSome, slice_get}
use Rattle.std.proofs.lemmas.List.{at_drop_more}
use Rattle.mon_downtime.specs.declared.downtime.Downtime.{Downtime}
use Rattle.mon_downtime.specs.Records.{IsRecord, AreRecords}
use Rattle.mon_downtime.proofs.RestoreLemmas.{each_more, read_record}
use Rattle.mon_downtime.proofs.restoring.unrecorded.Goals as goal

pub loop-place-preserved : goal.loop-place-preserved
loop-place-preserved c =
    let ds = c.args.records.now in
    let i = c.loop-place.invariant in
    let place = c.loop-place.place in
    let step = at_drop_more (λ (xs : List Downtime). xs) ds place c.index-records-place.result c.loop-place-test.true in
    let is : IsRecord place c.index-records-place.result = search rules in
    let there = subst (IsRecord place) c.index-records-place.is is in
    record {
      on = λ w. (subst (AreRecords place) step (i.on w)).1;
      back = λ w. i.back (subst (AreRecords place) (sym step) (there, w));
      earlier = each_more (λ k. IfSome (slice_get ds k) (IsRecord k)) place (read_record ds place c.index-records-place.result c.loop-place-test.true there) i.earlier;
    }
