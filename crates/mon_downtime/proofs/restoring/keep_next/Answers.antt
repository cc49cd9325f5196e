use Rattle.std.proofs.Common.{◌+◌, true, refl, take}
use Rattle.mon_downtime.specs.Rings.{AreRings}
use Rattle.mon_downtime.proofs.RecordLemmas.{numbered}
use Rattle.mon_downtime.proofs.RestoreLemmas.{take_records, one_more}
use Rattle.mon_downtime.proofs.WaitLemmas.{rings_added}
use Rattle.mon_downtime.proofs.restoring.keep_next.Goals as goal

pub link_record-requires-clause-records : goal.link_record-requires-clause-records
link_record-requires-clause-records c = rw (← (one_more c.args.records.now c.args.place c.index-records-place.result c.requires.within c.index-records-place.is)) (numbered 0 _ (take_records 0 (c.args.place + 1) c.args.records.now c.requires.records))

pub returns : goal.returns
returns c =
    let ds = c.args.records.now in
    let was = c.requires.restored in
    let more = one_more ds c.args.place c.index-records-place.result c.requires.within c.index-records-place.is in
    let ringed = rings_added (take c.args.place ds) c.index-records-place.result (λ _. true) c.reserve_end.new.self c.add.new.self (rw (← more) (numbered 0 _ (take_records 0 (c.args.place + 1) ds c.requires.records))) c.in_ok-reserve_end.ensures.ok c.add.ensures.near c.add.ensures.ends refl (c.reserve_end.ensures.rings _ (λ _. true) was.ringed) in
    let all : AreRings (take (c.args.place + 1) ds) (λ _. true) c.add.new.self = rw more ringed in
    record {
      noted = record {
        records = take_records 0 (c.args.place + 1) ds c.requires.records;
        linked = rw more c.link_record.ensures.links;
        marked = rw more c.link_record.ensures.marked;
        counted = rw more c.add-2.ensures;
        placed = all.each;
      };
      ringed = all;
      unmarked = λ x some h. was.unmarked x some (c.link_record.ensures.marks x some h);
      of_links = rw c.link_record.ensures.room was.of_links;
      of_near = rw (c.add.ensures.room, c.reserve_end.ensures.near) was.of_near;
    }
