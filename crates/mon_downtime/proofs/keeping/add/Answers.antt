use Rattle.std.proofs.Common.{◌∷◌, [], arith}
use Rattle.std.proofs.lemmas.List.{length-append}
use Rattle.mon_downtime.specs.Rings.{nobody}
use Rattle.mon_downtime.proofs.RecordLemmas.{numbered}
use Rattle.mon_downtime.proofs.AddLemmas.{added_depths}
use Rattle.mon_downtime.proofs.MarkedLemmas.{live_is_free}
use Rattle.mon_downtime.proofs.WaitLemmas.{rings_added}
use Rattle.mon_downtime.proofs.keeping.add.Goals as goal

pub link_record-requires-clause-free : goal.link_record-requires-clause-free
link_record-requires-clause-free c = rw c.deref.ensures.value (live_is_free c.args.records.now.items c.args.added c.args.kept.now.links.items (numbered 0 _ c.requires.records) c.requires.live c.requires.noted.marked)

pub link_record-requires-clause-records : goal.link_record-requires-clause-records
link_record-requires-clause-records c = rw c.deref.ensures.value (numbered 0 _ c.requires.records)

pub returns-clause-noted : goal.returns-clause-noted
returns-clause-noted c = rw c.push_reserved.ensures.items (record {
  records = c.requires.records;
  linked = rw c.deref.ensures.value at c.link_record.ensures.links;
  marked = rw c.deref.ensures.value at c.link_record.ensures.marked;
  placed = (let long = length-append c.args.kept.now.waiting.rings.near.items (nobody ∷ []) in let all = length-append c.args.records.now.items (c.args.added ∷ []) in let each = c.requires.noted.placed in rw c.add.ensures.near (omega arith));
  counted = added_depths c.args.records.now.items c.args.added c.args.kept.now.depths c.requires.noted.counted c.requires.counted c.requires.idle;
})

pub returns-clause-rings : goal.returns-clause-rings
returns-clause-rings c = λ out. rw c.push_reserved.ensures.items (rings_added c.args.records.now.items c.args.added out c.args.kept.now.waiting.rings _ (numbered 0 _ c.requires.records) c.requires.ringed c.add.ensures.near c.add.ensures.ends)
