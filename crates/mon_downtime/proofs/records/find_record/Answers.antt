use Rattle.mon_downtime.proofs.RecordLemmas.{numbered, no_record, record_read}
use Rattle.mon_downtime.proofs.records.find_record.Goals as goal

pub returns-then-id-eq0 : goal.returns-then-id-eq0
returns-then-id-eq0 c = no_record c.args.records.now c.args.id (numbered 0 _ c.requires) c.then-id-eq0.either

pub returns : goal.returns
returns c = record_read c.args.records.now c.args.id _ (numbered 0 _ c.requires) c.if-id-eq0.false c.if-id-records.false c.index-records-id.is
