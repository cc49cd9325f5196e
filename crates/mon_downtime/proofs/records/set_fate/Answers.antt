use Rattle.std.proofs.Common.{arith, ◌-◌, sym, subst}
use Rattle.mon_downtime.specs.Records.{AreRecords}
use Rattle.mon_downtime.proofs.RecordLemmas.{numbered, with_fate_at, AreRecords-with_fate}
use Rattle.mon_downtime.proofs.records.set_fate.Goals as goal

pub returns-clause-set : goal.returns-clause-set
returns-clause-set c = sym (with_fate_at 0 c.args.records.now c.args.id (c.args.id - 1) (λ _. c.args.fate) c.index-records-id.result (numbered 0 _ c.requires.records) (omega arith) (omega arith))

pub returns-clause-records : goal.returns-clause-records
returns-clause-records c =
    subst (AreRecords 0)
    (with_fate_at 0 c.args.records.now c.args.id (c.args.id - 1) (λ _. c.args.fate) c.index-records-id.result (numbered 0 _ c.requires.records) (omega arith) (omega arith))
    (AreRecords-with_fate 0 c.args.records.now c.args.id c.args.fate c.requires.records c.requires.small)
