use Rattle.std.proofs.Common.{sym, ◌∙◌}
use Rattle.mon_downtime.proofs.FateLemmas.{over_is}
use Rattle.mon_downtime.proofs.RecordLemmas.{numbered, with_fate_same}
use Rattle.mon_downtime.proofs.keeping.end.Goals as goal

pub returns-else-not-is_over-clause-ended : goal.returns-else-not-is_over-clause-ended
returns-else-not-is_over-clause-ended c = sym (with_fate_same c.args.records.now c.args.at _ c.index-records-at.result (numbered 0 _ c.requires.kept.records) c.requires.there.0 c.requires.there.1 (over_is _ (sym c.is_over.ensures ∙ c.if-not-is_over.false)))
