use Rattle.mon_downtime.proofs.StayLemmas.{records_stay_records}
use Rattle.mon_downtime.proofs.laws.records_stay_records.Goals as goal

pub returns : goal.returns
returns c = records_stay_records
