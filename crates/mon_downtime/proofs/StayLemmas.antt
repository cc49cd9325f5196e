-- What happens to records leaves them records.
use Rattle.std.proofs.Common.{ℕ, ◌+◌, ◌≤◌, Bool, true, false, cond, List, [], ◌∷◌, map, arith}
use Rattle.cmd_types.specs.declared.limits.TheConstants.{GREATEST_NUMBER}
use Rattle.mon_downtime.specs.declared.downtime.Downtime.{Downtime}
use Rattle.mon_downtime.specs.Records.{IsRecord, AreRecords}
use Rattle.mon_downtime.specs.Problem.{all_started, started, started_by, waits_for}
use Rattle.mon_downtime.specs.RecordLaws.{RecordsStayRecords}
use Rattle.mon_downtime.proofs.CancelLemmas.{AreRecords-cancelled}
use Rattle.mon_downtime.proofs.RangeLemmas.{due_is_small, AreRecords-after_event}
use Rattle.mon_downtime.proofs.ScheduleLemmas.{AreRecords-scheduled}

AreRecords-started : (n object clock : ℕ) (ds : List Downtime) → clock ≤ GREATEST_NUMBER → AreRecords n ds → AreRecords n (map (started object clock) ds)
AreRecords-started n object clock [] small h = tt
AreRecords-started n object clock (d ∷ ds) small h = (one (waits_for object clock d), AreRecords-started (n + 1) object clock ds small h.1)
  where
    first : IsRecord n d
    first = h.0

    one : (b : Bool) → IsRecord n (cond b (record d { fate = started_by clock d }) d)
    one true = record {
      numbered = record { id_next = first.numbered.id_next; trigger_earlier = first.numbered.trigger_earlier };
      start_small = first.start_small;
      end_small = first.end_small;
      duration_small = first.duration_small;
      entered_small = first.entered_small;
      fate_small = (small, (let long = first.duration_small in omega (arith, long, small)));
    }
    one false = first

pub records_stay_records : RecordsStayRecords
unfolding all_started
records_stay_records ds h = record {
  with_new = λ clock objects plan small fits sound. AreRecords-scheduled ds clock objects plan h sound small fits;
  with_event = λ t e due. AreRecords-after_event ds e h (due_is_small ds t e h due);
  with_started = λ object clock small. AreRecords-started 0 object clock ds small h;
  with_cancelled = λ id. AreRecords-cancelled ds id h;
}
