use Rattle.std.proofs.Common.{◌≤◌, ◌+◌, ◌∷◌, [], rules}
use Rattle.mon_downtime.specs.Schedule.{new_records}
use Rattle.mon_downtime.specs.Queue.{queued}
use Rattle.mon_downtime.proofs.RecordLemmas.{numbered}
use Rattle.mon_downtime.proofs.ScheduleLemmas.{trigger_known}
use Rattle.mon_downtime.proofs.AddLemmas.{record_added}
use Rattle.mon_downtime.proofs.NewLemmas.{new_are_alike, others_listed, front_records}
use Rattle.mon_downtime.proofs.OpenLemmas.{kept_reserved, openings_below, rings_entered}
use Rattle.mon_downtime.proofs.downtimes.Downtimes.add_one.Goals as goal

pub invariant_of-self-in_err-reserve_end : goal.invariant_of-self-in_err-reserve_end
invariant_of-self-in_err-reserve_end c = kept_reserved _ c.reserve.new.kept _ c.reserve_end.new.self c.reserve.ensures.kept (c.reserve-2.ensures.depths _ c.reserve.ensures.kept.counted) (c.reserve_end.ensures.rings _)

pub add-requires-clause-records : goal.add-requires-clause-records
add-requires-clause-records c =
    let known = trigger_known c.self.inside.records.items c.args.clock c.args.plan c.self.invariant.records (rw c.self.view_is c.requires.sound) in
    record_added c.reserve.new.records.items c.new_record-added.result c.len.result c.args.clock c.args.object c.args.plan c.reserve.ensures.kept.records (search rules) (search (rules, known)) c.requires.clock c.requires.plan c.new_record-added.ensures

pub enter_new-requires-clause-alike : goal.enter_new-requires-clause-alike
unfolding new_records
enter_new-requires-clause-alike c = rw c.deref.ensures.value (new_are_alike c.reserve.new.records.items _ c.reserve.new.records.len _ c.args.clock (c.args.object ∷ []) c.args.plan (numbered 0 _ c.add.ensures.noted.records) (rw (c.new_record-added.ensures, c.len.ensures) at c.add.ensures.added) (search rules) (search rules))

pub enter_new-requires-clause-others : goal.enter_new-requires-clause-others
enter_new-requires-clause-others c = λ e. rw (c.deref.ensures.value, c.add.ensures.queue) (others_listed _ _ _ c.reserve.new.kept.queue _ e (numbered 0 _ c.add.ensures.noted.records) c.add.ensures.added c.reserve.ensures.kept.listed (search rules))

pub enter_new-requires-2-clause-alike : goal.enter_new-requires-2-clause-alike
unfolding new_records
enter_new-requires-2-clause-alike c = rw c.deref-2.ensures.value (new_are_alike c.reserve.new.records.items _ c.reserve.new.records.len _ c.args.clock (c.args.object ∷ []) c.args.plan (numbered 0 _ c.add.ensures.noted.records) (rw (c.new_record-added.ensures, c.len.ensures) at c.add.ensures.added) (search rules) (search rules))

pub enter_new-requires-2-clause-others : goal.enter_new-requires-2-clause-others
enter_new-requires-2-clause-others c = rw (c.deref-2.ensures.value, c.add.ensures.openings) (openings_below c.reserve.new.records.items _ c.reserve.new.kept.waiting.openings _ (numbered 0 _ c.reserve.ensures.kept.records) (search rules) (front_records _ _ _ (numbered 0 _ c.add.ensures.noted.records) c.add.ensures.added) c.reserve.ensures.kept.waiting.openings)

pub enter_new-requires-2-clause-rings : goal.enter_new-requires-2-clause-rings
enter_new-requires-2-clause-rings c =
    let new : c.last_id-id.result + 1 ≤ c.new_record-added.result.id = search rules in
    rw (c.deref-2.ensures.value, c.add.ensures.openings) (rings_entered c.reserve.new.records.items _ (queued c.reserve.new.kept.waiting.openings) _ c.reserve_end.new.self _ (numbered 0 _ c.reserve.ensures.kept.records) (search rules) (front_records _ _ _ (numbered 0 _ c.add.ensures.noted.records) c.add.ensures.added)
    (c.reserve_end.ensures.rings _ _ c.reserve.ensures.kept.waiting.rings)
    (λ out above. c.add.ensures.rings out (above _ new)))
