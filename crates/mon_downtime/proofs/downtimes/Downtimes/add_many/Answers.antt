use Rattle.std.proofs.Common.{◌≡◌, ◌≢◌, All, ◌++◌, ◌∷◌, [], List, ◌+◌, Some, true, arith, sym, ◌∙◌, ap, length, get_or, take, refl, rules}
use Rattle.std.proofs.lemmas.List.{take_all, append-nil, get_or_default, length-replicate}
use Rattle.std.proofs.lemmas.List.Elements.{All-replicate, All-pop}
use Rattle.mon_downtime.specs.declared.downtime.Downtime.{Downtime}
use Rattle.mon_downtime.specs.declared.plan.Plan.{Plan}
use Rattle.mon_downtime.specs.Records.{is_live}
use Rattle.mon_downtime.specs.Queue.{queued}
use Rattle.mon_downtime.specs.Schedule.{new_record, new_records}
use Rattle.mon_downtime.proofs.RecordLemmas.{numbered}
use Rattle.mon_downtime.proofs.ScheduleLemmas.{trigger_known, many_turn}
use Rattle.mon_downtime.proofs.AddLemmas.{record_added}
use Rattle.mon_downtime.proofs.NewLemmas.{new_are_alike, others_listed, front_records}
use Rattle.mon_downtime.proofs.OpenLemmas.{kept_reserved, openings_below, rings_entered}
use Rattle.mon_downtime.proofs.MarkedLemmas.{live_among}
use Rattle.mon_downtime.proofs.downtimes.Downtimes.add_many.Goals as goal

pub loop-object-init : goal.loop-object-init
unfolding new_records
loop-object-init c =
    let was = c.reserve.ensures.kept in
    let same = c.reserve.ensures.records ∙ c.self.view_is in
    let long = ap (λ (ds : List Downtime). length ds) same in
    record {
      added = same ∙ sym (append-nil c.args.self.now);
      long = omega (arith, long, c.reserve.new.records.ok);
      left = (let copied = ap (λ (ps : List Plan). length ps) c.in_ok-copies.ensures in let n = length-replicate (length c.args.objects.now) c.args.plan.now in search (rules, copied, n));
      copies = rw c.in_ok-copies.ensures (All-replicate (λ (p : Plan). p ≡ c.args.plan.now) (length c.args.objects.now) c.args.plan.now refl);
      room = search (rules, long);
      noted = record { records = was.records; linked = was.linked; marked = was.marked; counted = c.reserve_all.ensures.depths _ was.counted; placed = (c.reserve_ends.ensures.rings _ _ was.waiting.rings).each };
      openings = refl;
      rings = λ out above h. rw same h;
      queue = refl;
      depths = refl;
      ends = refl;
    }

pub invariant_of-self-in_err-reserve_ends : goal.invariant_of-self-in_err-reserve_ends
invariant_of-self-in_err-reserve_ends c = kept_reserved _ c.reserve.new.kept _ c.reserve_ends.new.self c.reserve.ensures.kept (c.reserve_all.ensures.depths _ c.reserve.ensures.kept.counted) (c.reserve_ends.ensures.rings _)

pub loop-object-preserved : goal.loop-object-preserved
loop-object-preserved c =
    let w = c.loop-object.invariant in
    let i = c.loop-object.object-index in
    let ds = c.loop-object.self-inside.records in
    let object = get_or c.args.objects.now i 0 in
    let copies = All-pop (λ (p : Plan). p ≡ c.args.plan.now) c.loop-object.copies.items c.take_last-copy.new.self.items (Some c.take_last-copy.result) c.take_last-copy.ensures.items w.copies in
    record {
      added = many_turn c.args.self.now ds.items c.add.new.records.items (length c.args.self.now) c.len.result i c.args.clock object c.args.objects.now c.args.plan.now c.loop-object-test.true
          (get_or_default c.args.objects.now i 0 object c.loop-object-test.true) (c.len.ensures ∙ w.long) w.added
          (c.add.ensures.added ∙ ap (λ (d : Downtime). ds.items ++ d ∷ []) c.new_record-added.ensures ∙ ap (λ (p : Plan). ds.items ++ new_record c.len.result c.args.clock object p ∷ []) copies.1);
      long = omega (arith, c.add.ensures.len, w.long);
      left = omega (arith, c.take_last-copy.ensures.len, w.left);
      copies = copies.0;
      room = c.add.ensures.room (length c.args.self.now + length c.args.objects.now) w.room;
      noted = c.add.ensures.noted;
      queue = c.add.ensures.queue ∙ w.queue;
      depths = c.add.ensures.depths ∙ w.depths;
      openings = c.add.ensures.openings ∙ w.openings;
      ends = c.add.ensures.ends ∙ w.ends;
      rings = λ out above h. c.add.ensures.rings out (above c.new_record-added.result.id (let is = ap (λ (d : Downtime). d.id) c.new_record-added.ensures in omega (arith, is, c.len.ensures, w.long))) (w.rings out above h);
    }

-- the copy that is taken is the plan
same_copy : (p : Plan) (ps qs : List Plan) (q : Plan) → All (λ (x : Plan). x ≡ p) ps → ps ≡ qs ++ q ∷ [] → q ≡ p
same_copy p ps qs q all e = (All-pop (λ (x : Plan). x ≡ p) ps qs (Some q) e all).1

pub add-requires-clause-records : goal.add-requires-clause-records
add-requires-clause-records c =
    let w = c.loop-object.invariant in
    let known = trigger_known c.args.self.now c.args.clock c.args.plan.now (rw c.self.view_is at c.self.invariant.records) c.requires.sound in
    let is = rw (same_copy _ _ _ _ w.copies c.take_last-copy.ensures.items) at c.new_record-added.ensures in
    record_added c.loop-object.self-inside.records.items c.new_record-added.result c.len.result c.args.clock _ c.args.plan.now w.noted.records (search rules) (let long = w.long in search (rules, known, long)) c.requires.clock c.requires.plan is

pub add-requires-clause-live : goal.add-requires-clause-live
add-requires-clause-live c =
    let live : c.args.plan.now.times.trigger_id ≢ 0 → is_live c.args.self.now c.args.plan.now.times.trigger_id ≡ true = search rules in
    rw (c.new_record-added.ensures, same_copy _ _ _ _ c.loop-object.invariant.copies c.take_last-copy.ensures.items, c.loop-object.invariant.added) (λ some. live_among c.args.self.now (new_records (length c.args.self.now) c.args.clock (take c.loop-object.object-index c.args.objects.now) c.args.plan.now) c.args.plan.now.times.trigger_id (live some))

pub enter_new-requires-clause-alike : goal.enter_new-requires-clause-alike
enter_new-requires-clause-alike c =
    let all = take_all c.loop-object.object-index c.args.objects.now (omega arith) in
    rw c.deref.ensures.value (new_are_alike _ _ _ _ _ _ _ (numbered 0 _ c.loop-object.invariant.noted.records) (rw all at c.loop-object.invariant.added) refl (search rules))

pub enter_new-requires-clause-others : goal.enter_new-requires-clause-others
enter_new-requires-clause-others c =
    let was = rw (c.reserve.ensures.records, c.self.view_is) at c.reserve.ensures.kept.listed in
    λ e. rw (c.deref.ensures.value, c.loop-object.invariant.queue) (others_listed _ _ _ c.reserve.new.kept.queue _ e (numbered 0 _ c.loop-object.invariant.noted.records) c.loop-object.invariant.added was (search rules))

pub enter_new-requires-2-clause-alike : goal.enter_new-requires-2-clause-alike
enter_new-requires-2-clause-alike c =
    let all = take_all c.loop-object.object-index c.args.objects.now (omega arith) in
    rw c.deref-2.ensures.value (new_are_alike _ _ _ _ _ _ _ (numbered 0 _ c.loop-object.invariant.noted.records) (rw all at c.loop-object.invariant.added) refl (search rules))

pub enter_new-requires-2-clause-others : goal.enter_new-requires-2-clause-others
enter_new-requires-2-clause-others c =
    let was = rw (c.reserve.ensures.records, c.self.view_is) at c.reserve.ensures.kept.waiting.openings in
    let before = rw (c.reserve.ensures.records, c.self.view_is) at c.reserve.ensures.kept.records in
    rw (c.deref-2.ensures.value, c.loop-object.invariant.openings) (openings_below c.args.self.now _ c.reserve.new.kept.waiting.openings _ (numbered 0 _ before) (search rules) (front_records _ _ _ (numbered 0 _ c.loop-object.invariant.noted.records) c.loop-object.invariant.added) was)

pub enter_new-requires-2-clause-rings : goal.enter_new-requires-2-clause-rings
enter_new-requires-2-clause-rings c =
    let was = rw (c.reserve.ensures.records, c.self.view_is) at c.reserve.ensures.kept.waiting.rings in
    let before = rw (c.reserve.ensures.records, c.self.view_is) at c.reserve.ensures.kept.records in
    let next : c.last_id-first.result + 1 ≡ length c.args.self.now + 1 = search rules in
    rw (c.deref-2.ensures.value, c.loop-object.invariant.openings) (rings_entered c.args.self.now _ (queued c.reserve.new.kept.waiting.openings) _ c.reserve_ends.new.self _ (numbered 0 _ before) next (front_records _ _ _ (numbered 0 _ c.loop-object.invariant.noted.records) c.loop-object.invariant.added)
    (c.reserve_ends.ensures.rings _ _ was)
    (λ out above. c.loop-object.invariant.rings out (λ x l. above x (omega arith))))
