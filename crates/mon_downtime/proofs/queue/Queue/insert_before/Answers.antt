use Rattle.std.proofs.Common.{◌-◌, ◌+◌, List, drop, arith, ap, ◌∙◌}
use Rattle.mon_downtime.specs.declared.event.Event.{Event}
use Rattle.mon_downtime.specs.Queue.{block, put_at, written}
use Rattle.mon_downtime.proofs.MoveLemmas.{front_opened}
use Rattle.mon_downtime.proofs.queue.Queue.insert_before.Goals as goal

pub returns-clause-events : goal.returns-clause-events
returns-clause-events c =
    let q = c.leave_room_before.new.self in
    let start = q.start - c.args.count in
    let bs = block c.args.first c.args.count in
    ap (λ (xs : List Event). drop start xs) (c.write_block.ensures.items ∙ ap (λ (xs : List Event). written (start + c.args.at) bs c.args.count xs) c.copy_within.ensures.items)
    ∙ front_opened q.list.items bs q.start start c.args.count c.args.at (omega (arith, c.leave_room_before.ensures.left)) c.leave_room_before.ensures.queue.within (rw c.leave_room_before.ensures.events c.requires.within)
    ∙ ap (λ (xs : List Event). put_at c.args.at bs xs) c.leave_room_before.ensures.events
