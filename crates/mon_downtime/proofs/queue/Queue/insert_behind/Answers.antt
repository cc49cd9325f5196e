use Rattle.std.proofs.Common.{List, ap, ◌∙◌}
use Rattle.mon_downtime.specs.declared.event.Event.{Event}
use Rattle.mon_downtime.specs.Queue.{block, put_at}
use Rattle.mon_downtime.proofs.BlockLemmas.{put_by}
use Rattle.mon_downtime.proofs.queue.Queue.insert_behind.Goals as goal

pub returns-clause-events : goal.returns-clause-events
returns-clause-events c =
    let q = c.leave_room_behind.new.self in
    let bs = block c.args.first c.args.count in
    (put_by q.start c.args.at q.list.items c.put_block.new.list.items bs c.leave_room_behind.ensures.queue.within (rw c.leave_room_behind.ensures.events c.requires.within) c.put_block.ensures.items).behind
    ∙ ap (λ (xs : List Event). put_at c.args.at bs xs) c.leave_room_behind.ensures.events
