use Rattle.std.proofs.Common.{◌+◌, List, drop, ap, ◌∙◌}
use Rattle.mon_downtime.specs.declared.event.Event.{Event}
use Rattle.mon_downtime.proofs.OrderLemmas.{remove_behind}
use Rattle.mon_downtime.proofs.MoveLemmas.{front_moved}
use Rattle.mon_downtime.proofs.queue.Queue.remove_at.Goals as goal

pub returns-then-at-len-clause-events : goal.returns-then-at-len-clause-events
returns-then-at-len-clause-events c =
    let q = c.args.self.now in
    ap (λ (xs : List Event). drop (q.start + 1) xs) c.copy_within.ensures.items ∙ front_moved q.list.items q.start c.args.at c.requires.queue.within c.requires.within

pub returns-else-at-len-clause-events : goal.returns-else-at-len-clause-events
returns-else-at-len-clause-events c =
    let q = c.args.self.now in
    ap (λ (xs : List Event). drop q.start xs) c.remove-removed.ensures.items ∙ remove_behind q.start c.args.at q.list.items c.requires.queue.within
