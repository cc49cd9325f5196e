use Rattle.std.proofs.Common.{◌∷◌, sym, ap}
use Rattle.crossbeam_channel.specs.Claims.{view}
use Rattle.cmd_queue.specs.declared.taken.Taken.TheVariants.{Command, Closed}
use Rattle.cmd_queue.proofs.Takers.{answer_kept, answer_first}
use Rattle.cmd_queue.proofs.dispatcher.next.Goals as goal

pub returns-in-Some-clause-next : goal.returns-in-Some-clause-next
returns-in-Some-clause-next g c = answer_kept (view c.args.pass.now) _ _ _ c.requires.knows c.in-Some.ensures

pub returns-in-One-clause-next : goal.returns-in-One-clause-next
returns-in-One-clause-next g c =
    answer_first (view c.args.pass.now) (view c.receive.new.pass) _ _ _ _ c.requires.knows c.in_default.ensures.0 (rw c.in-One.is at c.in-Ok.ensures.rule) (ap (λ l. Command c.in-One.entry ∷ l) (sym c.in_default.ensures.1))

pub returns-in-Many-clause-next : goal.returns-in-Many-clause-next
returns-in-Many-clause-next g c =
    answer_first (view c.args.pass.now) (view c.receive.new.pass) _ _ _ _ c.requires.knows c.in_default.ensures.0 (rw c.in-Many.is at c.in-Ok.ensures.rule) c.open-entry.ensures

pub returns-in-Mark-clause-next : goal.returns-in-Mark-clause-next
returns-in-Mark-clause-next g c =
    answer_first (view c.args.pass.now) (view c.receive.new.pass) _ _ _ _ c.requires.knows c.in_default.ensures.0 (rw c.in-Mark.is at c.in-Ok.ensures.rule) (ap (λ l. Closed c.in-Mark.sender c.in-Mark.count ∷ l) (sym c.in_default.ensures.1))
