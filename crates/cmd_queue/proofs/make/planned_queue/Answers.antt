use Rattle.std.proofs.Common.{true≢false, sym, ◌∙◌, arith, rules}
use Rattle.cmd_types.specs.Entries.{IsSenderCount}
use Rattle.cmd_queue.specs.Queue.{IsCapacity}
use Rattle.cmd_queue.proofs.make.planned_queue.Goals as goal

pub returns-then-not-is_sender_count-clause-refused : goal.returns-then-not-is_sender_count-clause-refused
returns-then-not-is_sender_count-clause-refused g c =
    (c.is_capacity.ensures.0 c.if-not-is_capacity.false, λ is. true≢false (sym (c.is_sender_count.ensures.1 (omega (arith, is), omega (arith, is))) ∙ c.if-not-is_sender_count.true))

pub returns-clause-limits : goal.returns-clause-limits
returns-clause-limits g c =
    let limits : IsCapacity c.args.capacity × IsSenderCount c.args.senders = (c.is_capacity.ensures.0 c.if-not-is_capacity.false, rw c.from.ensures at (c.is_sender_count.ensures.0 c.if-not-is_sender_count.false)) in
    search rules

pub returns-clause-refused : goal.returns-clause-refused
returns-clause-refused g c =
    let limits : IsCapacity c.args.capacity × IsSenderCount c.args.senders = (c.is_capacity.ensures.0 c.if-not-is_capacity.false, rw c.from.ensures at (c.is_sender_count.ensures.0 c.if-not-is_sender_count.false)) in
    search rules
