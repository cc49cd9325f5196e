use Rattle.std.proofs.Common.{◌∙◌}
use Rattle.mon_downtime.proofs.EventLemmas.{order_less}
use Rattle.mon_downtime.proofs.event.is_before.Goals as goal

pub returns : goal.returns
returns c = c.lt.ensures ∙ order_less c.args.a.now c.args.b.now _ _ c.order_of.ensures c.order_of-2.ensures
