-- Why `find_start` keeps its contract.
use Rattle.cmd_live.proofs.StartLemmas.{is_of_another}
use Rattle.cmd_live.proofs.start.find_start.Goals as goal

pub returns : goal.returns
returns g c = λ text known.
    let laws = c.items_of_lines.ensures in
    let first = c.skipped_are_first.ensures in
    let skips = rw c.in-More.is at (c.in_ok-skipped.ensures text known) in
    is_of_another laws.commands laws.whole first.whole first.count c.args.known.commands text c.args.known.last.now (c.skipping_has_fewer.ensures c.in-More.field-0 c.args.known.commands text skips)
