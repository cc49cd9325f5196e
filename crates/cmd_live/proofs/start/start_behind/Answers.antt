-- Why `start_behind` keeps its contract.
use Rattle.cmd_live.proofs.StartLemmas.{other_last}
use Rattle.cmd_live.proofs.start.start_behind.Goals as goal

pub returns-then-not-branch : goal.returns-then-not-branch
returns-then-not-branch c = λ text is. other_last c.skipped_are_one.ensures c.args.known.commands text c.args.known.last.now c.args.skipped.now is (c.in_ok-has_line.ensures.other c.if-not-branch.true)
