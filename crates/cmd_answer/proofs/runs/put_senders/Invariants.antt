use Rattle.std.proofs.Common.{◌≡◌, ◌++◌, drop}
use Rattle.cmd_answer.specs.Printed.{sender_lines}
use Rattle.cmd_answer.proofs.runs.put_senders.Given as goal

abbrev pub invariant-loop-sender : goal.invariant-loop-sender
invariant-loop-sender l = l.out.items ++ sender_lines l.sender (drop l.sender l.senders) ≡ l.fn.out.items ++ sender_lines 0 l.senders
