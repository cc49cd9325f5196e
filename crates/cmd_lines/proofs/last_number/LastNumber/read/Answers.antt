-- Why `LastNumber::read` remembers a number.
use Rattle.std.proofs.Common.{arith}
use Rattle.cmd_lines.proofs.LeadingLaws.{remembered}
use Rattle.cmd_lines.proofs.last_number.LastNumber.read.Goals as goal

pub invariant_of-self : goal.invariant_of-self
invariant_of-self c =
    let n = c.in_ok-number in
    remembered c.args.byte c.args.bytes.now n.rest.now c.copy_from_slice.new.self n.number 10 n.ensures (omega (arith, c.if-bytes-rest-eq-REMEMBERED.true)) c.copy_from_slice.ensures.after
