use Rattle.std.proofs.Common.{inl}
use Rattle.gateway.proofs.program.serve_input.Goals as goal

pub returns-in-Err : goal.returns-in-Err
returns-in-Err g c = inl (rw c.mode_named.ensures at c.without_call.ensures (g.O.Write.contents c.args.output.now))

pub returns-in-Err-mode_of : goal.returns-in-Err-mode_of
returns-in-Err-mode_of g c = inl (rw c.mode_named-in-Err-mode_of.ensures at c.without_call-in-Err-mode_of.ensures (g.O.Write.contents c.args.output.now))
