use Rattle.std.proofs.Common.{sym, ◌∙◌}
use Rattle.mon_engine.proofs.ByClockLemmas.{among_tellable, among_later, among_more}
use Rattle.mon_engine.proofs.state.State.tell_problems.Goals as goal

pub tell_problem-requires-clause-tellable : goal.tell_problem-requires-clause-tellable
tell_problem-requires-clause-tellable c = among_tellable c.args.inventory.now c.args.self.now c.loop-object.self c.loop-object.object c.requires.tellable c.loop-object.invariant

pub tell_problem-requires-clause-next : goal.tell_problem-requires-clause-next
tell_problem-requires-clause-next c = λ o at. c.requires.next c.loop-object.object o (sym (among_later c.args.inventory.now c.args.self.now c.loop-object.self c.loop-object.object c.loop-object.invariant) ∙ at)

pub loop-object-preserved : goal.loop-object-preserved
loop-object-preserved c = among_more c.args.inventory.now c.args.self.now c.loop-object.self c.tell_problem.new.self c.loop-object.object c.loop-object.invariant c.in_ok-tell_problem.ensures
