-- Why `Lines::finish` keeps its contract.
use Rattle.std.proofs.Common.{refl}
use Rattle.cmd_lines.specs.declared.phase.Phase.TheVariants.{Finished}
use Rattle.cmd_lines.specs.Unfinished.{pending_of}
use Rattle.cmd_lines.proofs.StandLaws.{stands_ended_at}
use Rattle.cmd_lines.proofs.lines.Lines.finish.Goals as goal

pub returns-clause-stands : goal.returns-clause-stands
returns-clause-stands c = λ f g s.
    let x = c.self.inside in
    stands_ended_at Finished c.args.self.now (pending_of x.kept) x.kept.held x.number x.fed x.phase f g c.self.view_is c.requires s

pub returns-clause-finished : goal.returns-clause-finished
returns-clause-finished c = refl
