use Rattle.std.proofs.Common.{arith}
use Rattle.mon_engine.specs.contracts.state.State.{the_view}
use Rattle.mon_engine.proofs.FigureLemmas.{busy_few, figures_read}
use Rattle.mon_engine.proofs.state.State.figures.Goals as goal

pub overflow_cast-result-3 : goal.overflow_cast-result-3
overflow_cast-result-3 c =
    let few = busy_few (the_view c.self.inside) c.args.self.now c.objects_in_downtime.result c.self.view_is c.requires.few c.requires.known c.objects_in_downtime.ensures in
    omega arith

pub returns-clause-counts : goal.returns-clause-counts
returns-clause-counts c =
    figures_read (the_view c.self.inside) c.args.self.now c.problems.result c.acknowledged.result c.objects_in_downtime.result c.self.view_is c.problems.ensures c.acknowledged.ensures c.objects_in_downtime.ensures c.requires.few c.requires.known

pub returns-clause-in_downtime : goal.returns-clause-in_downtime
returns-clause-in_downtime c = busy_few (the_view c.self.inside) c.args.self.now c.objects_in_downtime.result c.self.view_is c.requires.few c.requires.known c.objects_in_downtime.ensures
