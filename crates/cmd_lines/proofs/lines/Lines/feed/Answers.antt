-- Why `Lines::feed` keeps its contract.
use Rattle.std.proofs.lemmas.Result.{err_from_is_err_and}
use Rattle.std.proofs.Common.{◌++◌}
use Rattle.cmd_lines.specs.Unfinished.{pending_of}
use Rattle.cmd_lines.proofs.StandLaws.{stands_fed}
use Rattle.cmd_lines.proofs.lines.Lines.feed.Goals as goal

pub returns-clause-stands : goal.returns-clause-stands
returns-clause-stands c = λ f g s.
    let x = c.self.inside in
    let k = c.add.new.self in
    c.pass_empty.ensures.stands (f ++ c.args.piece.now) g
    (stands_fed c.args.self.now (pending_of x.kept) (pending_of k) c.args.piece.now x.kept.held k.held f x.number x.fed x.phase g c.self.view_is c.requires.open c.in_ok-add.ensures.alike (c.in_ok-add.ensures.held f) s)

pub returns-in_err-add-clause-err : goal.returns-in_err-add-clause-err
returns-in_err-add-clause-err c = rw ((err_from_is_err_and c.from_residual.result c.from_residual.ensures.1).1, c.in_err-add.ensures.err) c.self.view_is
