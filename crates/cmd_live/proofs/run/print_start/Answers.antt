use Rattle.std.proofs.Common.{subst, ◌∙◌, ◌≡◌}
use Rattle.cmd_dispatch.specs.Tellings.{AppendsBeginning}
use Rattle.cmd_live.specs.Runs.{start_line}
use Rattle.cmd_live.proofs.FollowLemmas.{begun_by}
use Rattle.cmd_live.proofs.run.print_start.Goals as goal

pub returns-clause-printed : goal.returns-clause-printed
returns-clause-printed g c =
    let line : c.as_bytes.result.now ≡ start_line c.args.feeds c.args.entries c.args.clock = c.as_bytes.ensures.value ∙ c.in_ok-line.ensures in
    subst (AppendsBeginning (g.E.Write.contents c.args.errors.now) (g.E.Write.contents c.write_text.new.out)) line
    (begun_by _ _ c.as_bytes.result.now c.write_text.result c.write_text.ensures.whole c.write_text.ensures.part)
