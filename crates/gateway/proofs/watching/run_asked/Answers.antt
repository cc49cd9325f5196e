use Rattle.std.proofs.Common.{length}
use Rattle.std.proofs.lemmas.List.{length-map}
use Rattle.cmd_dispatch.specs.RunCalls.{read_as, run_call}
use Rattle.gateway.proofs.WatchedLemmas.{has_run}
use Rattle.gateway.proofs.watching.run_asked.Goals as goal

pub returns-clause-ran : goal.returns-clause-ran
returns-clause-ran g c =
    let is = c.run-run.ensures in
    has_run (run_call g.F.Feed.remaining g.F.Feed.fails g.F.Feed.fills c.args.options.run c.args.readers.items c.args.inventory) (length c.args.readers.items) c.run-run.result
    (length-map c.args.readers.items (read_as g.F.Feed.remaining g.F.Feed.fails g.F.Feed.fills c.args.options.run)) is.settled is.settled_of is.closed is.within is.alone is.reported is.known is.means is.one_each
