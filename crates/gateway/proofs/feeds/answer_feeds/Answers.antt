use Rattle.std.proofs.Common.{length, sym}
use Rattle.std.proofs.lemmas.List.{length-map}
use Rattle.std.proofs.lemmas.Result.{IfOk-weaker}
use Rattle.cmd_dispatch.specs.RunCalls.{read_as, sources}
use Rattle.gateway.proofs.FeedLemmas.{answered}
use Rattle.gateway.proofs.feeds.answer_feeds.Goals as goal

pub returns : goal.returns
returns g c =
    let run = c.in_ok-ran.ensures in
    IfOk-weaker c.text_of_run-printed.result _ _
    (λ x printed. answered (sources g.F.Feed.remaining g.F.Feed.fails g.F.Feed.fills c.args.options.run c.args.readers.items) (length c.args.readers.items) c.args.options c.args.inventory c.in_ok-ran.ran.run c.in_ok-ran.ran.watched _ _
    (length-map c.args.readers.items (read_as g.F.Feed.remaining g.F.Feed.fails g.F.Feed.fills c.args.options.run))
    run.ran run.bad_options run.fault run.watched (rw (sym c.figures.ensures) printed))
    c.text_of_run-printed.ensures
