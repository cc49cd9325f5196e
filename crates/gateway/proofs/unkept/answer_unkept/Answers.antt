use Rattle.std.proofs.Common.{[], length}
use Rattle.std.proofs.lemmas.List.{length-map}
use Rattle.cmd_dispatch.specs.RunCalls.{read_as, sources}
use Rattle.gateway.proofs.FeedLemmas.{unkept_report, unkept_fault}
use Rattle.gateway.proofs.unkept.answer_unkept.Goals as goal

pub returns-in_ok-printed-in-Ok : goal.returns-in_ok-printed-in-Ok
returns-in_ok-printed-in-Ok g c =
    let r = c.in-Ok.report in
    unkept_report (sources g.F.Feed.remaining g.F.Feed.fails g.F.Feed.fills c.args.options.run c.args.readers.items) c.args.options c.args.inventory _ [] r.monitor r.senders.items r.settled _ _ c.requires.0 c.requires.1 c.in-Ok.ensures.ran (rw c.deref.ensures.value at c.in_ok-printed-in-Ok.ensures.text) (rw c.deref.ensures.value at c.in_ok-printed-in-Ok.ensures.status)

pub returns-in_ok-printed-in-Err : goal.returns-in_ok-printed-in-Err
returns-in_ok-printed-in-Err g c =
    let failed = c.in-Err.ensures.fault in
    unkept_fault (sources g.F.Feed.remaining g.F.Feed.fails g.F.Feed.fills c.args.options.run c.args.readers.items) c.args.options c.args.inventory failed.0 [] c.in-Err.fault.cause c.in-Err.fault.senders.items (length c.args.readers.items) _ _
    (length-map c.args.readers.items (read_as g.F.Feed.remaining g.F.Feed.fails g.F.Feed.fills c.args.options.run)) c.requires.0 c.requires.1 c.in-Err.ensures.bad_options failed.1 c.in_ok-printed-in-Err.ensures.text c.in_ok-printed-in-Err.ensures.status
