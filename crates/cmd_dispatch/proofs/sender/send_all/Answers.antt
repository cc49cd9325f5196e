use Rattle.std.proofs.Common.{length, ap, arith}
use Rattle.cmd_queue.specs.Sides.{with_commands}
use Rattle.cmd_dispatch.specs.Sends.{ahead}
use Rattle.cmd_dispatch.proofs.PlanLemmas.{nothing_sent}
use Rattle.cmd_dispatch.proofs.SendLemmas.{nothing_ahead, reading_nothing, closed_told, closed_early, left_early}
use Rattle.cmd_dispatch.proofs.sender.send_all.Goals as goal

pub read_all-requires-clause-nothing_yet : goal.read_all-requires-clause-nothing_yet
read_all-requires-clause-nothing_yet g c κs within = reading_nothing c.new-2.result (with_commands c.args.sender.side c.new.result.items) (g.P.Reporter.has_taken c.args.sender.report) c.new-2.ensures.stands (nothing_ahead c.args.sender.side c.new.result.items c.requires.new c.new.ensures.items) c.requires.none_taken

pub returns-in-Ok : goal.returns-in-Ok
returns-in-Ok g c =
    let side = c.read_all.ensures.side in
    closed_told (g.F.Feed.remaining c.args.sender.feed) (g.F.Feed.remaining c.read_all.new.feed) (g.F.Feed.fails c.args.sender.feed) (g.F.Feed.fills c.args.sender.feed) c.args.sender.reading.piece c.args.sender.reading.reads c.args.sender.side.queue c.args.sender.side.sender c.in-Ok.ending (ahead c.read_all.new.self) (g.P.Reporter.has_taken c.read_all.new.self.report) c.close-end.result.0 (g.P.Reporter.view c.close-end.result.1) (g.P.Reporter.has_taken c.close-end.result.1) side.0 side.1
    c.in-Ok.ensures.read c.close-end.ensures

pub returns-in-Err-Memory : goal.returns-in-Err-Memory
returns-in-Err-Memory g c =
    let side = c.read_all.ensures.side in
    closed_early (g.F.Feed.remaining c.args.sender.feed) (g.F.Feed.remaining c.read_all.new.feed) (g.F.Feed.fails c.args.sender.feed) (g.F.Feed.fills c.args.sender.feed) c.args.sender.reading.piece c.args.sender.reading.reads c.args.sender.side.queue c.args.sender.side.sender (ahead c.read_all.new.self) (g.P.Reporter.has_taken c.read_all.new.self.report) c.close-end-in-Err-Memory.result.0 (g.P.Reporter.view c.close-end-in-Err-Memory.result.1) (g.P.Reporter.has_taken c.close-end-in-Err-Memory.result.1) side.0 side.1
    c.read_all.ensures.begun c.close-end-in-Err-Memory.ensures

pub returns-in-Err-QueueRefused : goal.returns-in-Err-QueueRefused
returns-in-Err-QueueRefused g c =
    let side = c.read_all.ensures.side in
    left_early (g.F.Feed.remaining c.args.sender.feed) (g.F.Feed.remaining c.read_all.new.feed) (g.F.Feed.fails c.args.sender.feed) (g.F.Feed.fills c.args.sender.feed) c.args.sender.reading.piece c.args.sender.reading.reads c.args.sender.side.queue c.args.sender.side.sender (ahead c.read_all.new.self) (g.P.Reporter.has_taken c.read_all.new.self.report) c.leave-end.result.0 (g.P.Reporter.view c.leave-end.result.1) (g.P.Reporter.has_taken c.leave-end.result.1) side.0 side.1
    c.read_all.ensures.begun c.leave-end.ensures

pub read_all-requires-clause-within : goal.read_all-requires-clause-within
read_all-requires-clause-within g c κs within =
    let side = c.args.sender.side in
    let none = nothing_ahead side c.new.result.items c.requires.new c.new.ensures.items in
    (omega (arith, ap length c.new.ensures.items), omega (arith, ap length none), nothing_sent (with_commands side c.new.result.items) none)
