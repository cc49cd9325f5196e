use Rattle.std.proofs.Common.{◌≡◌}
use Rattle.gateway.specs.Answers.{Answers}
use Rattle.cmd_answer.specs.Replayed.{ReportsJournal}
use Rattle.gateway.specs.Modes.{streams}
use Rattle.cmd_answer.specs.Stops.{OverStreams, StopsBundle, StopsReplay}
use Rattle.gateway.proofs.ServeLemmas.{stops_over, replay_due}
use Rattle.gateway.proofs.program.serve_streams.Goals as goal

pub returns-in-Err : goal.returns-in-Err
returns-in-Err g c =
    let ended = c.stopped in
    rw c.in-Bundle.is
    (stops_over (g.I.Read.remaining c.args.input.now) (λ told. Answers c.in-Bundle.options told) (λ told. OverStreams (StopsBundle told)) c.in-Err.stop ended.result
    (streams (g.O.Write.contents c.args.output.now) (g.O.Write.contents c.serve_bundle.new.output) (g.E.Write.contents c.args.errors.now) (g.E.Write.contents ended.new.errors))
    c.in-Err.ensures.stops ended.ensures.status c.in-Err.ensures.nothing c.in-Err.ensures.part ended.ensures.line ended.ensures.part)

pub returns-in-Err-serve_replay : goal.returns-in-Err-serve_replay
returns-in-Err-serve_replay g c =
    let ended = c.stopped-in-Err-serve_replay in
    let limit = c.in-Replay.limit in
    rw c.in-Replay.is
    (stops_over (g.I.Read.remaining c.args.input.now) (λ told text status. ReportsJournal limit told text × (status ≡ 0)) (λ told. OverStreams (StopsReplay limit told)) c.in-Err-serve_replay.stop ended.result
    (streams (g.O.Write.contents c.args.output.now) (g.O.Write.contents c.serve_replay.new.output) (g.E.Write.contents c.args.errors.now) (g.E.Write.contents ended.new.errors))
    c.in-Err-serve_replay.ensures.stops ended.ensures.status c.in-Err-serve_replay.ensures.nothing
    (λ is. replay_due (g.I.Read.remaining c.args.input.now) limit (g.O.Write.contents c.args.output.now) (g.O.Write.contents c.serve_replay.new.output) (c.in-Err-serve_replay.ensures.part is)) ended.ensures.line ended.ensures.part)
