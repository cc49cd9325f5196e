use Rattle.std.proofs.Common.{inl, inr, sym}
use Rattle.gateway.proofs.program.serve_modes.Goals as goal

pub returns-in-Ok : goal.returns-in-Ok
returns-in-Ok g c =
    let is = rw c.in-Some-Files.is at c.in-Some-Files.field-0-is in
    rw (sym c.mode_named-mode.ensures) (rw c.in-Some-Files.is (rw is (inr (c.in-Ok.call, c.in-Ok.ensures.given, c.serve_files.ensures))))

pub returns-in-Err : goal.returns-in-Err
returns-in-Err g c =
    let is = rw c.in-Some-Files.is at c.in-Some-Files.field-0-is in
    rw (sym c.mode_named-mode.ensures) (rw c.in-Some-Files.is (rw is (inl (rw is at (rw c.in-Some-Files.is at c.without_call.ensures (g.O.Write.contents c.args.output))))))

pub returns-in-Ok-follow_of : goal.returns-in-Ok-follow_of
returns-in-Ok-follow_of g c =
    let is = rw c.in-Some-Follow.is at c.in-Some-Follow.field-0-is in
    rw (sym c.mode_named-mode.ensures) (rw c.in-Some-Follow.is (rw is (inr (c.in-Ok-follow_of.call, c.in-Ok-follow_of.ensures.given, c.serve_call.ensures))))

pub returns-in-Err-follow_of : goal.returns-in-Err-follow_of
returns-in-Err-follow_of g c =
    let is = rw c.in-Some-Follow.is at c.in-Some-Follow.field-0-is in
    rw (sym c.mode_named-mode.ensures) (rw c.in-Some-Follow.is (rw is (inl (rw is at (rw c.in-Some-Follow.is at c.without_call-in-Err-follow_of.ensures (g.O.Write.contents c.args.output))))))

pub returns-in-Err-checked_of : goal.returns-in-Err-checked_of
returns-in-Err-checked_of g c =
    let is = rw c.in-Some-Check.is at c.in-Some-Check.field-0-is in
    rw (sym c.mode_named-mode.ensures) (rw c.in-Some-Check.is (rw is (inl (rw is at (rw c.in-Some-Check.is at c.without_call-in-Err-checked_of.ensures (g.O.Write.contents c.args.output))))))

pub returns-in-Err-told_of : goal.returns-in-Err-told_of
returns-in-Err-told_of g c =
    let is = rw c.in-Some-Told.is at c.in-Some-Told.field-0-is in
    rw (sym c.mode_named-mode.ensures) (rw c.in-Some-Told.is (rw is (inl (rw is at (rw c.in-Some-Told.is at c.without_call-in-Err-told_of.ensures (g.O.Write.contents c.args.output))))))

pub returns-in-Some-Help : goal.returns-in-Some-Help
returns-in-Some-Help g c =
    let is = rw c.in-Some-Help.is at c.in-Some-Help.field-0-is in
    rw (sym c.mode_named-mode.ensures) (rw c.in-Some-Help.is (rw is (rw c.usage_of.ensures at c.serve_text.ensures)))

pub returns-in-Some-Bundle : goal.returns-in-Some-Bundle
returns-in-Some-Bundle g c =
    let is = rw c.in-Some-Bundle.is at c.in-Some-Bundle.field-0-is in
    rw (sym c.mode_named-mode.ensures) (rw c.in-Some-Bundle.is (rw is (rw is at (rw c.in-Some-Bundle.is at (rw (sym c.mode_named-mode.ensures) at c.serve_input.ensures)))))

pub returns-in-Some-Replay : goal.returns-in-Some-Replay
returns-in-Some-Replay g c =
    let is = rw c.in-Some-Replay.is at c.in-Some-Replay.field-0-is in
    rw (sym c.mode_named-mode.ensures) (rw c.in-Some-Replay.is (rw is (rw is at (rw c.in-Some-Replay.is at (rw (sym c.mode_named-mode.ensures) at c.serve_input-in-Some-Replay.ensures)))))

pub returns-in-Some-Explain : goal.returns-in-Some-Explain
returns-in-Some-Explain g c =
    let is = rw c.in-Some-Explain.is at c.in-Some-Explain.field-0-is in
    rw (sym c.mode_named-mode.ensures) (rw c.in-Some-Explain.is (rw is (rw is at (rw c.in-Some-Explain.is at (rw (sym c.mode_named-mode.ensures) at c.serve_input-in-Some-Explain.ensures)))))

pub returns-in-None : goal.returns-in-None
returns-in-None g c = rw (sym c.mode_named-mode.ensures) (rw c.in-None.is (rw c.in-None.is at (rw (sym c.mode_named-mode.ensures) at c.serve_input-in-None.ensures)))
