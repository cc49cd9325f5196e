-- Which parts of a run's signal may cross threads: `search` runs out of steps where it goes down through all of them.
use denote.RattleType.{RattleType}
use denote.Ref.{NamedLft}
use denote.Param.Send.{IsSend, IsSync, sendable}
use Rattle.std.proofs.Crossing.{crosses}
use Rattle.cmd_live.specs.contracts.live.backlog.Standing as Standing
use Rattle.cmd_live.specs.contracts.live.backlog.Backlog as Backlog
use Rattle.cmd_live.specs.contracts.live.flag.Flag as Flag
use Rattle.cmd_live.specs.contracts.live.gate.Gate as Gate
use Rattle.cmd_live.specs.contracts.live.renewal.Renewal as Renewal
use Rattle.cmd_live.specs.contracts.live.ticking.Seen as Seen
use Rattle.cmd_live.specs.contracts.pipe_text.PipeText as PipeText
use Rattle.cmd_live.specs.contracts.seen_lines.SeenLines as SeenLines

Standing-send : IsSend Standing.the_field.row
Standing-send = search (sendable, crosses) depth 30

pub Backlog-sync : IsSync Backlog.the_field.row
Backlog-sync = search (Standing-send, sendable, crosses) depth 30

pub Flag-sync : IsSync Flag.the_field.row
Flag-sync = search (sendable, crosses) depth 30

pub Renewal-sync : IsSync Renewal.the_field.row
Renewal-sync = search (Flag-sync, sendable, crosses) depth 30

pub Seen-send : IsSend Seen.the_field.row
Seen-send = search (sendable, crosses) depth 30

PipeText-send : IsSend PipeText.the_field.row
PipeText-send = search (sendable, crosses) depth 30

SeenLines-send : IsSend SeenLines.the_field.row
SeenLines-send = search (sendable, crosses) depth 30

pub Gate-sync : (a : NamedLft) (R File Dir : RattleType) → IsSend File → IsSync (Gate.the_row a R File Dir)
Gate-sync a R File Dir file = search (Flag-sync, PipeText-send, SeenLines-send, sendable, crosses) depth 60 fits 20000
