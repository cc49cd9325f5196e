use Rattle.std.proofs.Common.{refl, ◌∙◌, ap}
use Rattle.cmd_queue.specs.Sides.{Sent}
use Rattle.cmd_dispatch.proofs.MadeLemmas.{making_nothing, made_more, made_in_plan, made_refused, one_fits}
use Rattle.cmd_dispatch.proofs.making.send_each.Goals as goal

pub commands-init : goal.commands-init
commands-init g c = record {
  making = making_nothing (g.F.Feed.remaining c.args.feed.now) c.args.side.now (g.P.Reporter.has_taken c.args.report.now) c.requires.new c.requires.none_taken;
  queue = refl;
  sender = refl;
}

pub commands-preserved : goal.commands-preserved
commands-preserved g c =
    let was = c.commands.invariant in
    let sent = c.if-not-send_one.ensures.sent in
    let made = rw c.in-Ok-Some.field-0-is at c.in-Ok-Some.ensures.made in
    let bytes = rw c.in-Ok-Some.field-0-is at c.in-Ok-Some.ensures.bytes in
    record {
      making = made_more c.a_canonical_line_is_one_item.ensures (g.F.Feed.remaining c.args.feed.now) (g.F.Feed.remaining c.commands.feed) (g.F.Feed.remaining c.make.new.self) c.commands.counter c.in-Ok-Some.command c.commands.side c.send_one.new.side (g.P.Reporter.has_taken c.commands.report)
          (g.P.Reporter.has_taken c.send_one.new.report) was.making made bytes sent c.send_one.ensures.kept;
      queue = ap (λ (s : Sent). s.queue) sent ∙ was.queue;
      sender = ap (λ (s : Sent). s.sender) sent ∙ was.sender;
    }

pub returns-then-not-send_one-clause-begun : goal.returns-then-not-send_one-clause-begun
returns-then-not-send_one-clause-begun g c =
    let made = rw c.in-Ok-Some.field-0-is at c.in-Ok-Some.ensures.made in
    let bytes = rw c.in-Ok-Some.field-0-is at c.in-Ok-Some.ensures.bytes in
    made_refused c.a_canonical_line_is_one_item.ensures (g.F.Feed.remaining c.args.feed.now) (g.F.Feed.remaining c.commands.feed) (g.F.Feed.remaining c.make.new.self) (g.F.Feed.fails c.args.feed.now) c.args.reading.piece c.args.reading.reads c.commands.counter c.in-Ok-Some.command c.commands.side c.send_one.new.side
    (g.P.Reporter.has_taken c.commands.report) (g.P.Reporter.has_taken c.send_one.new.report) c.commands.invariant.making made bytes (one_fits c.commands.counter c.from.result c.args.reading.reads c.args.reading.piece c.from.ensures c.commands-test.true) c.if-not-send_one.ensures.sent c.send_one.ensures.kept

pub send_one-requires-clause-planned : goal.send_one-requires-clause-planned
send_one-requires-clause-planned g c κs within =
    let was = c.commands.invariant in
    let made = rw c.in-Ok-Some.field-0-is at c.in-Ok-Some.ensures.made in
    let bytes = rw c.in-Ok-Some.field-0-is at c.in-Ok-Some.ensures.bytes in
    made_in_plan c.text_that_grows.ensures c.a_canonical_line_is_one_item.ensures (g.F.Feed.remaining c.args.feed.now) (g.F.Feed.remaining c.commands.feed) (g.F.Feed.remaining c.make.new.self) c.commands.counter c.in-Ok-Some.command c.args.side.now c.commands.side (g.P.Reporter.has_taken c.commands.report)
    c.requires.planned was.queue was.sender was.making made bytes
