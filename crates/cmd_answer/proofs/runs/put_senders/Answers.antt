use Rattle.cmd_answer.proofs.SenderLemmas.{lines_turn, lines_last}
use Rattle.cmd_answer.proofs.runs.put_senders.Goals as goal

pub loop-sender-preserved : goal.loop-sender-preserved
loop-sender-preserved c =
    lines_turn c.loop-sender.out.items c.put_feed.new.out.items _ c.args.senders.now c.loop-sender.sender c.index-senders-sender.result c.loop-sender-test.true c.index-senders-sender.is c.in_ok-put_feed.ensures c.loop-sender.invariant

pub returns : goal.returns
returns c = lines_last c.loop-sender.out.items _ c.args.senders.now c.loop-sender.sender c.loop-sender-test.false c.loop-sender.invariant
