-- Why `end_item` keeps its contract.
use Rattle.std.proofs.Common.{[], ◌∙◌}
use Rattle.cmd_lines.proofs.SkippedLaws.{item_is}
use Rattle.cmd_lines.proofs.skip.end_item.Goals as goal

pub returns-clause-item : goal.returns-clause-item
returns-clause-item c = λ begun lacks s.
    item_is c.definitions_agree.ensures c.feed.new.self c.next_item.new.self begun c.args.end.now c.in_ok-item.item c.in_ok-feed.ensures.open (c.in_ok-item.ensures.phase ∙ c.in_ok-feed.ensures.open) c.requires.ended lacks
    (c.in_ok-feed.ensures.stands begun [] s) c.in_ok-item.ensures.some c.in_ok-item.ensures.none
