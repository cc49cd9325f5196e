use Rattle.mon_downtime.proofs.MoveLemmas.{put_later_behind}
use Rattle.mon_downtime.proofs.queue.Queue.put_later.Goals as goal

pub returns-clause-events : goal.returns-clause-events
returns-clause-events c = put_later_behind c.args.self.now.list.items c.copy_within.new.self.items c.args.self.now.start c.args.from c.args.to c.args.event c.requires.queue.within c.requires.within.0 c.requires.within.1 c.copy_within.ensures.items
