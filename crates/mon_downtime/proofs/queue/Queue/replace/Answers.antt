use Rattle.mon_downtime.specs.Order.{has}
use Rattle.mon_downtime.specs.Queue.{queued}
use Rattle.mon_downtime.proofs.MoveLemmas.{is_replaced, none_left}
use Rattle.mon_downtime.proofs.queue.Queue.replace.Goals as goal

pub move_around-requires-clause-new : goal.move_around-requires-clause-new
move_around-requires-clause-new c = λ e. none_left (queued c.args.self.now) c.args.old.now c.args.new e c.in-Some.from c.requires.queue.ascending c.in-Some.ensures.found c.requires.new

pub move_between-requires-clause-new : goal.move_between-requires-clause-new
move_between-requires-clause-new c = λ e. none_left (queued c.args.self.now) c.args.old.now c.args.new e c.in-Some.from c.requires.queue.ascending c.in-Some.ensures.found c.requires.new

pub move_between-requires-clause-to : goal.move_between-requires-clause-to
move_between-requires-clause-to c = rw (← c.events-events.ensures) c.place_of-to.ensures

pub returns-then-around-abs_diff-clause-events : goal.returns-then-around-abs_diff-clause-events
returns-then-around-abs_diff-clause-events c = λ e. is_replaced (queued c.args.self.now) c.args.old.now c.args.new e c.in-Some.from (has (queued c.move_around.new.self) e) c.requires.queue.ascending c.in-Some.ensures.found (c.move_around.ensures.events e)

pub returns-else-around-abs_diff-clause-events : goal.returns-else-around-abs_diff-clause-events
returns-else-around-abs_diff-clause-events c = λ e. is_replaced (queued c.args.self.now) c.args.old.now c.args.new e c.in-Some.from (has (queued c.move_between.new.self) e) c.requires.queue.ascending c.in-Some.ensures.found (c.move_between.ensures.events e)
