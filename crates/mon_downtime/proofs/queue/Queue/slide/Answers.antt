use Rattle.std.proofs.Common.{◌≡◌, ◌+◌, ◌-◌, length, arith, sym, subst}
use Rattle.mon_downtime.specs.Order.{Ascending}
use Rattle.mon_downtime.proofs.MoveLemmas.{slid}
use Rattle.mon_downtime.proofs.queue.Queue.slide.Goals as goal

pub returns-clause-events : goal.returns-clause-events
returns-clause-events c =
    let q = c.args.self.now in
    let w = c.loop.invariant in
    let n = c.len.result - q.start in
    let all : q.start + n ≡ length q.list.items = let within = c.requires.queue.within in omega (arith, c.len.ensures) in
    slid q.list.items c.loop.self.list.items c.copy_within.new.self.items c.truncate.new.self.items q.start c.loop.self.start n c.args.to w.front all w.more (omega (arith, w.long, c.loop-test.false)) w.start c.copy_within.ensures.items c.truncate.ensures.items

pub returns-clause-queue : goal.returns-clause-queue
returns-clause-queue c = record {
  within = omega (arith, c.truncate.ensures.len, c.copy_within.ensures.len, c.loop.invariant.long, c.loop-test.false);
  ascending = subst Ascending (sym (returns-clause-events c)) c.requires.queue.ascending;
}
