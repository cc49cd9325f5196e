use Rattle.std.proofs.Common.{refl, sym, ◌∙◌, vec_capacity, arith}
use Rattle.std.proofs.lemmas.List.{nil_from_length}
use Rattle.std.specs.Vec.Iter.{into_iter_items}
use Rattle.cmd_dispatch.proofs.ThreadLemmas.{next_is_new, next_is_planned, next_told_nothing, started_none, started_more, started_some, started_all}
use Rattle.cmd_dispatch.proofs.threads.start_all.Goals as goal

pub loop-feed-init : goal.loop-feed-init
loop-feed-init g c = record {
  starting = started_none c.args.senders.sides.items c.args.senders.feeds.items c.args.senders.reports.items c.args.senders.reading (into_iter_items c.into_iter-sides.result) (into_iter_items c.into_iter-feed-iterator.result) (into_iter_items c.into_iter-reports.result) c.args.started.now.items
      c.requires.new.0 c.into_iter-sides.ensures.rest c.into_iter-feed-iterator.ensures.into_iter_gives.0 c.into_iter-reports.ensures.rest;
  capacity = refl;
}

pub push_reserved-requires : goal.push_reserved-requires
push_reserved-requires g c =
    let more = started_some c.args.senders.sides.items c.args.senders.feeds.items c.args.senders.reports.items c.args.senders.reading (into_iter_items c.loop-feed.sides) c.in-Some.feed (into_iter_items c.next.new.self) (into_iter_items c.loop-feed.feed-iterator) (into_iter_items c.loop-feed.reports) c.loop-feed.started.items
    c.loop-feed.invariant.starting c.in-Some.ensures.steps.0 in
    omega (arith, more.not_all refl, c.loop-feed.started.ok, c.loop-feed.invariant.capacity, c.requires.room)

pub start-requires-clause-new : goal.start-requires-clause-new
start-requires-clause-new g c κs within =
    next_is_new c.args.senders.sides.items _ c.loop-feed.invariant.starting.gone _ _ c.in-Some-next.side c.loop-feed.invariant.starting.sides_are c.in-Some-next.ensures.items c.requires.new.1.1 c.requires.new.1.0

pub start-requires-clause-planned : goal.start-requires-clause-planned
start-requires-clause-planned g c κs within =
    let at = c.loop-feed.invariant.starting in
    next_is_planned g.F.Feed.remaining c.args.senders.sides.items c.args.senders.feeds.items at.gone _ _ at.done _ _ c.in-Some-next.side c.in-Some.feed at.sides_are c.in-Some-next.ensures.items at.feeds_are c.in-Some.ensures.steps.0 (at.sides_gone ∙ sym at.feeds_done) c.requires.planned

pub start-requires-clause-none_taken : goal.start-requires-clause-none_taken
start-requires-clause-none_taken g c κs within =
    next_told_nothing g.P.Reporter.has_taken c.args.senders.reports.items _ c.loop-feed.invariant.starting.told _ _ c.in-Some-next-2.report c.loop-feed.invariant.starting.reports_are c.in-Some-next-2.ensures.items c.requires.new.2

pub loop-feed-preserved : goal.loop-feed-preserved
loop-feed-preserved g c =
    let own = c.in-Some-start.ensures in
    record {
      starting = started_more c.args.senders.sides.items c.args.senders.feeds.items c.args.senders.reports.items c.args.senders.reading c.in-Some-next.side (into_iter_items c.next-in-loop-feed.new.self) c.in-Some.feed (into_iter_items c.next.new.self) c.in-Some-next-2.report (into_iter_items c.next-in-loop-feed-2.new.self) c.loop-feed.started.items c.in-Some-start.handle
          (into_iter_items c.loop-feed.sides) (into_iter_items c.loop-feed.feed-iterator) (into_iter_items c.loop-feed.reports) c.push_reserved.new.self.items
          c.loop-feed.invariant.starting c.in-Some-next.ensures.items c.in-Some.ensures.steps.0 c.in-Some-next-2.ensures.items (own.0, own.1, own.2) c.push_reserved.ensures.items;
      capacity = ◌∙◌ {a = vec_capacity c.push_reserved.new.self} c.push_reserved.ensures.capacity c.loop-feed.invariant.capacity;
    }

pub returns-in_default-start : goal.returns-in_default-start
returns-in_default-start g c =
    started_some c.args.senders.sides.items c.args.senders.feeds.items c.args.senders.reports.items c.args.senders.reading (into_iter_items c.loop-feed.sides) c.in-Some.feed (into_iter_items c.next.new.self) (into_iter_items c.loop-feed.feed-iterator) (into_iter_items c.loop-feed.reports) c.loop-feed.started.items
    c.loop-feed.invariant.starting c.in-Some.ensures.steps.0

pub returns : goal.returns
returns g c =
    started_all c.args.senders.sides.items c.args.senders.feeds.items c.args.senders.reports.items c.args.senders.reading (into_iter_items c.loop-feed.sides) (into_iter_items c.loop-feed.feed-iterator) (into_iter_items c.loop-feed.reports) c.loop-feed.started.items
    c.loop-feed.invariant.starting (nil_from_length (into_iter_items c.loop-feed.feed-iterator) (omega (arith, c.in-None.ensures.steps.0, c.loop-feed.feed-iterator.rest.ok)))
