use Rattle.std.proofs.Common.{◌≡◌, ◌<◌, ◌&&◌, not, nat_lt, arith, sym, ◌∙◌, ap, true, false, Bool, refl}
use Rattle.mon_downtime.specs.Order.{has}
use Rattle.mon_downtime.specs.Queue.{queued}
use Rattle.mon_downtime.specs.Listed.{is_start, hangs_on}
use Rattle.mon_downtime.proofs.RecordLemmas.{numbered}
use Rattle.mon_downtime.proofs.ListedLemmas.{none_has}
use Rattle.mon_downtime.proofs.HungLemmas.{hung_first, hung_all, latest_link, earlier_link, out_step}
use Rattle.mon_downtime.proofs.due.forget_starts.Goals as goal

pub loop-next-init : goal.loop-next-init
loop-next-init c =
    let latest = latest_link c.args.records.now c.args.links.now c.args.id _ c.requires.links c.requires.there.0 c.requires.there.1 in
    record {
      queue = c.requires.queue;
      room = refl;
      within = latest.within;
      one = latest.one;
      out = λ e. all (has (queued c.args.queue.now) e) ∙ ap (λ b. has (queued c.args.queue.now) e && not b) (sym (hung_first c.args.records.now c.args.id _ e (numbered 0 _ c.requires.records) latest));
    }
  where
    all : (b : Bool) → b ≡ (b && true)
    all true = refl
    all false = refl

pub loop-next-preserved : goal.loop-next-preserved
unfolding is_start
loop-next-preserved c =
    let x = c.loop-next.next in
    let some : 0 < x = let n = c.loop-next-test.true in omega arith in
    let w = c.loop-next.invariant in
    let earlier = earlier_link c.args.records.now c.args.links.now c.args.id x _ c.requires.links c.requires.there.0 some w.within (w.one some) in
    record {
      queue = c.forget.ensures.queue;
      room = c.forget.ensures.room ∙ w.room;
      within = let l = earlier.within in omega (arith, w.within);
      one = earlier.one;
      out = λ e.
          c.forget.ensures.events e
          ∙ ap (λ b. has (queued c.loop-next.queue) e && not b) (sym (none_has c.start_event.result _ e c.start_event.ensures))
          ∙ ap (λ b. b && not (is_start c.args.records.now x e)) (w.out e)
          ∙ out_step c.args.records.now c.args.id x _ e (has (queued c.args.queue.now) e) some (w.one some) earlier;
    }

pub returns-clause-events : goal.returns-clause-events
returns-clause-events c = λ e.
    let zero_is = c.loop-next-test.false in
    c.loop-next.invariant.out e
    ∙ ap (λ n. has (queued c.args.queue.now) e && not (hangs_on c.args.records.now c.args.id e && nat_lt n e.id)) zero_is
    ∙ ap (λ b. has (queued c.args.queue.now) e && not b) (hung_all c.args.records.now c.args.id e (numbered 0 _ c.requires.records))
