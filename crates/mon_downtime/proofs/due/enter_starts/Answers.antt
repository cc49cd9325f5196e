use Rattle.std.proofs.Common.{◌≡◌, ◌<◌, ◌&&◌, ◌||◌, nat_lt, arith, sym, ◌∙◌, ap, true, false, Bool, refl}
use Rattle.std.proofs.lemmas.Bool.Decides.{nat_tests}
use Rattle.mon_downtime.specs.Order.{has}
use Rattle.mon_downtime.specs.Queue.{queued}
use Rattle.mon_downtime.specs.Listed.{is_start, hangs_on}
use Rattle.mon_downtime.proofs.RecordLemmas.{numbered}
use Rattle.mon_downtime.proofs.HungLemmas.{hung_first, hung_all, latest_link, earlier_link, start_hangs, put_step}
use Rattle.mon_downtime.proofs.due.enter_starts.Goals as goal

pub loop-next-init : goal.loop-next-init
loop-next-init c =
    let latest = latest_link c.args.records.now c.args.links.now c.args.id _ c.requires.links c.requires.there.0 c.requires.there.1 in
    record {
      part = c.requires.part;
      room = refl;
      within = latest.within;
      one = latest.one;
      put = λ e. ap (λ b. b || has (queued c.args.queue.now) e) (sym (hung_first c.args.records.now c.args.id _ e (numbered 0 _ c.requires.records) latest));
    }

pub enter_start-requires-clause-new : goal.enter_start-requires-clause-new
enter_start-requires-clause-new c = λ e h.
    let x = c.loop-next.next in
    let some : 0 < x = let n = c.loop-next-test.true in omega arith in
    let w = c.loop-next.invariant in
    let hung = start_hangs c.args.records.now c.args.id x e (w.one some) h in
    let same = hung.1 in
    let behind : nat_lt x e.id ≡ false = grind (arith, nat_tests) in
    let before = c.requires.new e hung.0 in
    w.put e ∙ ap (λ b. hangs_on c.args.records.now c.args.id e && b || has (queued c.args.queue.now) e) behind ∙ none (hangs_on c.args.records.now c.args.id e) (has (queued c.args.queue.now) e) before
  where
    none : (a b : Bool) → b ≡ false → (a && false || b) ≡ false
    none true b h = h
    none false b h = h

pub loop-next-preserved : goal.loop-next-preserved
loop-next-preserved c =
    let x = c.loop-next.next in
    let some : 0 < x = let n = c.loop-next-test.true in omega arith in
    let w = c.loop-next.invariant in
    let earlier = earlier_link c.args.records.now c.args.links.now c.args.id x _ c.requires.links c.requires.there.0 some w.within (w.one some) in
    record {
      part = c.enter_start.ensures.part;
      room = c.enter_start.ensures.room ∙ w.room;
      within = let l = earlier.within in omega (arith, w.within);
      one = earlier.one;
      put = λ e.
          c.enter_start.ensures.events e
          ∙ ap (λ b. is_start c.args.records.now x e || b) (w.put e)
          ∙ put_step c.args.records.now c.args.id x _ e (has (queued c.args.queue.now) e) some (w.one some) earlier;
    }

pub returns-clause-events : goal.returns-clause-events
returns-clause-events c = λ e.
    let zero_is = c.loop-next-test.false in
    c.loop-next.invariant.put e
    ∙ ap (λ n. hangs_on c.args.records.now c.args.id e && nat_lt n e.id || has (queued c.args.queue.now) e) zero_is
    ∙ ap (λ b. b || has (queued c.args.queue.now) e) (hung_all c.args.records.now c.args.id e (numbered 0 _ c.requires.records))
