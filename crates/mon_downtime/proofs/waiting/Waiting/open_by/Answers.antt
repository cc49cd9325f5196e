use Rattle.std.proofs.Common.{◌+◌, List, drop, refl, sym, ◌∙◌, subst}
use Rattle.mon_downtime.specs.declared.event.Event.{Event}
use Rattle.mon_downtime.specs.declared.queue.Queue.{Queue}
use Rattle.mon_downtime.specs.Queue.{retired}
use Rattle.mon_downtime.specs.Waiting.{AreOpening}
use Rattle.mon_downtime.proofs.RetireLemmas.{none_left}
use Rattle.mon_downtime.proofs.OpenLemmas.{have_left, all_left, all_moved, none_opened}
use Rattle.mon_downtime.proofs.waiting.Waiting.open_by.Goals as goal

pub loop-i-init : goal.loop-i-init
loop-i-init c =
    let r = c.retire_by-count.ensures in
    record {
      waiting = all_left c.args.records.now c.args.self.now c.retire_by-count.new.self c.args.clock (retired c.retire_by-count.result c.retire_by-count.new.self) c.requires.waiting (record { queue = r.queue; room = r.room; rest = r.rest; gone = r.retired; once = r.once });
      openings = refl;
    }

pub open-requires-clause-left : goal.open-requires-clause-left
open-requires-clause-left c =
    let r = c.retire_by-count.ensures in
    rw c.loop-i.invariant.openings (have_left c.args.records.now c.args.self.now.openings c.retire_by-count.new.self c.args.clock (retired c.retire_by-count.result c.retire_by-count.new.self) c.requires.waiting.openings (record { queue = r.queue; room = r.room; rest = r.rest; gone = r.retired; once = r.once }))

pub open-requires-clause-within : goal.open-requires-clause-within
open-requires-clause-within c = (c.loop-i-test.true, rw c.loop-i.invariant.openings c.retire_by-count.ensures.within)

pub loop-i-preserved : goal.loop-i-preserved
loop-i-preserved c = record {
  waiting = subst (λ (q : Queue). AreOpening c.args.records.now (drop (c.loop-i.i + 1) (retired c.retire_by-count.result q)) c.open.new.self) (sym c.open.ensures.openings) c.open.ensures.waiting;
  openings = c.open.ensures.openings ∙ c.loop-i.invariant.openings;
}

pub returns-clause-waiting : goal.returns-clause-waiting
returns-clause-waiting c =
    let w = c.loop-i.invariant.waiting in
    all_moved c.args.records.now c.loop-i.self (subst (λ (es : List Event). AreOpening c.args.records.now es c.loop-i.self) (none_left c.loop-i.self.openings c.retire_by-count.result c.loop-i.i w.openings.queue (rw c.loop-i.invariant.openings c.retire_by-count.ensures.within) c.loop-i-test.false) w)

pub returns-clause-opened : goal.returns-clause-opened
returns-clause-opened c =
    let r = c.retire_by-count.ensures in
    none_opened c.args.records.now c.args.self.now.openings c.loop-i.self c.args.clock (retired c.retire_by-count.result c.retire_by-count.new.self)
    (rw c.loop-i.invariant.openings (record { queue = r.queue; room = r.room; rest = r.rest; gone = r.retired; once = r.once }))
