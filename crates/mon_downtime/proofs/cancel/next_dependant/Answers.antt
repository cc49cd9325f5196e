use Rattle.std.proofs.Common.{arith, refl, subst, sym, ◌∙◌}
use Rattle.mon_downtime.specs.Cancel.{trigger_of}
use Rattle.mon_downtime.specs.Walk.{walked}
use Rattle.mon_downtime.proofs.RecordLemmas.{numbered}
use Rattle.mon_downtime.proofs.CancelLemmas.{trigger_falls}
use Rattle.mon_downtime.proofs.DependLemmas.{above}
use Rattle.mon_downtime.proofs.NextLemmas.{IsUp, has_trigger, trigger_read, goes_down, starts_up, goes_up, goes_over, goes_out}
use Rattle.mon_downtime.proofs.WalkedLemmas.{length-walked, AreNumbered-walked, own_trigger, earlier_walked}
use Rattle.mon_downtime.proofs.cancel.next_dependant.Goals as goal

pub latest_to_walk-latest-requires : goal.latest_to_walk-latest-requires
latest_to_walk-latest-requires c =
    let w = AreNumbered-walked 0 _ c.args.links.now (numbered 0 _ c.requires.records) in
    let least = above (walked c.args.records.now c.args.links.now) c.args.id c.args.at w c.requires.id c.requires.depends in
    let each = c.requires.links.each in
    let within = c.requires.within in
    record { there = (omega arith, omega arith) }

pub returns-then-latest-ne0-clause-walk : goal.returns-then-latest-ne0-clause-walk
returns-then-latest-ne0-clause-walk c =
    let es = walked c.args.records.now c.args.links.now in
    let w = AreNumbered-walked 0 _ c.args.links.now (numbered 0 _ c.requires.records) in
    let long = length-walked c.args.records.now c.args.links.now in
    goes_down es c.args.id c.args.at _ w c.requires.id c.requires.depends (rw long (c.latest_to_walk-latest.ensures c.args.records.now c.requires.links)) (let some = c.if-latest-ne0.true in omega arith)

pub loop-up-init : goal.loop-up-init
loop-up-init c =
    let es = walked c.args.records.now c.args.links.now in
    let w = AreNumbered-walked 0 _ c.args.links.now (numbered 0 _ c.requires.records) in
    let long = length-walked c.args.records.now c.args.links.now in
    let least = above es c.args.id c.args.at w c.requires.id c.requires.depends in
    record {
      up = starts_up es c.args.id c.args.at _ (let within = c.requires.within in omega arith) c.requires.depends (rw long (c.latest_to_walk-latest.ensures c.args.records.now c.requires.links)) c.if-latest-ne0.false;
      some = omega arith;
      last = c.requires.within;
    }

pub returns-then-earlier-ne0-clause-walk : goal.returns-then-earlier-ne0-clause-walk
returns-then-earlier-ne0-clause-walk c =
    let es = walked c.args.records.now c.args.links.now in
    let w = AreNumbered-walked 0 _ c.args.links.now (numbered 0 _ c.requires.records) in
    let i = c.loop-up.invariant in
    let first = has_trigger es c.args.id c.loop-up.up w c.requires.id i.up.on c.loop-up-test.true in
    goes_over es c.args.id c.args.at c.loop-up.up _ w c.requires.id c.requires.depends c.loop-up-test.true i.up
    (earlier_walked c.args.records.now c.args.links.now c.loop-up.up _ c.requires.links i.some i.last first) (let some = c.if-earlier-ne0.true in omega arith)

pub loop-up-smaller : goal.loop-up-smaller
loop-up-smaller c =
    let w = numbered 0 _ c.requires.records in
    let i = c.loop-up.invariant in
    let read = trigger_read c.args.records.now c.loop-up.up c.index-records-up.result w i.some i.last c.index-records-up.is in
    let falls = trigger_falls c.args.records.now c.loop-up.up w in
    let some = i.some in
    omega arith

pub loop-up-preserved : goal.loop-up-preserved
loop-up-preserved c =
    let ds = c.args.records.now in
    let es = walked ds c.args.links.now in
    let n = numbered 0 _ c.requires.records in
    let w = AreNumbered-walked 0 _ c.args.links.now n in
    let long = length-walked ds c.args.links.now in
    let i = c.loop-up.invariant in
    let first = has_trigger es c.args.id c.loop-up.up w c.requires.id i.up.on c.loop-up-test.true in
    let own = own_trigger ds c.args.links.now c.loop-up.up (trigger_of es c.loop-up.up) first refl in
    let read = sym own.0 ∙ trigger_read ds c.loop-up.up c.index-records-up.result n i.some i.last c.index-records-up.is in
    let on = goes_up es c.args.id c.args.at c.loop-up.up _ w c.requires.id c.loop-up-test.true i.up
    (earlier_walked ds c.args.links.now c.loop-up.up _ c.requires.links i.some i.last first) c.if-earlier-ne0.false in
    record { up = subst (IsUp es c.args.id c.args.at) read on; some = omega arith; last = (let within = on.within in omega arith) }

pub returns-clause-walk : goal.returns-clause-walk
returns-clause-walk c = goes_out (walked c.args.records.now c.args.links.now) c.args.id c.args.at c.loop-up.up (AreNumbered-walked 0 _ c.args.links.now (numbered 0 _ c.requires.records)) c.requires.id c.requires.depends c.loop-up-test.false c.loop-up.invariant.up
