use Rattle.std.proofs.Common.{rules, ◌∙◌, sym}
use Rattle.mon_downtime.proofs.RecordLemmas.{numbered}
use Rattle.mon_downtime.proofs.ProblemLemmas.{waiting_is, waiting_fits, after_problem_some, after_problem_none, problem_falls, waiting_live}
use Rattle.mon_downtime.proofs.keeping.start_waiting.Goals as goal

pub overflow_add-fate : goal.overflow_add-fate
overflow_add-fate c =
    let is = waiting_is c.args.records.now c.args.object c.args.clock c.in-Some.d.now c.requires.kept.records (sym c.in-Some.ensures) in
    search (rules, waiting_fits _ _ _ is)

pub give_fate-requires-clause-small : goal.give_fate-requires-clause-small
give_fate-requires-clause-small c =
    let is = waiting_is c.args.records.now c.args.object c.args.clock c.in-Some.d.now c.requires.kept.records (sym c.in-Some.ensures) in
    (is.clock_small, is.until_small)

pub give_fate-requires-clause-there : goal.give_fate-requires-clause-there
give_fate-requires-clause-there c =
    let is = waiting_is c.args.records.now c.args.object c.args.clock c.in-Some.d.now c.requires.kept.records (sym c.in-Some.ensures) in
    (is.first, is.last)

pub returns-in-None-clause-started : goal.returns-in-None-clause-started
returns-in-None-clause-started c = sym (after_problem_none c.args.records.now c.args.object c.args.clock (sym c.in-None.ensures))

pub returns-in-Some-clause-started : goal.returns-in-Some-clause-started
returns-in-Some-clause-started c =
    c.give_fate.ensures.changed ∙ sym (after_problem_some c.args.records.now c.args.object c.args.clock c.in-Some.d.now (numbered 0 _ c.requires.kept.records) (sym c.in-Some.ensures))

pub returns-in-Some-clause-falls : goal.returns-in-Some-clause-falls
returns-in-Some-clause-falls c =
    let waits = sym c.in-Some.ensures in
    rw (c.give_fate.ensures.changed ∙ sym (after_problem_some c.args.records.now c.args.object c.args.clock c.in-Some.d.now (numbered 0 _ c.requires.kept.records) waits)) (problem_falls c.args.records.now c.args.object c.args.clock c.in-Some.d.now (numbered 0 _ c.requires.kept.records) waits)

pub give_fate-requires-clause-stays : goal.give_fate-requires-clause-stays
give_fate-requires-clause-stays c = λ over. absurd (let live = waiting_live c.args.records.now c.args.object c.args.clock c.in-Some.d.now (numbered 0 _ c.requires.kept.records) (sym c.in-Some.ensures) in cc)
