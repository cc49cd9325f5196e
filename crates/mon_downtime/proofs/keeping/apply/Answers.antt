use Rattle.std.proofs.Common.{List, ◌<◌, ◌-◌, get_or, sym, ◌∙◌, subst, ap}
use Rattle.mon_downtime.specs.declared.downtime.Downtime.{Downtime}
use Rattle.mon_downtime.specs.Records.{with_fate}
use Rattle.mon_downtime.specs.Events.{after_event, fate_by, work}
use Rattle.mon_downtime.proofs.RecordLemmas.{numbered, place_found}
use Rattle.mon_downtime.proofs.WorkLemmas.{with_fate_of, event_falls}
use Rattle.mon_downtime.proofs.keeping.apply.Goals as goal

pub fate_after-fate-requires : goal.fate_after-fate-requires
fate_after-fate-requires c =
    let p = place_found c.args.records.now c.args.event.id c.requires.event.event.of (numbered 0 _ c.requires.kept.records) c.requires.event.event.found in
    rw (c.id-id.ensures, p.at c.index-records-id.result) c.requires.event.small

pub give_fate-requires-clause-small : goal.give_fate-requires-clause-small
give_fate-requires-clause-small c =
    let p = place_found c.args.records.now c.args.event.id c.requires.event.event.of (numbered 0 _ c.requires.kept.records) c.requires.event.event.found in
    rw (c.fate_after-fate.ensures.fate, c.id-id.ensures, p.at c.index-records-id.result) c.requires.event.small

pub returns-clause-applied : goal.returns-clause-applied
unfolding after_event
returns-clause-applied c =
    let p = place_found c.args.records.now c.args.event.id c.requires.event.event.of (numbered 0 _ c.requires.kept.records) c.requires.event.event.found in
    let known = with_fate_of c.args.records.now c.args.event.id (fate_by c.args.event.moment c.args.event.kind) c.requires.event.event.of (numbered 0 _ c.requires.kept.records) c.requires.event.event.found in
    c.give_fate.ensures.changed ∙ ap (λ n. with_fate c.args.records.now n (λ _. c.fate_after-fate.result)) c.id-id.ensures
    ∙ ap (λ f. with_fate c.args.records.now c.args.event.id (λ _. f)) (c.fate_after-fate.ensures.fate ∙ ap (λ (d : Downtime). fate_by c.args.event.moment c.args.event.kind d) (ap (λ n. get_or c.args.records.now (n - 1) c.index-records-id.result) c.id-id.ensures ∙ p.at c.index-records-id.result)) ∙ sym known

pub returns-clause-falls : goal.returns-clause-falls
returns-clause-falls c = subst (λ (ds : List Downtime). work ds < work c.args.records.now) (sym (returns-clause-applied c)) (event_falls c.args.records.now c.args.event (numbered 0 _ c.requires.kept.records) c.requires.event.event)
