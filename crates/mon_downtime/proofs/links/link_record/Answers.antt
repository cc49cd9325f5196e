use Rattle.std.proofs.Common.{◌≡◌, ◌-◌, get_or, refl, ap, ◌∙◌, rules}
use Rattle.std.proofs.lemmas.List.{get_or_default}
use Rattle.mon_downtime.specs.declared.links.Link.{Link}
use Rattle.mon_downtime.specs.Links.{unlinked}
use Rattle.mon_downtime.proofs.LinkLemmas.{linked_alone, linked_by, link_within}
use Rattle.mon_downtime.proofs.MarkedLemmas.{marked_alone, marked_behind, marks_alone, marks_behind}
use Rattle.mon_downtime.proofs.links.link_record.Goals as goal

pub returns-then-added-eq0-clause-links : goal.returns-then-added-eq0-clause-links
returns-then-added-eq0-clause-links c = rw c.push_reserved.ensures.items (linked_alone c.args.records.now c.args.links.now.items c.args.added.now c.requires.records c.requires.links c.if-added-eq0.true)

pub index-trigger-requires : goal.index-trigger-requires
index-trigger-requires c =
    let within = link_within c.args.records.now c.args.links.now.items c.args.added.now c.requires.records c.requires.links c.if-added-eq0.false in
    search rules

pub index_mut-requires : goal.index_mut-requires
index_mut-requires c =
    let within = link_within c.args.records.now c.args.links.now.items c.args.added.now c.requires.records c.requires.links c.if-added-eq0.false in
    search rules

pub returns-clause-links : goal.returns-clause-links
returns-clause-links c = rw c.push_reserved-2.ensures.items (linked_by c.args.records.now c.args.links.now.items c.args.added.now c.index-trigger.result.now c.requires.records c.requires.links c.if-added-eq0.false (search rules))

pub returns-then-added-eq0-clause-marked : goal.returns-then-added-eq0-clause-marked
returns-then-added-eq0-clause-marked c = rw c.push_reserved.ensures.items (marked_alone c.args.records.now c.args.added.now c.args.links.now.items _ c.requires.records c.requires.free c.requires.links c.requires.marked refl)

pub returns-clause-marked : goal.returns-clause-marked
returns-clause-marked c =
    let within = link_within c.args.records.now c.args.links.now.items c.args.added.now c.requires.records c.requires.links c.if-added-eq0.false in
    let is : c.index-trigger.result.now ≡ get_or c.args.links.now.items (c.args.added.now.plan.times.trigger_id - 1) c.index-trigger.result.now = search rules in
    rw c.push_reserved-2.ensures.items (marked_behind c.args.records.now c.args.added.now c.args.links.now.items (c.args.added.now.plan.times.trigger_id - 1) _ _ c.requires.records c.requires.free c.requires.links c.requires.marked within
    (ap (λ (v : Link). v.all_over) (is ∙ get_or_default c.args.links.now.items (c.args.added.now.plan.times.trigger_id - 1) c.index-trigger.result.now unlinked within)) refl)

pub returns-then-added-eq0-clause-marks : goal.returns-then-added-eq0-clause-marks
returns-then-added-eq0-clause-marks c = λ x some h. marks_alone c.args.links.now.items _ x refl some (rw c.push_reserved.ensures.items at h)

pub returns-clause-marks : goal.returns-clause-marks
returns-clause-marks c = λ x some h.
    (let within = link_within c.args.records.now c.args.links.now.items c.args.added.now c.requires.records c.requires.links c.if-added-eq0.false in
    let is : c.index-trigger.result.now ≡ get_or c.args.links.now.items (c.args.added.now.plan.times.trigger_id - 1) c.index-trigger.result.now = search rules in
    marks_behind c.args.links.now.items (c.args.added.now.plan.times.trigger_id - 1) _ _ x within
    (ap (λ (v : Link). v.all_over) (is ∙ get_or_default c.args.links.now.items (c.args.added.now.plan.times.trigger_id - 1) c.index-trigger.result.now unlinked within)) refl some (rw c.push_reserved-2.ensures.items at h))
