use Rattle.std.proofs.Common.{List, [], length, map, ap, subst, sym, ◌∙◌, rules}
use Rattle.std.proofs.lemmas.List.{length-map, with_items_is}
use Rattle.mon_downtime.specs.declared.downtime.Downtime.{Downtime}
use Rattle.mon_notify.specs.declared.contacts.ContactSwitch.{ContactSwitch}
use Rattle.mon_engine.specs.declared.ends.Owed.{Owed}
use Rattle.mon_engine.specs.declared.object.Object.{Object}
use Rattle.mon_engine.specs.World.{World}
use Rattle.mon_engine.specs.Saved.{IsSaved}
use Rattle.mon_carry.specs.Carried.{contact_carried, owed_under, downtime_carried, HasPlaces}
use Rattle.mon_carry.proofs.PlacingLemmas.{world_is}
use Rattle.mon_carry.proofs.SavedLemmas.{a_carried_world_is_saved}
use Rattle.mon_carry.proofs.carrying.carry.Goals as goal

pub returns-clause-carried : goal.returns-clause-carried
returns-clause-carried c =
    let old = c.args.old.now in
    let new = c.args.new.now in
    let moved = c.carry_downtimes.ensures in
    let as_long = ap length moved ∙ length-map _ _ ∙ ap length c.deref_mut.ensures.value ∙ sym c.parts.inside.downtimes.ok.0 in
    let w : World = record {
      clock = c.parts.inside.clock;
      notes = record { comments = c.parts.inside.comments.items; last_id = c.parts.inside.last_comment };
      downtimes = c.parts.inside.downtimes.items;
      objects = c.parts.inside.objects.items;
      program = c.parts.inside.program;
      contacts = c.parts.inside.contacts.items;
      owed = c.parts.inside.owed.items;
      rejections = [];
      notices = [];
      entries = 0;
      before = c.parts.inside.before;
    } in
    rw (← c.parts.view_is)
    (world_is old new w _ _ _ _ _ c.in_ok-objects.ensures.carried
    (c.in_ok-contacts.ensures ∙ ap (λ (s : List ContactSwitch). map (contact_carried old.contacts s) new.contacts) c.deref-2.ensures.value)
    (c.in_ok-owed.ensures
    ∙ ap (λ (xs : List Owed). owed_under old new c.deref-4.result.now xs) c.deref-3.ensures.value
    ∙ ap (λ (os : List Object). owed_under old new os c.parts.inside.owed.items) c.deref-4.ensures.value)
    c.in_ok-comments.ensures
    (with_items_is c.parts.inside.downtimes c.carry_downtimes.new.downtimes as_long ∙ moved ∙ ap (λ (ds : List Downtime). map (downtime_carried old.objects new.objects) ds) c.deref_mut.ensures.value))

pub returns-clause-saved : goal.returns-clause-saved
returns-clause-saved c =
    let old = c.args.old.now in
    let new = c.args.new.now in
    let places : HasPlaces c.args.parts new = search rules in
    subst (IsSaved new) (sym (returns-clause-carried c)) (a_carried_world_is_saved old new c.args.parts c.in_ok-objects.ensures.sound c.has_places.ensures.sound c.requires places)
