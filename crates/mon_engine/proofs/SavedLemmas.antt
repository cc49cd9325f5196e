-- What entries lead to can be written, once it has told, and read back.
use Rattle.std.proofs.Common.{◌≡◌, ℕ, ◌+◌, ◌*◌, ◌<◌, ◌≤◌, Bool, true, false, List, [], ◌∷◌, ◌++◌, length, map, All, Err, refl, ap, sym, subst, arith}
use Rattle.std.proofs.lemmas.List.{length-map}
use Rattle.std.proofs.lemmas.List.Elements.{All-nil, All-cons}
use Rattle.cmd_types.specs.declared.entry.Entry.{Entry}
use Rattle.cmd_types.specs.declared.limits.TheConstants.{GREATEST_NUMBER}
use Rattle.cmd_types.specs.Spelling.{IsWellFormed}
use Rattle.cmd_journal.specs.declared.journal.TheConstants.{GREATEST_LIMIT}
use Rattle.mon_checks.specs.States.{IsCodeOf}
use Rattle.mon_notes.specs.declared.comment.Comment.{Comment}
use Rattle.mon_notes.specs.Comments.{CommentsStayInOrder}
use Rattle.mon_downtime.specs.declared.downtime.Downtime.{Downtime}
use Rattle.mon_downtime.specs.RecordLaws.{RecordsStayRecords}
use Rattle.mon_inventory.specs.declared.records.ObjectSpec.{ObjectSpec}
use Rattle.mon_inventory.specs.Configuration.{Configuration}
use Rattle.mon_inventory.specs.Facts.{IsInventory}
use Rattle.mon_engine.specs.declared.ends.Owed.{Owed}
use Rattle.mon_engine.specs.Owed.{initial_owed, nobody}
use Rattle.mon_engine.specs.declared.state.TheConstants.{GREATEST_BEFORE}
use Rattle.mon_engine.specs.Objects.{is_service, initial_object}
use Rattle.mon_engine.specs.World.{World, initial, initial_contact}
use Rattle.mon_engine.specs.Clock.{advanced}
use Rattle.mon_engine.specs.Step.{settled, counted, acted, step, meaning_from}
use Rattle.mon_engine.specs.Laws.{moment_of}
use Rattle.mon_engine.specs.Telling.{forgotten}
use Rattle.mon_engine.specs.Sound.{IsNoticeOf, IsWorldAt, IsWorld, Follows, ever, raised, AreObjectStates}
use Rattle.mon_engine.specs.Saved.{IsSaidObject, IsSaidComment, IsSaidDowntime, IsSaved, going_on}
use Rattle.mon_engine.specs.SavedLaws.{AreWellFormed, JournalsAreWellFormed, AnInitialWorldIsSaved, AWorldThatGoesOnIsSaved, AWorldOfEntriesIsSaved, AResumedWorldIsSaved, AWorldOfAJournalIsSaved}
use Rattle.mon_engine.proofs.AskedLemmas.{named_fit, named_stands}
use Rattle.mon_engine.proofs.TargetLemmas.{named_asks, asked_said, IsSaidAct}
use Rattle.mon_engine.proofs.EntryLemmas.{entry_cases, found, advanced_leaves, kept_objects}
use Rattle.mon_engine.proofs.StateLemmas.{initial_states}
use Rattle.mon_engine.proofs.SoundLemmas.{act_follows, rejected_follows, acted_sound, found_sound}
use Rattle.mon_engine.proofs.StepLemmas.{stepped}
use Rattle.mon_downtime.specs.Clock.{WhatIsDueHappens, NothingIsLeft}
use Rattle.mon_engine.proofs.EndLemmas.{ends_leave, ends_objects, step_leaves, step_objects}
use Rattle.mon_engine.specs.Ends.{told_ends}
use Rattle.mon_engine.proofs.SaidLemmas.{AreSaidNotes, AreSaidDowntimes, notes_said, downtimes_said, objects_said, clock_said, advanced_said}
use Rattle.mon_engine.proofs.ResumedLemmas.{step_counts, each_entry_is_counted, going_on_means_the_same}

-- ---- an entry

-- a world that holds together, and each part of it such as commands say
record IsGood (inv : Configuration) (w : World) : Type 0 where
  world : IsWorld inv w
  notes : AreSaidNotes w.notes
  downtimes : AreSaidDowntimes w.downtimes
  objects : All IsSaidObject w.objects

-- what an entry does to a world that is good, before the clock tells
record IsDone (inv : Configuration) (w v : World) : Type 0 where
  world : IsWorldAt inv (ever w + 1) (raised w + 1) v × (v.entries ≡ w.entries + 1) × (v.before ≡ w.before)
  notes : AreSaidNotes v.notes
  downtimes : AreSaidDowntimes v.downtimes
  objects : All IsSaidObject v.objects

-- what an effect leaves, once it is counted and time has gone on
closed_done : (stay : RecordsStayRecords) (inv : Configuration) (w b : World) (t : ℕ) → IsWorld inv w → w.entries < GREATEST_LIMIT → t ≤ GREATEST_NUMBER → Follows inv (advanced inv w t) b
    → AreSaidNotes b.notes → AreSaidDowntimes b.downtimes → All IsSaidObject b.objects → IsDone inv w (advanced inv (counted b) t)
closed_done stay inv w b t world room small f notes downtimes objects = record {
  world = acted_sound inv w (advanced inv w t) b b (advanced inv (counted b) t) t world room small refl f refl refl;
  notes = subst AreSaidNotes (sym (ap (λ (x : World). x.notes) (advanced_leaves inv (counted b) t))) notes;
  downtimes = advanced_said stay inv (counted b) t downtimes;
  objects = subst (All IsSaidObject) (sym (kept_objects inv (counted b) t)) objects;
}

acted_done : (order : CommentsStayInOrder) (stay : RecordsStayRecords) (inv : Configuration) (w : World) (e : Entry) → IsInventory inv → IsWellFormed e.stamped → w.entries < GREATEST_LIMIT → IsGood inv w → IsDone inv w (acted inv w e).0
acted_done order stay inv w e sound formed room h = entry_cases inv w e (λ p. IsDone inv w p.0)
    (λ why. (let left = settled (found inv w e) e.sender e.place (Err why) in
    closed_done stay inv w left.0 (moment_of w e) h.world room small (rejected_follows inv (found inv w e) (found inv w e) (found inv w e) left.0.rejections world refl refl) notes downtimes objects))
    (λ a b n k. (let asked = named_asks inv e.stamped.command a sound n in
    let there = named_stands inv e.stamped.command a sound n in
    let fit = named_fit inv e.stamped.command a sound n formed.arguments in
    let said : IsSaidAct inv a = subst (IsSaidAct inv) (sym asked.asks) (asked_said inv e.stamped.command asked.target asked.there formed.arguments) in
    closed_done stay inv w b (moment_of w e) h.world room small (act_follows inv (found inv w e) b a sound world there fit k)
    (notes_said order inv (found inv w e) b a world.clock said k notes)
    (downtimes_said stay inv (found inv w e) b a world.clock said k downtimes)
    (objects_said inv _ (found inv w e) b a world.clock world.states said k objects)))
  where
    small : moment_of w e ≤ GREATEST_NUMBER
    small = (let clock = h.world.clock in let time = formed.time in omega (arith, clock, time))

    world : IsWorld inv (found inv w e)
    world = found_sound inv w (found inv w e) (moment_of w e) h.world small refl

    notes : AreSaidNotes (found inv w e).notes
    notes = subst AreSaidNotes (sym (ap (λ (x : World). x.notes) (advanced_leaves inv w (moment_of w e)))) h.notes

    downtimes : AreSaidDowntimes (found inv w e).downtimes
    downtimes = advanced_said stay inv w (moment_of w e) h.downtimes

    objects : All IsSaidObject (found inv w e).objects
    objects = subst (All IsSaidObject) (sym (kept_objects inv w (moment_of w e))) h.objects

step_good : (order : CommentsStayInOrder) (stay : RecordsStayRecords) (each : WhatIsDueHappens) (left : NothingIsLeft) (inv : Configuration) (w : World) (e : Entry) → IsInventory inv → IsWellFormed e.stamped → w.entries < GREATEST_LIMIT → IsGood inv w → IsGood inv (step inv w e).0
step_good order stay each left inv w e sound formed room h =
    let v : World = (acted inv w e).0 in
    let done = acted_done order stay inv w e sound formed room h in
    let leaves = step_leaves inv w e in
    record {
      world = (stepped each left inv w e done.world).0;
      notes = subst AreSaidNotes (sym (ap (λ (x : World). x.notes) leaves)) done.notes;
      downtimes = subst AreSaidDowntimes (sym (ap (λ (x : World). x.downtimes) leaves)) done.downtimes;
      objects = subst (All IsSaidObject) (sym (step_objects inv w e)) (clock_said inv (told_ends inv v) (let same = ap (λ (x : World). x.clock) (ends_leave inv v) in let small = done.world.0.clock in omega (arith, same, small)) (subst (All IsSaidObject) (sym (ends_objects inv v)) done.objects));
    }

-- ---- entries

means_good : (order : CommentsStayInOrder) (stay : RecordsStayRecords) (each : WhatIsDueHappens) (done : NothingIsLeft) (inv : Configuration) (w : World) (es : List Entry) → IsInventory inv → AreWellFormed es → w.entries + length es ≤ GREATEST_LIMIT → IsGood inv w → IsGood inv (meaning_from inv w es)
unfolding meaning_from
means_good order stay each done inv w [] sound formed room h = h
means_good order stay each done inv w (e ∷ es) sound formed room h =
    let count = (step_counts inv w e).0 in
    means_good order stay each done inv (step inv w e).0 es sound formed.1 (omega (arith, count, room)) (step_good order stay each done inv w e sound formed.0 (omega (arith, room)) h)

-- a world that goes on holds together, where there is room to count on
pub going_on_world : (inv : Configuration) (w : World) → ever w ≤ GREATEST_BEFORE → IsWorld inv w → IsWorld inv (going_on w)
going_on_world inv w room h = subst (λ (n : ℕ). IsWorldAt inv n (2 * n) (going_on w)) same (record {
  clock = h.clock;
  states = h.states;
  contacts = h.contacts;
  owing = h.owing;
  ends = h.ends;
  without = h.without;
  comments = h.comments;
  noted = h.noted;
  downtimes = h.downtimes;
  known = h.known;
  notices = h.notices;
  limit = omega arith;
  earlier = room;
})
  where
    same : ever w ≡ ever w + 0
    same = omega arith

going_on_good : (inv : Configuration) (w : World) → ever w ≤ GREATEST_BEFORE → IsGood inv w → IsGood inv (going_on w)
going_on_good inv w room h = record { world = going_on_world inv w room h.world; notes = h.notes; downtimes = h.downtimes; objects = h.objects }

resumed_good : (order : CommentsStayInOrder) (stay : RecordsStayRecords) (each : WhatIsDueHappens) (done : NothingIsLeft) (inv : Configuration) (w : World) (es : List Entry) → IsInventory inv → AreWellFormed es → ever w + length es ≤ GREATEST_BEFORE → IsGood inv w → IsGood inv (going_on (meaning_from inv w es))
unfolding meaning_from
resumed_good order stay each done inv w [] sound formed room h = going_on_good inv w (omega (arith, room)) h
resumed_good order stay each done inv w (e ∷ es) sound formed room h =
    let counts = step_counts inv (going_on w) e in
    let entries = counts.0 in
    let before = counts.1 in
    subst (IsGood inv) (going_on_means_the_same inv w (e ∷ es)).1
    (resumed_good order stay each done inv (step inv (going_on w) e).0 es sound formed.1 (omega (arith, entries, before, room))
    (step_good order stay each done inv (going_on w) e sound formed.0 (omega arith) (going_on_good inv w (omega (arith, room)) h)))

-- ---- what can be written

good_from : (inv : Configuration) (w : World) → IsSaved inv w → IsGood inv w
good_from inv w h = record {
  world = h.world;
  notes = record { list = h.notes; said = h.said.comments };
  downtimes = record { records = h.records; said = h.said.downtimes };
  objects = h.said.objects;
}

pub forgotten_world : (inv : Configuration) (n m : ℕ) (w : World) → IsWorldAt inv n m w → IsWorldAt inv n m (forgotten w)
forgotten_world inv n m w h = record {
  clock = h.clock;
  states = h.states;
  contacts = h.contacts;
  owing = h.owing;
  ends = h.ends;
  without = h.without;
  comments = h.comments;
  noted = h.noted;
  downtimes = h.downtimes;
  known = h.known;
  notices = All-nil (IsNoticeOf inv);
  limit = h.limit;
  earlier = h.earlier;
}

saved_from : (inv : Configuration) (w : World) → ever w ≤ GREATEST_BEFORE → IsGood inv w → IsSaved inv (forgotten w)
saved_from inv w room h = record {
  world = forgotten_world inv (ever w) (raised w) w h.world;
  notes = h.notes.list;
  records = h.downtimes.records;
  said = record { objects = h.objects; comments = h.notes.said; downtimes = h.downtimes.said };
  no_rejections = refl;
  no_notices = refl;
  room = room;
}

pub a_world_that_goes_on_is_saved : AWorldThatGoesOnIsSaved
a_world_that_goes_on_is_saved inv w h = record {
  world = going_on_world inv w h.room h.world;
  notes = h.notes;
  records = h.records;
  said = record { objects = h.said.objects; comments = h.said.comments; downtimes = h.said.downtimes };
  no_rejections = h.no_rejections;
  no_notices = h.no_notices;
  room = (let room = h.room in omega (arith, room));
}

pub a_world_of_entries_is_saved : (order : CommentsStayInOrder) (stay : RecordsStayRecords) (each : WhatIsDueHappens) (done : NothingIsLeft) → AWorldOfEntriesIsSaved
a_world_of_entries_is_saved order stay each done inv w es sound h formed room limit =
    let counts = each_entry_is_counted inv w es in
    let entries = counts.0 in
    let before = counts.1 in
    saved_from inv (meaning_from inv w es) (omega (arith, entries, before, room)) (means_good order stay each done inv w es sound formed limit (good_from inv w h))

pub a_resumed_world_is_saved : (order : CommentsStayInOrder) (stay : RecordsStayRecords) (each : WhatIsDueHappens) (done : NothingIsLeft) → AResumedWorldIsSaved
a_resumed_world_is_saved order stay each done inv w es sound h formed room =
    let counts = each_entry_is_counted inv w es in
    let entries = counts.0 in
    let before = counts.1 in
    saved_from inv (going_on (meaning_from inv w es)) (omega (arith, entries, before, room)) (resumed_good order stay each done inv w es sound formed room (good_from inv w h))

-- ---- journals

pub journals_are_well_formed : JournalsAreWellFormed
journals_are_well_formed earlier [] h = tt
journals_are_well_formed earlier (e ∷ es) h = (h.0.well_formed, journals_are_well_formed (earlier ++ e ∷ []) es h.1)

-- ---- the first world

objects_first : (specs : List ObjectSpec) → All IsSaidObject (map initial_object specs)
objects_first [] = All-nil IsSaidObject
objects_first (spec ∷ specs) = All-cons IsSaidObject (initial_object spec) (map initial_object specs) first (objects_first specs)
  where
    code : (service : Bool) → IsCodeOf service 0
    code true = omega arith
    code false = omega arith

    first : IsSaidObject (initial_object spec)
    first = record { code = code (is_service spec); last = tt; notified = tt; not_before = tt; moments = record { checked = tt; changed = omega arith; since = tt }; output = tt }

pub owed_first : (P : Owed → Type 0) → P nobody → (specs : List ObjectSpec) → All P (map initial_owed specs)
owed_first P is [] = All-nil P
owed_first P is (spec ∷ specs) = All-cons P nobody (map initial_owed specs) is (owed_first P is specs)

pub initial_is_world : (inv : Configuration) → AreObjectStates 0 inv.objects (map initial_object inv.objects) → IsWorldAt inv 0 0 (initial inv)
unfolding initial
initial_is_world inv states = record {
  clock = omega arith;
  states = states;
  contacts = length-map inv.contacts initial_contact;
  owing = record { as_many = length-map inv.objects initial_owed; within = owed_first (λ x. All (λ c. c < length inv.contacts) x.contacts) (All-nil (λ c. c < length inv.contacts)) inv.objects };
  ends = owed_first (λ x. x.number ≤ GREATEST_NUMBER + 0) (omega arith) inv.objects;
  without = λ off. owed_first (λ x. x ≡ nobody) refl inv.objects;
  comments = omega arith;
  noted = All-nil (λ (c : Comment). c.object < length inv.objects);
  downtimes = omega arith;
  known = All-nil (λ (d : Downtime). d.object < length inv.objects);
  notices = All-nil (IsNoticeOf inv);
  limit = omega arith;
  earlier = omega arith;
}

pub an_initial_world_is_saved : AnInitialWorldIsSaved
unfolding initial
an_initial_world_is_saved inv sound = record {
  world = initial_is_world inv (initial_states inv sound);
  notes = record { ascending = tt; given = tt };
  records = tt;
  said = record { objects = objects_first inv.objects; comments = All-nil IsSaidComment; downtimes = All-nil IsSaidDowntime };
  no_rejections = refl;
  no_notices = refl;
  room = omega arith;
}

-- ---- from the first entry on

pub a_world_of_a_journal_is_saved : (order : CommentsStayInOrder) (stay : RecordsStayRecords) (each : WhatIsDueHappens) (done : NothingIsLeft) → AWorldOfAJournalIsSaved
unfolding initial
a_world_of_a_journal_is_saved order stay each done inv journal sound is room = (
  a_resumed_world_is_saved order stay each done inv (initial inv) journal sound first formed all,
  λ few. a_world_of_entries_is_saved order stay each done inv (initial inv) journal sound first formed all (omega (arith, few)),
)
  where
    first : IsSaved inv (initial inv)
    first = an_initial_world_is_saved inv sound

    formed : AreWellFormed journal
    formed = journals_are_well_formed [] journal is

    all : ever (initial inv) + length journal ≤ GREATEST_BEFORE
    all = omega (arith, room)
