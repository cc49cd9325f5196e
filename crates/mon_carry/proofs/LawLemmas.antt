-- What remains, what begins and what is over under a new inventory.
use Rattle.std.proofs.Common.{◌≡◌, ◌≢◌, ℕ, ◌<◌, ◌≤◌, Bool, true, false, cond, ◌&&◌, ◌==◌, List, [], ◌∷◌, length, map, filter, filter_map, leb, if◌then◌else◌, Option, Some, None, is_some, slice_get, Contains, option_map, inl, inr, refl, ap, sym, ◌∙◌, arith}
use Rattle.std.specs.List.{cons_option}
use Rattle.std.proofs.lemmas.Bool.{eq-eqb, ne_eqb, eqb-true, lt-leb, le-leb, cases_lt}
use Rattle.std.proofs.lemmas.List.{length-map}
use Rattle.std.proofs.lemmas.List.Elements.{All-map, All-contains_itself}
use Rattle.std.proofs.lemmas.Option.{same_Some, slice_get-map}
use Rattle.mon_checks.specs.declared.status.Status.{Status}
use Rattle.mon_checks.specs.States.{IsWithin}
use Rattle.mon_notes.specs.declared.comment.Comment.{Comment}
use Rattle.mon_downtime.specs.declared.downtime.Downtime.{Downtime}
use Rattle.mon_downtime.specs.declared.downtime.Fate.TheVariants.{Over}
use Rattle.mon_downtime.specs.Records.{is_active, record_of}
use Rattle.mon_downtime.specs.Events.{since_of, from_entry}
use Rattle.mon_notify.specs.declared.contacts.ContactSwitch.{ContactSwitch}
use Rattle.mon_inventory.specs.declared.records.ObjectSpec.{ObjectSpec}
use Rattle.mon_inventory.specs.declared.records.ContactSpec.{ContactSpec}
use Rattle.mon_inventory.specs.Lookups.{contact_of}
use Rattle.mon_inventory.specs.Configuration.{Configuration}
use Rattle.mon_inventory.specs.Facts.{IsInventory}
use Rattle.mon_engine.specs.declared.ends.Owed.{Owed}
use Rattle.mon_engine.specs.declared.object.Object.{Object}
use Rattle.mon_engine.specs.Objects.{is_of_hard_problem, since_after}
use Rattle.mon_engine.specs.World.{World}
use Rattle.mon_engine.specs.Sound.{IsObjectState}
use Rattle.mon_engine.specs.Saved.{IsSaved}
use Rattle.mon_carry.specs.Names.{IsSameObject, place_in, moved}
use Rattle.mon_carry.specs.Carried.{item_at, status_within, object_within, known_or_first, object_carried, objects_carried, switch_or_first, contact_carried, comment_at, comment_on, comment_carried, downtime_on, downtime_carried, carried}
use Rattle.mon_carry.specs.CarryLaws.{ObjectsStand, StatusesStand, CommentsStand, DowntimesStand, DepthsStand, ContactsStand, TheSameInventoryChangesNothingElse, TheSameInventoryChangesNothing, NewObjectsBegin, NewObjectsHaveNoComments, NewObjectsHaveNoDowntimes, NewContactsBegin, IsOfSameObject, CommentsAreOfObjectsThatStand, DowntimesOfGoneObjectsAreOver, WhatWaitsForThemDoesNotStart, AllElseGoesOn}
use Rattle.mon_carry.proofs.ListLemmas.{same_places, map_map, count_map, find_map, All-filter_map, filter_map_all, map_all}
use Rattle.mon_carry.proofs.NameLemmas.{contact_is, contact_none}
use Rattle.mon_carry.proofs.PlaceLemmas.{moved_is, place_back, moved_same, gone_moved, new_place, same_once, itself, stays}
use Rattle.mon_carry.proofs.OwedLemmas.{same_owed}

-- ---- objects

pub mapped_at : {X Y : Type 0} (f : X → Y) (xs : List X) (k : ℕ) (x : X) → slice_get xs k ≡ Some x → slice_get (map f xs) k ≡ Some (f x)
mapped_at f xs k x e = slice_get-map f xs k ∙ ap (option_map f) e

-- the state that is carried to an object whose names are found in the old inventory
object_from : (clock : ℕ) (old : List ObjectSpec) (os : List Object) (spec : ObjectSpec) (j : ℕ) (o : Object) → place_in old spec ≡ Some j → slice_get os j ≡ Some o → object_carried clock old os spec ≡ object_within clock spec.max o
unfolding object_carried
object_from clock old os spec j o place e = ap (λ p. known_or_first clock spec (item_at os p)) place ∙ ap (known_or_first clock spec) e

pub objects_stand : ObjectsStand
unfolding carried
objects_stand old new w j k o sound same e =
    mapped_at (object_carried w.clock old.objects w.objects) new.objects k same.is_now same.stands
    ∙ ap Some (object_from w.clock old.objects w.objects same.is_now j o (place_back old new.objects j k sound same) e)

below_max : (max : ℕ) (s : Status) → s.attempt < max → status_within max s ≡ s
below_max max s below = rw (lt-leb max s.attempt below) refl

below_stays : (clock max : ℕ) (o : Object) → o.status.attempt < max → object_within clock max o ≡ o
below_stays clock max o below = rw (lt-leb max o.status.attempt below) refl

pub statuses_stand : StatusesStand
statuses_stand old new w j k o sound same e below =
    objects_stand old new w j k o sound same e ∙ ap Some (below_stays w.clock same.is_now.max o below)

-- ---- comments

abbrev pub is_at : ℕ → Comment → Bool
is_at k c = c.object == k

-- one more comment
comment_stands : (old new : Configuration) (j k : ℕ) (c : Comment) (cs : List Comment) → IsInventory old → IsInventory new → IsSameObject old.objects new.objects j k
    → filter (is_at k) (filter_map (comment_carried old.objects new.objects) cs) ≡ map (comment_at k) (filter (is_at j) cs)
    → filter (is_at k) (filter_map (comment_carried old.objects new.objects) (c ∷ cs)) ≡ map (comment_at k) (filter (is_at j) (c ∷ cs))
comment_stands old new j k c cs sound-old sound-new same later = by (moved old.objects new.objects c.object) refl
  where
    is : moved old.objects new.objects j ≡ Some k
    is = moved_is old.objects new j k sound-new same

    other : c.object ≢ j → filter (is_at j) (c ∷ cs) ≡ filter (is_at j) cs
    other apart = rw (ne_eqb c.object j apart) refl

    by : (m : Option ℕ) → moved old.objects new.objects c.object ≡ m
        → filter (is_at k) (cons_option (comment_on c m) (filter_map (comment_carried old.objects new.objects) cs)) ≡ map (comment_at k) (filter (is_at j) (c ∷ cs))
    by None e =
        let apart : c.object ≢ j = λ here. (let gone = sym e ∙ ap (moved old.objects new.objects) here ∙ is in cc) in
        later ∙ ap (map (comment_at k)) (sym (other apart))
    by (Some m) e = by_place (m == k) refl
      where
        by_place : (t : Bool) → (m == k) ≡ t
            → cond t (comment_at m c ∷ filter (is_at k) (filter_map (comment_carried old.objects new.objects) cs)) (filter (is_at k) (filter_map (comment_carried old.objects new.objects) cs)) ≡ map (comment_at k) (filter (is_at j) (c ∷ cs))
        by_place true t =
            let there = eqb-true m k t in
            let here = same_once old new.objects c.object j k sound-old (moved_same old.objects new c.object k sound-new (e ∙ ap Some there)) same in
            rw (eq-eqb c.object j here, there, later) refl
        by_place false t =
            let apart : c.object ≢ j = λ here. (let found = same_Some m k (sym e ∙ ap (moved old.objects new.objects) here ∙ is) in let both = eq-eqb m k found in cc) in
            later ∙ ap (map (comment_at k)) (sym (other apart))

each_stands : (old new : Configuration) (j k : ℕ) (cs : List Comment) → IsInventory old → IsInventory new → IsSameObject old.objects new.objects j k
    → filter (is_at k) (filter_map (comment_carried old.objects new.objects) cs) ≡ map (comment_at k) (filter (is_at j) cs)
each_stands old new j k [] sound-old sound-new same = refl
each_stands old new j k (c ∷ cs) sound-old sound-new same = comment_stands old new j k c cs sound-old sound-new same (each_stands old new j k cs sound-old sound-new same)

pub comments_stand : CommentsStand
unfolding carried
comments_stand old new w j k sound-old sound-new same = each_stands old new j k w.notes.comments sound-old sound-new same

-- ---- downtimes

downtime_from : (old new : List ObjectSpec) (d : Downtime) (m : Option ℕ) → moved old new d.object ≡ m → downtime_carried old new d ≡ downtime_on d m
downtime_from old new d m e = ap (downtime_on d) e

pub downtimes_stand : DowntimesStand
unfolding carried
downtimes_stand old new w j k place d sound same e of =
    mapped_at (downtime_carried old.objects new.objects) w.downtimes place d e
    ∙ ap Some (downtime_from old.objects new.objects d (Some k) (ap (moved old.objects new.objects) of ∙ moved_is old.objects new j k sound same))

pub depths_stand : DepthsStand
unfolding carried
depths_stand old new w j k sound-old sound-new same =
    count_map (downtime_carried old.objects new.objects) (λ d. (d.object == j) && is_active d.fate) (λ d. (d.object == k) && is_active d.fate) each w.downtimes
  where
    is : moved old.objects new.objects j ≡ Some k
    is = moved_is old.objects new j k sound-new same

    other : (d : Downtime) → d.object ≢ j → false ≡ ((d.object == j) && is_active d.fate)
    other d apart = rw (ne_eqb d.object j apart) refl

    none : (b : Bool) → (b && false) ≡ false
    none true = refl
    none false = refl

    each : (d : Downtime) → (((downtime_carried old.objects new.objects d).object == k) && is_active (downtime_carried old.objects new.objects d).fate) ≡ ((d.object == j) && is_active d.fate)
    each d = by (moved old.objects new.objects d.object) refl
      where
        by : (m : Option ℕ) → moved old.objects new.objects d.object ≡ m → (((downtime_on d m).object == k) && is_active (downtime_on d m).fate) ≡ ((d.object == j) && is_active d.fate)
        by None e =
            let apart : d.object ≢ j = λ here. (let gone = sym e ∙ ap (moved old.objects new.objects) here ∙ is in cc) in
            none (0 == k) ∙ other d apart
        by (Some m) e = by_place (m == k) refl
          where
            by_place : (t : Bool) → (m == k) ≡ t → (t && is_active d.fate) ≡ ((d.object == j) && is_active d.fate)
            by_place true t =
                let there = eqb-true m k t in
                let here = same_once old new.objects d.object j k sound-old (moved_same old.objects new d.object k sound-new (e ∙ ap Some there)) same in
                rw (eq-eqb d.object j here) refl
            by_place false t =
                let apart : d.object ≢ j = λ here. (let found = same_Some m k (sym e ∙ ap (moved old.objects new.objects) here ∙ is) in let both = eq-eqb m k found in cc) in
                other d apart

-- ---- contacts

pub contact_from : (old : List ContactSpec) (switches : List ContactSwitch) (c : ContactSpec) (m : Option ContactSwitch) (p : Option ℕ) → contact_of old c.name ≡ p → item_at switches p ≡ m → contact_carried old switches c ≡ switch_or_first c m
unfolding contact_carried
contact_from old switches c m p place e = ap (λ q. switch_or_first c (item_at switches q)) place ∙ ap (switch_or_first c) e

pub contacts_stand : ContactsStand
unfolding carried
contacts_stand old new w j k was is_now switch sound stood stands same e =
    mapped_at (contact_carried old.contacts w.contacts) new.contacts k is_now stands
    ∙ ap Some (contact_from old.contacts w.contacts is_now (Some switch) (Some j) (contact_is old j was is_now.name sound stood same) e)

-- ---- the same inventory

same_status : (max : ℕ) (s : Status) → IsWithin max s → status_within max s ≡ s
same_status max s h = elim (cases_lt s.attempt max) [
  | inl below ↦ below_max max s below
  | inr above ↦ rw (le-leb max s.attempt above) (by above s.hard refl)
]
  where
    by : max ≤ s.attempt → (t : Bool) → s.hard ≡ t → record s { hard = true; attempt = max } ≡ s
    by above true e = (let at : s.attempt ≡ max = (let last = h.last in omega arith) in rw (← at, ← e) refl)
    by above false e = absurd (let below = h.soft e in omega arith)

same_since : (clock : ℕ) (s : Status) (since : Option ℕ) → is_some since ≡ is_of_hard_problem s → since_after clock s since s ≡ since
same_since clock s since h = by (is_of_hard_problem s) since h
  where
    by : (hard : Bool) (m : Option ℕ) → is_some m ≡ hard → (if hard then (if hard then m else Some clock) else None) ≡ m
    by true m e = refl
    by false None e = refl
    by false (Some x) e = absurd cc

same_object : (clock : ℕ) (spec : ObjectSpec) (o : Object) → IsObjectState spec o → object_within clock spec.max o ≡ o
same_object clock spec o h = elim (cases_lt o.status.attempt spec.max) [
  | inl below ↦ below_stays clock spec.max o below
  | inr above ↦
      ap (λ (s : Status). record o { status = s; moments = record o.moments { since = if leb spec.max o.status.attempt then since_after clock o.status o.moments.since s else o.moments.since } }) (same_status spec.max o.status h.within)
      ∙ ap (λ (b : Bool). record o { moments = record o.moments { since = if b then since_after clock o.status o.moments.since o.status else o.moments.since } }) (le-leb spec.max o.status.attempt above)
      ∙ ap (λ (m : Option ℕ). record o { moments = record o.moments { since = m } }) (same_since clock o.status o.moments.since h.since)
]

same_objects : (inv : Configuration) (w : World) → IsInventory inv → IsSaved inv w → map (object_carried w.clock inv.objects w.objects) inv.objects ≡ w.objects
same_objects inv w sound h = same_places _ w.objects (length-map inv.objects (object_carried w.clock inv.objects w.objects) ∙ sym h.world.states.as_many) each
  where
    each : (k : ℕ) (x o : Object) → slice_get (map (object_carried w.clock inv.objects w.objects) inv.objects) k ≡ Some x → slice_get w.objects k ≡ Some o → x ≡ o
    each k x o a b = by (slice_get inv.objects k) refl
      where
        by : (s : Option ObjectSpec) → slice_get inv.objects k ≡ s → x ≡ o
        by None e = (let none = sym a ∙ slice_get-map (object_carried w.clock inv.objects w.objects) inv.objects k ∙ ap (option_map (object_carried w.clock inv.objects w.objects)) e in absurd (cc))
        by (Some spec) e =
            let is = same_Some x _ (sym a ∙ mapped_at (object_carried w.clock inv.objects w.objects) inv.objects k spec e) in
            let from = object_from w.clock inv.objects w.objects spec k o (place_back inv inv.objects k k sound (itself inv.objects k spec e)) b in
            is ∙ from ∙ same_object w.clock spec o (h.world.states.each k spec o e b)

same_contacts : (inv : Configuration) (w : World) → IsInventory inv → IsSaved inv w → map (contact_carried inv.contacts w.contacts) inv.contacts ≡ w.contacts
same_contacts inv w sound h = same_places _ w.contacts (length-map inv.contacts (contact_carried inv.contacts w.contacts) ∙ sym h.world.contacts) each
  where
    each : (k : ℕ) (x s : ContactSwitch) → slice_get (map (contact_carried inv.contacts w.contacts) inv.contacts) k ≡ Some x → slice_get w.contacts k ≡ Some s → x ≡ s
    each k x s a b = by (slice_get inv.contacts k) refl
      where
        by : (c : Option ContactSpec) → slice_get inv.contacts k ≡ c → x ≡ s
        by None e = (let none = sym a ∙ slice_get-map (contact_carried inv.contacts w.contacts) inv.contacts k ∙ ap (option_map (contact_carried inv.contacts w.contacts)) e in absurd (cc))
        by (Some c) e =
            let is = same_Some x _ (sym a ∙ mapped_at (contact_carried inv.contacts w.contacts) inv.contacts k c e) in
            is ∙ contact_from inv.contacts w.contacts c (Some s) (Some k) (contact_is inv k c c.name sound e refl) b

pub the_same_inventory_changes_nothing_else : TheSameInventoryChangesNothingElse
unfolding carried
the_same_inventory_changes_nothing_else inv w sound h =
    rw (
      same_objects inv w sound h,
      same_contacts inv w sound h,
      filter_map_all (λ c. c.object < length inv.objects) (comment_carried inv.objects inv.objects) (λ c within. ap (comment_on c) (stays inv c.object sound within)) w.notes.comments h.world.noted,
      map_all (λ d. d.object < length inv.objects) (downtime_carried inv.objects inv.objects) (λ d within. ap (downtime_on d) (stays inv d.object sound within)) w.downtimes h.world.known,
    ) refl

pub the_same_inventory_changes_nothing : TheSameInventoryChangesNothing
unfolding carried
the_same_inventory_changes_nothing inv w sound h still =
    let owed : (carried inv w inv).owed ≡ w.owed = same_owed inv (objects_carried w.clock inv.objects w.objects inv.objects) w.owed sound h.world.owing h.world.without still in
    ap (λ (xs : List Owed). record (carried inv w inv) { owed = xs }) owed ∙ the_same_inventory_changes_nothing_else inv w sound h

-- ---- what is new begins

pub new_objects_begin : NewObjectsBegin
unfolding carried object_carried
new_objects_begin old new w k spec sound is =
    mapped_at (object_carried w.clock old.objects w.objects) new.objects k spec is.stands
    ∙ ap (λ p. Some (known_or_first w.clock spec (item_at w.objects p))) (new_place old new.objects k spec sound is)

pub new_objects_have_no_comments : NewObjectsHaveNoComments
unfolding carried
new_objects_have_no_comments old new w k spec sound is =
    All-filter_map (λ c. c.object ≢ k) (Contains w.notes.comments) (comment_carried old.objects new.objects) each w.notes.comments (All-contains_itself w.notes.comments)
  where
    each : (c x : Comment) → Contains w.notes.comments c → comment_carried old.objects new.objects c ≡ Some x → x.object ≢ k
    each c x there e = by (moved old.objects new.objects c.object) refl e
      where
        by : (m : Option ℕ) → moved old.objects new.objects c.object ≡ m → comment_on c m ≡ Some x → x.object ≢ k
        by None f e = absurd (cc)
        by (Some m) f e = λ here. (let one = ap (λ c. c.object) (same_Some (comment_at m c) x e) in is.none c.object (moved_same old.objects new c.object k sound (f ∙ ap Some (one ∙ here))))

pub new_objects_have_no_downtimes : NewObjectsHaveNoDowntimes
unfolding carried
new_objects_have_no_downtimes old new w k spec sound is = All-map (λ d. d.object ≡ k → d.fate ≡ Over) (downtime_carried old.objects new.objects) w.downtimes (λ i d within. each _)
  where
    each : (d : Downtime) → (downtime_carried old.objects new.objects d).object ≡ k → (downtime_carried old.objects new.objects d).fate ≡ Over
    each d = by (moved old.objects new.objects d.object) refl
      where
        by : (m : Option ℕ) → moved old.objects new.objects d.object ≡ m → (downtime_on d m).object ≡ k → (downtime_on d m).fate ≡ Over
        by None f here = refl
        by (Some m) f here = absurd (is.none d.object (moved_same old.objects new d.object k sound (f ∙ ap Some here)))

pub new_contacts_begin : NewContactsBegin
unfolding carried
new_contacts_begin old new w k spec stands none =
    mapped_at (contact_carried old.contacts w.contacts) new.contacts k spec stands
    ∙ ap Some (contact_from old.contacts w.contacts spec None None (contact_none old.contacts spec.name none) refl)

-- ---- what is gone is over

pub comments_are_of_objects_that_stand : CommentsAreOfObjectsThatStand
unfolding carried
comments_are_of_objects_that_stand old new w sound =
    All-filter_map (IsOfSameObject old new w) (Contains w.notes.comments) (comment_carried old.objects new.objects) each w.notes.comments (All-contains_itself w.notes.comments)
  where
    each : (c x : Comment) → Contains w.notes.comments c → comment_carried old.objects new.objects c ≡ Some x → IsOfSameObject old new w x
    each c x there e = by (moved old.objects new.objects c.object) refl e
      where
        by : (m : Option ℕ) → moved old.objects new.objects c.object ≡ m → comment_on c m ≡ Some x → IsOfSameObject old new w x
        by None f e = absurd (cc)
        by (Some m) f e =
            let one = same_Some (comment_at m c) x e in
            rw (← one) (record { was = c; there = there; same = moved_same old.objects new c.object m sound f; as_it_was = refl })

pub downtimes_of_gone_objects_are_over : DowntimesOfGoneObjectsAreOver
unfolding carried
downtimes_of_gone_objects_are_over old new w place d sound e gone =
    mapped_at (downtime_carried old.objects new.objects) w.downtimes place d e
    ∙ ap Some (downtime_from old.objects new.objects d None (gone_moved old.objects new d.object sound gone))

-- a downtime keeps its id
same_id : (old new : List ObjectSpec) (d : Downtime) → (downtime_carried old new d).id ≡ d.id
same_id old new d = by (moved old new d.object)
  where
    by : (m : Option ℕ) → (downtime_on d m).id ≡ d.id
    by None = refl
    by (Some m) = refl

pub what_waits_for_them_does_not_start : WhatWaitsForThemDoesNotStart
unfolding carried
what_waits_for_them_does_not_start old new w d trigger sound some e gone =
    rw (ne_eqb d.plan.times.trigger_id 0 some) (ap (λ t. from_entry (since_of t) d.entered) found)
  where
    found : record_of (map (downtime_carried old.objects new.objects) w.downtimes) d.plan.times.trigger_id ≡ Some (record trigger { object = 0; fate = Over })
    found =
        find_map (downtime_carried old.objects new.objects) (λ x. x.id == d.plan.times.trigger_id) (λ x. x.id == d.plan.times.trigger_id) (λ x. ap (λ n. n == d.plan.times.trigger_id) (same_id old.objects new.objects x)) w.downtimes
        ∙ ap (option_map (downtime_carried old.objects new.objects)) e
        ∙ ap Some (downtime_from old.objects new.objects trigger None (gone_moved old.objects new trigger.object sound gone))

-- ---- all else is unchanged

pub all_else_goes_on : AllElseGoesOn
unfolding carried
all_else_goes_on old new w = record {
  clock = refl;
  program = refl;
  last_id = refl;
  downtimes = length-map w.downtimes (downtime_carried old.objects new.objects);
  ids = map_map (downtime_carried old.objects new.objects) (λ d. d.id) (λ d. d.id) (same_id old.objects new.objects) w.downtimes;
  rejections = refl;
  notices = refl;
  entries = refl;
  before = refl;
}
