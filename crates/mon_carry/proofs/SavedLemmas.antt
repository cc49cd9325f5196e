-- A carried world is one that can be written and read back.
use Rattle.std.proofs.Common.{◌≡◌, ◌≢◌, ℕ, ◌+◌, ◌<◌, ◌≤◌, Bool, true, false, List, [], ◌∷◌, length, map, filter_map, if◌then◌else◌, Option, Some, None, is_some, slice_get, All, option_map, refl, ap, sym, ◌∙◌, subst, inl, inr, arith}
use Rattle.std.specs.Prelude.{IfSome}
use Rattle.std.specs.List.{cons_option, AllByRecursion}
use Rattle.std.proofs.lemmas.Bool.{lt-leb, le-leb, cases_lt}
use Rattle.std.proofs.lemmas.List.{length-map}
use Rattle.std.proofs.lemmas.List.Elements.{All-nil, All-map, All-weaker, All-get_or}
use Rattle.std.proofs.lemmas.Option.{same_Some, slice_get-map, slice_get_within, slice_get-get_or, get_or_from_slice_get}
use Rattle.cmd_types.specs.declared.limits.TheConstants.{GREATEST_NUMBER}
use Rattle.mon_checks.specs.declared.status.Status.{Status}
use Rattle.mon_checks.specs.States.{IsWithin, IsCodeOf}
use Rattle.mon_notes.specs.declared.comment.Comment.{Comment}
use Rattle.mon_notes.specs.Comments.{AreAscending}
use Rattle.mon_downtime.specs.declared.downtime.Downtime.{Downtime}
use Rattle.mon_downtime.specs.Records.{IsRecord, AreRecords}
use Rattle.mon_inventory.specs.declared.records.ObjectSpec.{ObjectSpec}
use Rattle.mon_inventory.specs.Configuration.{Configuration}
use Rattle.mon_inventory.specs.Facts.{IsInventory}
use Rattle.mon_engine.specs.declared.object.Object.{Object}
use Rattle.mon_engine.specs.Objects.{is_service, is_of_hard_problem, initial_object}
use Rattle.mon_engine.specs.Sound.{IsObjectState, AreObjectStates, IsNoticeOf, raised}
use Rattle.mon_engine.specs.Saved.{IsSaidObject, IsSaidComment, IsSaidDowntime}
use Rattle.mon_carry.specs.Names.{place_in, moved}
use Rattle.mon_carry.specs.Carried.{item_at, status_within, since_within, object_within, known_or_first, object_carried, objects_carried, contact_carried, comment_at, comment_on, comment_carried, downtime_on, downtime_carried, carried}
use Rattle.mon_carry.specs.CarryLaws.{ACarriedWorldIsSaved}
use Rattle.mon_carry.proofs.ListLemmas.{All-filter_map}
use Rattle.mon_carry.proofs.NameLemmas.{place_found}
use Rattle.mon_carry.proofs.PlaceLemmas.{moved_within}
use Rattle.mon_carry.proofs.OwedLemmas.{under_owing, under_numbers, under_nobody}

-- ---- an object

within_max : (max : ℕ) (s : Status) → 1 ≤ max → 1 ≤ s.attempt → IsWithin max (status_within max s)
within_max max s least first = elim (cases_lt s.attempt max) [
  | inl below ↦ rw (lt-leb max s.attempt below) (record { first = first; last = omega arith; soft = λ e. below })
  | inr above ↦ rw (le-leb max s.attempt above) (record { first = least; last = omega arith; soft = λ e. absurd (cc) })
]

same_kind : (max : ℕ) (s : Status) → ((status_within max s).service ≡ s.service) × ((status_within max s).code ≡ s.code)
same_kind max s = elim (cases_lt s.attempt max) [
  | inl below ↦ rw (lt-leb max s.attempt below) (refl, refl)
  | inr above ↦ rw (le-leb max s.attempt above) (refl, refl)
]

-- the conditions on an object of a world that can be saved
record IsGoodObject (n : ℕ) (spec : ObjectSpec) (o : Object) : Type 0 where
  state : IsObjectState spec o
  number : o.number ≤ GREATEST_NUMBER + n
  said : IsSaidObject o

first_good : (n : ℕ) (spec : ObjectSpec) → 1 ≤ spec.max → IsGoodObject n spec (initial_object spec)
first_good n spec least = record {
  state = record { within = record { first = omega arith; last = least; soft = λ e. absurd (cc) }; kind = refl; since = refl };
  number = omega arith;
  said = record { code = code (is_service spec); last = tt; notified = tt; not_before = tt; moments = record { checked = tt; changed = omega arith; since = tt }; output = tt };
}
  where
    code : (service : Bool) → IsCodeOf service 0
    code true = omega arith
    code false = omega arith

-- under a new greatest attempt the beginning of a hard problem is known and in range
since_good : (clock max : ℕ) (o : Object) → clock ≤ GREATEST_NUMBER → is_some o.moments.since ≡ is_of_hard_problem o.status → IfSome o.moments.since (λ moment. moment ≤ GREATEST_NUMBER)
    → (is_some (since_within clock max o) ≡ is_of_hard_problem (status_within max o.status)) × IfSome (since_within clock max o) (λ moment. moment ≤ GREATEST_NUMBER)
since_good clock max o small known few = elim (cases_lt o.status.attempt max) [
  | inl below ↦ rw (lt-leb max o.status.attempt below) (known, few)
  | inr above ↦ rw (le-leb max o.status.attempt above) (by (is_of_hard_problem o.status) (is_of_hard_problem (record o.status { hard = true; attempt = max })) o.moments.since known few)
]
  where
    by : (was is : Bool) (m : Option ℕ) → is_some m ≡ was → IfSome m (λ moment. moment ≤ GREATEST_NUMBER)
        → (is_some (if is then (if was then m else Some clock) else None) ≡ is) × IfSome (if is then (if was then m else Some clock) else None) (λ moment. moment ≤ GREATEST_NUMBER)
    by was false m e few = (refl, tt)
    by true true m e few = (e, few)
    by false true m e few = (refl, small)

known_good : (clock n : ℕ) (was spec : ObjectSpec) (o : Object) → clock ≤ GREATEST_NUMBER → 1 ≤ spec.max → was.service ≡ spec.service → IsGoodObject n was o → IsGoodObject n spec (object_within clock spec.max o)
known_good clock n was spec o small least same h =
    let kind = same_kind spec.max o.status in
    let since = since_good clock spec.max o small h.state.since h.said.moments.since in
    record {
      state = record { within = within_max spec.max o.status least h.state.within.first; kind = kind.0 ∙ h.state.kind ∙ ap (λ s. is_some s) same; since = since.0 };
      number = h.number;
      said = record {
        code = rw (kind.0, kind.1) h.said.code;
        last = h.said.last;
        notified = h.said.notified;
        not_before = h.said.not_before;
        moments = record { checked = h.said.moments.checked; changed = h.said.moments.changed; since = since.1 };
        output = h.said.output;
      };
    }

carried_good : (clock n : ℕ) (old : Configuration) (os : List Object) (spec : ObjectSpec) → clock ≤ GREATEST_NUMBER → IsInventory old → AreObjectStates n old.objects os → All IsSaidObject os → 1 ≤ spec.max → IsGoodObject n spec (object_carried clock old.objects os spec)
unfolding object_carried
carried_good clock n old os spec small sound states said least = by (place_in old.objects spec) refl
  where
    by : (p : Option ℕ) → place_in old.objects spec ≡ p → IsGoodObject n spec (known_or_first clock spec (item_at os p))
    by None e = first_good n spec least
    by (Some j) e = by_known (slice_get os j) refl
      where
        by_known : (o : Option Object) → slice_get os j ≡ o → IsGoodObject n spec (known_or_first clock spec o)
        by_known None f = first_good n spec least
        by_known (Some o) f =
            let there = place_found old spec j sound e in
            known_good clock n there.item spec o small least (sym there.names.service) (record { state = states.each j there.item o there.is f; number = states.numbers j o f; said = subst IsSaidObject (get_or_from_slice_get os j o o f) (All-get_or IsSaidObject os j o (slice_get_within os j o f) said) })

-- ---- the objects

each_good : (clock n : ℕ) (old new : Configuration) (os : List Object) → clock ≤ GREATEST_NUMBER → IsInventory old → IsInventory new → AreObjectStates n old.objects os → All IsSaidObject os → (k : ℕ) (spec : ObjectSpec) → slice_get new.objects k ≡ Some spec → IsGoodObject n spec (object_carried clock old.objects os spec)
each_good clock n old new os small sound-old sound-new states said k spec e = carried_good clock n old os spec small sound-old states said (sound-new.objects k spec e).max_least

carried_at : (clock n : ℕ) (old new : Configuration) (os : List Object) → clock ≤ GREATEST_NUMBER → IsInventory old → IsInventory new → AreObjectStates n old.objects os → All IsSaidObject os → (k : ℕ) (o : Object) → slice_get (map (object_carried clock old.objects os) new.objects) k ≡ Some o
    → (spec : ObjectSpec) × (slice_get new.objects k ≡ Some spec) × IsGoodObject n spec o
carried_at clock n old new os small sound-old sound-new states said k o e = by (slice_get new.objects k) refl
  where
    mapped : slice_get (map (object_carried clock old.objects os) new.objects) k ≡ option_map (object_carried clock old.objects os) (slice_get new.objects k)
    mapped = slice_get-map (object_carried clock old.objects os) new.objects k

    by : (s : Option ObjectSpec) → slice_get new.objects k ≡ s → (spec : ObjectSpec) × (slice_get new.objects k ≡ Some spec) × IsGoodObject n spec o
    by None f = (let none = sym e ∙ mapped ∙ ap (option_map (object_carried clock old.objects os)) f in absurd (cc))
    by (Some spec) f =
        let is = same_Some o _ (sym e ∙ mapped ∙ ap (option_map (object_carried clock old.objects os)) f) in
        (spec, f, subst (IsGoodObject n spec) (sym is) (each_good clock n old new os small sound-old sound-new states said k spec f))

carried_states : (clock n : ℕ) (old new : Configuration) (os : List Object) → clock ≤ GREATEST_NUMBER → IsInventory old → IsInventory new → AreObjectStates n old.objects os → All IsSaidObject os → AreObjectStates n new.objects (map (object_carried clock old.objects os) new.objects)
carried_states clock n old new os small sound-old sound-new states said = record {
  as_many = length-map new.objects (object_carried clock old.objects os);
  each = λ k spec o e f. (let g = carried_at clock n old new os small sound-old sound-new states said k o f in let one = same_Some g.0 spec (sym g.1 ∙ e) in subst (λ (s : ObjectSpec). IsObjectState s o) one g.2.state);
  numbers = λ k o f. (carried_at clock n old new os small sound-old sound-new states said k o f).2.number;
}

-- ---- comments

later_ascend : (low more : ℕ) (cs : List Comment) → low ≤ more → AreAscending more cs → AreAscending low cs
later_ascend low more [] le h = tt
later_ascend low more (c ∷ cs) le h = (let above = h.0 in omega arith, h.1)

kept_ascend : (old new : List ObjectSpec) (low : ℕ) (cs : List Comment) → AreAscending low cs → AreAscending low (filter_map (comment_carried old new) cs)
kept_ascend old new low [] h = tt
kept_ascend old new low (c ∷ cs) h = by (kept_ascend old new c.id cs h.1) (moved old new c.object)
  where
    by : AreAscending c.id (filter_map (comment_carried old new) cs) → (m : Option ℕ) → AreAscending low (cons_option (comment_on c m) (filter_map (comment_carried old new) cs))
    by rest None = later_ascend low c.id (filter_map (comment_carried old new) cs) (let above = h.0 in omega arith) rest
    by rest (Some m) = (h.0, rest)

kept_given : (old new : List ObjectSpec) (last : ℕ) (cs : List Comment) → AllByRecursion (λ c. c.id ≤ last) cs → AllByRecursion (λ c. c.id ≤ last) (filter_map (comment_carried old new) cs)
kept_given old new last [] h = tt
kept_given old new last (c ∷ cs) h = by (kept_given old new last cs h.1) (moved old new c.object)
  where
    by : AllByRecursion (λ c. c.id ≤ last) (filter_map (comment_carried old new) cs) → (m : Option ℕ) → AllByRecursion (λ c. c.id ≤ last) (cons_option (comment_on c m) (filter_map (comment_carried old new) cs))
    by rest None = rest
    by rest (Some m) = (h.0, rest)

-- a property of a comment at any new index of its object holds of the carried comment
comment_holds : (P : Comment → Type 0) (old new : List ObjectSpec) (c x : Comment) → ((m : ℕ) → moved old new c.object ≡ Some m → P (comment_at m c)) → comment_carried old new c ≡ Some x → P x
comment_holds P old new c x h e = by (moved old new c.object) refl e
  where
    by : (m : Option ℕ) → moved old new c.object ≡ m → comment_on c m ≡ Some x → P x
    by None f e = absurd (cc)
    by (Some m) f e = subst P (same_Some (comment_at m c) x e) (h m f)

-- ---- downtimes

carried_record : (old new : List ObjectSpec) (n : ℕ) (d : Downtime) → IsRecord n d → IsRecord n (downtime_carried old new d)
carried_record old new n d h = by (moved old new d.object)
  where
    by : (m : Option ℕ) → IsRecord n (downtime_on d m)
    by None = record { numbered = record { id_next = h.numbered.id_next; trigger_earlier = h.numbered.trigger_earlier }; start_small = h.start_small; end_small = h.end_small; duration_small = h.duration_small; entered_small = h.entered_small; fate_small = tt }
    by (Some m) = record { numbered = record { id_next = h.numbered.id_next; trigger_earlier = h.numbered.trigger_earlier }; start_small = h.start_small; end_small = h.end_small; duration_small = h.duration_small; entered_small = h.entered_small; fate_small = h.fate_small }

carried_records : (old new : List ObjectSpec) (n : ℕ) (ds : List Downtime) → AreRecords n ds → AreRecords n (map (downtime_carried old new) ds)
carried_records old new n [] h = tt
carried_records old new n (d ∷ ds) h = (carried_record old new n d h.0, carried_records old new (n + 1) ds h.1)

carried_said : (old new : List ObjectSpec) (d : Downtime) → IsSaidDowntime d → IsSaidDowntime (downtime_carried old new d)
carried_said old new d h = by (moved old new d.object)
  where
    by : (m : Option ℕ) → IsSaidDowntime (downtime_on d m)
    by None = h
    by (Some m) = h

-- where the new inventory has an object, each carried downtime is at an object of it
carried_known : (old : List ObjectSpec) (new : Configuration) (d : Downtime) → IsInventory new → 0 < length new.objects → (downtime_carried old new.objects d).object < length new.objects
carried_known old new d sound some = by (moved old new.objects d.object) refl
  where
    by : (m : Option ℕ) → moved old new.objects d.object ≡ m → (downtime_on d m).object < length new.objects
    by None e = some
    by (Some m) e = moved_within old new d.object m sound e

has_some : {X : Type 0} (xs : List X) → xs ≢ [] → 0 < length xs
has_some [] h = absurd (h refl)
has_some (x ∷ xs) h = omega arith

places_known : (old : List ObjectSpec) (new : Configuration) (ds : List Downtime) → IsInventory new → (ds ≢ [] → new.objects ≢ []) → All (λ d. d.object < length new.objects) (map (downtime_carried old new.objects) ds)
places_known old new [] sound places = All-nil (λ d. d.object < length new.objects)
places_known old new (d ∷ ds) sound places =
    All-map (λ x. x.object < length new.objects) (downtime_carried old new.objects) (d ∷ ds) (λ i x within. carried_known old new _ sound (has_some new.objects (places (λ none. cc))))

-- ---- the world

pub a_carried_world_is_saved : ACarriedWorldIsSaved
unfolding carried
a_carried_world_is_saved old new w sound-old sound-new h places = record {
  world = record {
    clock = h.world.clock;
    states = carried_states w.clock (raised w) old new w.objects h.world.clock sound-old sound-new h.world.states h.said.objects;
    contacts = length-map new.contacts (contact_carried old.contacts w.contacts);
    owing = under_owing old new (objects_carried w.clock old.objects w.objects new.objects) w.owed;
    ends = under_numbers (GREATEST_NUMBER + raised w) old new (objects_carried w.clock old.objects w.objects new.objects) w.owed h.world.ends
        (carried_states w.clock (raised w) old new w.objects h.world.clock sound-old sound-new h.world.states h.said.objects).numbers;
    without = under_nobody old new (objects_carried w.clock old.objects w.objects new.objects) w.owed;
    comments = h.world.comments;
    noted = All-filter_map (λ c. c.object < length new.objects) (λ c. Unit {0}) (comment_carried old.objects new.objects)
        (λ c x _ e. comment_holds (λ c. c.object < length new.objects) old.objects new.objects c x (λ m f. moved_within old.objects new c.object m sound-new f) e) w.notes.comments (λ i c within. tt);
    downtimes = (let long = length-map w.downtimes (downtime_carried old.objects new.objects) in let few = h.world.downtimes in rw long few);
    known = places_known old.objects new w.downtimes sound-new places;
    notices = rw h.no_notices (All-nil (IsNoticeOf new));
    limit = h.world.limit;
    earlier = h.world.earlier;
  };
  notes = record { ascending = kept_ascend old.objects new.objects 0 w.notes.comments h.notes.ascending; given = kept_given old.objects new.objects w.notes.last_id w.notes.comments h.notes.given };
  records = carried_records old.objects new.objects 0 w.downtimes h.records;
  said = record {
    objects = λ k d within. (carried_at w.clock (raised w) old new w.objects h.world.clock sound-old sound-new h.world.states h.said.objects k _ (slice_get-get_or (map (object_carried w.clock old.objects w.objects) new.objects) k d within)).2.said;
    comments = All-filter_map IsSaidComment IsSaidComment (comment_carried old.objects new.objects)
        (λ c x said e. comment_holds IsSaidComment old.objects new.objects c x (λ m f. record { time = said.time; said = said.said }) e) w.notes.comments h.said.comments;
    downtimes = All-map IsSaidDowntime (downtime_carried old.objects new.objects) w.downtimes (All-weaker IsSaidDowntime (λ d. IsSaidDowntime (downtime_carried old.objects new.objects d)) (carried_said old.objects new.objects) w.downtimes h.said.downtimes);
  };
  no_rejections = h.no_rejections;
  no_notices = h.no_notices;
  room = h.room;
}
