-- The objects of the new inventory while those of the old one are placed.
use Rattle.std.proofs.Common.{◌≡◌, ◌≢◌, ℕ, ◌+◌, ◌≤◌, List, [], ◌∷◌, ◌++◌, Option, Some, None, length, map, filter_map, set, slice_get, nat_lt, if◌then◌else◌, inl, inr, refl, ap, sym, ◌∙◌, arith}
use Rattle.std.proofs.lemmas.Bool.{lt-ltb, le-ltb, cases_lt}
use Rattle.std.proofs.lemmas.Option.{same_Some, slice_get_within}
use Rattle.mon_inventory.specs.declared.records.ObjectSpec.{ObjectSpec}
use Rattle.mon_inventory.specs.Configuration.{Configuration}
use Rattle.mon_inventory.specs.Facts.{IsInventory}
use Rattle.mon_notes.specs.declared.comment.Comment.{Comment}
use Rattle.mon_downtime.specs.declared.downtime.Downtime.{Downtime}
use Rattle.mon_notify.specs.declared.contacts.ContactSwitch.{ContactSwitch}
use Rattle.mon_engine.specs.declared.ends.Owed.{Owed}
use Rattle.mon_engine.specs.declared.object.Object.{Object}
use Rattle.mon_engine.specs.Objects.{initial_object}
use Rattle.mon_engine.specs.World.{World}
use Rattle.mon_carry.specs.Names.{place_in}
use Rattle.mon_carry.specs.Carried.{item_at, object_within, known_or_first, object_carried, objects_carried, contact_carried, owed_under, comment_carried, downtime_carried, carried}
use Rattle.mon_carry.specs.Placing.{with_known_of, with_known}
use Rattle.mon_carry.proofs.ListLemmas.{map_agrees, map_set}
use Rattle.mon_carry.proofs.NameLemmas.{place_found, place_is}
use Rattle.mon_carry.proofs.PlaceLemmas.{place_same}

-- ---- the objects

abbrev pub if_before : (count : ℕ) → Option ℕ → Option ℕ
if_before count None = None
if_before count (Some j) = if nat_lt j count then Some j else None

-- an object of the new inventory once the first objects of the old one are placed
unfoldable pub object_so_far : (clock : ℕ) → (old : List ObjectSpec) → List Object → (count : ℕ) → ObjectSpec → Object
object_so_far clock old os count spec = known_or_first clock spec (item_at os (if_before count (place_in old spec)))

-- before the first object is placed
pub none_placed : (clock : ℕ) (old : List ObjectSpec) (os : List Object) (new : List ObjectSpec) → map initial_object new ≡ map (object_so_far clock old os 0) new
unfolding object_so_far
none_placed clock old os new = map_agrees initial_object (object_so_far clock old os 0) new (λ k spec e. by spec (place_in old spec))
  where
    by : (spec : ObjectSpec) (p : Option ℕ) → initial_object spec ≡ known_or_first clock spec (item_at os (if_before 0 p))
    by spec None = refl
    by spec (Some j) = rw (le-ltb j 0 (omega arith)) refl

-- once all objects are placed
pub all_placed : (clock : ℕ) (old : Configuration) (os : List Object) (count : ℕ) (new : List ObjectSpec) → IsInventory old → length os ≡ length old.objects → length os ≤ count → map (object_so_far clock old.objects os count) new ≡ map (object_carried clock old.objects os) new
unfolding object_so_far object_carried
all_placed clock old os count new sound many all = map_agrees (object_so_far clock old.objects os count) (object_carried clock old.objects os) new (λ k spec e. by spec (place_in old.objects spec) refl)
  where
    by : (spec : ObjectSpec) (p : Option ℕ) → place_in old.objects spec ≡ p → known_or_first clock spec (item_at os (if_before count p)) ≡ known_or_first clock spec (item_at os p)
    by spec None e = refl
    by spec (Some j) e =
        let there = place_found old spec j sound e in
        let within = slice_get_within old.objects j there.item there.is in
        rw (lt-ltb j count (omega arith)) refl

-- where one more object is placed, or is not in the new inventory, no other object changes
so_far_other : (clock : ℕ) (old : List ObjectSpec) (os : List Object) (index : ℕ) (spec : ObjectSpec) → place_in old spec ≢ Some index → object_so_far clock old os (index + 1) spec ≡ object_so_far clock old os index spec
unfolding object_so_far
so_far_other clock old os index spec apart = by (place_in old spec) refl
  where
    by : (p : Option ℕ) → place_in old spec ≡ p → known_or_first clock spec (item_at os (if_before (index + 1) p)) ≡ known_or_first clock spec (item_at os (if_before index p))
    by None e = refl
    by (Some j) e = elim (cases_lt j index) [
      | inl below ↦ rw (lt-ltb j index below, lt-ltb j (index + 1) (omega arith)) refl
      | inr above ↦ (let ne : j ≢ index = λ same. apart (e ∙ ap Some same) in rw (le-ltb j index above, le-ltb j (index + 1) (omega arith)) refl)
    ]

so_far_here : (clock : ℕ) (old : List ObjectSpec) (os : List Object) (index : ℕ) (spec : ObjectSpec) (o : Object) → place_in old spec ≡ Some index → slice_get os index ≡ Some o → object_so_far clock old os (index + 1) spec ≡ object_within clock spec.max o
unfolding object_so_far
so_far_here clock old os index spec o place e = rw (place, lt-ltb index (index + 1) (omega arith), e) refl

one_gone : (clock : ℕ) (old new : Configuration) (os : List Object) (index : ℕ) (was : ObjectSpec) → IsInventory old → IsInventory new → slice_get old.objects index ≡ Some was → place_in new.objects was ≡ None
    → map (object_so_far clock old.objects os (index + 1)) new.objects ≡ map (object_so_far clock old.objects os index) new.objects
one_gone clock old new os index was sound-old sound-new stood gone = map_agrees (object_so_far clock old.objects os (index + 1)) (object_so_far clock old.objects os index) new.objects each
  where
    each : (k : ℕ) (spec : ObjectSpec) → slice_get new.objects k ≡ Some spec → object_so_far clock old.objects os (index + 1) spec ≡ object_so_far clock old.objects os index spec
    each k spec e = so_far_other clock old.objects os index spec (λ place. (let same = place_same old new.objects index k spec sound-old e place in
        let one = same_Some was same.was (sym stood ∙ same.stood) in
        let found = place_is new was same.is_now k sound-new same.stands (rw one same.names) in
        cc))

one_placed : (clock : ℕ) (old new : Configuration) (os : List Object) (index place : ℕ) (was spec : ObjectSpec) (o : Object) → IsInventory old → IsInventory new → slice_get old.objects index ≡ Some was → place_in new.objects was ≡ Some place
    → slice_get new.objects place ≡ Some spec → slice_get os index ≡ Some o
    → map (object_so_far clock old.objects os (index + 1)) new.objects ≡ set (map (object_so_far clock old.objects os index) new.objects) place (object_within clock spec.max o)
one_placed clock old new os index place was spec o sound-old sound-new stood found stands e =
    map_set (object_so_far clock old.objects os index) (object_so_far clock old.objects os (index + 1)) new.objects place (object_within clock spec.max o) others here
  where
    others : (k : ℕ) (other : ObjectSpec) → slice_get new.objects k ≡ Some other → k ≢ place → object_so_far clock old.objects os (index + 1) other ≡ object_so_far clock old.objects os index other
    others k other is apart = so_far_other clock old.objects os index other (λ at. (let same = place_same old new.objects index k other sound-old is at in
        let one = same_Some was same.was (sym stood ∙ same.stood) in
        let again = place_is new was same.is_now k sound-new same.stands (rw one same.names) in
        apart (same_Some k place (sym again ∙ found))))

    here : (s : ObjectSpec) → slice_get new.objects place ≡ Some s → object_so_far clock old.objects os (index + 1) s ≡ object_within clock spec.max o
    here s is =
        let one = same_Some spec s (sym stands ∙ is) in
        let there = place_found new was place sound-new found in
        let item = same_Some there.item spec (sym there.is ∙ stands) in
        let back = place_is old spec was index sound-old stood (rw (← item) (record { host = sym there.names.host; service = sym there.names.service })) in
        rw (← one) (so_far_here clock old.objects os index spec o back e)

-- one more object is placed
pub placed_more : (clock : ℕ) (old new : Configuration) (os : List Object) (index : ℕ) (was : ObjectSpec) (known : Object) → IsInventory old → IsInventory new → slice_get old.objects index ≡ Some was → slice_get os index ≡ Some known
    → with_known clock new.objects known (map (object_so_far clock old.objects os index) new.objects) (place_in new.objects was) ≡ map (object_so_far clock old.objects os (index + 1)) new.objects
placed_more clock old new os index was known sound-old sound-new stood e = by (place_in new.objects was) refl
  where
    by : (p : Option ℕ) → place_in new.objects was ≡ p → with_known clock new.objects known (map (object_so_far clock old.objects os index) new.objects) p ≡ map (object_so_far clock old.objects os (index + 1)) new.objects
    by None gone = sym (one_gone clock old new os index was sound-old sound-new stood gone)
    by (Some place) found =
        let there = place_found new was place sound-new found in
        ap (with_known_of clock known (map (object_so_far clock old.objects os index) new.objects) place) there.is
        ∙ sym (one_placed clock old new os index place was there.item known sound-old sound-new stood found there.is e)

seam : {X : Type 0} (front : List X) (x : X) (rest : List X) → slice_get (front ++ x ∷ rest) (length front) ≡ Some x
seam [] x rest = refl
seam (y ∷ front) x rest = seam front x rest

-- the next object after those that are placed
pub next_known : {X : Type 0} (front : List X) (x : X) (rest all : List X) (i : ℕ) → front ++ x ∷ rest ≡ all → i ≡ length front → slice_get all i ≡ Some x
next_known front x rest all i whole at = rw (← whole, at) (seam front x rest)

-- ---- the world

pub world_is : (old new : Configuration) (w : World) (os : List Object) (switches : List ContactSwitch) (owed : List Owed) (cs : List Comment) (ds : List Downtime) → os ≡ objects_carried w.clock old.objects w.objects new.objects → switches ≡ map (contact_carried old.contacts w.contacts) new.contacts
    → owed ≡ owed_under old new os w.owed → cs ≡ filter_map (comment_carried old.objects new.objects) w.notes.comments → ds ≡ map (downtime_carried old.objects new.objects) w.downtimes
    → record w { notes = record { comments = cs; last_id = w.notes.last_id }; downtimes = ds; objects = os; contacts = switches; owed = owed } ≡ carried old w new
unfolding carried
world_is old new w os switches owed cs ds o s x c d = rw (x, o, s, c, d) refl
