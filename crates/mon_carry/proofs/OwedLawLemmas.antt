-- Who stays owed the end of a problem under a new inventory, who is presumed to be owed one, and when nobody is.
use Rattle.std.proofs.Common.{◌≡◌, ℕ, ◌<◌, Bool, true, false, not, ◌&&◌, ◌==◌, nat_lt, if◌then◌else◌, List, [], length, Option, Some, None, slice_get, refl, ap, sym, ◌∙◌, arith}
use Rattle.std.proofs.lemmas.Bool.{true≢false, and_parts, and_from, eq-eqb, ne_eqb, lt-ltb, ltb-true, ltb-false}
use Rattle.std.proofs.lemmas.Option.{slice_get_within}
use Rattle.mon_inventory.specs.declared.records.ObjectSpec.{ObjectSpec}
use Rattle.mon_inventory.specs.Configuration.{Configuration, recovers_the_told}
use Rattle.mon_inventory.specs.Facts.{IsInventory}
use Rattle.mon_notify.specs.Custom.{all_contacts}
use Rattle.mon_notify.specs.Ends.{hears, is_owed_with, owed_with, is_still_owed, still_owed}
use Rattle.mon_notify.specs.Escalations.{has_contact}
use Rattle.mon_engine.specs.declared.ends.Owed.{Owed}
use Rattle.mon_engine.specs.declared.object.Object.{Object}
use Rattle.mon_engine.specs.Ends.{owed_of, owed_at}
use Rattle.mon_engine.specs.Objects.{initial_object}
use Rattle.mon_engine.specs.Owed.{nobody, initial_owed, presumed_of}
use Rattle.mon_engine.specs.World.{World}
use Rattle.mon_carry.specs.Names.{IsSameObject, place_of, contact_moved}
use Rattle.mon_carry.specs.Carried.{item_at, objects_carried, contacts_moved, owed_or_nobody, owed_under, carried}
use Rattle.mon_carry.specs.CarryLaws.{IsStillOwed, OwedStands, EndsKeepTheirNumbers, NewObjectsOweNobody, IsPresumedOwed, WhoIsPresumedWhereTheOptionComes, NumbersWhereTheOptionComes, NobodyIsOwedWithoutTheOption}
use Rattle.mon_carry.proofs.PlaceLemmas.{place_back, new_place, contact_moved_is, contact_moved_same}
use Rattle.mon_carry.proofs.OwedLemmas.{moved_from, from_moved, range_passes, passes_range, hears_within, under_gone, under_with, under_nobody, stays_at, comes_at}
use Rattle.mon_carry.proofs.LawLemmas.{mapped_at, new_objects_begin}

-- ---- an object in both inventories

-- who is owed its end, by who was
stays_now : (old new : Configuration) (w : World) (j k : ℕ) → IsInventory old → recovers_the_told old ≡ true → recovers_the_told new ≡ true → IsSameObject old.objects new.objects j k → owed_at (carried old w new) k ≡ owed_or_nobody old new k (slice_get w.owed j)
unfolding carried
stays_now old new w j k sound was is same =
    ap (λ (xs : List Owed). owed_of (slice_get xs k)) (under_with old new (objects_carried w.clock old.objects w.objects new.objects) w.owed true was is)
    ∙ ap owed_of (stays_at old new w.owed k (slice_get_within new.objects k same.is_now same.stands))
    ∙ ap (λ (s : Option ObjectSpec). owed_or_nobody old new k (item_at w.owed (place_of old.objects s))) same.stands
    ∙ ap (λ (p : Option ℕ). owed_or_nobody old new k (item_at w.owed p)) (place_back old new.objects j k sound same)

-- a contact of one list
still_from : (old new : Configuration) (w : World) (j k contact : ℕ) → IsInventory new → has_contact contact (owed_or_nobody old new k (slice_get w.owed j)).contacts ≡ true → IsStillOwed old new w j k contact
unfolding still_owed contacts_moved
still_from old new w j k contact sound h = by (slice_get w.owed j) refl h
  where
    by : (x : Option Owed) → slice_get w.owed j ≡ x → has_contact contact (owed_or_nobody old new k x).contacts ≡ true → IsStillOwed old new w j k contact
    by None e h = absurd (true≢false (sym h))
    by (Some x) e h =
        let moved = contacts_moved old.contacts new.contacts x.contacts in
        let parts = and_parts (has_contact contact moved) (hears new k contact && has_contact contact (all_contacts new k)) (range_passes (is_still_owed new k moved) (length new.contacts) contact h) in
        let both = and_parts (hears new k contact) (has_contact contact (all_contacts new k)) parts.1 in
        let f = moved_from (contact_moved old.contacts new.contacts) x.contacts contact parts.0 in
        record {
          was = f.was;
          same = contact_moved_same old.contacts new.contacts f.was contact f.is;
          owed = ap (λ (y : Option Owed). has_contact f.was (owed_of y).contacts) e ∙ f.there;
          hears = both.0;
          is_of = both.1;
        }

still_to : (old new : Configuration) (w : World) (j k contact : ℕ) → IsInventory new → IsStillOwed old new w j k contact → has_contact contact (owed_or_nobody old new k (slice_get w.owed j)).contacts ≡ true
unfolding still_owed contacts_moved
still_to old new w j k contact sound still = by (slice_get w.owed j) still.owed
  where
    by : (x : Option Owed) → has_contact still.was (owed_of x).contacts ≡ true → has_contact contact (owed_or_nobody old new k x).contacts ≡ true
    by None there = absurd (true≢false (sym there))
    by (Some x) there =
        let moved = contacts_moved old.contacts new.contacts x.contacts in
        let low = slice_get_within new.contacts contact still.same.is_now still.same.stands in
        let in_it : has_contact contact moved ≡ true = from_moved (contact_moved old.contacts new.contacts) x.contacts still.was contact there (contact_moved_is old.contacts new still.was contact sound still.same) in
        passes_range (is_still_owed new k moved) (length new.contacts) contact low
        (and_from (has_contact contact moved) (hears new k contact && has_contact contact (all_contacts new k)) in_it
        (and_from (hears new k contact) (has_contact contact (all_contacts new k)) still.hears still.is_of))

pub owed_stands : OwedStands
owed_stands old new w j k contact sound-old sound-new was is same =
    let now : owed_at (carried old w new) k ≡ owed_or_nobody old new k (slice_get w.owed j) = stays_now old new w j k sound-old was is same in (
      λ h. still_from old new w j k contact sound-new (ap (λ (x : Owed). has_contact contact x.contacts) (sym now) ∙ h),
      λ still. ap (λ (x : Owed). has_contact contact x.contacts) now ∙ still_to old new w j k contact sound-new still,
    )

pub ends_keep_their_numbers : EndsKeepTheirNumbers
ends_keep_their_numbers old new w j k sound was is same = ap (λ (x : Owed). x.number) (stays_now old new w j k sound was is same) ∙ by (slice_get w.owed j)
  where
    by : (x : Option Owed) → (owed_or_nobody old new k x).number ≡ (owed_of x).number
    by None = refl
    by (Some x) = refl

-- ---- where the option comes

comes_now : (old new : Configuration) (w : World) (k : ℕ) (spec : ObjectSpec) (o : Object) → recovers_the_told old ≡ false → recovers_the_told new ≡ true → slice_get new.objects k ≡ Some spec → slice_get (carried old w new).objects k ≡ Some o
    → slice_get (carried old w new).owed k ≡ Some (presumed_of new k (Some spec) (Some o))
unfolding carried
comes_now old new w k spec o was is stands there =
    ap (λ (xs : List Owed). slice_get xs k) (under_with old new (objects_carried w.clock old.objects w.objects new.objects) w.owed false was is)
    ∙ comes_at new (objects_carried w.clock old.objects w.objects new.objects) k is (slice_get_within new.objects k spec stands)
    ∙ ap (λ (s : Option ObjectSpec). Some (presumed_of new k s (slice_get (objects_carried w.clock old.objects w.objects new.objects) k))) stands
    ∙ ap (λ (x : Option Object). Some (presumed_of new k (Some spec) x)) there

presumed_from : (new : Configuration) (k contact : ℕ) (spec : ObjectSpec) (o : Object) → has_contact contact (presumed_of new k (Some spec) (Some o)).contacts ≡ true → IsPresumedOwed new k contact spec o
unfolding owed_with
presumed_from new k contact spec o h = by (not (o.status.code == 0) && nat_lt 0 o.number) refl h
  where
    by : (b : Bool) → (not (o.status.code == 0) && nat_lt 0 o.number) ≡ b → has_contact contact (if b then record { contacts = owed_with new k [] spec.contacts; number = o.number } else nobody).contacts ≡ true → IsPresumedOwed new k contact spec o
    by false e h = absurd (true≢false (sym h))
    by true e h =
        let tests = and_parts (not (o.status.code == 0)) (nat_lt 0 o.number) e in
        let both = and_parts (has_contact contact spec.contacts) (hears new k contact) (range_passes (is_owed_with new k [] spec.contacts) (length new.contacts) contact h) in
        record {
          stands = λ good. true≢false (sym tests.0 ∙ ap not (eq-eqb o.status.code 0 good));
          notified = ltb-true 0 o.number tests.1;
          own = both.0;
          hears = both.1;
        }

presumed_to : (new : Configuration) (k contact : ℕ) (spec : ObjectSpec) (o : Object) → IsPresumedOwed new k contact spec o → has_contact contact (presumed_of new k (Some spec) (Some o)).contacts ≡ true
unfolding owed_with
presumed_to new k contact spec o h =
    ap (λ (b : Bool). has_contact contact (if b then record { contacts = owed_with new k [] spec.contacts; number = o.number } else nobody).contacts)
    (and_from (not (o.status.code == 0)) (nat_lt 0 o.number) (ap not (ne_eqb o.status.code 0 h.stands)) (lt-ltb 0 o.number h.notified))
    ∙ passes_range (is_owed_with new k [] spec.contacts) (length new.contacts) contact (hears_within new k contact h.hears) (and_from (has_contact contact spec.contacts) (hears new k contact) h.own h.hears)

pub who_is_presumed : WhoIsPresumedWhereTheOptionComes
who_is_presumed old new w k contact spec o was is stands there =
    let now : slice_get (carried old w new).owed k ≡ Some (presumed_of new k (Some spec) (Some o)) = comes_now old new w k spec o was is stands there in (
      λ h. presumed_from new k contact spec o (ap (λ (x : Option Owed). has_contact contact (owed_of x).contacts) (sym now) ∙ h),
      λ h. ap (λ (x : Option Owed). has_contact contact (owed_of x).contacts) now ∙ presumed_to new k contact spec o h,
    )

pub numbers_where_it_comes : NumbersWhereTheOptionComes
numbers_where_it_comes old new w k spec o was is stands there =
    ap (λ (x : Option Owed). (owed_of x).number) (comes_now old new w k spec o was is stands there) ∙ by (o.status.code == 0) o.number
  where
    by : (good : Bool) (n : ℕ) → (if not good && nat_lt 0 n then record { contacts = owed_with new k [] spec.contacts; number = n } else nobody).number ≡ (if good then 0 else n)
    by true n = refl
    by false n = by_test (nat_lt 0 n) refl
      where
        by_test : (some : Bool) → nat_lt 0 n ≡ some → (if some then record { contacts = owed_with new k [] spec.contacts; number = n } else nobody).number ≡ n
        by_test true e = refl
        by_test false e = (let least = ltb-false 0 n e in omega arith)

-- ---- a new object

pub new_objects_owe_nobody : NewObjectsOweNobody
unfolding carried
new_objects_owe_nobody old new w k spec sound is = by (recovers_the_told new) (recovers_the_told old) refl refl
  where
    os : List Object
    os = objects_carried w.clock old.objects w.objects new.objects

    low : k < length new.objects
    low = slice_get_within new.objects k spec is.stands

    by : (now was : Bool) → recovers_the_told new ≡ now → recovers_the_told old ≡ was → slice_get (owed_under old new os w.owed) k ≡ Some nobody
    by false was e f = ap (λ (xs : List Owed). slice_get xs k) (under_gone old new os w.owed e) ∙ mapped_at initial_owed new.objects k spec is.stands
    by true false e f = comes_now old new w k spec (initial_object spec) f e is.stands (new_objects_begin old new w k spec sound is)
    by true true e f =
        ap (λ (xs : List Owed). slice_get xs k) (under_with old new os w.owed true f e) ∙ stays_at old new w.owed k low
        ∙ ap (λ (s : Option ObjectSpec). Some (owed_or_nobody old new k (item_at w.owed (place_of old.objects s)))) is.stands
        ∙ ap (λ (p : Option ℕ). Some (owed_or_nobody old new k (item_at w.owed p))) (new_place old new.objects k spec sound is)

-- ---- without the option

pub nobody_is_owed_without_it : NobodyIsOwedWithoutTheOption
unfolding carried
nobody_is_owed_without_it old new w e = under_nobody old new (objects_carried w.clock old.objects w.objects new.objects) w.owed e
