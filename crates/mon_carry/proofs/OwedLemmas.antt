-- Who is owed the ends of problems under a new inventory.
use Rattle.std.proofs.Common.{◌≡◌, ℕ, ◌<◌, ◌≤◌, Bool, true, false, not, ◌&&◌, ◌==◌, nat_lt, if◌then◌else◌, List, [], ◌∷◌, length, map, filter, filter_map, Option, Some, None, slice_get, All, inl, inr, refl, ap, sym, ◌∙◌, subst, arith}
use Rattle.std.specs.List.{cons_option, range_with_len}
use Rattle.std.proofs.lemmas.Bool.{true≢false, and_parts, and_from, or_cases, or_left, or_right, eq-eqb, eqb-true}
use Rattle.std.proofs.lemmas.List.{length-map}
use Rattle.std.proofs.lemmas.List.Elements.{All-nil, All-map, All-filter, All-get_or}
use Rattle.std.proofs.lemmas.List.Folds.{list_any_at}
use Rattle.std.proofs.lemmas.List.FromFn.{get_or-range_with_len, length-range_with_len, length-map-range_with_len, get_or-map-range_with_len}
use Rattle.std.proofs.lemmas.Map.Views.{any-filter_same}
use Rattle.std.proofs.lemmas.Option.{same_Some, slice_get_within, slice_get_cases, slice_get-get_or, get_or_from_slice_get}
use Rattle.mon_inventory.specs.declared.records.ObjectSpec.{ObjectSpec}
use Rattle.mon_inventory.specs.Configuration.{Configuration, recovers_the_told}
use Rattle.mon_inventory.specs.Facts.{IsInventory}
use Rattle.mon_notify.specs.Ends.{hears, hears_of, is_owed_with, owed_with, is_still_owed, still_owed}
use Rattle.mon_notify.specs.Escalations.{has_contact}
use Rattle.mon_engine.specs.declared.ends.Owed.{Owed}
use Rattle.mon_engine.specs.declared.object.Object.{Object}
use Rattle.mon_engine.specs.Owed.{nobody, initial_owed, presumed, presumed_at, presumed_of}
use Rattle.mon_engine.specs.Sound.{IsOwing}
use Rattle.mon_carry.specs.Names.{place_of, moved, contact_moved}
use Rattle.mon_carry.specs.Carried.{item_at, contacts_moved, owed_or_nobody, owed_carried_at, owed_carried, owed_under}
use Rattle.mon_carry.specs.CarryLaws.{AreStillOwed}
use Rattle.mon_carry.proofs.ListLemmas.{same_places, filter_map_all}
use Rattle.mon_carry.proofs.PlaceLemmas.{stays, contact_stays}

-- ---- lists by index

pub at_index : {X : Type 0} (f : ℕ → X) (n k : ℕ) → k < n → slice_get (map f (range_with_len 0 n)) k ≡ Some (f k)
at_index f n k low =
    slice_get-get_or (map f (range_with_len 0 n)) k (f k) (omega (arith, length-map-range_with_len f 0 n))
    ∙ ap Some (get_or-map-range_with_len f 0 n k k (f k) low (omega arith))

-- what holds of all items holds of the one at an index
pub All-at : {X : Type 0} (P : X → Type 0) (xs : List X) (k : ℕ) (x : X) → All P xs → slice_get xs k ≡ Some x → P x
All-at P xs k x all e = subst P (get_or_from_slice_get xs k x x e) (All-get_or P xs k x (slice_get_within xs k x e) all)

-- ---- lists of contacts

-- where only those that pass the test are kept
pub kept : (p : ℕ → Bool) (c : ℕ) (xs : List ℕ) → has_contact c (filter p xs) ≡ (p c && has_contact c xs)
kept p c xs = any-filter_same (λ x. x == c) p (p c) (λ x here. ap p (eqb-true x c here)) xs

pub in_range : (n c : ℕ) → c < n → has_contact c (range_with_len 0 n) ≡ true
in_range n c low =
    let there = get_or-range_with_len 0 n c c low in
    list_any_at (λ x. x == c) (range_with_len 0 n) c c (omega (arith, length-range_with_len 0 n)) (eq-eqb _ c (omega arith))

-- a filter of the inventory's contacts has only such
pub all_within : (p : ℕ → Bool) (n : ℕ) → All (λ x. x < n) (filter p (range_with_len 0 n))
all_within p n = All-filter p (λ x. x < n) (range_with_len 0 n) within
  where
    within : All (λ x. x < n) (range_with_len 0 n)
    within k d low =
        let here : k < n = omega (arith, length-range_with_len 0 n) in
        rw (get_or-range_with_len 0 n k d here) (omega arith)

-- the contact of this old index is among these, and has the new index c
pub record IsFrom (h : ℕ → Option ℕ) (xs : List ℕ) (c : ℕ) : Type 0 where
  pub was : ℕ
  pub there : has_contact was xs ≡ true
  pub is : h was ≡ Some c

pub moved_from : (h : ℕ → Option ℕ) (xs : List ℕ) (c : ℕ) → has_contact c (filter_map h xs) ≡ true → IsFrom h xs c
moved_from h [] c has = absurd (true≢false (sym has))
moved_from h (x ∷ xs) c has = by (λ rest. moved_from h xs c rest) (h x) refl has
  where
    later : IsFrom h xs c → IsFrom h (x ∷ xs) c
    later f = record { was = f.was; there = or_right (x == f.was) (has_contact f.was xs) f.there; is = f.is }

    by : (has_contact c (filter_map h xs) ≡ true → IsFrom h xs c) → (m : Option ℕ) → h x ≡ m → has_contact c (cons_option m (filter_map h xs)) ≡ true → IsFrom h (x ∷ xs) c
    by rest None e has = later (rest has)
    by rest (Some m) e has = elim (or_cases (m == c) (has_contact c (filter_map h xs)) has) [
      | inl here ↦ record { was = x; there = or_left (x == x) (has_contact x xs) (eq-eqb x x refl); is = e ∙ ap Some (eqb-true m c here) }
      | inr there ↦ later (rest there)
    ]

pub from_moved : (h : ℕ → Option ℕ) (xs : List ℕ) (was c : ℕ) → has_contact was xs ≡ true → h was ≡ Some c → has_contact c (filter_map h xs) ≡ true
from_moved h [] was c there is = absurd (true≢false (sym there))
from_moved h (x ∷ xs) was c there is = elim (or_cases (x == was) (has_contact was xs) there) [
  | inl here ↦
      (let first : h x ≡ Some c = ap h (eqb-true x was here) ∙ is in
      ap (λ (m : Option ℕ). has_contact c (cons_option m (filter_map h xs))) first ∙ or_left (c == c) (has_contact c (filter_map h xs)) (eq-eqb c c refl))
  | inr later ↦ by (from_moved h xs was c later is) (h x)
]
  where
    by : has_contact c (filter_map h xs) ≡ true → (m : Option ℕ) → has_contact c (cons_option m (filter_map h xs)) ≡ true
    by rest None = rest
    by rest (Some m) = or_right (m == c) (has_contact c (filter_map h xs)) rest

-- exactly those contacts of the inventory are kept that pass the test
pub range_passes : (p : ℕ → Bool) (n c : ℕ) → has_contact c (filter p (range_with_len 0 n)) ≡ true → p c ≡ true
range_passes p n c h = (and_parts (p c) (has_contact c (range_with_len 0 n)) (sym (kept p c (range_with_len 0 n)) ∙ h)).0

pub passes_range : (p : ℕ → Bool) (n c : ℕ) → c < n → p c ≡ true → has_contact c (filter p (range_with_len 0 n)) ≡ true
passes_range p n c low is = kept p c (range_with_len 0 n) ∙ and_from (p c) (has_contact c (range_with_len 0 n)) is (in_range n c low)

no_more : (xs : List ℕ) → [] ≡ filter (λ c. false) xs
no_more [] = refl
no_more (x ∷ xs) = no_more xs

-- where nobody was owed the end, nobody is
pub none_still : (old new : Configuration) (k : ℕ) (xs : List ℕ) → xs ≡ [] → [] ≡ still_owed new k (contacts_moved old.contacts new.contacts xs)
unfolding still_owed contacts_moved
none_still old new k xs e = rw e (no_more (range_with_len 0 (length new.contacts)))

-- who hears of ends is in the inventory
pub hears_within : (inv : Configuration) (k c : ℕ) → hears inv k c ≡ true → c < length inv.contacts
hears_within inv k c h = elim (slice_get_cases inv.contacts c).1 [
  | inl there ↦ there.1
  | inr past ↦ absurd (none (slice_get inv.objects k) (sym (ap (hears_of (slice_get inv.objects k)) past.1) ∙ h))
]
  where
    none : (s : Option ObjectSpec) → hears_of s None ≡ true → ⊥
    none None e = true≢false (sym e)
    none (Some spec) e = true≢false (sym e)

-- ---- the whole list

-- without the option nobody is owed an end
pub under_gone : (old new : Configuration) (os : List Object) (owed : List Owed) → recovers_the_told new ≡ false → owed_under old new os owed ≡ map initial_owed new.objects
under_gone old new os owed e =
    ap (λ (b : Bool). if b then (if recovers_the_told old then owed_carried old new owed else presumed new os) else map initial_owed new.objects) e

-- with the option it depends on the old inventory
pub under_with : (old new : Configuration) (os : List Object) (owed : List Owed) (was : Bool) → recovers_the_told old ≡ was → recovers_the_told new ≡ true → owed_under old new os owed ≡ (if was then owed_carried old new owed else presumed new os)
under_with old new os owed was before is =
    ap (λ (b : Bool). if b then (if recovers_the_told old then owed_carried old new owed else presumed new os) else map initial_owed new.objects) is
    ∙ ap (λ (b : Bool). if b then owed_carried old new owed else presumed new os) before

pub presumed_gone : (new : Configuration) (os : List Object) → recovers_the_told new ≡ false → presumed new os ≡ map initial_owed new.objects
unfolding presumed
presumed_gone new os e = ap (λ (b : Bool). if b then map (presumed_at new os) (range_with_len 0 (length new.objects)) else map initial_owed new.objects) e

pub presumed_is : (new : Configuration) (os : List Object) → recovers_the_told new ≡ true → presumed new os ≡ map (presumed_at new os) (range_with_len 0 (length new.objects))
unfolding presumed
presumed_is new os e = ap (λ (b : Bool). if b then map (presumed_at new os) (range_with_len 0 (length new.objects)) else map initial_owed new.objects) e

-- the code's list where one of the inventories has no option
pub presumed_under : (old new : Configuration) (os : List Object) (owed : List Owed) (b : Bool) → recovers_the_told old ≡ b → (b ≡ true → recovers_the_told new ≡ false) → presumed new os ≡ owed_under old new os owed
presumed_under old new os owed true was gone = presumed_gone new os (gone refl) ∙ sym (under_gone old new os owed (gone refl))
presumed_under old new os owed false was gone = by (recovers_the_told new) refl
  where
    by : (b : Bool) → recovers_the_told new ≡ b → presumed new os ≡ owed_under old new os owed
    by true is = sym (under_with old new os owed false was is)
    by false is = presumed_gone new os is ∙ sym (under_gone old new os owed is)

-- who is owed the end of one object
pub stays_at : (old new : Configuration) (owed : List Owed) (k : ℕ) → k < length new.objects → slice_get (owed_carried old new owed) k ≡ Some (owed_carried_at old new owed k)
unfolding owed_carried
stays_at old new owed k low = at_index (owed_carried_at old new owed) (length new.objects) k low

pub comes_at : (new : Configuration) (os : List Object) (k : ℕ) → recovers_the_told new ≡ true → k < length new.objects → slice_get (presumed new os) k ≡ Some (presumed_at new os k)
comes_at new os k is low = ap (λ (xs : List Owed). slice_get xs k) (presumed_is new os is) ∙ at_index (presumed_at new os) (length new.objects) k low

-- what holds of nobody, of who still is owed an end and of who is presumed to be, holds of all
under_all : (P : Owed → Type 0) (old new : Configuration) (os : List Object) (owed : List Owed) → P nobody → ((k : ℕ) → P (owed_carried_at old new owed k)) → ((k : ℕ) → P (presumed_at new os k)) → All P (owed_under old new os owed)
unfolding owed_carried
under_all P old new os owed none stays comes = by (recovers_the_told new) (recovers_the_told old) refl refl
  where
    by : (is was : Bool) → recovers_the_told new ≡ is → recovers_the_told old ≡ was → All P (owed_under old new os owed)
    by false was e f = subst (All P) (sym (under_gone old new os owed e)) (All-map P initial_owed new.objects (λ i d low. none))
    by true false e f = subst (All P) (sym (under_with old new os owed false f e ∙ presumed_is new os e)) (All-map P (presumed_at new os) (range_with_len 0 (length new.objects)) (λ i d low. comes _))
    by true true e f = subst (All P) (sym (under_with old new os owed true f e)) (All-map P (owed_carried_at old new owed) (range_with_len 0 (length new.objects)) (λ i d low. stays _))

-- ---- a world that can be saved

under_many : (old new : Configuration) (os : List Object) (owed : List Owed) → length (owed_under old new os owed) ≡ length new.objects
unfolding owed_carried
under_many old new os owed = by (recovers_the_told new) (recovers_the_told old) refl refl
  where
    by : (is was : Bool) → recovers_the_told new ≡ is → recovers_the_told old ≡ was → length (owed_under old new os owed) ≡ length new.objects
    by false was e f = ap length (under_gone old new os owed e) ∙ length-map new.objects initial_owed
    by true false e f = ap length (under_with old new os owed false f e ∙ presumed_is new os e) ∙ length-map-range_with_len (presumed_at new os) 0 (length new.objects)
    by true true e f = ap length (under_with old new os owed true f e) ∙ length-map-range_with_len (owed_carried_at old new owed) 0 (length new.objects)

-- all contacts are of the new inventory
abbrev AreWithin : Configuration → Owed → Type 0
AreWithin new x = All (λ c. c < length new.contacts) x.contacts

still_within : (old new : Configuration) (owed : List Owed) (k : ℕ) → AreWithin new (owed_carried_at old new owed k)
unfolding still_owed
still_within old new owed k = by (item_at owed (place_of old.objects (slice_get new.objects k)))
  where
    by : (x : Option Owed) → AreWithin new (owed_or_nobody old new k x)
    by None = All-nil (λ c. c < length new.contacts)
    by (Some x) = all_within (is_still_owed new k (contacts_moved old.contacts new.contacts x.contacts)) (length new.contacts)

presumed_within : (new : Configuration) (os : List Object) (k : ℕ) → AreWithin new (presumed_at new os k)
unfolding owed_with
presumed_within new os k = by (slice_get new.objects k) (slice_get os k)
  where
    by_test : (spec : ObjectSpec) (o : Object) (b : Bool) → AreWithin new (if b then record { contacts = owed_with new k [] spec.contacts; number = o.number } else nobody)
    by_test spec o true = all_within (is_owed_with new k [] spec.contacts) (length new.contacts)
    by_test spec o false = All-nil (λ c. c < length new.contacts)

    by : (s : Option ObjectSpec) (o : Option Object) → AreWithin new (presumed_of new k s o)
    by None o = All-nil (λ c. c < length new.contacts)
    by (Some spec) None = All-nil (λ c. c < length new.contacts)
    by (Some spec) (Some o) = by_test spec o (not (o.status.code == 0) && nat_lt 0 o.number)

pub under_owing : (old new : Configuration) (os : List Object) (owed : List Owed) → IsOwing new (owed_under old new os owed)
under_owing old new os owed = record {
  as_many = under_many old new os owed;
  within = under_all (AreWithin new) old new os owed (All-nil (λ c. c < length new.contacts)) (still_within old new owed) (presumed_within new os);
}

-- the numbers are in range where those of the old list and of the objects are
pub under_numbers : (most : ℕ) (old new : Configuration) (os : List Object) (owed : List Owed) → All (λ x. x.number ≤ most) owed → ((k : ℕ) (o : Object) → slice_get os k ≡ Some o → o.number ≤ most) → All (λ x. x.number ≤ most) (owed_under old new os owed)
under_numbers most old new os owed few of_objects = under_all (λ x. x.number ≤ most) old new os owed (omega arith) stays comes
  where
    stays : (k : ℕ) → (owed_carried_at old new owed k).number ≤ most
    stays k = by (place_of old.objects (slice_get new.objects k))
      where
        by : (p : Option ℕ) → (owed_or_nobody old new k (item_at owed p)).number ≤ most
        by None = omega arith
        by (Some j) = by_item (slice_get owed j) refl
          where
            by_item : (x : Option Owed) → slice_get owed j ≡ x → (owed_or_nobody old new k x).number ≤ most
            by_item None e = omega arith
            by_item (Some x) e = All-at (λ y. y.number ≤ most) owed j x few e

    comes : (k : ℕ) → (presumed_at new os k).number ≤ most
    comes k = by (slice_get new.objects k) (slice_get os k) refl
      where
        by_test : (spec : ObjectSpec) (o : Object) (b : Bool) → o.number ≤ most → (if b then record { contacts = owed_with new k [] spec.contacts; number = o.number } else nobody).number ≤ most
        by_test spec o true low = low
        by_test spec o false low = omega arith

        by : (s : Option ObjectSpec) (o : Option Object) → slice_get os k ≡ o → (presumed_of new k s o).number ≤ most
        by None o e = omega arith
        by (Some spec) None e = omega arith
        by (Some spec) (Some o) e = by_test spec o (not (o.status.code == 0) && nat_lt 0 o.number) (of_objects k o e)

pub under_nobody : (old new : Configuration) (os : List Object) (owed : List Owed) → recovers_the_told new ≡ false → All (λ x. x ≡ nobody) (owed_under old new os owed)
under_nobody old new os owed e = subst (All (λ x. x ≡ nobody)) (sym (under_gone old new os owed e)) (All-map (λ x. x ≡ nobody) initial_owed new.objects (λ i d low. refl))

-- ---- the same inventory

same_at : (inv : Configuration) (owed : List Owed) (k : ℕ) (y : Owed) → IsInventory inv → IsOwing inv owed → AreStillOwed inv owed → slice_get owed k ≡ Some y → owed_carried_at inv inv owed k ≡ y
unfolding contacts_moved moved
same_at inv owed k y sound of still e =
    ap (λ (p : Option ℕ). owed_or_nobody inv inv k (item_at owed p)) (stays inv k sound (let low = slice_get_within owed k y e in let many = of.as_many in omega arith))
    ∙ ap (owed_or_nobody inv inv k) e
    ∙ ap (λ (cs : List ℕ). record y { contacts = cs }) (
    ap (still_owed inv k) (filter_map_all (λ c. c < length inv.contacts) (contact_moved inv.contacts inv.contacts) (λ c within. contact_stays inv c sound within) y.contacts (All-at (AreWithin inv) owed k y of.within e))
    ∙ still k y e)

-- under the same inventory the list is the same, with the option where all in it still are owed the ends
pub same_owed : (inv : Configuration) (os : List Object) (owed : List Owed) → IsInventory inv → IsOwing inv owed → (recovers_the_told inv ≡ false → All (λ x. x ≡ nobody) owed) → (recovers_the_told inv ≡ true → AreStillOwed inv owed) → owed_under inv inv os owed ≡ owed
same_owed inv os owed sound of without still = by (recovers_the_told inv) refl
  where
    by : (b : Bool) → recovers_the_told inv ≡ b → owed_under inv inv os owed ≡ owed
    by true e = under_with inv inv os owed true e e ∙ same_places (owed_carried inv inv owed) owed (ap length (sym (under_with inv inv os owed true e e)) ∙ under_many inv inv os owed ∙ sym of.as_many) each
      where
        each : (k : ℕ) (x y : Owed) → slice_get (owed_carried inv inv owed) k ≡ Some x → slice_get owed k ≡ Some y → x ≡ y
        each k x y a b =
            let low : k < length inv.objects = (let there = slice_get_within owed k y b in let many = of.as_many in omega arith) in
            same_Some x (owed_carried_at inv inv owed k) (sym a ∙ stays_at inv inv owed k low) ∙ same_at inv owed k y sound of (still e) b
    by false e = under_gone inv inv os owed e ∙ same_places (map initial_owed inv.objects) owed (length-map inv.objects initial_owed ∙ sym of.as_many) each
      where
        each : (k : ℕ) (x y : Owed) → slice_get (map initial_owed inv.objects) k ≡ Some x → slice_get owed k ≡ Some y → x ≡ y
        each k x y a b = All-at (λ z. z ≡ nobody) (map initial_owed inv.objects) k x (All-map (λ z. z ≡ nobody) initial_owed inv.objects (λ i d low. refl)) a ∙ sym (All-at (λ z. z ≡ nobody) owed k y (without e) b)
