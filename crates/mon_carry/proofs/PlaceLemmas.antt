-- The indices of objects and contacts in the new inventory.
use Rattle.std.proofs.Common.{◌≡◌, ℕ, ◌<◌, List, Option, Some, None, length, slice_get, inl, inr, refl, ap, sym, ◌∙◌, arith}
use Rattle.std.proofs.lemmas.Option.{same_Some, slice_get_within, slice_get_cases}
use Rattle.mon_inventory.specs.declared.records.ContactSpec.{ContactSpec}
use Rattle.mon_inventory.specs.declared.records.ObjectSpec.{ObjectSpec}
use Rattle.mon_inventory.specs.Configuration.{Configuration}
use Rattle.mon_inventory.specs.Facts.{IsInventory}
use Rattle.mon_carry.specs.Names.{HaveSameNames, IsSameObject, IsNewObject, IsGoneObject, IsSameContact, place_in, place_of, moved, contact_place_of, contact_moved}
use Rattle.mon_carry.proofs.NameLemmas.{contact_is, contact_found, place_found, place_is}

pub turned : (a b : ObjectSpec) → HaveSameNames a b → HaveSameNames b a
turned a b h = record { host = sym h.host; service = sym h.service }

-- an object in both inventories is found in the new one and in the old one
pub moved_is : (old : List ObjectSpec) (new : Configuration) (j k : ℕ) → IsInventory new → IsSameObject old new.objects j k → moved old new.objects j ≡ Some k
unfolding moved
moved_is old new j k sound same = rw same.stood (place_is new same.was same.is_now k sound same.stands same.names)

pub place_back : (old : Configuration) (new : List ObjectSpec) (j k : ℕ) → IsInventory old → (same : IsSameObject old.objects new j k) → place_in old.objects same.is_now ≡ Some j
place_back old new j k sound same = place_is old same.is_now same.was j sound same.stood (turned same.was same.is_now same.names)

-- the object that is found is the same
pub moved_same : (old : List ObjectSpec) (new : Configuration) (j k : ℕ) → IsInventory new → moved old new.objects j ≡ Some k → IsSameObject old new.objects j k
unfolding moved
moved_same old new j k sound e = by (slice_get old j) refl e
  where
    by : (o : Option ObjectSpec) → slice_get old j ≡ o → place_of new.objects o ≡ Some k → IsSameObject old new.objects j k
    by None is e = absurd (cc)
    by (Some spec) is e = let f = place_found new spec k sound e in record { was = spec; is_now = f.item; stood = is; stands = f.is; names = f.names }

pub place_same : (old : Configuration) (new : List ObjectSpec) (j k : ℕ) (spec : ObjectSpec) → IsInventory old → slice_get new k ≡ Some spec → place_in old.objects spec ≡ Some j → IsSameObject old.objects new j k
place_same old new j k spec sound is e = let f = place_found old spec j sound e in record { was = f.item; is_now = spec; stood = f.is; stands = is; names = turned spec f.item f.names }

-- a gone object is not found in the new inventory, nor a new object in the old one
pub gone_moved : (old : List ObjectSpec) (new : Configuration) (j : ℕ) → IsInventory new → IsGoneObject old new.objects j → moved old new.objects j ≡ None
gone_moved old new j sound gone = by (moved old new.objects j) refl
  where
    by : (o : Option ℕ) → moved old new.objects j ≡ o → o ≡ None
    by None e = refl
    by (Some k) e = absurd (gone k (moved_same old new j k sound e))

pub new_place : (old : Configuration) (new : List ObjectSpec) (k : ℕ) (spec : ObjectSpec) → IsInventory old → IsNewObject old.objects new k spec → place_in old.objects spec ≡ None
new_place old new k spec sound is = by (place_in old.objects spec) refl
  where
    by : (o : Option ℕ) → place_in old.objects spec ≡ o → o ≡ None
    by None e = refl
    by (Some j) e = absurd (is.none j (place_same old new j k spec sound is.stands e))

-- two objects of the old inventory are never the same object of the new one
pub same_once : (old : Configuration) (new : List ObjectSpec) (i j k : ℕ) → IsInventory old → IsSameObject old.objects new i k → IsSameObject old.objects new j k → i ≡ j
same_once old new i j k sound a b =
    let one = same_Some a.is_now b.is_now (sym a.stands ∙ b.stands) in
    same_Some i j (sym (place_back old new i k sound a) ∙ ap (place_in old.objects) one ∙ place_back old new j k sound b)

-- an object is the same as itself
abbrev pub itself : (objects : List ObjectSpec) (k : ℕ) (spec : ObjectSpec) → slice_get objects k ≡ Some spec → IsSameObject objects objects k k
itself objects k spec e = record { was = spec; is_now = spec; stood = e; stands = e; names = record { host = refl; service = refl } }

pub moved_within : (old : List ObjectSpec) (new : Configuration) (j k : ℕ) → IsInventory new → moved old new.objects j ≡ Some k → k < length new.objects
moved_within old new j k sound e = let same = moved_same old new j k sound e in slice_get_within new.objects k same.is_now same.stands

-- under the same inventory an object keeps its index
pub stays : (inv : Configuration) (k : ℕ) → IsInventory inv → k < length inv.objects → moved inv.objects inv.objects k ≡ Some k
stays inv k sound within = elim (slice_get_cases inv.objects k).1 [
  | inl spec ↦ moved_is inv.objects inv k k sound (itself inv.objects k spec.0 spec.2)
  | inr past ↦ absurd (let far = past.0 in omega arith)
]

-- ---- contacts

-- a contact in both inventories is found in the new one
pub contact_moved_is : (old : List ContactSpec) (new : Configuration) (j k : ℕ) → IsInventory new → IsSameContact old new.contacts j k → contact_moved old new.contacts j ≡ Some k
unfolding contact_moved
contact_moved_is old new j k sound same = rw same.stood (contact_is new k same.is_now same.was.name sound same.stands (sym same.name))

-- the contact that is found is the same
pub contact_moved_same : (old new : List ContactSpec) (j k : ℕ) → contact_moved old new j ≡ Some k → IsSameContact old new j k
unfolding contact_moved
contact_moved_same old new j k e = by (slice_get old j) refl e
  where
    by : (c : Option ContactSpec) → slice_get old j ≡ c → contact_place_of new c ≡ Some k → IsSameContact old new j k
    by None is e = absurd (cc)
    by (Some was) is e = let f = contact_found new was.name k e in record { was = was; is_now = f.element; stood = is; stands = f.is; name = sym f.holds }

-- under the same inventory a contact keeps its index
pub contact_stays : (inv : Configuration) (k : ℕ) → IsInventory inv → k < length inv.contacts → contact_moved inv.contacts inv.contacts k ≡ Some k
contact_stays inv k sound within = elim (slice_get_cases inv.contacts k).1 [
  | inl c ↦ contact_moved_is inv.contacts inv k k sound (record { was = c.0; is_now = c.0; stood = c.2; stands = c.2; name = refl })
  | inr past ↦ absurd (let far = past.0 in omega arith)
]
