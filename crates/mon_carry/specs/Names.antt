-- Which objects and contacts of two inventories are the same: those of the same names.
use Rattle.std.specs.Prelude.{◌≡◌, ℕ, List, Option, Some, None, slice_get}
use Rattle.mon_inventory.specs.declared.records.ContactSpec.{ContactSpec}
use Rattle.mon_inventory.specs.declared.records.ObjectSpec.{ObjectSpec}
use Rattle.mon_inventory.specs.Lookups.{contact_of, host_of, service_of}

-- ---- in words

-- both have the same host name, and the same service name or none
pub record HaveSameNames (a b : ObjectSpec) : Type 0 where
  pub host : a.host ≡ b.host
  pub service : a.service ≡ b.service

-- object j of the old inventory and object k of the new one have the same names
pub record IsSameObject (old new : List ObjectSpec) (j k : ℕ) : Type 0 where
  pub was : ObjectSpec
  pub is_now : ObjectSpec
  pub stood : slice_get old j ≡ Some was
  pub stands : slice_get new k ≡ Some is_now
  pub names : HaveSameNames was is_now

-- the new inventory has this object at k, and no object of the old one has its names
pub record IsNewObject (old new : List ObjectSpec) (k : ℕ) (spec : ObjectSpec) : Type 0 where
  pub stands : slice_get new k ≡ Some spec
  pub none : (j : ℕ) → IsSameObject old new j k → ⊥

-- no object of the new inventory has the names of object j of the old one
abbrev pub IsGoneObject : (old new : List ObjectSpec) → ℕ → Type 0
IsGoneObject old new j = (k : ℕ) → IsSameObject old new j k → ⊥

-- contact j of the old inventory and contact k of the new one have the same name
pub record IsSameContact (old new : List ContactSpec) (j k : ℕ) : Type 0 where
  pub was : ContactSpec
  pub is_now : ContactSpec
  pub stood : slice_get old j ≡ Some was
  pub stands : slice_get new k ≡ Some is_now
  pub name : was.name ≡ is_now.name

-- ---- look-ups

-- the index of the object with these names; a host where no service is named
abbrev pub place_named : List ObjectSpec → (host : List ℕ) → (service : Option (List ℕ)) → Option ℕ
place_named objects host None = host_of objects host
place_named objects host (Some service) = service_of objects host service

-- the index, in this list, of the object with the same names as `spec`
abbrev pub place_in : List ObjectSpec → ObjectSpec → Option ℕ
place_in objects spec = place_named objects spec.host spec.service

-- the same for an optional object; none where there is no object
abbrev pub place_of : List ObjectSpec → Option ObjectSpec → Option ℕ
place_of objects None = None
place_of objects (Some spec) = place_in objects spec

-- the index in the new inventory of object j of the old one
unfoldable pub moved : (old new : List ObjectSpec) → ℕ → Option ℕ
moved old new j = place_of new (slice_get old j)

-- the index, in this list, of the contact with the same name as an optional one; none where there is no contact
abbrev pub contact_place_of : List ContactSpec → Option ContactSpec → Option ℕ
contact_place_of contacts None = None
contact_place_of contacts (Some c) = contact_of contacts c.name

-- the index in the new inventory of contact j of the old one
unfoldable pub contact_moved : (old new : List ContactSpec) → ℕ → Option ℕ
contact_moved old new j = contact_place_of new (slice_get old j)
