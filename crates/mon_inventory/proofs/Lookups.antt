-- What a look-up finds stands there, and what it does not find stands nowhere.
use Rattle.std.proofs.Common.{◌≡◌, ℕ, ◌<◌, Bool, true, false, ◌&&◌, Option, Some, None, IfSome, List, length, slice_get, ◌==◌, is_some, if◌then◌else◌, refl, sym, ap, ◌∙◌}
use Rattle.std.specs.List.{filter, filter_map}
use Rattle.std.specs.Str.{bytes_eq}
use Rattle.std.proofs.lemmas.Bool.{eq-eqb, eqb-true, true≢false, and_parts}
use Rattle.std.proofs.lemmas.Slice.Eq.{bytes_eq-Decides}
use Rattle.mon_inventory.specs.declared.records.ContactSpec.{ContactSpec}
use Rattle.mon_inventory.specs.declared.records.ObjectSpec.{ObjectSpec}
use Rattle.mon_inventory.specs.declared.records.Escalation.{Escalation}
use Rattle.mon_inventory.specs.Lists.{index_where, StandsAt, AreExactly}
use Rattle.mon_inventory.specs.Lookups.{IsContactNamed, IsHostNamed, IsServiceOf, IsEscalationOf, is_contact, is_host, is_named, is_service, is_service_of, is_escalation_of, contact_of, host_of, service_at, services_of, escalations_of}
use Rattle.mon_inventory.proofs.Standing.{found, not_found, exactly, elements}

-- a service of the host of this index, by its name
abbrev pub IsServiceAt : ℕ → List ℕ → ObjectSpec → Type 0
IsServiceAt host name o = (o.service ≡ Some name) × (o.host_object ≡ host)

-- ---- what the tests mean

contact_means : (name : List ℕ) (c : ContactSpec) → is_contact name c ≡ true → IsContactNamed name c
contact_means name c e = sym ((bytes_eq-Decides name c.name).0 e)

contact_tells : (name : List ℕ) (c : ContactSpec) → IsContactNamed name c → is_contact name c ≡ true
contact_tells name c e = (bytes_eq-Decides name c.name).1 (sym e)

host_means : (name : List ℕ) (o : ObjectSpec) → is_host name o ≡ true → IsHostNamed name o
host_means name o e = by o.service e
  where
    by : (s : Option (List ℕ)) → (if is_some s then false else bytes_eq name o.host) ≡ true → (s ≡ None) × (o.host ≡ name)
    by None e = (refl, sym ((bytes_eq-Decides name o.host).0 e))
    by (Some d) e = absurd (true≢false (sym e))

host_tells : (name : List ℕ) (o : ObjectSpec) → IsHostNamed name o → is_host name o ≡ true
host_tells name o h = ap (λ s. if is_some s then false else bytes_eq name o.host) h.0 ∙ (bytes_eq-Decides name o.host).1 (sym h.1)

service_means : (host : ℕ) (name : List ℕ) (o : ObjectSpec) → is_service host name o ≡ true → IsServiceAt host name o
service_means host name o e = by o.service e
  where
    by : (s : Option (List ℕ)) → is_named host name o.host_object s ≡ true → (s ≡ Some name) × (o.host_object ≡ host)
    by None e = absurd (true≢false (sym e))
    by (Some d) e =
        let h = and_parts (o.host_object == host) (bytes_eq name d) e in
        (ap Some (sym ((bytes_eq-Decides name d).0 h.1)), eqb-true _ _ h.0)

service_tells : (host : ℕ) (name : List ℕ) (o : ObjectSpec) → IsServiceAt host name o → is_service host name o ≡ true
service_tells host name o h =
    ap (is_named host name o.host_object) h.0
    ∙ ap (λ b. b && bytes_eq name name) (eq-eqb o.host_object host h.1)
    ∙ (bytes_eq-Decides name name).1 refl

service_of_means : (host : ℕ) (o : ObjectSpec) → is_service_of host o ≡ true → IsServiceOf host o
service_of_means host o e = let h = and_parts (is_some o.service) (o.host_object == host) e in (h.0, eqb-true _ _ h.1)

service_of_tells : (host : ℕ) (o : ObjectSpec) → IsServiceOf host o → is_service_of host o ≡ true
service_of_tells host o h = ap (λ b. b && (o.host_object == host)) h.0 ∙ eq-eqb o.host_object host h.1

-- ---- what is found

if_found : {X : Type 0} (test : X → Bool) (P : X → Type 0) → ((x : X) → test x ≡ true → P x) → (xs : List X) (o : Option ℕ) → o ≡ index_where test xs → IfSome o (StandsAt P xs)
if_found test P means xs None e = tt
if_found test P means xs (Some n) e = found test P means xs n (sym e)

pub contact_found : (cs : List ContactSpec) (name : List ℕ) (o : Option ℕ) → o ≡ contact_of cs name → IfSome o (StandsAt (IsContactNamed name) cs)
unfolding contact_of
contact_found cs name = if_found (is_contact name) (IsContactNamed name) (contact_means name) cs

pub host_found : (os : List ObjectSpec) (name : List ℕ) (o : Option ℕ) → o ≡ host_of os name → IfSome o (StandsAt (IsHostNamed name) os)
unfolding host_of
host_found os name = if_found (is_host name) (IsHostNamed name) (host_means name) os

pub service_found : (os : List ObjectSpec) (host : ℕ) (name : List ℕ) (o : Option ℕ) → o ≡ service_at os host name → IfSome o (StandsAt (IsServiceAt host name) os)
unfolding service_at
service_found os host name = if_found (is_service host name) (IsServiceAt host name) (service_means host name) os

pub contact_not_found : (cs : List ContactSpec) (name : List ℕ) → contact_of cs name ≡ None → (n : ℕ) → StandsAt (IsContactNamed name) cs n → ⊥
unfolding contact_of
contact_not_found cs name e = not_found (is_contact name) (IsContactNamed name) (contact_tells name) 0 cs e

pub host_not_found : (os : List ObjectSpec) (name : List ℕ) → host_of os name ≡ None → (n : ℕ) → StandsAt (IsHostNamed name) os n → ⊥
unfolding host_of
host_not_found os name e = not_found (is_host name) (IsHostNamed name) (host_tells name) 0 os e

pub service_not_found : (os : List ObjectSpec) (host : ℕ) (name : List ℕ) → service_at os host name ≡ None → (n : ℕ) → StandsAt (IsServiceAt host name) os n → ⊥
unfolding service_at
service_not_found os host name e = not_found (is_service host name) (IsServiceAt host name) (service_tells host name) 0 os e

pub found_within : {X : Type 0} (P : X → Type 0) (xs : List X) (o : Option ℕ) → IfSome o (StandsAt P xs) → IfSome o (λ n. n < length xs)
found_within P xs None h = tt
found_within P xs (Some n) h = h.within

-- ---- what belongs to an object

pub services_exactly : (os : List ObjectSpec) (host : ℕ) → AreExactly (IsServiceOf host) os (services_of os host)
unfolding services_of
services_exactly os host = exactly (is_service_of host) (IsServiceOf host) (service_of_means host) (service_of_tells host) os

pub escalations_exactly : (es : List Escalation) (object : ℕ) → AreExactly (IsEscalationOf object) es (escalations_of es object)
unfolding escalations_of
escalations_exactly es object = exactly (is_escalation_of object) (IsEscalationOf object) (λ e h. eqb-true _ _ h) (λ e h. eq-eqb _ _ h) es

pub escalations_in_order : (es : List Escalation) (object : ℕ) → filter_map (slice_get es) (escalations_of es object) ≡ filter (is_escalation_of object) es
unfolding escalations_of
escalations_in_order es object = elements (is_escalation_of object) es
