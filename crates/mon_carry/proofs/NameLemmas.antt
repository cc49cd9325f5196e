-- A look-up by names finds an object with these names, and finds each such object.
use Rattle.std.proofs.Common.{◌≡◌, ◌≢◌, ℕ, zero, suc, ◌+◌, Bool, true, false, cond, ◌&&◌, ◌==◌, if◌then◌else◌, List, [], ◌∷◌, Option, Some, None, is_some, slice_get, All, refl, ap, sym, ◌∙◌, arith}
use Rattle.std.specs.List.{position_from}
use Rattle.std.specs.Str.{bytes_eq}
use Rattle.std.proofs.lemmas.Bool.{eq-eqb, eqb-true, true≢false, and_parts}
use Rattle.std.proofs.lemmas.Option.{same_Some, slice_get_within}
use Rattle.std.proofs.lemmas.List.Elements.{All-head, All-tail}
use Rattle.std.proofs.lemmas.Slice.Eq.{bytes_eq-Decides}
use Rattle.mon_inventory.specs.declared.records.ContactSpec.{ContactSpec}
use Rattle.mon_inventory.specs.declared.records.ObjectSpec.{ObjectSpec}
use Rattle.mon_inventory.specs.Lists.{StandsAt}
use Rattle.mon_inventory.specs.Lookups.{IsContactNamed, IsHostNamed, IsServiceNamed, is_contact, is_host, is_named, is_service, contact_of, host_of, service_at, service_by, service_of}
use Rattle.mon_inventory.specs.Configuration.{Configuration}
use Rattle.mon_inventory.specs.Facts.{IsInventory}
use Rattle.mon_carry.specs.Names.{HaveSameNames, place_named, place_in}

-- ---- the first that passes

pub stands : {X : Type 0} (P : X → Type 0) (xs : List X) (n : ℕ) (x : X) → slice_get xs n ≡ Some x → P x → StandsAt P xs n
stands P xs n x e h = record { element = x; within = slice_get_within xs n x e; is = e; holds = h }

-- the item at n passes
record Passes {X : Type 0} (test : X → Bool) (xs : List X) (n : ℕ) : Type 0 where
  item : X
  is : slice_get xs n ≡ Some item
  passes : test item ≡ true

found_from : {X : Type 0} (test : X → Bool) (i : ℕ) (xs : List X) (n : ℕ) → position_from test i xs ≡ Some n → (m : ℕ) × (n ≡ i + m) × Passes test xs m
found_from test i [] n e = absurd (cc)
found_from test i (x ∷ xs) n e = by (found_from test (i + 1) xs n) (test x) refl e
  where
    by : (position_from test (i + 1) xs ≡ Some n → (m : ℕ) × (n ≡ (i + 1) + m) × Passes test xs m)
        → (t : Bool) → test x ≡ t → cond t (Some i) (position_from test (i + 1) xs) ≡ Some n → (m : ℕ) × (n ≡ i + m) × Passes test (x ∷ xs) m
    by later true t e = (0, (let f = same_Some i n e in omega arith), record { item = x; is = refl; passes = t })
    by later false t e = let r = later e in (suc r.0, (let f = r.1 in omega arith), record { item = r.2.item; is = r.2.is; passes = r.2.passes })

found : {X : Type 0} (test : X → Bool) (P : X → Type 0) → ((x : X) → test x ≡ true → P x) → (xs : List X) (n : ℕ) → position_from test 0 xs ≡ Some n → StandsAt P xs n
found test P means xs n e =
    let r = found_from test 0 xs n e in
    let same : r.0 ≡ n = (let f = r.1 in omega arith) in
    rw (← same) (stands P xs r.0 r.2.item r.2.is (means r.2.item r.2.passes))

not_found : {X : Type 0} (test : X → Bool) (i : ℕ) (xs : List X) → position_from test i xs ≡ None → (n : ℕ) (x : X) → slice_get xs n ≡ Some x → test x ≡ true → ⊥
not_found test i [] e n x is passes = absurd (cc)
not_found test i (y ∷ xs) e zero x is passes = let same = same_Some y x is in let e' : None ≡ Some i = sym (rw (ap test same ∙ passes) at e) in cc
not_found test i (y ∷ xs) e (suc n) x is passes = by (λ f. not_found test (i + 1) xs f n x is passes) (test y) e
  where
    by : (position_from test (i + 1) xs ≡ None → ⊥) → (t : Bool) → cond t (Some i) (position_from test (i + 1) xs) ≡ None → ⊥
    by later true e = absurd (cc)
    by later false e = later e

none_found : {X : Type 0} (test : X → Bool) (P : X → Type 0) → ((x : X) → test x ≡ true → P x) → (i : ℕ) (xs : List X) → All (λ x. P x → ⊥) xs → position_from test i xs ≡ None
none_found test P means i [] none = refl
none_found test P means i (x ∷ xs) none = by (none_found test P means (i + 1) xs (All-tail (λ x. P x → ⊥) x xs none)) (test x) refl
  where
    by : position_from test (i + 1) xs ≡ None → (t : Bool) → test x ≡ t → cond t (Some i) (position_from test (i + 1) xs) ≡ None
    by later true e = absurd (All-head (λ x. P x → ⊥) x xs none (means x e))
    by later false e = later

-- ---- what the tests mean

host_means : (name : List ℕ) (o : ObjectSpec) → is_host name o ≡ true → IsHostNamed name o
host_means name o e = by o.service e
  where
    by : (s : Option (List ℕ)) → (if is_some s then false else bytes_eq name o.host) ≡ true → (s ≡ None) × (o.host ≡ name)
    by None e = (refl, sym ((bytes_eq-Decides name o.host).0 e))
    by (Some d) e = absurd (true≢false (sym e))

host_tells : (name : List ℕ) (o : ObjectSpec) → IsHostNamed name o → is_host name o ≡ true
host_tells name o h = ap (λ s. if is_some s then false else bytes_eq name o.host) h.0 ∙ (bytes_eq-Decides name o.host).1 (sym h.1)

-- a service of the host of this index, by its name
abbrev pub IsServiceAt : ℕ → List ℕ → ObjectSpec → Type 0
IsServiceAt host name o = (o.service ≡ Some name) × (o.host_object ≡ host)

service_means : (host : ℕ) (name : List ℕ) (o : ObjectSpec) → is_service host name o ≡ true → IsServiceAt host name o
service_means host name o e = by o.service e
  where
    by : (s : Option (List ℕ)) → is_named host name o.host_object s ≡ true → (s ≡ Some name) × (o.host_object ≡ host)
    by None e = absurd (true≢false (sym e))
    by (Some d) e =
        let h = and_parts (o.host_object == host) (bytes_eq name d) e in
        (ap Some (sym ((bytes_eq-Decides name d).0 h.1)), eqb-true _ _ h.0)

service_tells : (host : ℕ) (name : List ℕ) (o : ObjectSpec) → IsServiceAt host name o → is_service host name o ≡ true
service_tells host name o h =
    ap (is_named host name o.host_object) h.0
    ∙ ap (λ b. b && bytes_eq name name) (eq-eqb o.host_object host h.1)
    ∙ (bytes_eq-Decides name name).1 refl

contact_means : (name : List ℕ) (c : ContactSpec) → is_contact name c ≡ true → IsContactNamed name c
contact_means name c e = sym ((bytes_eq-Decides name c.name).0 e)

contact_tells : (name : List ℕ) (c : ContactSpec) → IsContactNamed name c → is_contact name c ≡ true
contact_tells name c e = (bytes_eq-Decides name c.name).1 (sym e)

-- ---- contacts

pub contact_is : (k : Configuration) (n : ℕ) (c : ContactSpec) (name : List ℕ) → IsInventory k → slice_get k.contacts n ≡ Some c → c.name ≡ name → contact_of k.contacts name ≡ Some n
unfolding contact_of
contact_is k n c name h is same = by (position_from (is_contact name) 0 k.contacts) refl
  where
    by : (o : Option ℕ) → position_from (is_contact name) 0 k.contacts ≡ o → o ≡ Some n
    by None e = absurd (not_found (is_contact name) 0 k.contacts e n c is (contact_tells name c same))
    by (Some m) e = ap Some (h.contacts_once name m n (found (is_contact name) (IsContactNamed name) (contact_means name) k.contacts m e) (stands (IsContactNamed name) k.contacts n c is same))

pub contact_none : (cs : List ContactSpec) (name : List ℕ) → All (λ c. c.name ≢ name) cs → contact_of cs name ≡ None
unfolding contact_of
contact_none cs name none = none_found (is_contact name) (IsContactNamed name) (contact_means name) 0 cs none

pub contact_found : (cs : List ContactSpec) (name : List ℕ) (n : ℕ) → contact_of cs name ≡ Some n → StandsAt (IsContactNamed name) cs n
unfolding contact_of
contact_found cs name n e = found (is_contact name) (IsContactNamed name) (contact_means name) cs n e

-- ---- hosts

host_found : (os : List ObjectSpec) (name : List ℕ) (n : ℕ) → host_of os name ≡ Some n → StandsAt (IsHostNamed name) os n
unfolding host_of
host_found os name n e = found (is_host name) (IsHostNamed name) (host_means name) os n e

host_is : (k : Configuration) (name : List ℕ) (n : ℕ) → IsInventory k → StandsAt (IsHostNamed name) k.objects n → host_of k.objects name ≡ Some n
unfolding host_of
host_is k name n h s = by (position_from (is_host name) 0 k.objects) refl
  where
    by : (o : Option ℕ) → position_from (is_host name) 0 k.objects ≡ o → o ≡ Some n
    by None e = absurd (not_found (is_host name) 0 k.objects e n s.element s.is (host_tells name s.element s.holds))
    by (Some m) e = ap Some (h.hosts_once name m n (found (is_host name) (IsHostNamed name) (host_means name) k.objects m e) s)

-- ---- services

-- hosts at the same index have the same name
same_name : (os : List ObjectSpec) (a b : List ℕ) (n m : ℕ) → StandsAt (IsHostNamed a) os n → StandsAt (IsHostNamed b) os m → n ≡ m → a ≡ b
same_name os a b n m s t same =
    let one = same_Some s.element t.element (sym s.is ∙ ap (slice_get os) same ∙ t.is) in
    sym s.holds.1 ∙ ap (λ o. o.host) one ∙ t.holds.1

-- services with the same host index belong to the host of one name
at_host : (k : Configuration) (host name : List ℕ) (h n : ℕ) → IsInventory k → StandsAt (IsHostNamed host) k.objects h → StandsAt (IsServiceAt h name) k.objects n → StandsAt (IsServiceNamed host name) k.objects n
at_host k host name h n sound here s =
    let its = (sound.objects n s.element s.is).host_stands in
    stands (IsServiceNamed host name) k.objects n s.element s.is (s.holds.0, same_name k.objects s.element.host host s.element.host_object h its here s.holds.1)

service_found : (k : Configuration) (host name : List ℕ) (n : ℕ) → IsInventory k → service_of k.objects host name ≡ Some n → StandsAt (IsServiceNamed host name) k.objects n
unfolding service_at
service_found k host name n sound e = by (host_of k.objects host) refl e
  where
    by : (o : Option ℕ) → host_of k.objects host ≡ o → service_by k.objects o name ≡ Some n → StandsAt (IsServiceNamed host name) k.objects n
    by None is e = absurd (cc)
    by (Some h) is e = at_host k host name h n sound (host_found k.objects host h is) (found (is_service h name) (IsServiceAt h name) (service_means h name) k.objects n e)

service_is : (k : Configuration) (host name : List ℕ) (n : ℕ) → IsInventory k → StandsAt (IsServiceNamed host name) k.objects n → service_of k.objects host name ≡ Some n
unfolding service_at
service_is k host name n sound s = rw (host_is k host s.element.host_object sound here) (by (position_from (is_service s.element.host_object name) 0 k.objects) refl)
  where
    here : StandsAt (IsHostNamed host) k.objects s.element.host_object
    here = rw s.holds.1 at (sound.objects n s.element s.is).host_stands

    by : (o : Option ℕ) → position_from (is_service s.element.host_object name) 0 k.objects ≡ o → o ≡ Some n
    by None e = absurd (not_found (is_service s.element.host_object name) 0 k.objects e n s.element s.is (service_tells s.element.host_object name s.element (s.holds.0, refl)))
    by (Some m) e = ap Some (sound.services_once host name m n
        (at_host k host name s.element.host_object m sound here (found (is_service s.element.host_object name) (IsServiceAt s.element.host_object name) (service_means s.element.host_object name) k.objects m e)) s)

-- ---- objects

-- the object at n has the names of this one
pub record IsNamedAs (objects : List ObjectSpec) (n : ℕ) (spec : ObjectSpec) : Type 0 where
  pub item : ObjectSpec
  pub is : slice_get objects n ≡ Some item
  pub names : HaveSameNames spec item

pub place_found : (k : Configuration) (spec : ObjectSpec) (n : ℕ) → IsInventory k → place_in k.objects spec ≡ Some n → IsNamedAs k.objects n spec
place_found k spec n sound e = by spec.service refl e
  where
    by : (s : Option (List ℕ)) → spec.service ≡ s → place_named k.objects spec.host s ≡ Some n → IsNamedAs k.objects n spec
    by None is e = let f = host_found k.objects spec.host n e in record { item = f.element; is = f.is; names = record { host = sym f.holds.1; service = is ∙ sym f.holds.0 } }
    by (Some name) is e = let f = service_found k spec.host name n sound e in record { item = f.element; is = f.is; names = record { host = sym f.holds.1; service = is ∙ sym f.holds.0 } }

pub place_is : (k : Configuration) (spec item : ObjectSpec) (n : ℕ) → IsInventory k → slice_get k.objects n ≡ Some item → HaveSameNames spec item → place_in k.objects spec ≡ Some n
place_is k spec item n sound is same = by spec.service refl
  where
    by : (s : Option (List ℕ)) → spec.service ≡ s → place_named k.objects spec.host s ≡ Some n
    by None e = host_is k spec.host n sound (stands (IsHostNamed spec.host) k.objects n item is (sym same.service ∙ e, sym same.host))
    by (Some name) e = service_is k spec.host name n sound (stands (IsServiceNamed spec.host name) k.objects n item is (sym same.service ∙ e, sym same.host))
