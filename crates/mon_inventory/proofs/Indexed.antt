-- What the maps and lists of an index tell after one line more.
use Rattle.std.proofs.Common.{◌≡◌, ℕ, zero, suc, ◌+◌, ◌<◌, ◌≤◌, false, cond, ◌&&◌, Some, None, List, [], ◌∷◌, ◌++◌, length, get_or, eqb, ◌==◌, is_some, if◌then◌else◌, refl, ap, ◌∙◌, sym, arith, inl, inr, length-append}
use Rattle.std.specs.Prelude.{OnOk, Result, Ok, Err}
use Rattle.std.proofs.Math.ListN.{set, length-set}
use Rattle.std.proofs.lemmas.Bool.Decides.{eqb_tells}
use Rattle.std.specs.Str.{bytes_eq}
use Rattle.mon_inventory.specs.Names.{named, Tells, TellServices}
use Rattle.mon_inventory.specs.Lists.{index_where}
use Rattle.mon_inventory.specs.Lookups.{is_contact, is_host, is_service, is_named, is_service_of, is_escalation_of, contact_of, host_of, service_at, services_of, escalations_of}
use Rattle.mon_inventory.specs.Index.{IsIndexed}
use Rattle.mon_inventory.specs.declared.index.Index.{Index}
use Rattle.mon_inventory.specs.declared.records.ContactSpec.{ContactSpec}
use Rattle.mon_inventory.specs.declared.records.ObjectSpec.{ObjectSpec}
use Rattle.mon_inventory.specs.declared.records.Escalation.{Escalation}
use Rattle.mon_inventory.proofs.Pushes.{or_else, or_none, named_push, number_push, get_or_pad, get_or_set, told_kept, told_more, told_pad}

-- ---- one more contact

pub tells_contact : (es fs : List (List ℕ × ℕ)) (cs ds : List ContactSpec) (c : ContactSpec) (name : List ℕ) (n : ℕ)
    → Tells es (contact_of cs) → fs ≡ es ++ (name, n) ∷ [] → ds ≡ cs ++ c ∷ [] → c.name ≡ name → n ≡ length cs → Tells fs (contact_of ds)
unfolding contact_of
tells_contact es fs cs ds c name n h e g same count =
    rw (e, g, count, ← same) (λ q. named_push es c.name (length cs) q ∙ ap (λ o. or_else o (cond (bytes_eq q c.name) (Some (length cs)) None)) (h q)
    ∙ sym (number_push (is_contact q) 0 cs c ∙ ap (λ k. or_else (index_where (is_contact q) cs) (cond (is_contact q c) (Some k) None)) (let k : 0 + length cs ≡ length cs = omega arith in k)))

pub tells_host : (es fs : List (List ℕ × ℕ)) (os ps : List ObjectSpec) (o : ObjectSpec) (name : List ℕ) (n : ℕ)
    → Tells es (host_of os) → fs ≡ es ++ (name, n) ∷ [] → ps ≡ os ++ o ∷ [] → o.host ≡ name → o.service ≡ None → n ≡ length os → Tells fs (host_of ps)
unfolding host_of
tells_host es fs os ps o name n h e g same none count =
    rw (e, g, count, ← same) (λ q. named_push es o.host (length os) q ∙ ap (λ a. or_else a (cond (bytes_eq q o.host) (Some (length os)) None)) (h q)
    ∙ sym (number_push (is_host q) 0 os o ∙ ap (λ k. or_else (index_where (is_host q) os) (cond (is_host q o) (Some k) None)) (let k : 0 + length os ≡ length os = omega arith in k)
    ∙ ap (λ s. or_else (index_where (is_host q) os) (cond (if is_some s then false else bytes_eq q o.host) (Some (length os)) None)) none))

pub tells_hosts_kept : (es : List (List ℕ × ℕ)) (os ps : List ObjectSpec) (o : ObjectSpec) (d : List ℕ)
    → Tells es (host_of os) → ps ≡ os ++ o ∷ [] → o.service ≡ Some d → Tells es (host_of ps)
unfolding host_of
tells_hosts_kept es os ps o d h g some =
    rw g (λ q. h q ∙ sym (number_push (is_host q) 0 os o
    ∙ ap (λ s. or_else (index_where (is_host q) os) (cond (if is_some s then false else bytes_eq q o.host) (Some (0 + length os)) None)) some ∙ or_none (index_where (is_host q) os)))

pub services_host : (os ps : List ObjectSpec) (ms ns : List (List (List ℕ × ℕ))) (o : ObjectSpec)
    → TellServices os ms → ns ≡ ms ++ [] ∷ [] → ps ≡ os ++ o ∷ [] → o.service ≡ None → TellServices ps ns
unfolding service_at
services_host os ps ms ns o h e g none =
    rw (e, g) (λ k q. ap (λ m. named m q) (get_or_pad [] ms k) ∙ h k q ∙ sym (number_push (is_service k q) 0 os o
    ∙ ap (λ s. or_else (index_where (is_service k q) os) (cond (is_named k q o.host_object s) (Some (0 + length os)) None)) none ∙ or_none (index_where (is_service k q) os)))

pub services_service : (os ps : List ObjectSpec) (ms ns : List (List (List ℕ × ℕ))) (o : ObjectSpec) (i n : ℕ) (d : List ℕ)
    → TellServices os ms → i < length ms → ns ≡ set ms i (get_or ms i [] ++ (d, n) ∷ []) ++ [] ∷ [] → ps ≡ os ++ o ∷ []
    → o.service ≡ Some d → o.host_object ≡ i → n ≡ length os → TellServices ps ns
unfolding service_at
services_service os ps ms ns o i n d h lt e g some of count =
    rw (e, g) (λ k q. ap (λ m. named m q) (get_or_pad [] (set ms i (get_or ms i [] ++ (d, n) ∷ [])) k ∙ get_or_set [] ms i k _ lt)
    ∙ by k q
    ∙ sym (number_push (is_service k q) 0 os o
    ∙ ap (λ s. or_else (index_where (is_service k q) os) (cond (is_named k q o.host_object s) (Some (0 + length os)) None)) some
    ∙ ap (λ j. or_else (index_where (is_service k q) os) (cond ((j == k) && bytes_eq q d) (Some (0 + length os)) None)) of
    ∙ ap (λ j. or_else (index_where (is_service k q) os) (cond ((i == k) && bytes_eq q d) (Some j) None)) (let z : 0 + length os ≡ n = omega arith in z)))
  where
    by : (k : ℕ) (q : List ℕ) → named (cond (eqb i k) (get_or ms i [] ++ (d, n) ∷ []) (get_or ms k [])) q ≡ or_else (index_where (is_service k q) os) (cond ((i == k) && bytes_eq q d) (Some n) None)
    by k q =
        elim (eqb_tells i k) [
          | inl t ↦ rw t.0 (named_push (get_or ms i []) d n q ∙ ap (λ a. or_else a (cond (bytes_eq q d) (Some n) None)) (rw t.1 (h k q)))
          | inr t ↦ rw t.0 (h k q ∙ sym (or_none (index_where (is_service k q) os)))
        ]

-- ---- an index

-- what holds after a step that may fail
pub on_ok : {X E P : Type 0} (Q : Type 0) (r : Result X E) → OnOk r P → (P → Q) → OnOk r Q
on_ok Q (Ok x) p f = f p
on_ok Q (Err e) p f = tt

pub indexed_empty : (a : Index) → a.contacts.items ≡ [] → a.contact_names ≡ [] → a.objects.items ≡ [] → a.host_names ≡ [] → a.service_names.items ≡ [] → a.services.items ≡ []
    → a.escalations.items ≡ [] → a.object_escalations.items ≡ [] → a.directives.items ≡ [] → IsIndexed a
unfolding contact_of host_of service_at services_of escalations_of
indexed_empty a c cn o hn sn s e oe d = record {
  contacts_named = λ q. rw (cn, c) refl;
  hosts_named = λ q. rw (hn, o) refl;
  services_named = λ h q. rw (sn, o) (none h q);
  names_many = rw (sn, o) refl;
  services_told = λ h. rw (s, o) (no_indices h);
  services_many = rw (s, o) refl;
  escalations_told = λ h. rw (oe, e) (no_indices h);
  escalations_many = rw (oe, o) refl;
  directives_many = rw (d, o) refl;
  few_contacts = rw c (omega arith);
  few_objects = rw o (omega arith);
  few_escalations = rw e (omega arith);
}
  where
    none : (h : ℕ) (q : List ℕ) → named (get_or [] h []) q ≡ None
    none zero q = refl
    none (suc h) q = refl

    no_indices : (h : ℕ) → get_or {A = List ℕ} [] h [] ≡ []
    no_indices zero = refl
    no_indices (suc h) = refl

pub as_many_push : {X Y : Type 0} (xs ms : List X) (ys ns : List Y) (x : X) (y : Y) → length xs ≡ length ys → ms ≡ xs ++ x ∷ [] → ns ≡ ys ++ y ∷ [] → length ms ≡ length ns
as_many_push xs ms ys ns x y e f g = rw (f, g, length-append, length-append, e) refl

pub as_many_set : {X Y : Type 0} (xs ms : List X) (ys ns : List Y) (i : ℕ) (m x : X) (y : Y)
    → length xs ≡ length ys → ms ≡ set xs i m ++ x ∷ [] → ns ≡ ys ++ y ∷ [] → length ms ≡ length ns
as_many_set xs ms ys ns i m x y e f g = rw (f, g, length-append, length-append, length-set, e) refl

pub few_push : {X : Type 0} (xs ys : List X) (x : X) (m : ℕ) → length xs < m → ys ≡ xs ++ x ∷ [] → length ys ≤ m
few_push xs ys x m lt e = omega (arith, ap length e, length-append xs (x ∷ []))

-- ---- what belongs to each object

pub services_told_host : (os ps : List ObjectSpec) (ms ns : List (List ℕ)) (o : ObjectSpec) → ((host : ℕ) → get_or ms host [] ≡ services_of os host)
    → ns ≡ ms ++ [] ∷ [] → ps ≡ os ++ o ∷ [] → o.service ≡ None → (host : ℕ) → get_or ns host [] ≡ services_of ps host
unfolding services_of
services_told_host os ps ms ns o told e g none =
    rw (e, g) (told_pad is_service_of (os ++ o ∷ []) ms (told_kept is_service_of os o ms told (λ h. ap (λ s. is_some s && (o.host_object == h)) none)))

pub services_told_service : (os ps : List ObjectSpec) (ms ns : List (List ℕ)) (o : ObjectSpec) (i n : ℕ) (d : List ℕ) → ((host : ℕ) → get_or ms host [] ≡ services_of os host)
    → i < length ms → ns ≡ set ms i (get_or ms i [] ++ n ∷ []) ++ [] ∷ [] → ps ≡ os ++ o ∷ [] → o.service ≡ Some d → o.host_object ≡ i → n ≡ length os
    → (host : ℕ) → get_or ns host [] ≡ services_of ps host
unfolding services_of
services_told_service os ps ms ns o i n d told lt e g some of count =
    rw (e, g) (told_pad is_service_of (os ++ o ∷ []) _ (told_more is_service_of os o ms told i n (λ h. ap (λ s. is_some s && (o.host_object == h)) some ∙ ap (λ j. j == h) of) lt count))

pub escalations_told_pad : (es : List Escalation) (ms ns : List (List ℕ)) → ((object : ℕ) → get_or ms object [] ≡ escalations_of es object)
    → ns ≡ ms ++ [] ∷ [] → (object : ℕ) → get_or ns object [] ≡ escalations_of es object
unfolding escalations_of
escalations_told_pad es ms ns told e = rw e (told_pad is_escalation_of es ms told)

pub escalations_told_more : (es fs : List Escalation) (ms ns : List (List ℕ)) (x : Escalation) (i n : ℕ) → ((object : ℕ) → get_or ms object [] ≡ escalations_of es object)
    → i < length ms → ns ≡ set ms i (get_or ms i [] ++ n ∷ []) → fs ≡ es ++ x ∷ [] → x.object ≡ i → n ≡ length es
    → (object : ℕ) → get_or ns object [] ≡ escalations_of fs object
unfolding escalations_of
escalations_told_more es fs ms ns x i n told lt e g of count =
    rw (e, g) (told_more is_escalation_of es x ms told i n (λ h. ap (λ j. j == h) of) lt count)

pub many_set : {X Y : Type 0} (xs ms : List X) (ys : List Y) (i : ℕ) (m : X) → length xs ≡ length ys → ms ≡ set xs i m → length ms ≡ length ys
many_set xs ms ys i m e f = rw (f, length-set, e) refl
