-- The directives that a line sets, by names that stay with their object.
use Rattle.std.proofs.Common.{◌≡◌, ℕ, ◌+◌, ◌<◌, Bool, true, false, cond, ◌&&◌, ◌||◌, not, Option, Some, None, unwrap_or, List, [], ◌∷◌, ◌++◌, length, get_or, eqb, if◌then◌else◌, refl, sym, ap, ◌∙◌, inl, inr, arith}
use Rattle.std.specs.Prelude.{is_none}
use Rattle.std.specs.List.{position_from, cons_option}
use Rattle.std.proofs.Math.Bool.{or-false, or-true}
use Rattle.std.proofs.Math.ListN.{set}
use Rattle.std.proofs.lemmas.Bool.Decides.{eqb_tells}
use Rattle.mon_inventory.specs.declared.records.ObjectSpec.{ObjectSpec}
use Rattle.mon_inventory.specs.declared.records.Directives.{Directives}
use Rattle.mon_inventory.specs.Lists.{IsBeginning}
use Rattle.mon_inventory.specs.Line.{Form, ContactForm, HostForm, ServiceForm, EscalationForm, OptionForm, SettleForm, DelayForm, VolatileForm, NoForm, is_empty}
use Rattle.mon_inventory.specs.Lookups.{host_of, service_at, service_by, service_of}
use Rattle.mon_inventory.specs.Configuration.{Configuration, no_directives, directives_at, object_of, object_named, with_form}
use Rattle.mon_inventory.specs.Facts.{IsInventory}
use Rattle.mon_inventory.specs.Order.{delay_said, makes_volatile}
use Rattle.mon_inventory.specs.Seen.{IsFine}
use Rattle.mon_inventory.proofs.Fine.{is_absent, is_there, object_within}
use Rattle.mon_inventory.proofs.Pushes.{get_or_pad, get_or_set}

-- ---- names that are there stay

position_kept : {X : Type 0} (test : X → Bool) (i : ℕ) (xs ys : List X) (n : ℕ) → position_from test i xs ≡ Some n → position_from test i (xs ++ ys) ≡ Some n
position_kept test i [] ys n e = absurd (cc)
position_kept test i (x ∷ xs) ys n e = by (test x) (position_kept test (i + 1) xs ys n) e
  where
    by : (t : Bool) → (position_from test (i + 1) xs ≡ Some n → position_from test (i + 1) (xs ++ ys) ≡ Some n)
        → cond t (Some i) (position_from test (i + 1) xs) ≡ Some n → cond t (Some i) (position_from test (i + 1) (xs ++ ys)) ≡ Some n
    by true later e = e
    by false later e = later e

host_kept : (os ps : List ObjectSpec) (name : List ℕ) (n : ℕ) → host_of os name ≡ Some n → host_of (os ++ ps) name ≡ Some n
unfolding host_of
host_kept os ps name n e = position_kept _ 0 os ps n e

service_at_kept : (os ps : List ObjectSpec) (host : ℕ) (name : List ℕ) (n : ℕ) → service_at os host name ≡ Some n → service_at (os ++ ps) host name ≡ Some n
unfolding service_at
service_at_kept os ps host name n e = position_kept _ 0 os ps n e

service_kept : (os ps : List ObjectSpec) (host name : List ℕ) (n : ℕ) → service_of os host name ≡ Some n → service_of (os ++ ps) host name ≡ Some n
service_kept os ps host name n e = by (host_of os host) refl e
  where
    by : (o : Option ℕ) → host_of os host ≡ o → service_by os o name ≡ Some n → service_of (os ++ ps) host name ≡ Some n
    by None is e = absurd (cc)
    by (Some h) is e = rw (host_kept os ps host h is) (service_at_kept os ps h name n e)

object_kept : (k j : Configuration) (host service : List ℕ) (n : ℕ) → IsBeginning k.objects j.objects → object_of k host service ≡ Some n → object_of j host service ≡ Some n
object_kept k j host service n b e = rw b.whole (by (is_empty service) e)
  where
    by : (t : Bool) → (if t then host_of k.objects host else service_of k.objects host service) ≡ Some n
        → (if t then host_of (k.objects ++ b.rest) host else service_of (k.objects ++ b.rest) host service) ≡ Some n
    by true e = host_kept k.objects b.rest host n e
    by false e = service_kept k.objects b.rest host service n e

object_there : (k : Configuration) (host service : List ℕ) → is_none (host_of k.objects host) ≡ false → (not (is_empty service) && is_none (service_of k.objects host service)) ≡ false
    → object_of k host service ≡ Some (object_named k host service)
object_there k host service known known_too = by (is_empty service) known_too
  where
    by : (t : Bool) → (not t && is_none (service_of k.objects host service)) ≡ false
        → (if t then host_of k.objects host else service_of k.objects host service) ≡ Some (unwrap_or (if t then host_of k.objects host else service_of k.objects host service) 0)
    by true e = is_there (host_of k.objects host) known
    by false e = is_there (service_of k.objects host service) e

-- ---- the directives of an object, where those of one object are others

either : {X Y : Type 0} (f : X → Y) (t : Bool) (x y : X) → f (cond t x y) ≡ cond t (f x) (f y)
either f true x y = refl
either f false x y = refl

others : {X : Type 0} (f : Directives → X) (ds : List Directives) (i object : ℕ) (d : Directives) → i < length ds
    → f (get_or (set ds i d) object no_directives) ≡ cond (eqb i object) (f d) (f (get_or ds object no_directives))
others f ds i object d within = ap f (get_or_set no_directives ds i object d within) ∙ either f (eqb i object) d (get_or ds object no_directives)

same : {X : Type 0} (f : Directives → X) (ds : List Directives) (i object : ℕ) (d : Directives) → i < length ds → f d ≡ f (get_or ds i no_directives)
    → f (get_or (set ds i d) object no_directives) ≡ f (get_or ds object no_directives)
same f ds i object d within e =
    others f ds i object d within
    ∙ elim (eqb_tells i object) [
      | inl t ↦ rw (t.0, ← t.1) e
      | inr t ↦ rw t.0 refl
    ]

-- ---- what a line sets

abbrev pub more : {X : Type 0} → List X → Option X → List X
more xs None = xs
more xs (Some x) = xs ++ x ∷ []

abbrev delay_of : Directives → Option ℕ
delay_of d = d.first_notification_delay

abbrev volatility_of : Directives → Bool
volatility_of d = d.is_volatile

-- the directives of an object after a line, by all names
pub record SetsForm (k : Configuration) (f : Form) (i j : Configuration) (object : ℕ) : Type 0 where
  pub delay : cons_option (get_or i.directives object no_directives).first_notification_delay [] ≡ more (cons_option (get_or k.directives object no_directives).first_notification_delay []) (delay_said j object f)
  pub volatile : (get_or i.directives object no_directives).is_volatile ≡ ((get_or k.directives object no_directives).is_volatile || makes_volatile j object f)

-- a line that changes no directives
pub sets_nothing : (k : Configuration) (f : Form) (i j : Configuration) (object : ℕ) → get_or i.directives object no_directives ≡ get_or k.directives object no_directives
    → delay_said j object f ≡ None → makes_volatile j object f ≡ false → SetsForm k f i j object
sets_nothing k f i j object e no_delay not_volatile = record {
  delay = rw no_delay (ap (λ d. cons_option (delay_of d) []) e);
  volatile = rw not_volatile (ap volatility_of e ∙ sym (or-false _));
}

module _ (k j : Configuration) (object : ℕ) (h : IsInventory k) (b : IsBeginning k.objects j.objects) where
  delay_sets : (host service seconds : List ℕ) → IsFine k (DelayForm host service seconds) → SetsForm k (DelayForm host service seconds) (with_form k (DelayForm host service seconds)) j object
  delay_sets host service seconds fine =
      let i = object_named k host service in
      let there = object_there k host service fine.host_known fine.service_known in
      let new : delay_of (get_or k.directives i no_directives) ≡ None = ap (λ o. delay_of (directives_at k o)) (sym there) ∙ is_absent _ fine.new in
      let w = object_within k host service fine.host_known fine.service_known in
      let within : i < length k.directives = (let many = h.directives_many in omega arith) in
      record {
        delay = rw (object_kept k j host service i b there, others delay_of k.directives i object _ within) (elim (eqb_tells i object) [
          | inl t ↦ rw (t.0, ← t.1, new) refl
          | inr t ↦ rw t.0 refl
        ]);
        volatile = same volatility_of k.directives i object _ within refl ∙ sym (or-false _);
      }

  volatile_sets : (host service : List ℕ) → IsFine k (VolatileForm host service) → SetsForm k (VolatileForm host service) (with_form k (VolatileForm host service)) j object
  volatile_sets host service fine =
      let i = object_named k host service in
      let there = object_there k host service fine.host_known fine.service_known in
      let w = object_within k host service fine.host_known fine.service_known in
      let within : i < length k.directives = (let many = h.directives_many in omega arith) in
      record {
        delay = ap (λ o. cons_option o []) (same delay_of k.directives i object _ within refl);
        volatile = rw (object_kept k j host service i b there, others volatility_of k.directives i object _ within) (elim (eqb_tells i object) [
          | inl t ↦ rw (t.0, or-true) refl
          | inr t ↦ rw (t.0, or-false) refl
        ]);
      }

  pub form_sets : (f : Form) → IsFine k f → SetsForm k f (with_form k f) j object
  form_sets (ContactForm name hosts services) fine = sets_nothing k _ _ j object refl refl refl
  form_sets (HostForm name max interval options contacts) fine = sets_nothing k _ _ j object (get_or_pad no_directives k.directives object) refl refl
  form_sets (ServiceForm host name max interval options contacts) fine = sets_nothing k _ _ j object (get_or_pad no_directives k.directives object) refl refl
  form_sets (EscalationForm host service first last interval options contacts) fine = sets_nothing k _ _ j object refl refl refl
  form_sets (OptionForm name value) fine = sets_nothing k _ _ j object refl refl refl
  form_sets (SettleForm seconds) fine = sets_nothing k _ _ j object refl refl refl
  form_sets (DelayForm host service seconds) fine = delay_sets host service seconds fine
  form_sets (VolatileForm host service) fine = volatile_sets host service fine
  form_sets NoForm fine = sets_nothing k _ _ j object refl refl refl
