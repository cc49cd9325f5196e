-- What it means that no cause holds of a form.
use Rattle.std.proofs.Common.{◌≡◌, ℕ, ◌<◌, Bool, true, false, ◌&&◌, ◌||◌, not, Option, Some, None, is_some, unwrap_or, List, length, if◌then◌else◌, refl, sym}
use Rattle.std.specs.Prelude.{is_none}
use Rattle.std.specs.List.{find}
use Rattle.mon_inventory.specs.declared.fault.Cause.{Cause}
use Rattle.mon_inventory.specs.declared.fault.Cause.TheVariants.{BadForm, BadNumber, BadOption, Duplicate, UnknownHost, UnknownService, UnknownContact, TooMany}
use Rattle.mon_inventory.specs.declared.records.ObjectSpec.{ObjectSpec}
use Rattle.mon_inventory.specs.Line.{Form, is_empty, has_bad_form, has_bad_number, has_bad_option}
use Rattle.mon_inventory.specs.Lookups.{host_of, service_at, service_by, service_of}
use Rattle.mon_inventory.specs.Configuration.{Configuration, is_duplicate, names_unknown_host, names_unknown_service, names_unknown_contact, is_too_many, has, causes, object_named}
use Rattle.mon_inventory.specs.Seen.{IsFine}
use Rattle.mon_inventory.proofs.Lookups.{host_found, service_found}

pub both : (a b : Bool) → (not a || not b) ≡ false → (a ≡ true) × (b ≡ true)
both true true e = (refl, refl)
both true false e = absurd (cc)
both false b e = absurd (cc)

pub all_three : (a b c : Bool) → (not a || not b || not c) ≡ false → (a ≡ true) × (b ≡ true) × (c ≡ true)
all_three true b c e = let r = both b c e in (refl, r.0, r.1)
all_three false b c e = absurd (cc)

pub is_absent : {A : Type 0} (o : Option A) → is_some o ≡ false → o ≡ None
is_absent None e = refl
is_absent (Some x) e = absurd (cc)

pub is_there : (o : Option ℕ) → is_none o ≡ false → o ≡ Some (unwrap_or o 0)
is_there None e = absurd (cc)
is_there (Some x) e = refl

-- a search that finds nothing found the first untrue, and nothing behind it
not_first : (t : Bool) (cause : Cause) (later : Option Cause) → (if t then Some cause else later) ≡ None → (t ≡ false) × (later ≡ None)
not_first true cause later e = absurd (cc)
not_first false cause later e = (refl, e)

pub no_cause : (k : Configuration) (f : Form) → find (has k f) causes ≡ None → IsFine k f
no_cause k f e =
    let a = not_first (has_bad_form f) BadForm _ e in
    let b = not_first (has_bad_number f) BadNumber _ a.1 in
    let c = not_first (has_bad_option f) BadOption _ b.1 in
    let d = not_first (is_duplicate k f) Duplicate _ c.1 in
    let g = not_first (names_unknown_host k f) UnknownHost _ d.1 in
    let h = not_first (names_unknown_service k f) UnknownService _ g.1 in
    let i = not_first (names_unknown_contact k f) UnknownContact _ h.1 in
    let j = not_first (is_too_many k f) TooMany _ i.1 in
    record { formed = a.0; numbered = b.0; lettered = c.0; new = d.0; host_known = g.0; service_known = h.0; contacts_known = i.0; few = j.0 }

-- ---- what it names is there

pub host_within : (os : List ObjectSpec) (name : List ℕ) → is_none (host_of os name) ≡ false → unwrap_or (host_of os name) 0 < length os
host_within os name e = (host_found os name (Some (unwrap_or (host_of os name) 0)) (sym (is_there (host_of os name) e))).within

service_within : (os : List ObjectSpec) (o : Option ℕ) (name : List ℕ) → is_none (service_by os o name) ≡ false → unwrap_or (service_by os o name) 0 < length os
service_within os None name e = absurd (cc)
service_within os (Some host) name e = (service_found os host name (Some (unwrap_or (service_at os host name) 0)) (sym (is_there (service_at os host name) e))).within

pub object_within : (k : Configuration) (host service : List ℕ) → is_none (host_of k.objects host) ≡ false → (not (is_empty service) && is_none (service_of k.objects host service)) ≡ false
    → object_named k host service < length k.objects
object_within k host service known known_too = by (is_empty service) known_too
  where
    by : (t : Bool) → (not t && is_none (service_of k.objects host service)) ≡ false → unwrap_or (if t then host_of k.objects host else service_of k.objects host service) 0 < length k.objects
    by true e = host_within k.objects host known
    by false e = service_within k.objects (host_of k.objects host) service e
