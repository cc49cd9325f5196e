-- What holds of nothing and stays so, line by line.
use Rattle.std.proofs.Common.{◌≡◌, ℕ, ◌<◌, ◌≤◌, ◌&&◌, not, Bool, true, false, Option, Some, None, IfSome, Ok, List, [], ◌∷◌, ◌++◌, length, leb, ltb, slice_get, inl, inr, refl, sym, ap, ◌∙◌, arith, length-append, unwrap_or}
use Rattle.std.specs.Prelude.{All}
use Rattle.std.proofs.Math.ListN.{set, length-set}
use Rattle.std.specs.Str.{all_ascii_digits}
use Rattle.std.specs.Str.Parse.{digits_value}
use Rattle.std.proofs.lemmas.Bool.{leb-false, leb-true, and_parts}
use Rattle.std.proofs.lemmas.Option.{same_Some}
use Rattle.std.proofs.lemmas.List.Elements.{All-nil, All-push, All-set, All-get_or, All-weaker}
use Rattle.cmd_types.specs.TextLines.{split_lines}
use Rattle.cmd_types.specs.Digits.{is_number}
use Rattle.cmd_types.specs.declared.limits.TheConstants.{MOST_DIGITS, GREATEST_NUMBER}
use Rattle.mon_inventory.specs.declared.records.ContactSpec.{ContactSpec}
use Rattle.mon_inventory.specs.declared.records.ObjectSpec.{ObjectSpec}
use Rattle.mon_inventory.specs.declared.records.Escalation.{Escalation}
use Rattle.mon_inventory.specs.declared.records.OptionSpec.{OptionSpec}
use Rattle.mon_inventory.specs.declared.records.Directives.{Directives}
use Rattle.mon_inventory.specs.declared.limits.TheConstants.{MOST_CONTACTS, MOST_OBJECTS, MOST_ESCALATIONS}
use Rattle.mon_inventory.specs.Lists.{StandsAt}
use Rattle.mon_inventory.specs.Line.{Form, ContactForm, HostForm, ServiceForm, EscalationForm, OptionForm, SettleForm, DelayForm, VolatileForm, NoForm, form, value_of, is_positive, is_option}
use Rattle.mon_inventory.specs.Lookups.{IsContactNamed, IsHostNamed, IsServiceNamed, IsOptionNamed, contact_of, host_of, service_at, service_by, service_of}
use Rattle.mon_inventory.specs.Configuration.{Configuration, nothing, cause_of, with_form, with_line, contact_made, host_made, service_made, escalation_made, option_made, said_of, with_object, with_option, object_named, no_directives, inventory_of, inventory}
use Rattle.mon_inventory.specs.Seen.{IsFine}
use Rattle.mon_inventory.specs.Facts.{AreContacts, IsObject, IsEscalation, AreSeconds, AreDirectives, IsInventory}
use Rattle.mon_inventory.proofs.Standing.{stands, stands_weaker, stands_push, stands_last, slice_get-push_cases, AtMostOne-nil, AtMostOne-push}
use Rattle.mon_inventory.proofs.Lookups.{IsServiceAt, host_found, service_found, contact_not_found, host_not_found, service_not_found}
use Rattle.mon_inventory.proofs.Said.{option_not_found}
use Rattle.mon_inventory.proofs.Fine.{both, all_three, is_absent, is_there, object_within}
use Rattle.mon_inventory.proofs.Contacts.{contacts_stand}
use Rattle.mon_inventory.proofs.Indexed.{as_many_push}
use Rattle.mon_inventory.proofs.Lines.{lines_keep, fine_line}

-- ---- numbers

number_small : (text : List ℕ) → is_number text ≡ true → value_of text ≤ GREATEST_NUMBER
number_small text e =
    let small = leb (digits_value 10 text) GREATEST_NUMBER in
    let some = and_parts (ltb 0 (length text)) (leb (length text) MOST_DIGITS && (all_ascii_digits text && small)) e in
    let few = and_parts (leb (length text) MOST_DIGITS) (all_ascii_digits text && small) some.1 in
    leb-true _ _ (and_parts (all_ascii_digits text) small few.1).1

in_range : (text : List ℕ) → is_positive text ≡ true → (1 ≤ value_of text) × (value_of text ≤ GREATEST_NUMBER)
in_range text e = let parts = and_parts (is_number text) (leb 1 (value_of text)) e in (leb-true 1 (value_of text) parts.1, number_small text parts.0)

-- ---- lists of contacts

more_contacts : (n m : ℕ) (xs : List ℕ) → n ≤ m → AreContacts n xs → AreContacts m xs
more_contacts n m xs le h = record { within = All-weaker (λ x. x < n) (λ x. x < m) (λ x lt. omega arith) xs h.within; once = h.once }

pub longer : {X : Type 0} (xs : List X) (x : X) → length xs ≤ length (xs ++ x ∷ [])
longer xs x = omega (arith, length-append xs (x ∷ []))

few_more : {X : Type 0} (xs : List X) (x : X) (m : ℕ) → length xs < m → length (xs ++ x ∷ []) ≤ m
few_more xs x m lt = omega (arith, length-append xs (x ∷ []))

-- ---- one more of each

contact_sound : (k : Configuration) (c : ContactSpec) → IsInventory k → contact_of k.contacts c.name ≡ None → length k.contacts < MOST_CONTACTS → IsInventory (record k { contacts = k.contacts ++ c ∷ [] })
contact_sound k c h new few = record {
  few_contacts = few_more k.contacts c MOST_CONTACTS few;
  few_objects = h.few_objects;
  few_escalations = h.few_escalations;
  contacts_once = λ name. AtMostOne-push (IsContactNamed name) k.contacts c (h.contacts_once name) (λ same. rw (← same) (contact_not_found k.contacts c.name new));
  hosts_once = h.hosts_once;
  services_once = h.services_once;
  options_once = h.options_once;
  options_known = h.options_known;
  objects = λ n o e. let g = h.objects n o e in record {
    max_least = g.max_least;
    max_small = g.max_small;
    interval_small = g.interval_small;
    host_stands = g.host_stands;
    own_host = g.own_host;
    contacts_stand = more_contacts _ _ o.contacts (longer k.contacts c) g.contacts_stand;
  };
  escalations = All-weaker (IsEscalation (length k.contacts) (length k.objects)) (IsEscalation (length (k.contacts ++ c ∷ [])) (length k.objects)) (λ e g. record {
    object_stands = g.object_stands;
    first_small = g.first_small;
    last_small = g.last_small;
    interval_small = g.interval_small;
    contacts_stand = more_contacts _ _ e.contacts (longer k.contacts c) g.contacts_stand;
  }) k.escalations h.escalations;
  directives_many = h.directives_many;
  directives = h.directives;
  settle = h.settle;
}

object_sound : (k : Configuration) (o : ObjectSpec) → IsInventory k → length k.objects < MOST_OBJECTS → IsObject (length k.contacts) (k.objects ++ o ∷ []) (length k.objects) o
    → ((name : List ℕ) → IsHostNamed name o → (n : ℕ) → StandsAt (IsHostNamed name) k.objects n → ⊥)
    → ((host name : List ℕ) → IsServiceNamed host name o → (n : ℕ) → StandsAt (IsServiceNamed host name) k.objects n → ⊥)
    → IsInventory (with_object k o)
object_sound k o h few is new_host new_service = record {
  few_contacts = h.few_contacts;
  few_objects = few_more k.objects o MOST_OBJECTS few;
  few_escalations = h.few_escalations;
  contacts_once = h.contacts_once;
  hosts_once = λ name. AtMostOne-push (IsHostNamed name) k.objects o (h.hosts_once name) (new_host name);
  services_once = λ host name. AtMostOne-push (IsServiceNamed host name) k.objects o (h.services_once host name) (new_service host name);
  options_once = h.options_once;
  options_known = h.options_known;
  objects = λ n p e. elim (slice_get-push_cases k.objects o n p e) [
    | inl old ↦ (let g = h.objects n p old in record {
      max_least = g.max_least;
      max_small = g.max_small;
      interval_small = g.interval_small;
      own_host = g.own_host;
      contacts_stand = g.contacts_stand;
      host_stands = stands_push (IsHostNamed p.host) k.objects o p.host_object g.host_stands;
    })
    | inr last ↦ rw (last.0, ← last.1) is
  ];
  escalations = All-weaker (IsEscalation (length k.contacts) (length k.objects)) (IsEscalation (length k.contacts) (length (k.objects ++ o ∷ []))) (λ e g. record {
    first_small = g.first_small;
    last_small = g.last_small;
    interval_small = g.interval_small;
    contacts_stand = g.contacts_stand;
    object_stands = let more = longer k.objects o in let lt = g.object_stands in omega arith;
  }) k.escalations h.escalations;
  directives_many = as_many_push k.directives _ k.objects _ no_directives o h.directives_many refl refl;
  directives = All-push AreDirectives k.directives no_directives h.directives tt;
  settle = h.settle;
}

escalation_sound : (k : Configuration) (e : Escalation) → IsInventory k → length k.escalations < MOST_ESCALATIONS → IsEscalation (length k.contacts) (length k.objects) e → IsInventory (record k { escalations = k.escalations ++ e ∷ [] })
escalation_sound k e h few is = record {
  few_contacts = h.few_contacts;
  few_objects = h.few_objects;
  few_escalations = few_more k.escalations e MOST_ESCALATIONS few;
  contacts_once = h.contacts_once;
  hosts_once = h.hosts_once;
  services_once = h.services_once;
  options_once = h.options_once;
  options_known = h.options_known;
  objects = h.objects;
  escalations = All-push (IsEscalation (length k.contacts) (length k.objects)) k.escalations e h.escalations is;
  directives_many = h.directives_many;
  directives = h.directives;
  settle = h.settle;
}

abbrev IsOption : OptionSpec → Type 0
IsOption o = is_option o.name ≡ true

option_sound : (k : Configuration) (o : OptionSpec) → IsInventory k → IsOption o → said_of k.options o.name ≡ None → IsInventory (with_option k o)
option_sound k o h known new = record {
  few_contacts = h.few_contacts;
  few_objects = h.few_objects;
  few_escalations = h.few_escalations;
  contacts_once = h.contacts_once;
  hosts_once = h.hosts_once;
  services_once = h.services_once;
  options_once = λ name. AtMostOne-push (IsOptionNamed name) k.options o (h.options_once name) (λ same. rw (← same) (option_not_found k.options o.name new));
  options_known = All-push IsOption k.options o h.options_known known;
  objects = h.objects;
  escalations = h.escalations;
  directives_many = h.directives_many;
  directives = h.directives;
  settle = h.settle;
}

-- other directives and other seconds to settle alone
settings_sound : (k : Configuration) (ds : List Directives) (s : Option ℕ) → IsInventory k → length ds ≡ length k.directives → All AreDirectives ds → AreSeconds s → IsInventory (record k { directives = ds; settle = s })
settings_sound k ds s h many each settle = record {
  few_contacts = h.few_contacts;
  few_objects = h.few_objects;
  few_escalations = h.few_escalations;
  contacts_once = h.contacts_once;
  hosts_once = h.hosts_once;
  services_once = h.services_once;
  options_once = h.options_once;
  options_known = h.options_known;
  objects = h.objects;
  escalations = h.escalations;
  directives_many = many ∙ h.directives_many;
  directives = each;
  settle = settle;
}

-- the directives of an object that is there are others
directive_sound : (k : Configuration) (object : ℕ) (d : Directives) → IsInventory k → AreDirectives d → IsInventory (record k { directives = set k.directives object d })
directive_sound k object d h is = settings_sound k (set k.directives object d) k.settle h (length-set k.directives object d) (All-set AreDirectives k.directives object d is h.directives) h.settle

-- ---- what a line adds

not_not : (b : Bool) → not b ≡ false → b ≡ true
not_not true e = refl
not_not false e = absurd (cc)

some≢none : {A : Type 0} (x : A) → Some x ≡ None → ⊥
some≢none x e = cc

-- a service of that name is a service of that host's index
at_host : (k : Configuration) (host name : List ℕ) (h n : ℕ) → IsInventory k → StandsAt (IsHostNamed host) k.objects h → StandsAt (IsServiceNamed host name) k.objects n → StandsAt (IsServiceAt h name) k.objects n
at_host k host name h n sound here s =
    let o = s.element in
    let its = (sound.objects n o s.is).host_stands in
    let its' = rw s.holds.1 at its in
    stands (IsServiceAt h name) k.objects n o s.is (s.holds.0, sound.hosts_once host o.host_object h its' here)

host_sound : (k : Configuration) (name max interval options contacts : List ℕ) → IsInventory k → IsFine k (HostForm name max interval options contacts)
    → IsInventory (with_form k (HostForm name max interval options contacts))
host_sound k name max interval options contacts h fine =
    let numbers = both (is_positive max) (is_number interval) fine.numbered in
    let range = in_range max numbers.0 in
    object_sound k (host_made k name max interval options contacts) h (leb-false MOST_OBJECTS _ fine.few) (record {
      max_least = range.0;
      max_small = range.1;
      interval_small = number_small interval numbers.1;
      host_stands = stands_last (IsHostNamed name) k.objects _ (refl, refl);
      own_host = λ _. refl;
      contacts_stand = contacts_stand k contacts;
    }) (λ q same. rw (← same.1) (host_not_found k.objects name (is_absent _ fine.new))) (λ host q same. absurd (some≢none q (sym same.0)))

service_sound : (k : Configuration) (host name max interval options contacts : List ℕ) → IsInventory k → IsFine k (ServiceForm host name max interval options contacts)
    → IsInventory (with_form k (ServiceForm host name max interval options contacts))
service_sound k host name max interval options contacts h fine =
    let numbers = both (is_positive max) (is_number interval) fine.numbered in
    let range = in_range max numbers.0 in
    let host_object = unwrap_or (host_of k.objects host) 0 in
    let known = is_there (host_of k.objects host) fine.host_known in
    let here = host_found k.objects host (Some host_object) (sym known) in
    let new : service_at k.objects host_object name ≡ None = sym (ap (λ o. service_by k.objects o name) known) ∙ is_absent _ fine.new in
    object_sound k (service_made k host name max interval options contacts) h (leb-false MOST_OBJECTS _ fine.few) (record {
      max_least = range.0;
      max_small = range.1;
      interval_small = number_small interval numbers.1;
      host_stands = stands_push (IsHostNamed host) k.objects _ host_object here;
      own_host = λ e. absurd (some≢none name e);
      contacts_stand = contacts_stand k contacts;
    }) (λ q same. absurd (some≢none name same.0))
    (λ g q same n s. service_not_found k.objects host_object name new n (at_host k host name host_object n h here (rw (same_Some name q same.0, same.1) s)))

form_sound : (k : Configuration) (f : Form) → IsInventory k → IsFine k f → IsInventory (with_form k f)
form_sound k (ContactForm name hosts services) h fine = contact_sound k (contact_made name hosts services) h (is_absent _ fine.new) (leb-false MOST_CONTACTS _ fine.few)
form_sound k (HostForm name max interval options contacts) h fine = host_sound k name max interval options contacts h fine
form_sound k (ServiceForm host name max interval options contacts) h fine = service_sound k host name max interval options contacts h fine
form_sound k (EscalationForm host service first last interval options contacts) h fine =
    let numbers = all_three (is_number first) (is_number last) (is_number interval) fine.numbered in
    escalation_sound k (escalation_made k host service first last interval options contacts) h (leb-false MOST_ESCALATIONS _ fine.few) (record {
      object_stands = object_within k host service fine.host_known fine.service_known;
      first_small = number_small first numbers.0;
      last_small = number_small last numbers.1;
      interval_small = number_small interval numbers.2;
      contacts_stand = contacts_stand k contacts;
    })
form_sound k (OptionForm name value) h fine = option_sound k (option_made name value) h (not_not (is_option name) fine.formed) (is_absent _ fine.new)
form_sound k (SettleForm seconds) h fine = settings_sound k k.directives (Some (value_of seconds)) h refl h.directives (in_range seconds (not_not (is_positive seconds) fine.numbered))
form_sound k (DelayForm host service seconds) h fine = directive_sound k (object_named k host service) _ h (in_range seconds (not_not (is_positive seconds) fine.numbered))
form_sound k (VolatileForm host service) h fine =
    let object = object_named k host service in
    let within = object_within k host service fine.host_known fine.service_known in
    directive_sound k object _ h (All-get_or AreDirectives k.directives object no_directives (let many = h.directives_many in omega arith) h.directives)
form_sound k NoForm h fine = h

pub line_sound : (k : Configuration) (line : List ℕ) → cause_of k line ≡ None → IsInventory k → IsInventory (with_line k line)
line_sound k line e h =
    elim (fine_line k line e) [
      | inl empty ↦ rw empty h
      | inr fine ↦ form_sound k (form line) h fine
    ]

pub nothing_sound : IsInventory nothing
nothing_sound = record {
  few_contacts = omega arith;
  few_objects = omega arith;
  few_escalations = omega arith;
  contacts_once = λ name. AtMostOne-nil (IsContactNamed name);
  hosts_once = λ name. AtMostOne-nil (IsHostNamed name);
  services_once = λ host name. AtMostOne-nil (IsServiceNamed host name);
  options_once = λ name. AtMostOne-nil (IsOptionNamed name);
  options_known = All-nil IsOption;
  objects = λ n o e. absurd (cc);
  escalations = All-nil (IsEscalation 0 0);
  directives_many = refl;
  directives = All-nil AreDirectives;
  settle = tt;
}

pub sound : (text : List ℕ) (k : Configuration) → inventory text ≡ Ok k → IsInventory k
unfolding inventory inventory_of
sound text k e = lines_keep IsInventory line_sound 1 nothing (split_lines text) k e nothing_sound

-- ---- a service by its names

same_host : (os : List ObjectSpec) (a b : List ℕ) (n m : ℕ) → StandsAt (IsHostNamed a) os n → StandsAt (IsHostNamed b) os m → n ≡ m → a ≡ b
same_host os a b n m s t same =
    let one = same_Some s.element t.element (sym s.is ∙ ap (slice_get os) same ∙ t.is) in
    sym s.holds.1 ∙ ap (λ o. o.host) one ∙ t.holds.1

-- a service of the host of that name
abbrev pub IsFound : List ObjectSpec → List ℕ → List ℕ → ObjectSpec → Type 0
IsFound objects host name o = IsServiceNamed host name o × (host_of objects host ≡ Some o.host_object)

service_by_stands : (k : Configuration) (host name : List ℕ) (n : ℕ) → IsInventory k → (g : Option ℕ) → g ≡ host_of k.objects host → service_by k.objects g name ≡ Some n → StandsAt (IsFound k.objects host name) k.objects n
service_by_stands k host name n h None is e = absurd (cc)
service_by_stands k host name n h (Some g) is e =
    let s = service_found k.objects g name (Some n) (sym e) in
    let its = (h.objects n s.element s.is).host_stands in
    let same = same_host k.objects s.element.host host s.element.host_object g its (host_found k.objects host (Some g) is) s.holds.1 in
    stands (IsFound k.objects host name) k.objects n s.element s.is ((s.holds.0, same), sym is ∙ ap Some (sym s.holds.1))

pub service_stands : (k : Configuration) (host name : List ℕ) (o : Option ℕ) → IsInventory k → o ≡ service_of k.objects host name → IfSome o (StandsAt (IsFound k.objects host name) k.objects)
service_stands k host name None h e = tt
service_stands k host name (Some n) h e = service_by_stands k host name n h (host_of k.objects host) refl (sym e)

pub if_stands_weaker : {X : Type 0} (P Q : X → Type 0) (xs : List X) (o : Option ℕ) → ((x : X) → P x → Q x) → IfSome o (StandsAt P xs) → IfSome o (StandsAt Q xs)
if_stands_weaker P Q xs None f h = tt
if_stands_weaker P Q xs (Some n) f h = stands_weaker P Q xs n f h

-- ---- what stands under its names is found

pub host_is : (k : Configuration) (name : List ℕ) (n : ℕ) → IsInventory k → StandsAt (IsHostNamed name) k.objects n → host_of k.objects name ≡ Some n
host_is k name n h s = by (host_of k.objects name) refl
  where
    by : (o : Option ℕ) → o ≡ host_of k.objects name → o ≡ Some n
    by None e = absurd (host_not_found k.objects name (sym e) n s)
    by (Some m) e = ap Some (h.hosts_once name m n (host_found k.objects name (Some m) e) s)

pub service_is : (k : Configuration) (host name : List ℕ) (n : ℕ) → IsInventory k → StandsAt (IsServiceNamed host name) k.objects n → service_of k.objects host name ≡ Some n
service_is k host name n h s = rw (host_is k host s.element.host_object h here) (by (service_at k.objects s.element.host_object name) refl)
  where
    here : StandsAt (IsHostNamed host) k.objects s.element.host_object
    here = rw s.holds.1 at (h.objects n s.element s.is).host_stands

    its : StandsAt (IsServiceAt s.element.host_object name) k.objects n
    its = at_host k host name s.element.host_object n h here s

    by : (o : Option ℕ) → o ≡ service_at k.objects s.element.host_object name → o ≡ Some n
    by None e = absurd (service_not_found k.objects s.element.host_object name (sym e) n its)
    by (Some m) e =
        let found = service_stands k host name (Some m) h (rw (host_is k host s.element.host_object h here) e) in
        ap Some (h.services_once host name m n (stands (IsServiceNamed host name) k.objects m found.element found.is found.holds.0) s)
