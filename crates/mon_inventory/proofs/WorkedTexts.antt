-- What the definitions say of worked texts, computed: a line of each kind, each cause, and which of two causes is told.
use Rattle.std.proofs.Common.{◌≡◌, ℕ, true, false, Some, None, Ok, Err, codes, List, [], ◌∷◌, refl}
use Rattle.mon_inventory.specs.declared.fault.Cause.{Cause}
use Rattle.mon_inventory.specs.declared.fault.Cause.TheVariants.{BadForm, BadNumber, BadOption, Duplicate, UnknownHost, UnknownService, UnknownContact}
use Rattle.mon_inventory.specs.Texts.{items}
use Rattle.mon_inventory.specs.Lookups.{contact_of, host_of, service_at}
use Rattle.mon_inventory.specs.Configuration.{Configuration, inventory_of}

-- the lines have no fault and make this
abbrev Makes : List (List ℕ) → Configuration → Type 0
Makes lines k = inventory_of lines ≡ Ok k

-- the line of this number is the first with a fault, and this is its cause
abbrev Fails : List (List ℕ) → ℕ → Cause → Type 0
Fails lines number cause = inventory_of lines ≡ Err (number, cause)

each_kind : Makes
    (codes "contact;ann;d,u,r,s;w,u,c,r,s" ∷ codes "contact;bob;d,r;c,r" ∷ codes "host;web;3;1800;d,u,r,s;ann" ∷ codes "service;web;http;3;600;w,u,c,r,s;bob,ann,bob"
    ∷ codes "escalation;web;http;2;0;300;c,r;bob" ∷ codes "option;passive_host_checks_are_soft;1"
    ∷ codes "delay;web;http;300" ∷ codes "volatile;web;http" ∷ codes "settle;60" ∷ codes "delay;web;;30" ∷ [])
    (record {
      contacts = record { name = codes "ann"; host_letters = record { w = false; u = true; c = false; d = true; r = true; s = true }; service_letters = record { w = true; u = true; c = true; d = false; r = true; s = true } }
          ∷ record { name = codes "bob"; host_letters = record { w = false; u = false; c = false; d = true; r = true; s = false }; service_letters = record { w = false; u = false; c = true; d = false; r = true; s = false } } ∷ [];
      objects = record { host = codes "web"; service = None; host_object = 0; max = 3; interval = 1800; letters = record { w = false; u = true; c = false; d = true; r = true; s = true }; contacts = 0 ∷ [] }
          ∷ record { host = codes "web"; service = Some (codes "http"); host_object = 0; max = 3; interval = 600; letters = record { w = true; u = true; c = true; d = false; r = true; s = true }; contacts = 1 ∷ 0 ∷ [] } ∷ [];
      escalations = record { object = 1; first = 2; last = 0; interval = 300; letters = record { w = false; u = false; c = true; d = false; r = true; s = false }; contacts = 1 ∷ [] } ∷ [];
      options = record { name = codes "passive_host_checks_are_soft"; on = true } ∷ [];
      directives = record { first_notification_delay = Some 30; is_volatile = false } ∷ record { first_notification_delay = Some 300; is_volatile = true } ∷ [];
      settle = Some 60;
    })
unfolding inventory_of items contact_of host_of service_at
each_kind = refl

-- ---- each cause

a_field_is_missing : Fails (codes "host;web;3;1800;d" ∷ []) 1 BadForm
unfolding inventory_of
a_field_is_missing = refl

a_name_is_empty : Fails (codes "contact;ann;;" ∷ codes "service;web;;1;0;;" ∷ []) 2 BadForm
unfolding inventory_of items contact_of
a_name_is_empty = refl

no_attempt : Fails (codes "host;web;0;1800;;" ∷ []) 1 BadNumber
unfolding inventory_of items
no_attempt = refl

no_such_letter : Fails (codes "host;web;3;1800;w;" ∷ []) 1 BadOption
unfolding inventory_of items
no_such_letter = refl

twice : Fails (codes "contact;ann;;" ∷ [] ∷ codes "contact;ann;;" ∷ []) 3 Duplicate
unfolding inventory_of items contact_of
twice = refl

no_such_host : Fails (codes "service;web;http;3;600;;" ∷ []) 1 UnknownHost
unfolding inventory_of items host_of
no_such_host = refl

no_such_service : Fails (codes "host;web;3;1800;;" ∷ codes "escalation;web;http;1;0;0;;" ∷ []) 2 UnknownService
unfolding inventory_of items host_of service_at
no_such_service = refl

no_such_contact : Fails (codes "host;web;3;1800;;zed" ∷ []) 1 UnknownContact
unfolding inventory_of items contact_of host_of
no_such_contact = refl

no_service_is_volatile : Fails (codes "host;web;1;0;;" ∷ codes "volatile;web;" ∷ []) 2 BadForm
unfolding inventory_of items contact_of host_of
no_service_is_volatile = refl

no_delay : Fails (codes "delay;web;;0" ∷ []) 1 BadNumber
unfolding inventory_of items
no_delay = refl

settled_twice : Fails (codes "settle;60" ∷ codes "settle;60" ∷ []) 2 Duplicate
unfolding inventory_of items
settled_twice = refl

delayed_twice : Fails (codes "host;web;1;0;;" ∷ codes "delay;web;;30" ∷ codes "delay;web;;60" ∷ []) 3 Duplicate
unfolding inventory_of items contact_of host_of
delayed_twice = refl

no_such_host_is_delayed : Fails (codes "delay;web;http;30" ∷ []) 1 UnknownHost
unfolding inventory_of items host_of
no_such_host_is_delayed = refl

no_such_service_is_volatile : Fails (codes "host;web;1;0;;" ∷ codes "volatile;web;http" ∷ []) 2 UnknownService
unfolding inventory_of items contact_of host_of service_at
no_such_service_is_volatile = refl

-- ---- which of two is told

form_before_number : Fails (codes "host;web;x;0;d,;" ∷ []) 1 BadForm
unfolding inventory_of items
form_before_number = refl

number_before_option : Fails (codes "host;web;1;-1;w;" ∷ []) 1 BadNumber
unfolding inventory_of items
number_before_option = refl

option_before_duplicate : Fails (codes "host;web;1;0;;" ∷ codes "host;web;1;0;w;" ∷ []) 2 BadOption
unfolding inventory_of items contact_of host_of
option_before_duplicate = refl

duplicate_before_contact : Fails (codes "host;web;1;0;;" ∷ codes "host;web;1;0;;zed" ∷ []) 2 Duplicate
unfolding inventory_of items contact_of host_of
duplicate_before_contact = refl

host_before_contact : Fails (codes "escalation;web;;1;0;0;;zed" ∷ []) 1 UnknownHost
unfolding inventory_of items host_of
host_before_contact = refl

service_before_contact : Fails (codes "host;web;1;0;;" ∷ codes "escalation;web;http;1;0;0;;zed" ∷ []) 2 UnknownService
unfolding inventory_of items contact_of host_of service_at
service_before_contact = refl

first_line_before_first_cause : Fails (codes "host;web;0;0;;" ∷ codes "nope" ∷ []) 1 BadNumber
unfolding inventory_of items
first_line_before_first_cause = refl
