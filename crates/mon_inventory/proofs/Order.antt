-- Each record is what its line says, and lists only grow.
use Rattle.std.proofs.Common.{◌≡◌, ℕ, zero, suc, ◌+◌, ◌≤◌, length, Option, Some, None, Ok, List, [], ◌∷◌, ◌++◌, take, map, ◌||◌, inl, inr, refl, sym, ap, ◌∙◌, append_assoc, arith}
use Rattle.std.specs.List.{filter_map, cons_option, list_any}
use Rattle.std.proofs.Math.Bool.{or-false, or_assoc}
use Rattle.std.proofs.Math.ListN.{set, length-set}
use Rattle.std.proofs.lemmas.List.{append-nil}
use Rattle.cmd_types.specs.TextLines.{split_lines}
use Rattle.mon_inventory.specs.Lists.{IsBeginning}
use Rattle.mon_inventory.specs.Line.{Form, ContactForm, HostForm, ServiceForm, EscalationForm, OptionForm, SettleForm, DelayForm, VolatileForm, NoForm, form}
use Rattle.mon_inventory.specs.Configuration.{Configuration, nothing, directives_at, cause_of, with_form, with_line, inventory_of, inventory}
use Rattle.mon_inventory.specs.Seen.{IsFine}
use Rattle.mon_inventory.specs.Order.{contact_said, own_object, object_said, own_escalation, escalation_said, option_said, settle_said, delay_said, makes_volatile, AreInOrder, Extends, GrowsTo}
use Rattle.mon_inventory.specs.Facts.{IsInventory}
use Rattle.mon_inventory.proofs.Fine.{is_absent}
use Rattle.mon_inventory.proofs.Facts.{longer, line_sound, nothing_sound}
use Rattle.mon_inventory.proofs.Settings.{more, SetsForm, sets_nothing, form_sets}
use Rattle.mon_inventory.proofs.Lines.{read_from, read_fine, first_fine, lines_keep, fine_line}

-- ---- the lists only grow

grown : {X : Type 0} (xs : List X) (x : X) → IsBeginning xs (xs ++ x ∷ [])
grown xs x = record { rest = x ∷ []; whole = refl }

same_beginning : {X : Type 0} (xs : List X) → IsBeginning xs xs
same_beginning xs = record { rest = []; whole = sym (append-nil xs) }

beginning_of : {X : Type 0} (xs ys zs : List X) → IsBeginning xs ys → IsBeginning ys zs → IsBeginning xs zs
beginning_of xs ys zs a b = record { rest = a.rest ++ b.rest; whole = b.whole ∙ ap (λ t. t ++ b.rest) a.whole ∙ append_assoc xs a.rest b.rest }

as_many : {X : Type 0} (xs : List X) (i : ℕ) (x : X) → length xs ≤ length (set xs i x)
as_many xs i x = omega (arith, length-set xs i x)

extends_itself : (k : Configuration) → Extends k k
extends_itself k = record {
  contacts = same_beginning k.contacts;
  objects = same_beginning k.objects;
  escalations = same_beginning k.escalations;
  options = same_beginning k.options;
  directives = omega arith;
}

extends_more : (k j i : Configuration) → Extends k j → Extends j i → Extends k i
extends_more k j i a b = record {
  contacts = beginning_of k.contacts j.contacts i.contacts a.contacts b.contacts;
  objects = beginning_of k.objects j.objects i.objects a.objects b.objects;
  escalations = beginning_of k.escalations j.escalations i.escalations a.escalations b.escalations;
  options = beginning_of k.options j.options i.options a.options b.options;
  directives = let first = a.directives in let then = b.directives in omega arith;
}

form_extends : (k : Configuration) (f : Form) → IsFine k f → Extends k (with_form k f)
form_extends k (ContactForm name hosts services) fine = record { contacts = grown k.contacts _; objects = same_beginning k.objects; escalations = same_beginning k.escalations; options = same_beginning k.options; directives = omega arith }
form_extends k (HostForm name max interval options contacts) fine = record { contacts = same_beginning k.contacts; objects = grown k.objects _; escalations = same_beginning k.escalations; options = same_beginning k.options; directives = longer k.directives _ }
form_extends k (ServiceForm host name max interval options contacts) fine = record { contacts = same_beginning k.contacts; objects = grown k.objects _; escalations = same_beginning k.escalations; options = same_beginning k.options; directives = longer k.directives _ }
form_extends k (EscalationForm host service first last interval options contacts) fine = record { contacts = same_beginning k.contacts; objects = same_beginning k.objects; escalations = grown k.escalations _; options = same_beginning k.options; directives = omega arith }
form_extends k (OptionForm name value) fine = record { contacts = same_beginning k.contacts; objects = same_beginning k.objects; escalations = same_beginning k.escalations; options = grown k.options _; directives = omega arith }
form_extends k (SettleForm seconds) fine = record { contacts = same_beginning k.contacts; objects = same_beginning k.objects; escalations = same_beginning k.escalations; options = same_beginning k.options; directives = omega arith }
form_extends k (DelayForm host service seconds) fine = record { contacts = same_beginning k.contacts; objects = same_beginning k.objects; escalations = same_beginning k.escalations; options = same_beginning k.options; directives = as_many k.directives _ _ }
form_extends k (VolatileForm host service) fine = record { contacts = same_beginning k.contacts; objects = same_beginning k.objects; escalations = same_beginning k.escalations; options = same_beginning k.options; directives = as_many k.directives _ _ }
form_extends k NoForm fine = extends_itself k

line_extends : (k : Configuration) (line : List ℕ) → cause_of k line ≡ None → Extends k (with_line k line)
line_extends k line e =
    elim (fine_line k line e) [
      | inl empty ↦ rw empty (extends_itself k)
      | inr fine ↦ form_extends k (form line) fine
    ]

lines_extend : (n : ℕ) (k : Configuration) (lines : List (List ℕ)) (j : Configuration) → read_from n k lines ≡ Ok j → Extends k j
lines_extend n k lines j e = lines_keep (Extends k) (λ i line none h. extends_more k i (with_line i line) h (line_extends i line none)) n k lines j e (extends_itself k)

-- what the first lines made
FirstLines : ℕ → Configuration → List (List ℕ) → ℕ → Configuration → Type 0
FirstLines n k lines count j = (a : Configuration) × (read_from n k (take count lines) ≡ Ok a) × Extends a j

first_lines : (n : ℕ) (k : Configuration) (lines : List (List ℕ)) (j : Configuration) (count : ℕ) → read_from n k lines ≡ Ok j → FirstLines n k lines count j
unfolding FirstLines
first_lines n k lines j zero e = (k, refl, lines_extend n k lines j e)
first_lines n k [] j (suc count) e = (k, refl, lines_extend n k [] j e)
first_lines n k (line ∷ lines) j (suc count) e =
    let f = first_fine n k line lines j e in
    let r = first_lines (n + 1) (with_line k line) lines j count f.1 in
    (r.0, read_fine n k line (take count lines) f.0 ∙ r.1, r.2)

pub grows : (text : List ℕ) (k : Configuration) → inventory text ≡ Ok k → (count : ℕ) → GrowsTo (split_lines text) count k
unfolding inventory inventory_of FirstLines
grows text k e count = let f = first_lines 1 nothing (split_lines text) k count e in record { so_far = f.0; made = f.1; kept = f.2 }

-- ---- each record is what its line says

more_first : {X : Type 0} (xs : List X) (o : Option X) (ys : List X) → more xs o ++ ys ≡ xs ++ cons_option o ys
more_first xs None ys = refl
more_first xs (Some x) ys = append_assoc xs (x ∷ []) ys

-- a line adds what it says, and nothing else
record AddsForm (k : Configuration) (f : Form) (j : Configuration) : Type 0 where
  contacts : j.contacts ≡ more k.contacts (contact_said f)
  objects : map own_object j.objects ≡ more (map own_object k.objects) (object_said f)
  escalations : map own_escalation j.escalations ≡ more (map own_escalation k.escalations) (escalation_said f)
  options : j.options ≡ more k.options (option_said f)
  settle : cons_option j.settle [] ≡ more (cons_option k.settle []) (settle_said f)

map_push : {X Y : Type 0} (f : X → Y) (xs : List X) (x : X) → map f (xs ++ x ∷ []) ≡ map f xs ++ f x ∷ []
map_push f [] x = refl
map_push f (y ∷ xs) x = ap (λ t. f y ∷ t) (map_push f xs x)

form_adds : (k : Configuration) (f : Form) → IsFine k f → AddsForm k f (with_form k f)
form_adds k (ContactForm name hosts services) fine = record { contacts = refl; objects = refl; escalations = refl; options = refl; settle = refl }
form_adds k (HostForm name max interval options contacts) fine = record { contacts = refl; objects = map_push own_object k.objects _; escalations = refl; options = refl; settle = refl }
form_adds k (ServiceForm host name max interval options contacts) fine = record { contacts = refl; objects = map_push own_object k.objects _; escalations = refl; options = refl; settle = refl }
form_adds k (EscalationForm host service first last interval options contacts) fine = record { contacts = refl; objects = refl; escalations = map_push own_escalation k.escalations _; options = refl; settle = refl }
form_adds k (OptionForm name value) fine = record { contacts = refl; objects = refl; escalations = refl; options = refl; settle = refl }
form_adds k (SettleForm seconds) fine = record { contacts = refl; objects = refl; escalations = refl; options = refl; settle = rw (is_absent k.settle fine.new) refl }
form_adds k (DelayForm host service seconds) fine = record { contacts = refl; objects = refl; escalations = refl; options = refl; settle = refl }
form_adds k (VolatileForm host service) fine = record { contacts = refl; objects = refl; escalations = refl; options = refl; settle = refl }
form_adds k NoForm fine = record { contacts = refl; objects = refl; escalations = refl; options = refl; settle = refl }

line_adds : (k : Configuration) (line : List ℕ) → cause_of k line ≡ None → AddsForm k (form line) (with_line k line)
line_adds k line e =
    elim (fine_line k line e) [
      | inl empty ↦ rw empty (record { contacts = refl; objects = refl; escalations = refl; options = refl; settle = refl })
      | inr fine ↦ form_adds k (form line) fine
    ]

lines_adds : (n : ℕ) (k : Configuration) (lines : List (List ℕ)) (j : Configuration) → read_from n k lines ≡ Ok j
    → (j.contacts ≡ k.contacts ++ filter_map (λ line. contact_said (form line)) lines)
    × (map own_object j.objects ≡ map own_object k.objects ++ filter_map (λ line. object_said (form line)) lines)
    × (map own_escalation j.escalations ≡ map own_escalation k.escalations ++ filter_map (λ line. escalation_said (form line)) lines)
    × (j.options ≡ k.options ++ filter_map (λ line. option_said (form line)) lines)
    × (cons_option j.settle [] ≡ cons_option k.settle [] ++ filter_map (λ line. settle_said (form line)) lines)
lines_adds n k [] j e = let same : k ≡ j = cc in rw (← same) (sym (append-nil _), sym (append-nil _), sym (append-nil _), sym (append-nil _), sym (append-nil _))
lines_adds n k (line ∷ lines) j e =
    let f = first_fine n k line lines j e in
    let l = lines_adds (n + 1) (with_line k line) lines j f.1 in
    let d = line_adds k line f.0 in (
      l.0 ∙ ap (λ t. t ++ filter_map (λ line. contact_said (form line)) lines) d.contacts ∙ more_first k.contacts (contact_said (form line)) _,
      l.1 ∙ ap (λ t. t ++ filter_map (λ line. object_said (form line)) lines) d.objects ∙ more_first (map own_object k.objects) (object_said (form line)) _,
      l.2 ∙ ap (λ t. t ++ filter_map (λ line. escalation_said (form line)) lines) d.escalations ∙ more_first (map own_escalation k.escalations) (escalation_said (form line)) _,
      l.3 ∙ ap (λ t. t ++ filter_map (λ line. option_said (form line)) lines) d.options ∙ more_first k.options (option_said (form line)) _,
      l.4 ∙ ap (λ t. t ++ filter_map (λ line. settle_said (form line)) lines) d.settle ∙ more_first (cons_option k.settle []) (settle_said (form line)) _,
    )

-- ---- the directives are those of the lines

line_sets : (k j : Configuration) (line : List ℕ) (object : ℕ) → IsInventory k → cause_of k line ≡ None → IsBeginning k.objects j.objects → SetsForm k (form line) (with_line k line) j object
line_sets k j line object h e b =
    elim (fine_line k line e) [
      | inl empty ↦ rw empty (sets_nothing k _ _ j object refl refl refl)
      | inr fine ↦ form_sets k j object h b (form line) fine
    ]

lines_set : (n : ℕ) (k : Configuration) (lines : List (List ℕ)) (j : Configuration) (object : ℕ) → IsInventory k → read_from n k lines ≡ Ok j
    → (cons_option (directives_at j (Some object)).first_notification_delay [] ≡ cons_option (directives_at k (Some object)).first_notification_delay [] ++ filter_map (λ line. delay_said j object (form line)) lines)
    × ((directives_at j (Some object)).is_volatile ≡ ((directives_at k (Some object)).is_volatile || list_any (λ line. makes_volatile j object (form line)) lines))
lines_set n k [] j object h e = let same : k ≡ j = cc in rw (← same) (sym (append-nil _), sym (or-false _))
lines_set n k (line ∷ lines) j object h e =
    let f = first_fine n k line lines j e in
    let l = lines_set (n + 1) (with_line k line) lines j object (line_sound k line f.0 h) f.1 in
    let d = line_sets k j line object h f.0 (lines_extend n k (line ∷ lines) j e).objects in (
      l.0 ∙ ap (λ t. t ++ filter_map (λ line. delay_said j object (form line)) lines) d.delay ∙ more_first _ (delay_said j object (form line)) _,
      l.1 ∙ ap (λ t. t || list_any (λ line. makes_volatile j object (form line)) lines) d.volatile ∙ or_assoc _ (makes_volatile j object (form line)) _,
    )

pub in_order : (text : List ℕ) (k : Configuration) → inventory text ≡ Ok k → AreInOrder (split_lines text) k
unfolding inventory inventory_of
in_order text k e =
    let a = lines_adds 1 nothing (split_lines text) k e in
    record {
      contacts = a.0;
      objects = a.1;
      escalations = a.2;
      options = a.3;
      settle = a.4;
      delays = λ object. (lines_set 1 nothing (split_lines text) k object nothing_sound e).0;
      volatile = λ object. (lines_set 1 nothing (split_lines text) k object nothing_sound e).1;
    }
