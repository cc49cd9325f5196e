-- What is found at the places of an object's escalations is what all escalations that match give.
use Rattle.std.proofs.Common.{◌≡◌, ℕ, Bool, true, false, ◌==◌, ◌&&◌, ◌||◌, cond, if◌then◌else◌, nat_lt, Option, Some, None, List, [], ◌∷◌, ◌++◌, length, map, slice_get, arith, refl, sym, ap, ◌∙◌}
use Rattle.std.specs.List.{list_any, filter, filter_map, fold, cons_option}
use Rattle.std.proofs.lemmas.Bool.{lt-ltb}
use Rattle.std.proofs.lemmas.List.Folds.{list_any-append}
use Rattle.mon_inventory.specs.declared.records.Escalation.{Escalation}
use Rattle.mon_inventory.specs.Lookups.{is_escalation_of}
use Rattle.mon_inventory.specs.Configuration.{Configuration}
use Rattle.mon_notify.specs.declared.letter.Letter.{Letter}
use Rattle.mon_notify.specs.Escalations.{is_in_force, matching, contacts_of, has_contact}
use Rattle.mon_notify.specs.Custom.{all_escalations}
use Rattle.mon_notify.specs.Interval.{lesser, least_of}
use Rattle.mon_notify.specs.Places.{passes, lesser_at}

-- ---- at places

pub any_at : {X : Type 0} (p : X → Bool) (xs : List X) (ns : List ℕ) → list_any (λ n. passes p (slice_get xs n)) ns ≡ list_any p (filter_map (slice_get xs) ns)
any_at p xs [] = refl
any_at {X} p xs (n ∷ ns) = by (slice_get xs n) (any_at p xs ns)
  where
    by : (o : Option X) → list_any (λ m. passes p (slice_get xs m)) ns ≡ list_any p (filter_map (slice_get xs) ns)
        → (passes p o || list_any (λ m. passes p (slice_get xs m)) ns) ≡ list_any p (cons_option o (filter_map (slice_get xs) ns))
    by None h = h
    by (Some x) h = ap (λ b. p x || b) h

least_at : (number : ℕ) (letter : Letter) (es : List Escalation) (m : Option ℕ) (ns : List ℕ)
    → fold (λ least n. lesser_at number letter least (slice_get es n)) m ns ≡ fold (λ least e. lesser_at number letter least (Some e)) m (filter_map (slice_get es) ns)
least_at number letter es m [] = refl
least_at number letter es m (n ∷ ns) = by (slice_get es n) (λ l. least_at number letter es l ns)
  where
    by : (o : Option Escalation)
        → ((l : Option ℕ) → fold (λ least k. lesser_at number letter least (slice_get es k)) l ns ≡ fold (λ least e. lesser_at number letter least (Some e)) l (filter_map (slice_get es) ns))
        → fold (λ least k. lesser_at number letter least (slice_get es k)) (lesser_at number letter m o) ns ≡ fold (λ least e. lesser_at number letter least (Some e)) m (cons_option o (filter_map (slice_get es) ns))
    by None h = h m
    by (Some e) h = h (lesser_at number letter m (Some e))

-- ---- of those that pass

filter_filter : {X : Type 0} (p q : X → Bool) (xs : List X) → filter p (filter q xs) ≡ filter (λ x. q x && p x) xs
filter_filter p q [] = refl
filter_filter p q (x ∷ xs) = by (q x) (filter_filter p q xs)
  where
    by : (b : Bool) → filter p (filter q xs) ≡ filter (λ y. q y && p y) xs
        → filter p (cond b (x ∷ filter q xs) (filter q xs)) ≡ cond (b && p x) (x ∷ filter (λ y. q y && p y) xs) (filter (λ y. q y && p y) xs)
    by true h = ap (λ ys. cond (p x) (x ∷ ys) ys) h
    by false h = h

any_kept : {X : Type 0} (p : X → Bool) (xs : List X) → list_any p xs ≡ nat_lt 0 (length (filter p xs))
any_kept p [] = refl
any_kept p (x ∷ xs) = by (p x) (any_kept p xs)
  where
    by : (b : Bool) → list_any p xs ≡ nat_lt 0 (length (filter p xs)) → (b || list_any p xs) ≡ nat_lt 0 (length (cond b (x ∷ filter p xs) (filter p xs)))
    by true h = sym (lt-ltb 0 (length (x ∷ filter p xs)) (omega arith))
    by false h = h

pub contact_kept : (p : Escalation → Bool) (c : ℕ) (es : List Escalation) → list_any (λ e. p e && has_contact c e.contacts) es ≡ has_contact c (contacts_of (filter p es))
contact_kept p c [] = refl
contact_kept p c (e ∷ es) = by (p e) (contact_kept p c es)
  where
    by : (b : Bool) → list_any (λ d. p d && has_contact c d.contacts) es ≡ has_contact c (contacts_of (filter p es))
        → ((b && has_contact c e.contacts) || list_any (λ d. p d && has_contact c d.contacts) es) ≡ has_contact c (contacts_of (cond b (e ∷ filter p es) (filter p es)))
    by true h = ap (λ b. has_contact c e.contacts || b) h ∙ sym (list_any-append (λ n. n == c) e.contacts (contacts_of (filter p es)))
    by false h = h

least_kept : (number : ℕ) (letter : Letter) (m : Option ℕ) (es : List Escalation)
    → fold (λ least e. lesser_at number letter least (Some e)) m es ≡ fold lesser m (map (λ e. e.interval) (filter (is_in_force number letter) es))
least_kept number letter m [] = refl
least_kept number letter m (e ∷ es) = by (is_in_force number letter e) (λ l. least_kept number letter l es)
  where
    by : (b : Bool)
        → ((l : Option ℕ) → fold (λ least d. lesser_at number letter least (Some d)) l es ≡ fold lesser l (map (λ d. d.interval) (filter (is_in_force number letter) es)))
        → fold (λ least d. lesser_at number letter least (Some d)) (if b then lesser m e.interval else m) es ≡ fold lesser m (map (λ d. d.interval) (cond b (e ∷ filter (is_in_force number letter) es) (filter (is_in_force number letter) es)))
    by true h = h (lesser m e.interval)
    by false h = h m

-- ---- of the object

all_matching : (k : Configuration) (object number : ℕ) (letter : Letter) → filter (is_in_force number letter) (filter (is_escalation_of object) k.escalations) ≡ matching k object number letter
unfolding matching
all_matching k object number letter = filter_filter (is_in_force number letter) (is_escalation_of object) k.escalations

pub any_matching : (k : Configuration) (object number : ℕ) (letter : Letter)
    → list_any (is_in_force number letter) (all_escalations k object) ≡ nat_lt 0 (length (matching k object number letter))
any_matching k object number letter =
    any_kept (is_in_force number letter) (all_escalations k object)
    ∙ ap (λ (es : List Escalation). nat_lt 0 (length es)) (all_matching k object number letter)

pub contact_matching : (k : Configuration) (object number : ℕ) (letter : Letter) (contact : ℕ)
    → has_contact contact (contacts_of (filter (is_in_force number letter) (all_escalations k object))) ≡ has_contact contact (contacts_of (matching k object number letter))
contact_matching k object number letter contact = ap (λ es. has_contact contact (contacts_of es)) (all_matching k object number letter)

pub contact_broadcast : (k : Configuration) (object contact : ℕ) (own : List ℕ)
    → (has_contact contact own || has_contact contact (contacts_of (filter (λ _. true) (all_escalations k object)))) ≡ has_contact contact (own ++ contacts_of (all_escalations k object))
contact_broadcast k object contact own =
    ap (λ es. has_contact contact own || has_contact contact (contacts_of es)) (all_pass (all_escalations k object))
    ∙ sym (list_any-append (λ n. n == contact) own (contacts_of (all_escalations k object)))
  where
    all_pass : (es : List Escalation) → filter (λ _. true) es ≡ es
    all_pass [] = refl
    all_pass (e ∷ es) = ap (λ ds. e ∷ ds) (all_pass es)

pub least_matching : (k : Configuration) (object number : ℕ) (letter : Letter) (places : List ℕ)
    → filter_map (slice_get k.escalations) places ≡ filter (is_escalation_of object) k.escalations
    → fold (λ least n. lesser_at number letter least (slice_get k.escalations n)) None places ≡ least_of (map (λ e. e.interval) (matching k object number letter))
least_matching k object number letter places h =
    least_at number letter k.escalations None places
    ∙ ap (fold (λ (least : Option ℕ) (e : Escalation). lesser_at number letter least (Some e)) None) h
    ∙ least_kept number letter None (filter (is_escalation_of object) k.escalations)
    ∙ ap (λ (es : List Escalation). least_of (map (λ e. e.interval) es)) (all_matching k object number letter)
