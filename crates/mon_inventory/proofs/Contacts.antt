-- The contacts that a comma list names, each once: gathered one by one, and as indices that stand.
use Rattle.std.proofs.Common.{◌≡◌, ◌≢◌, ℕ, ◌<◌, Bool, true, false, ◌||◌, not, Option, Some, None, List, [], ◌∷◌, ◌++◌, length, ◌==◌, if◌then◌else◌, refl, sym, ap, ◌∙◌, inl, inr, append_assoc, arith}
use Rattle.std.specs.List.{list_any, filter, filter_map, cons_option, AllPairs}
use Rattle.std.specs.Prelude.{All}
use Rattle.std.proofs.lemmas.Bool.{eq-eqb}
use Rattle.std.proofs.lemmas.List.Elements.{All-nil, All-cons, All-head, All-tail, All-filter, All-weaker, filter_passes}
use Rattle.std.proofs.lemmas.List.Kept.{AllPairs-cons, AllPairs-filter}
use Rattle.std.proofs.lemmas.Bool.Decides.{eqb_tells}
use Rattle.std.proofs.lemmas.List.Folds.{list_any-append}
use Rattle.mon_inventory.specs.declared.records.ContactSpec.{ContactSpec}
use Rattle.mon_inventory.specs.Lookups.{contact_of}
use Rattle.mon_inventory.specs.Texts.{items}
use Rattle.mon_inventory.specs.Configuration.{Configuration, first_mentions, contacts_named}
use Rattle.mon_inventory.specs.Facts.{AreContacts}
use Rattle.mon_inventory.proofs.Lookups.{contact_found}

-- ---- one index more

abbrev is_among : List ℕ → ℕ → Bool
is_among indices m = list_any (λ x. m == x) indices

-- an index behind the others, where it is not there yet
abbrev pub with_index : List ℕ → ℕ → List ℕ
with_index indices n = if is_among indices n then indices else indices ++ n ∷ []

-- those that are not among the indices yet
abbrev new_of : List ℕ → List ℕ → List ℕ
new_of indices ms = filter (λ m. not (is_among indices m)) ms

abbrev others_than : ℕ → List ℕ → List ℕ
others_than n ms = filter (λ m. not (m == n)) ms

or_nothing : (b : Bool) → (b || (false || false)) ≡ b
or_nothing true = refl
or_nothing false = refl

or_something : (b : Bool) → (b || (true || false)) ≡ true
or_something true = refl
or_something false = refl

-- an index that is there already adds nothing
known_index : (indices : List ℕ) (n : ℕ) (ms : List ℕ) → is_among indices n ≡ true → new_of indices (others_than n ms) ≡ new_of indices ms
known_index indices n [] e = refl
known_index indices n (m ∷ ms) e =
    elim (eqb_tells m n) [
      | inl h ↦ rw (h.0, ap (is_among indices) h.1 ∙ e) (known_index indices n ms e)
      | inr h ↦ rw h.0 (ap (λ z. if not (is_among indices m) then m ∷ z else z) (known_index indices n ms e))
    ]

-- one that is not goes behind them
new_index : (indices : List ℕ) (n : ℕ) (ms : List ℕ) → new_of indices (others_than n ms) ≡ new_of (indices ++ n ∷ []) ms
new_index indices n [] = refl
new_index indices n (m ∷ ms) =
    elim (eqb_tells m n) [
      | inl h ↦ rw (list_any-append (λ x. m == x) indices (n ∷ []), h.0, or_something (is_among indices m)) (new_index indices n ms)
      | inr h ↦ rw (list_any-append (λ x. m == x) indices (n ∷ []), h.0, or_nothing (is_among indices m)) (ap (λ z. if not (is_among indices m) then m ∷ z else z) (new_index indices n ms))
    ]

index_added : (indices : List ℕ) (n : ℕ) (ms : List ℕ) → with_index indices n ++ new_of (with_index indices n) ms ≡ indices ++ new_of indices (n ∷ others_than n ms)
index_added indices n ms = by (is_among indices n) refl
  where
    by : (t : Bool) → is_among indices n ≡ t → (if t then indices else indices ++ n ∷ []) ++ new_of (if t then indices else indices ++ n ∷ []) ms
        ≡ indices ++ (if not t then n ∷ new_of indices (others_than n ms) else new_of indices (others_than n ms))
    by true e = ap (λ z. indices ++ z) (sym (known_index indices n ms e))
    by false e = append_assoc indices (n ∷ []) _ ∙ ap (λ z. indices ++ n ∷ z) (sym (new_index indices n ms))

-- ---- gathered one by one

-- these indices, and those of the names that are not among them
abbrev pub gathered : List ContactSpec → List ℕ → List (List ℕ) → List ℕ
gathered cs indices names = indices ++ new_of indices (first_mentions (filter_map (contact_of cs) names))

all_new : (ms : List ℕ) → new_of [] ms ≡ ms
all_new [] = refl
all_new (m ∷ ms) = ap (λ z. m ∷ z) (all_new ms)

pub gathered_first : (cs : List ContactSpec) (names : List (List ℕ)) → gathered cs [] names ≡ first_mentions (filter_map (contact_of cs) names)
gathered_first cs names = all_new _

pub gathered_known : (cs : List ContactSpec) (indices : List ℕ) (name : List ℕ) (names : List (List ℕ)) (n : ℕ) → contact_of cs name ≡ Some n → gathered cs indices (name ∷ names) ≡ gathered cs (with_index indices n) names
gathered_known cs indices name names n e = rw e (sym (index_added indices n (first_mentions (filter_map (contact_of cs) names))))

pub gathered_unknown : (cs : List ContactSpec) (indices : List ℕ) (name : List ℕ) (names : List (List ℕ)) → contact_of cs name ≡ None → gathered cs indices (name ∷ names) ≡ gathered cs indices names
gathered_unknown cs indices name names e = rw e refl

-- ---- they stand

found_within : (cs : List ContactSpec) (names : List (List ℕ)) → All (λ n. n < length cs) (filter_map (contact_of cs) names)
found_within cs [] = All-nil (λ n. n < length cs)
found_within cs (name ∷ names) = by (contact_of cs name) refl (found_within cs names)
  where
    by : (o : Option ℕ) → contact_of cs name ≡ o → All (λ n. n < length cs) (filter_map (contact_of cs) names) → All (λ n. n < length cs) (cons_option o (filter_map (contact_of cs) names))
    by None e later = later
    by (Some n) e later = All-cons (λ n. n < length cs) n _ (contact_found cs name (Some n) (sym e)).within later

mentions_within : (P : ℕ → Type 0) (ms : List ℕ) → All P ms → All P (first_mentions ms)
mentions_within P [] h = h
mentions_within P (m ∷ ms) h = All-cons P m _ (All-head P m ms h) (All-filter (λ n. not (n == m)) P _ (mentions_within P ms (All-tail P m ms h)))

other : (m n : ℕ) → not (n == m) ≡ true → m ≢ n
other m n e same = by (n == m) (eq-eqb n m (sym same)) e
  where
    by : (t : Bool) → t ≡ true → not t ≡ true → ⊥
    by true is e = absurd (cc)
    by false is e = absurd (cc)

mentions_once : (ms : List ℕ) → AllPairs ◌≢◌ (first_mentions ms)
mentions_once [] = λ i j d lt within. absurd (omega arith)
mentions_once (m ∷ ms) =
    AllPairs-cons ◌≢◌ m _ (All-weaker (λ n. not (n == m) ≡ true) (λ n. m ≢ n) (other m) _ (filter_passes (λ n. not (n == m)) (first_mentions ms)))
    (AllPairs-filter ◌≢◌ (λ n. not (n == m)) (first_mentions ms) (mentions_once ms))

pub contacts_stand : (k : Configuration) (text : List ℕ) → AreContacts (length k.contacts) (contacts_named k text)
contacts_stand k text = record {
  within = mentions_within (λ n. n < length k.contacts) _ (found_within k.contacts (items text));
  once = mentions_once (filter_map (contact_of k.contacts) (items text));
}
