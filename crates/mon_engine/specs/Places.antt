-- A list in which the element at one index, or at several, is changed.
use Rattle.std.specs.Prelude.{ℕ, List, [], ◌∷◌, Option, Some, None, slice_get, slice_set}

-- the list with f of the item at place k, where there is one
abbrev pub change_to : {A : Type 0} → List A → ℕ → (A → A) → Option A → List A
change_to xs k f None = xs
change_to xs k f (Some x) = slice_set xs k (f x)

-- the list with f of its item at place k
abbrev pub changed_at : {A : Type 0} → List A → ℕ → (A → A) → List A
changed_at xs k f = change_to xs k f (slice_get xs k)

-- the list with f of its items at these places, one after another
unfoldable pub changed_each : {A : Type 0} → List A → List ℕ → (A → A) → List A
changed_each xs [] f = xs
changed_each xs (k ∷ ks) f = changed_each (changed_at xs k f) ks f
