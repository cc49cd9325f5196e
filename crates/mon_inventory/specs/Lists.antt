-- Numbers of elements: where something stands, and which pass a test.
use Rattle.std.specs.Prelude.{◌≡◌, ℕ, ◌+◌, ◌<◌, Bool, List, [], ◌∷◌, ◌++◌, length, Option, Some, slice_get, if◌then◌else◌, All, Contains}
use Rattle.std.specs.List.{position_from, AllPairs}

-- the index of the first that passes
abbrev pub index_where : {X : Type 0} → (X → Bool) → List X → Option ℕ
index_where test xs = position_from test 0 xs

-- the indices, counted from n, of those that pass
abbrev pub indices_from : {X : Type 0} → (X → Bool) → ℕ → List X → List ℕ
indices_from test n [] = []
indices_from test n (x ∷ xs) = if test x then n ∷ indices_from test (n + 1) xs else indices_from test (n + 1) xs

-- there is an element of this index, and P holds of it
pub record StandsAt {X : Type 0} (P : X → Type 0) (xs : List X) (index : ℕ) : Type 0 where
  pub element : X
  pub within : index < length xs
  pub is : slice_get xs index ≡ Some element
  pub holds : P element

-- P holds of one element at most
abbrev pub AtMostOne : {X : Type 0} → (X → Type 0) → List X → Type 0
AtMostOne P xs = (n m : ℕ) → StandsAt P xs n → StandsAt P xs m → n ≡ m

-- the indices are those of the elements of which P holds, ascending
pub record AreExactly {X : Type 0} (P : X → Type 0) (xs : List X) (indices : List ℕ) : Type 0 where
  pub ascending : AllPairs ◌<◌ indices
  pub each : All (StandsAt P xs) indices
  pub every : (n : ℕ) → StandsAt P xs n → Contains indices n

-- the list only grew, at its end
pub record IsBeginning {X : Type 0} (xs ys : List X) : Type 0 where
  pub rest : List X
  pub whole : ys ≡ xs ++ rest
