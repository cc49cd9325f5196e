-- Bytes cut at the first one of a given value.
use Rattle.std.specs.Prelude.{◌≡◌, ℕ, List, [], ◌∷◌, ◌++◌, Option, Some, None, ◌==◌, if◌then◌else◌}

-- the bytes before the first b, or all
abbrev pub before : ℕ → List ℕ → List ℕ
before b [] = []
before b (x ∷ xs) = if x == b then [] else x ∷ before b xs

-- the bytes after the first b, where it is there
abbrev pub after : ℕ → List ℕ → Option (List ℕ)
after b [] = None
after b (x ∷ xs) = if x == b then Some xs else after b xs

-- the bytes are the front and, where the byte b is there, b and what follows it
abbrev pub IsCut : ℕ → List ℕ → List ℕ → Option (List ℕ) → Type 0
IsCut b bytes front None = bytes ≡ front
IsCut b bytes front (Some after) = bytes ≡ front ++ b ∷ after
