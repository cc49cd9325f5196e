-- Output that only grows.
use Rattle.std.specs.Prelude.{◌≡◌, ℕ, List, length, take}

-- ---- of private contracts alone

-- the new bytes begin with the old ones
abbrev pub Grows : List ℕ → List ℕ → Type 0
Grows old new = take (length old) new ≡ old
