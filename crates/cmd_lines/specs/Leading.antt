-- A number at the front of bytes.
use Rattle.std.specs.Prelude.{◌≡◌, ℕ, ◌+◌, ◌<◌, ◌≤◌, true, List, ◌∷◌, ◌++◌, length}
use Rattle.std.specs.Str.{all_ascii_digits}
use Rattle.std.specs.Str.Parse.{digits_value_after}
use Rattle.cmd_types.specs.Bytes.{IsNumber}
use Rattle.cmd_types.specs.declared.limits.TheConstants.{MOST_DIGITS, GREATEST_NUMBER}

-- the bytes are a text that spells the number, the byte, and the rest
pub record LeadsTo (byte : ℕ) (bytes : List ℕ) (n : ℕ) (rest : List ℕ) : Type 0 where
  pub text : List ℕ
  pub parts : bytes ≡ text ++ byte ∷ rest
  pub number : IsNumber text n

-- a number that was read, and the bytes that spelled it, with the byte that ended them
pub record Remembered : Type 0 where
  pub spelled : List ℕ
  pub number : ℕ

-- ---- of private contracts alone

-- as LeadsTo, for the bytes after count digits that were read, whose value is value
pub record LeadsOn (byte value count : ℕ) (bytes : List ℕ) (n : ℕ) (rest : List ℕ) : Type 0 where
  pub text : List ℕ
  pub parts : bytes ≡ text ++ byte ∷ rest
  pub digits : all_ascii_digits text ≡ true
  pub value_is : digits_value_after 10 value text ≡ n
  pub some : 0 < count + length text
  pub few : count + length text ≤ MOST_DIGITS
  pub small : n ≤ GREATEST_NUMBER
