-- The versions of the text of a state. The heading `state;N` names the version by its number N.
use Rattle.std.specs.Prelude.{◌≡◌, ◌≢◌, ℕ, Bool, true, List, ◌∷◌, ◌++◌, length, Option, codes, nat_lt, nat_le, ◌==◌, ◌&&◌}
use Rattle.std.specs.List.{find}
use Rattle.std.specs.Str.{all_ascii_digits}
use Rattle.std.specs.Str.Parse.{digits_value}
use Rattle.mon_state.specs.declared.number.TheConstants.{MOST_DIGITS}
use Rattle.mon_state.specs.declared.version.StateVersion.{StateVersion}
use Rattle.mon_state.specs.declared.version.StateVersion.TheVariants.{One, Two}
use Rattle.mon_state.specs.declared.version.TheConstants.{VERSIONS}

-- the number of a version
abbrev pub version_number : StateVersion → ℕ
version_number One = 1
version_number Two = 2

-- the version of this number
unfoldable pub version_of : (number : ℕ) → Option StateVersion
version_of number = find (λ v. version_number v == number) VERSIONS

-- decimal digits, at least one and not too many
abbrev pub is_number : List ℕ → Bool
is_number text = nat_lt 0 (length text) && (nat_le (length text) MOST_DIGITS && all_ascii_digits text)

-- the heading is `state;N`, and the number N is that of no version
pub record IsOfUnknownVersion (text : List ℕ) : Type 0 where
  pub word : List ℕ
  pub rest : List ℕ
  pub heading : text ≡ codes "state;" ++ (word ++ 10 ∷ rest)
  pub number : is_number word ≡ true
  pub unknown : (v : StateVersion) → digits_value 10 word ≢ version_number v
