-- The number that a text spells, where it spells one.
use Rattle.std.specs.Prelude.{ℕ, Bool, ◌&&◌, List, length, Option, Some, None, nat_lt, nat_le, if◌then◌else◌}
use Rattle.std.specs.Str.{all_ascii_digits}
use Rattle.std.specs.Str.Parse.{digits_value}
use Rattle.cmd_types.specs.declared.limits.TheConstants.{MOST_DIGITS, GREATEST_NUMBER}

-- decimal digits, at least one and not too many, of a value that is not too great
abbrev pub is_number : List ℕ → Bool
is_number text = nat_lt 0 (length text) && (nat_le (length text) MOST_DIGITS && (all_ascii_digits text && nat_le (digits_value 10 text) GREATEST_NUMBER))

unfoldable pub number_of : List ℕ → Option ℕ
number_of text = if is_number text then Some (digits_value 10 text) else None
