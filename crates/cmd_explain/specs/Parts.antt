-- The form of a line, and the numbers in it.
use Rattle.std.specs.Prelude.{ℕ, ◌+◌, ◌-◌, ◌*◌, nat_le, Bool, true, false, if◌then◌else◌, List, [], ◌∷◌, ◌++◌, Option, Some, None}
use Rattle.std.specs.List.{list_all}
use Rattle.std.specs.Char.{is_ascii_digit}
use Rattle.cmd_types.specs.declared.limits.TheConstants.{GREATEST_NUMBER}

-- the 0 for a number that begins here; `inside`: whether the number has begun before
abbrev pub zero_before : (inside : Bool) → List ℕ
zero_before inside = if inside then [] else 48 ∷ []

-- a text with each number in it written as 0; `inside`: whether the byte before the text is a digit
unfoldable pub form_behind : (inside : Bool) → List ℕ → List ℕ
form_behind inside [] = []
form_behind inside (b ∷ text) = if is_ascii_digit b then zero_before inside ++ form_behind true text else b ∷ form_behind false text

abbrev pub form : (line : List ℕ) → List ℕ
form line = form_behind false line

-- the number that the digits before, if there are any, and this digit spell
abbrev pub number_on : (before : Option ℕ) → (digit : ℕ) → ℕ
number_on None digit = digit
number_on (Some n) digit = n * 10 + digit

-- the number that ends here, if one does
abbrev pub number_before : Option ℕ → List ℕ
number_before None = []
number_before (Some n) = n ∷ []

-- the numbers of a text, in order; `before`: the number that the digits just before the text spell, if there are any
unfoldable pub numbers_behind : (before : Option ℕ) → List ℕ → List ℕ
numbers_behind before [] = number_before before
numbers_behind before (b ∷ text) = if is_ascii_digit b then numbers_behind (Some (number_on before (b - 48))) text else number_before before ++ numbers_behind None text

abbrev pub numbers : (line : List ℕ) → List ℕ
numbers line = numbers_behind None line

-- no number is greater than the greatest that a command may have
abbrev pub are_small : List ℕ → Bool
are_small ns = list_all (λ n. nat_le n GREATEST_NUMBER) ns
