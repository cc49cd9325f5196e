-- What the loop over the digits shows.
use Rattle.std.proofs.Common.{◌≡◌, ℕ, ◌<◌, ◌≤◌, ◌^◌, true, false, ltb, leb, List, length, get_or, drop, Some, None, refl, ◌∙◌, arith}
use Rattle.std.proofs.Math.Bool.{and-false}
use Rattle.std.proofs.Math.Nat.{pow-le-pow_right}
use Rattle.std.proofs.lemmas.Bool.{lt-ltb, le-ltb, le-leb, lt-leb}
use Rattle.std.proofs.lemmas.List.{at_drop_more}
use Rattle.std.specs.Char.{is_ascii_digit}
use Rattle.std.specs.Str.{all_ascii_digits}
use Rattle.std.specs.Str.Parse.{digits_value}
use Rattle.cmd_types.specs.Digits.{is_number, number_of}
use Rattle.cmd_types.specs.declared.limits.TheConstants.{GREATEST_NUMBER, MOST_DIGITS}

pub number_none : (text : List ℕ) → is_number text ≡ false → None ≡ number_of text
unfolding number_of
number_none text e = rw e refl

pub empty_none : (text : List ℕ) → length text ≡ 0 → None ≡ number_of text
empty_none text e = number_none text (rw (le-ltb 0 (length text) (omega arith)) refl)

pub long_none : (text : List ℕ) → MOST_DIGITS < length text → None ≡ number_of text
long_none text lt = number_none text (rw (lt-leb (length text) MOST_DIGITS lt) (and-false (ltb 0 (length text))))

pub digits_none : (text : List ℕ) → all_ascii_digits text ≡ false → None ≡ number_of text
digits_none text e = number_none text (rw (e, and-false (leb (length text) MOST_DIGITS)) (and-false (ltb 0 (length text))))

pub large_none : (text : List ℕ) → GREATEST_NUMBER < digits_value 10 text → None ≡ number_of text
large_none text lt =
    number_none text (rw (lt-leb (digits_value 10 text) GREATEST_NUMBER lt, and-false (all_ascii_digits text), and-false (leb (length text) MOST_DIGITS)) (and-false (ltb 0 (length text))))

pub number_some : (text : List ℕ) → 0 < length text → length text ≤ MOST_DIGITS → all_ascii_digits text ≡ true → digits_value 10 text ≤ GREATEST_NUMBER → number_of text ≡ Some (digits_value 10 text)
unfolding number_of
number_some text some few digits small = rw (lt-ltb 0 (length text) some, le-leb (length text) MOST_DIGITS few, digits, le-leb (digits_value 10 text) GREATEST_NUMBER small) refl

pub digits_stop : (text : List ℕ) (i : ℕ) → i < length text → is_ascii_digit (get_or text i 0) ≡ false → all_ascii_digits (drop i text) ≡ false
digits_stop text i lt e = at_drop_more all_ascii_digits text i 0 lt ∙ rw e refl

pub power_below : (n i : ℕ) → i < MOST_DIGITS → n < 10 ^ i → n < 10 ^ 12
power_below n i lt below = omega (arith, pow-le-pow_right {n = 10} (omega arith) {i = i} {j = 12} (omega arith))
