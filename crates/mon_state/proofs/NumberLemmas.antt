-- The digits of a number are read as that number.
use Rattle.std.proofs.Common.{◌≡◌, ℕ, ◌<◌, ◌≤◌, ◌^◌, true, false, ltb, leb, List, [], ◌∷◌, length, get_or, drop, Some, None, refl, ap, ◌∙◌, arith}
use Rattle.std.proofs.Math.Bool.{and-false}
use Rattle.std.proofs.Math.Nat.{pow-le-pow_right}
use Rattle.std.proofs.lemmas.Bool.{lt-ltb, le-ltb, le-leb, lt-leb, and_parts}
use Rattle.std.proofs.lemmas.List.{at_drop_more}
use Rattle.std.proofs.lemmas.Fmt.{digits_decimal, digits_value-decimal, decimal_nonempty, length-decimal-le}
use Rattle.std.proofs.lemmas.Str.Parse.{IsNumeralModel, numerals_by_value, tells_all_ascii_digits}
use Rattle.std.specs.Char.{is_ascii_digit}
use Rattle.std.specs.Fmt.{decimal}
use Rattle.std.specs.Str.{all_ascii_digits}
use Rattle.std.specs.Str.Parse.{digits_value}
use Rattle.cmd_types.specs.Bytes.{Lacks}
use Rattle.mon_state.specs.Version.{is_number}
use Rattle.mon_state.specs.Reading.{number_of}
use Rattle.mon_state.specs.declared.number.TheConstants.{MOST_DIGITS}

-- ---- the loop over the digits

number_none : (text : List ℕ) → is_number text ≡ false → None ≡ number_of text
unfolding number_of
number_none text e = rw e refl

pub empty_none : (text : List ℕ) → length text ≡ 0 → None ≡ number_of text
empty_none text e = number_none text (rw (le-ltb 0 (length text) (omega arith)) refl)

pub long_none : (text : List ℕ) → MOST_DIGITS < length text → None ≡ number_of text
long_none text lt = number_none text (rw (lt-leb (length text) MOST_DIGITS lt) (and-false (ltb 0 (length text))))

pub digits_none : (text : List ℕ) → all_ascii_digits text ≡ false → None ≡ number_of text
digits_none text e = number_none text (rw (e, and-false (leb (length text) MOST_DIGITS)) (and-false (ltb 0 (length text))))

pub number_some : (text : List ℕ) → 0 < length text → length text ≤ MOST_DIGITS → all_ascii_digits text ≡ true → number_of text ≡ Some (digits_value 10 text)
unfolding number_of
number_some text some few digits = rw (lt-ltb 0 (length text) some, le-leb (length text) MOST_DIGITS few, digits) refl

pub digits_stop : (text : List ℕ) (i : ℕ) → i < length text → is_ascii_digit (get_or text i 0) ≡ false → all_ascii_digits (drop i text) ≡ false
digits_stop text i lt e = at_drop_more all_ascii_digits text i 0 lt ∙ rw e refl

pub power_below : (n i : ℕ) → i < MOST_DIGITS → n < 10 ^ i → n < 10 ^ 17
power_below n i lt below = omega (arith, pow-le-pow_right {n = 10} (omega arith) {i = i} {j = 17} (omega arith))

-- ---- the written digits of a number

own : IsNumeralModel (λ ds. all_ascii_digits ds ≡ true) (digits_value 10)
own = numerals_by_value _ tells_all_ascii_digits

pub number_of_decimal : (n : ℕ) → n < 10 ^ 18 → number_of (decimal n) ≡ Some n
number_of_decimal n small =
    number_some (decimal n) (decimal_nonempty n (omega arith)) (length-decimal-le MOST_DIGITS n (omega arith) (omega arith) (omega arith)) (digits_decimal own n (omega arith))
    ∙ ap Some (digits_value-decimal own n (omega arith))

pub digits_lack : (b : ℕ) (ds : List ℕ) → is_ascii_digit b ≡ false → all_ascii_digits ds ≡ true → Lacks b ds
digits_lack b [] other h = tt
digits_lack b (x ∷ xs) other h =
    let a = and_parts (is_ascii_digit x) (all_ascii_digits xs) h in
    (λ e. let t : is_ascii_digit b ≡ true = rw (← e) a.0 in cc, digits_lack b xs other a.1)

pub decimal_lacks : (b n : ℕ) → is_ascii_digit b ≡ false → n < 10 ^ 18 → Lacks b (decimal n)
decimal_lacks b n other small = digits_lack b (decimal n) other (digits_decimal own n (omega arith))
