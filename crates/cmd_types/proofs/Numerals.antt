-- What spells a number is read as that number, and the decimal text is the shortest spelling.
use Rattle.std.proofs.Common.{◌≡◌, ℕ, ◌<◌, ◌≤◌, ◌^◌, Bool, true, false, cond, ◌&&◌, ltb, leb, List, [], ◌∷◌, length, Option, Some, None, MatchOption, refl, sym, ap, subst, ◌∙◌, arith}
use Rattle.std.specs.Fmt.{decimal}
use Rattle.std.specs.Char.{is_ascii_digit}
use Rattle.std.specs.Str.{all_ascii_digits}
use Rattle.std.specs.Str.Parse.{digits_value}
use Rattle.std.proofs.lemmas.Bool.{ltb-true, leb-true, and_parts}
use Rattle.std.proofs.lemmas.Fmt.{digits_decimal, digits_value-decimal, decimal_nonempty, length-decimal-le}
use Rattle.std.proofs.lemmas.Str.Parse.{IsNumeralModel, numerals_by_value, tells_all_ascii_digits, digits_value_short}
use Rattle.cmd_types.specs.Bytes.{IsNumber, Lacks}
use Rattle.cmd_types.specs.Digits.{is_number, number_of}
use Rattle.cmd_types.specs.declared.limits.TheConstants.{GREATEST_NUMBER, MOST_DIGITS}
use Rattle.cmd_types.proofs.DigitLoop.{number_some}

own : IsNumeralModel (λ ds. all_ascii_digits ds ≡ true) (digits_value 10)
own = numerals_by_value _ tells_all_ascii_digits

pub number_is : (text : List ℕ) (n : ℕ) → IsNumber text n → number_of text ≡ Some n
number_is text n h = number_some text h.some h.few h.digits (rw h.value h.small) ∙ ap Some h.value

number_cases : (b : Bool) (v n : ℕ) → cond b (Some v) None ≡ Some n → (b ≡ true) × (v ≡ n)
number_cases true v n e = (refl, cc)
number_cases false v n e = absurd cc

pub is_number_of : (text : List ℕ) (n : ℕ) → number_of text ≡ Some n → IsNumber text n
unfolding number_of
is_number_of text n e =
    let h = number_cases (is_number text) (digits_value 10 text) n e in
    let a = and_parts (ltb 0 (length text)) (leb (length text) MOST_DIGITS && (all_ascii_digits text && leb (digits_value 10 text) GREATEST_NUMBER)) h.0 in
    let b = and_parts (leb (length text) MOST_DIGITS) (all_ascii_digits text && leb (digits_value 10 text) GREATEST_NUMBER) a.1 in
    let d = and_parts (all_ascii_digits text) (leb (digits_value 10 text) GREATEST_NUMBER) b.1 in
    record { digits = d.0; some = ltb-true _ _ a.0; few = leb-true _ _ b.0; value = h.1; small = rw (← h.1) (leb-true _ _ d.1) }

pub decimal_is : (n : ℕ) → n ≤ GREATEST_NUMBER → IsNumber (decimal n) n
decimal_is n le = record {
  digits = digits_decimal own n (omega arith);
  some = decimal_nonempty n (omega arith);
  few = length-decimal-le MOST_DIGITS n (omega arith) (omega arith) (omega arith);
  value = digits_value-decimal own n (omega arith);
  small = le;
}

pub decimal_short : (text : List ℕ) (n : ℕ) → IsNumber text n → length (decimal n) ≤ length text
decimal_short text n h =
    length-decimal-le (length text) n h.some (subst (λ (v : ℕ). v < 10 ^ length text) h.value (digits_value_short own text (length text) h.digits (omega arith))) (let small = h.small in omega arith)

-- a byte that is no digit does not stand in a number
digits_lack : (b : ℕ) (ds : List ℕ) → is_ascii_digit b ≡ false → all_ascii_digits ds ≡ true → Lacks b ds
digits_lack b [] other h = tt
digits_lack b (x ∷ xs) other h =
    let a = and_parts (is_ascii_digit x) (all_ascii_digits xs) h in
    (λ e. let t : is_ascii_digit b ≡ true = rw (← e) a.0 in cc, digits_lack b xs other a.1)

pub number_lacks : (b : ℕ) (text : List ℕ) (n : ℕ) → is_ascii_digit b ≡ false → IsNumber text n → Lacks b text
number_lacks b text n other h = digits_lack b text other h.digits

-- what is answered spells the number, and nothing does where there is no answer
pub number_spelled : (text : List ℕ) (o : Option ℕ) → o ≡ number_of text → MatchOption o ((n : ℕ) → IsNumber text n → ⊥) (IsNumber text)
number_spelled text None e = λ n h. let e' : None ≡ Some n = e ∙ number_is text n h in cc
number_spelled text (Some n) e = is_number_of text n (sym e)
