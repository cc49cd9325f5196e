-- A number is read digit by digit.
use Rattle.std.proofs.Common.{◌≡◌, ◌≢◌, ℕ, ◌+◌, ◌-◌, ◌*◌, ◌<◌, ◌≤◌, ◌^◌, true, false, get_or, take, drop, List, [], ◌∷◌, ◌++◌, length, refl, sym, ap, ◌∙◌, arith, append_assoc, length-append}
use Rattle.std.proofs.Math.Seq.{take-append_seam}
use Rattle.std.proofs.lemmas.Bool.{and_parts, leb-true}
use Rattle.std.proofs.Math.Nat.{pow-le-pow_right}
use Rattle.std.proofs.lemmas.Grind.{pow_more}
use Rattle.std.proofs.lemmas.List.{take_rest}
use Rattle.std.proofs.lemmas.Str.{digit_value_digit}
use Rattle.std.specs.Char.{is_ascii_digit, digit_value}
use Rattle.std.specs.Str.{all_ascii_digits}
use Rattle.std.specs.Str.Parse.{digits_value_after}
use Rattle.cmd_types.specs.declared.limits.TheConstants.{MOST_DIGITS, GREATEST_NUMBER}
use Rattle.cmd_lines.specs.Leading.{LeadsTo, LeadsOn}

-- a digit and a byte that is none differ
apart : (b d : ℕ) → is_ascii_digit b ≡ false → is_ascii_digit d ≡ true → b ≢ d
apart b d none digit e = (let clash : false ≡ true = sym none ∙ ap is_ascii_digit e ∙ digit in absurd cc)

digit_is : (d : ℕ) → is_ascii_digit d ≡ true → digit_value d ≡ d - 48
digit_is d digit =
    let both = and_parts _ _ digit in
    let is = digit_value_digit d (leb-true _ _ both.0, leb-true _ _ both.1) in
    omega (arith, is)

-- ---- one digit more

pub one_more : (b value count d : ℕ) (bytes : List ℕ) (n : ℕ) (rest : List ℕ) → is_ascii_digit d ≡ true → LeadsOn b (value * 10 + (d - 48)) (count + 1) bytes n rest → LeadsOn b value count (d ∷ bytes) n rest
one_more b value count d bytes n rest digit h = record {
  text = d ∷ h.text;
  parts = ap (λ (xs : List ℕ). d ∷ xs) h.parts;
  digits = rw digit h.digits;
  value_is = rw (digit_is d digit) h.value_is;
  some = omega (arith, h.some);
  few = omega (arith, h.few);
  small = h.small;
}

one_fewer_of : (b value count d : ℕ) (bytes : List ℕ) (n : ℕ) (rest text : List ℕ) → is_ascii_digit b ≡ false → is_ascii_digit d ≡ true → d ∷ bytes ≡ text ++ b ∷ rest → all_ascii_digits text ≡ true → digits_value_after 10 value text ≡ n
    → count + length text ≤ MOST_DIGITS → n ≤ GREATEST_NUMBER → LeadsOn b (value * 10 + (d - 48)) (count + 1) bytes n rest
one_fewer_of b value count d bytes n rest [] none digit parts digits value_is few small = (let same : b ≡ d = cc in absurd (apart b d none digit same))
one_fewer_of b value count d bytes n rest (t ∷ text) none digit parts digits value_is few small =
    let first : t ≡ d = cc in
    record {
      text = text;
      parts = cc;
      digits = (and_parts (is_ascii_digit t) (all_ascii_digits text) digits).1;
      value_is = rw (← digit_is d digit, ← first) value_is;
      some = omega arith;
      few = omega (arith, few);
      small = small;
    }

pub one_fewer : (b value count d : ℕ) (bytes : List ℕ) (n : ℕ) (rest : List ℕ) → is_ascii_digit b ≡ false → is_ascii_digit d ≡ true → LeadsOn b value count (d ∷ bytes) n rest → LeadsOn b (value * 10 + (d - 48)) (count + 1) bytes n rest
one_fewer b value count d bytes n rest none digit h = one_fewer_of b value count d bytes n rest h.text none digit h.parts h.digits h.value_is h.few h.small

-- ---- where no digit follows

ends_of : (b : ℕ) (rest text : List ℕ) → [] ≡ text ++ b ∷ rest → ⊥
ends_of b rest [] parts = absurd cc
ends_of b rest (t ∷ text) parts = absurd cc

pub none_left : (b value count : ℕ) (bytes : List ℕ) (n : ℕ) (rest : List ℕ) → length bytes < 1 → LeadsOn b value count bytes n rest → ⊥
none_left b value count [] n rest few h = ends_of b rest h.text h.parts
none_left b value count (x ∷ bytes) n rest few h = absurd (omega arith)

pub record Stops (b value count x : ℕ) (after : List ℕ) (n : ℕ) (rest : List ℕ) : Type 0 where
  pub byte : x ≡ b
  pub rest_is : rest ≡ after
  pub value_is : n ≡ value
  pub some : 0 < count
  pub small : n ≤ GREATEST_NUMBER

stops_of : (b value count x : ℕ) (after : List ℕ) (n : ℕ) (rest text : List ℕ) → is_ascii_digit x ≡ false → x ∷ after ≡ text ++ b ∷ rest → all_ascii_digits text ≡ true → digits_value_after 10 value text ≡ n → 0 < count + length text → n ≤ GREATEST_NUMBER
    → Stops b value count x after n rest
stops_of b value count x after n rest [] none parts digits value_is some small = record { byte = cc; rest_is = cc; value_is = sym value_is; some = omega (arith, some); small = small }
stops_of b value count x after n rest (t ∷ text) none parts digits value_is some small =
    let first : t ≡ x = cc in
    absurd (apart x t none (and_parts (is_ascii_digit t) (all_ascii_digits text) digits).0 (sym first))

pub stops : (b value count x : ℕ) (after : List ℕ) (n : ℕ) (rest : List ℕ) → is_ascii_digit x ≡ false → LeadsOn b value count (x ∷ after) n rest → Stops b value count x after n rest
stops b value count x after n rest none h = stops_of b value count x after n rest h.text none h.parts h.digits h.value_is h.some h.small

pub stopped : (b value count : ℕ) (after : List ℕ) → 0 < count → count ≤ MOST_DIGITS → value ≤ GREATEST_NUMBER → LeadsOn b value count (b ∷ after) value after
stopped b value count after some few small = record { text = []; parts = refl; digits = refl; value_is = refl; some = omega arith; few = omega arith; small = small }

-- ---- from the first digit on

pub from_start : (b : ℕ) (bytes : List ℕ) (n : ℕ) (rest : List ℕ) → LeadsOn b 0 0 bytes n rest → LeadsTo b bytes n rest
from_start b bytes n rest h = record {
  text = h.text;
  parts = h.parts;
  number = record { digits = h.digits; some = omega (arith, h.some); few = omega (arith, h.few); value = h.value_is; small = h.small };
}

pub at_start : (b : ℕ) (bytes : List ℕ) (n : ℕ) (rest : List ℕ) → LeadsTo b bytes n rest → LeadsOn b 0 0 bytes n rest
at_start b bytes n rest h = record {
  text = h.text;
  parts = h.parts;
  digits = h.number.digits;
  value_is = h.number.value;
  some = omega (arith, h.number.some);
  few = omega (arith, h.number.few);
  small = h.number.small;
}

-- the first byte and the others, as the code has them
pub one_first : (xs : List ℕ) → 1 ≤ length xs → xs ≡ get_or xs 0 0 ∷ take (length xs - 1) (drop 1 xs)
one_first [] few = absurd (omega arith)
one_first (x ∷ xs) few = rw (take_rest (x ∷ xs) 1) refl

pub opens_with : (b : ℕ) (xs : List ℕ) → 1 ≤ length xs → get_or xs 0 0 ≡ b → xs ≡ b ∷ take (length xs - 1) (drop 1 xs)
opens_with b xs some first = one_first xs some ∙ ap (λ (x : ℕ). x ∷ take (length xs - 1) (drop 1 xs)) first

pub power_below : (n i : ℕ) → i < MOST_DIGITS → n < 10 ^ i → n < 10 ^ 12
power_below n i lt below = omega (arith, pow-le-pow_right {n = 10} (omega arith) {i = i} {j = 12} (omega arith))

pub power_more : (n i d : ℕ) → n < 10 ^ i → d < 10 → n * 10 + d < 10 ^ (i + 1)
power_more n i d below small = rw (pow_more 10 i) (omega (arith, below, small))

-- ---- the same bytes again

-- bytes that begin as others did lead with the same number
pub known : (b : ℕ) (spelled bytes rest : List ℕ) (n : ℕ) → LeadsTo b spelled n [] → bytes ≡ spelled ++ rest → LeadsTo b bytes n rest
known b spelled bytes rest n h is = record {
  text = h.text;
  parts = is ∙ ap (λ (xs : List ℕ). xs ++ rest) h.parts ∙ append_assoc h.text (b ∷ []) rest;
  number = h.number;
}

last_of : (xs : List ℕ) (b : ℕ) → get_or (xs ++ b ∷ []) (length xs) 0 ≡ b
last_of [] b = refl
last_of (x ∷ xs) b = last_of xs b

-- the bytes up to that byte, which is the last of them
pub remembered : (b : ℕ) (bytes rest spelled : List ℕ) (n count : ℕ) → LeadsTo b bytes n rest → length bytes - length rest ≡ count + 1 → spelled ≡ take (count + 1) bytes → LeadsTo (get_or spelled count 0) spelled n []
remembered b bytes rest spelled n count h long is =
    let front = h.text ++ b ∷ [] in
    let parts : bytes ≡ front ++ rest = h.parts ∙ sym (append_assoc h.text (b ∷ []) rest) in
    let size : length front ≡ count + 1 = omega (arith, long, ap length parts, length-append front rest) in
    let same : spelled ≡ front = is ∙ ap (λ (k : ℕ). take k bytes) (sym size) ∙ ap (take (length front)) parts ∙ take-append_seam front rest in
    let one : length h.text ≡ count = omega (arith, size, length-append h.text (b ∷ [])) in
    let last : get_or spelled count 0 ≡ b = ap (λ (xs : List ℕ). get_or xs count 0) same ∙ ap (λ (k : ℕ). get_or front k 0) (sym one) ∙ last_of h.text b in
    record {
      text = h.text;
      parts = same ∙ ap (λ (x : ℕ). h.text ++ x ∷ []) (sym last);
      number = h.number;
    }
