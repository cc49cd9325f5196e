-- A number in a line: its digits are one 0 of the form, and it is one of the line's numbers.
use Rattle.std.proofs.Common.{◌≡◌, ℕ, ◌+◌, ◌-◌, ◌*◌, ◌<◌, ◌≤◌, true, false, List, [], ◌∷◌, ◌++◌, length, Some, None, refl, sym, ap, ◌∙◌, arith, append-nil}
use Rattle.std.specs.Char.{is_ascii_digit, digit_value}
use Rattle.std.specs.Fmt.{decimal}
use Rattle.std.specs.Str.{all_ascii_digits}
use Rattle.std.specs.Str.Parse.{digits_value_after}
use Rattle.std.proofs.lemmas.Bool.{leb-true, and_parts}
use Rattle.std.proofs.lemmas.Str.{digit_value_digit}
use Rattle.cmd_types.specs.declared.limits.TheConstants.{GREATEST_NUMBER}
use Rattle.cmd_types.specs.Laws.{Laws}
use Rattle.cmd_explain.specs.Parts.{form_behind, numbers_behind}

-- ---- digits

value_of_digit : (b : ℕ) → is_ascii_digit b ≡ true → digit_value b ≡ b - 48
value_of_digit b h =
    let a = and_parts _ _ h in
    let value = digit_value_digit b (leb-true _ _ a.0, leb-true _ _ a.1) in
    omega arith

form_inside : (ds rest : List ℕ) → all_ascii_digits ds ≡ true → form_behind true (ds ++ rest) ≡ form_behind true rest
unfolding form_behind
form_inside [] rest h = refl
form_inside (d ∷ ds) rest h = let a = and_parts (is_ascii_digit d) (all_ascii_digits ds) h in rw a.0 (form_inside ds rest a.1)

form_digits : (ds rest : List ℕ) → all_ascii_digits ds ≡ true → 0 < length ds → form_behind false (ds ++ rest) ≡ 48 ∷ form_behind true rest
unfolding form_behind
form_digits [] rest h some = absurd (omega arith)
form_digits (d ∷ ds) rest h some = let a = and_parts (is_ascii_digit d) (all_ascii_digits ds) h in rw a.0 (ap (λ (t : List ℕ). 48 ∷ t) (form_inside ds rest a.1))

numbers_inside : (ds rest : List ℕ) (n : ℕ) → all_ascii_digits ds ≡ true → numbers_behind (Some n) (ds ++ rest) ≡ numbers_behind (Some (digits_value_after 10 n ds)) rest
unfolding numbers_behind
numbers_inside [] rest n h = refl
numbers_inside (d ∷ ds) rest n h =
    let a = and_parts (is_ascii_digit d) (all_ascii_digits ds) h in
    rw (a.0, value_of_digit d a.0) (numbers_inside ds rest (n * 10 + (d - 48)) a.1)

numbers_digits : (ds rest : List ℕ) → all_ascii_digits ds ≡ true → 0 < length ds → numbers_behind None (ds ++ rest) ≡ numbers_behind (Some (digits_value_after 10 0 ds)) rest
unfolding numbers_behind
numbers_digits [] rest h some = absurd (omega arith)
numbers_digits (d ∷ ds) rest h some =
    let a = and_parts (is_ascii_digit d) (all_ascii_digits ds) h in
    let first : 0 * 10 + digit_value d ≡ d - 48 = (let value = value_of_digit d a.0 in omega arith) in
    rw (a.0, first) (numbers_inside ds rest (d - 48) a.1)

-- ---- a number in decimal

pub form_number : Laws → (n : ℕ) (rest : List ℕ) → n ≤ GREATEST_NUMBER → form_behind false (decimal n ++ rest) ≡ 48 ∷ form_behind true rest
form_number laws n rest le = let is = laws.numbers.by_decimal n le in form_digits (decimal n) rest is.digits is.some

pub numbers_number : Laws → (n : ℕ) (rest : List ℕ) → n ≤ GREATEST_NUMBER → numbers_behind None (decimal n ++ rest) ≡ numbers_behind (Some n) rest
numbers_number laws n rest le =
    let is = laws.numbers.by_decimal n le in
    numbers_digits (decimal n) rest is.digits is.some ∙ ap (λ (v : ℕ). numbers_behind (Some v) rest) is.value

-- one that nothing follows
pub form_last : Laws → (n : ℕ) → n ≤ GREATEST_NUMBER → form_behind false (decimal n) ≡ 48 ∷ []
unfolding form_behind
form_last laws n le = ap (form_behind false) (sym (append-nil (decimal n))) ∙ form_number laws n [] le

pub numbers_last : Laws → (n : ℕ) → n ≤ GREATEST_NUMBER → numbers_behind None (decimal n) ≡ n ∷ []
unfolding numbers_behind
numbers_last laws n le = ap (numbers_behind None) (sym (append-nil (decimal n))) ∙ numbers_number laws n [] le
