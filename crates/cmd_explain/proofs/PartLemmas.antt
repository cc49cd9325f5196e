-- A line is taken apart byte by byte.
use Rattle.std.proofs.Common.{◌≡◌, ℕ, ◌+◌, ◌-◌, ◌*◌, ◌<◌, ◌≤◌, Bool, true, false, ◌&&◌, List, [], ◌∷◌, ◌++◌, length, Option, Some, None, get_or, drop, refl, sym, ap, ◌∙◌, append_assoc, append-nil, arith}
use Rattle.std.specs.Prelude.{IfSome}
use Rattle.std.specs.Char.{is_ascii_digit}
use Rattle.std.proofs.lemmas.Bool.{lt-leb, le-leb}
use Rattle.std.proofs.lemmas.List.{at_drop_more, at_drop_all}
use Rattle.std.proofs.lemmas.List.Folds.{list_all-append}
use Rattle.cmd_types.specs.declared.limits.TheConstants.{GREATEST_NUMBER}
use Rattle.cmd_explain.specs.Parts.{zero_before, form_behind, number_on, number_before, numbers_behind, are_small}

-- ---- one byte more

module _ (line : List ℕ) (i d : ℕ) (low : i < length line) where
  -- what is left begins with it
  next : drop i line ≡ get_or line i d ∷ drop (i + 1) line
  next = at_drop_more (λ (t : List ℕ). t) line i d low

  pub form_digit : (inside : Bool) (out out' whole : List ℕ) → is_ascii_digit (get_or line i d) ≡ true → out ++ form_behind inside (drop i line) ≡ whole → out' ≡ out ++ zero_before inside → out' ++ form_behind true (drop (i + 1) line) ≡ whole
  unfolding form_behind
  form_digit inside out out' whole digit so_far put =
      let step : form_behind inside (drop i line) ≡ zero_before inside ++ form_behind true (drop (i + 1) line) = ap (form_behind inside) next ∙ rw digit in
      ap (λ (t : List ℕ). t ++ form_behind true (drop (i + 1) line)) put ∙ append_assoc out (zero_before inside) (form_behind true (drop (i + 1) line)) ∙ ap (λ (t : List ℕ). out ++ t) (sym step) ∙ so_far

  pub form_other : (inside : Bool) (out out' whole : List ℕ) → is_ascii_digit (get_or line i d) ≡ false → out ++ form_behind inside (drop i line) ≡ whole → out' ≡ out ++ get_or line i d ∷ [] → out' ++ form_behind false (drop (i + 1) line) ≡ whole
  unfolding form_behind
  form_other inside out out' whole other so_far put =
      let step : form_behind inside (drop i line) ≡ get_or line i d ∷ form_behind false (drop (i + 1) line) = ap (form_behind inside) next ∙ rw other in
      ap (λ (t : List ℕ). t ++ form_behind false (drop (i + 1) line)) put ∙ append_assoc out (get_or line i d ∷ []) (form_behind false (drop (i + 1) line)) ∙ ap (λ (t : List ℕ). out ++ t) (sym step) ∙ so_far

  pub numbers_digit : (before : Option ℕ) (done whole : List ℕ) → is_ascii_digit (get_or line i d) ≡ true → done ++ numbers_behind before (drop i line) ≡ whole → done ++ numbers_behind (Some (number_on before (get_or line i d - 48))) (drop (i + 1) line) ≡ whole
  unfolding numbers_behind
  numbers_digit before done whole digit so_far =
      let step : numbers_behind before (drop i line) ≡ numbers_behind (Some (number_on before (get_or line i d - 48))) (drop (i + 1) line) = ap (numbers_behind before) next ∙ rw digit in
      ap (λ (t : List ℕ). done ++ t) (sym step) ∙ so_far

  pub numbers_other : (before : Option ℕ) (done done' whole : List ℕ) → is_ascii_digit (get_or line i d) ≡ false → done ++ numbers_behind before (drop i line) ≡ whole → done' ≡ done ++ number_before before → done' ++ numbers_behind None (drop (i + 1) line) ≡ whole
  unfolding numbers_behind
  numbers_other before done done' whole other so_far put =
      let step : numbers_behind before (drop i line) ≡ number_before before ++ numbers_behind None (drop (i + 1) line) = ap (numbers_behind before) next ∙ rw other in
      ap (λ (t : List ℕ). t ++ numbers_behind None (drop (i + 1) line)) put ∙ append_assoc done (number_before before) (numbers_behind None (drop (i + 1) line)) ∙ ap (λ (t : List ℕ). done ++ t) (sym step) ∙ so_far

-- ---- none is left

pub form_whole : (line : List ℕ) (i : ℕ) (inside : Bool) (out whole : List ℕ) → length line ≤ i → out ++ form_behind inside (drop i line) ≡ whole → out ≡ whole
unfolding form_behind
form_whole line i inside out whole high so_far = sym (append-nil out) ∙ sym (at_drop_all (λ (t : List ℕ). out ++ form_behind inside t) line i high) ∙ so_far

pub numbers_whole : (line : List ℕ) (i : ℕ) (before : Option ℕ) (done done' whole : List ℕ) → length line ≤ i → done ++ numbers_behind before (drop i line) ≡ whole → done' ≡ done ++ number_before before → done' ≡ whole
unfolding numbers_behind
numbers_whole line i before done done' whole high so_far put = put ∙ sym (at_drop_all (λ (t : List ℕ). done ++ numbers_behind before t) line i high) ∙ so_far

-- ---- numbers that are small

both_true : (a b : Bool) → a ≡ true → b ≡ true → (a && b) ≡ true
both_true true b h k = k
both_true false b h k = absurd cc

small_before : (before : Option ℕ) → IfSome before (λ n. n ≤ GREATEST_NUMBER) → are_small (number_before before) ≡ true
small_before None h = refl
small_before (Some n) h = rw (le-leb n GREATEST_NUMBER h)

pub small_more : (done done' : List ℕ) (before : Option ℕ) → are_small done ≡ true → IfSome before (λ n. n ≤ GREATEST_NUMBER) → done' ≡ done ++ number_before before → are_small done' ≡ true
small_more done done' before so_far small put =
    ap are_small put ∙ list_all-append _ done (number_before before) ∙ both_true (are_small done) (are_small (number_before before)) so_far (small_before before small)

-- ---- numbers that are too great

and_false : (a b : Bool) → b ≡ false → (a && b) ≡ false
and_false true b h = h
and_false false b h = refl

great_first : (n : ℕ) (rest : List ℕ) → GREATEST_NUMBER < n → are_small (n ∷ rest) ≡ false
great_first n rest great = rw (lt-leb n GREATEST_NUMBER great) refl

great_step : (n b : ℕ) (text : List ℕ) → GREATEST_NUMBER < n → are_small (numbers_behind (Some (n * 10 + (b - 48))) text) ≡ false → are_small (numbers_behind (Some n) (b ∷ text)) ≡ false
unfolding numbers_behind
great_step n b text great on = by (is_ascii_digit b) refl
  where
    by : (d : Bool) → is_ascii_digit b ≡ d → are_small (numbers_behind (Some n) (b ∷ text)) ≡ false
    by true is = rw is on
    by false is = rw is (great_first n (numbers_behind None text) great)

-- a number that is too great stays too great with further digits
great_on : (n : ℕ) (text : List ℕ) → GREATEST_NUMBER < n → are_small (numbers_behind (Some n) text) ≡ false
unfolding numbers_behind
great_on n [] great = great_first n [] great
great_on n (b ∷ text) great = great_step n b text great (great_on (n * 10 + (b - 48)) text (omega arith))

pub great_somewhere : (done : List ℕ) (n : ℕ) (text all : List ℕ) → GREATEST_NUMBER < n → done ++ numbers_behind (Some n) text ≡ all → are_small all ≡ false
great_somewhere done n text all great is =
    ap are_small (sym is) ∙ list_all-append _ done (numbers_behind (Some n) text) ∙ and_false (are_small done) (are_small (numbers_behind (Some n) text)) (great_on n text great)
