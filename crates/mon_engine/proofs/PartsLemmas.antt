-- What is known of objects is looked at one after another, each by its line of the inventory.
use Rattle.std.proofs.Common.{◌≡◌, ℕ, false, ◌+◌, ◌*◌, ◌<◌, ◌≤◌, List, length, get_or, min, Option, Some, None, slice_get, refl, sym, subst, arith, inl, inr}
use Rattle.std.specs.Prelude.{All}
use Rattle.std.proofs.lemmas.Bool.{cases_lt}
use Rattle.std.proofs.lemmas.Option.{slice_get_cases, slice_get_past, slice_get_read, slice_get_within, slice_get-get_or, get_or_from_slice_get}
use Rattle.cmd_types.specs.declared.limits.TheConstants.{GREATEST_NUMBER}
use Rattle.mon_inventory.specs.declared.records.ObjectSpec.{ObjectSpec}
use Rattle.mon_inventory.specs.Configuration.{Configuration, recovers_the_told}
use Rattle.mon_engine.specs.declared.ends.Owed.{Owed}
use Rattle.mon_engine.specs.declared.object.Object.{Object}
use Rattle.mon_engine.specs.Owed.{nobody}
use Rattle.mon_engine.specs.Sound.{AreObjectStates, IsOwing}
use Rattle.mon_engine.specs.Saved.{IsSaidObject, Fits, IsOwedFit}
use Rattle.mon_engine.specs.Misfits.{FitsLine, FitsAt, ObjectFits, OwedFits}

pub each_more : (P : ℕ → Type 0) (i : ℕ) → P i → ((k : ℕ) → k < i → P k) → (k : ℕ) → k < i + 1 → P k
each_more P i here all k l = elim (cases_lt k i) [
  | inl low ↦ all k low
  | inr high ↦ subst P (let same : i ≡ k = omega (arith, high, l) in same) here
]

module _ {A : Type 0} (P : ObjectSpec → A → Type 0) (specs : List ObjectSpec) (xs : List A) where
  -- what is known of an object fits the line at its index where both are known
  pub fits_line : (n : ℕ) (s : Option ObjectSpec) (o : Option A) → slice_get specs n ≡ s → slice_get xs n ≡ o → FitsLine P s o → FitsAt P specs xs n
  fits_line n s o at here fit =
      subst (λ (x : Option ObjectSpec). FitsLine P x (slice_get xs n)) (sym at) (subst (λ (x : Option A). FitsLine P s x) (sym here) fit)

  pub line_fits : (n : ℕ) (s : Option ObjectSpec) (o : Option A) → slice_get specs n ≡ s → slice_get xs n ≡ o → FitsAt P specs xs n → FitsLine P s o
  line_fits n s o at here fit =
      subst (λ (x : Option A). FitsLine P s x) here (subst (λ (x : Option ObjectSpec). FitsLine P x (slice_get xs n)) at fit)

  -- at the end of the shorter list there is a line of which nothing is known, or what is known has no line
  pub lacks_one : (n : ℕ) → n ≡ min (length xs) (length specs) → (length xs ≡ length specs → ⊥) → FitsAt P specs xs n → ⊥
  lacks_one n is differ fit = elim (slice_get_cases specs n).1 [
    | inl spec ↦ elim (slice_get_cases xs n).1 [
      | inl o ↦ (let low = spec.1 in let within = o.1 in omega (arith, low, within, is))
      | inr past ↦ line_fits n (Some spec.0) None spec.2 past.1 fit
    ]
    | inr beyond ↦ elim (slice_get_cases xs n).1 [
      | inl o ↦ line_fits n None (Some o.0) beyond.1 o.2 fit
      | inr past ↦ differ (let low = beyond.0 in let within = past.0 in omega (arith, low, within, is))
    ]
  ]

  -- where each has its line and fits it, all do
  pub each_fits : length xs ≡ length specs → ((n : ℕ) (spec : ObjectSpec) (x : A) → slice_get specs n ≡ Some spec → slice_get xs n ≡ Some x → P spec x) → (n : ℕ) → FitsAt P specs xs n
  each_fits long each n = elim (slice_get_cases specs n).1 [
    | inl spec ↦ elim (slice_get_cases xs n).1 [
      | inl o ↦ fits_line n (Some spec.0) (Some o.0) spec.2 o.2 (each n spec.0 o.0 spec.2 o.2)
      | inr past ↦ absurd (let low = spec.1 in let within = past.0 in omega (arith, low, within, long))
    ]
    | inr beyond ↦ elim (slice_get_cases xs n).1 [
      | inl o ↦ absurd (let low = beyond.0 in let within = o.1 in omega (arith, low, within, long))
      | inr past ↦ fits_line n None None beyond.1 past.1 tt
    ]
  ]

  -- where what is known fits up to the end of both lists, all does
  module _ (n : ℕ) (long : length xs ≡ length specs) (last : length xs ≤ n) (all : (k : ℕ) → k < n → FitsAt P specs xs k) where
    pub all_fit : (k : ℕ) → FitsAt P specs xs k
    all_fit k = elim (cases_lt k n) [
      | inl low ↦ all k low
      | inr high ↦ fits_line k None None (slice_get_past specs k (omega (arith, high, long, last))) (slice_get_past xs k (omega (arith, high, last))) tt
    ]

    pub with_line : (k : ℕ) (x : A) → slice_get xs k ≡ Some x → (spec : ObjectSpec) × P spec x
    with_line k x here = elim (slice_get_cases specs k).1 [
      | inl spec ↦ (spec.0, line_fits k (Some spec.0) (Some x) spec.2 here (all_fit k))
      | inr beyond ↦ absurd (let low = beyond.0 in let within = slice_get_within xs k x here in omega (arith, low, within, long))
    ]

module _ {A : Type 0} (P : ObjectSpec → A → Type 0) (specs : List ObjectSpec) (xs : List A) where
  -- what was read fits the line that was read at its index, or not
  pub read_fits : (n : ℕ) (spec : ObjectSpec) (x : A) → n < length specs → n < length xs → spec ≡ get_or specs n spec → x ≡ get_or xs n x → P spec x → FitsAt P specs xs n
  read_fits n spec x low within is its = fits_line P specs xs n (Some spec) (Some x) (slice_get_read specs (length specs) n spec refl low is) (slice_get_read xs (length xs) n x refl within its)

  pub fits_read : (n : ℕ) (spec : ObjectSpec) (x : A) → n < length specs → n < length xs → spec ≡ get_or specs n spec → x ≡ get_or xs n x → FitsAt P specs xs n → P spec x
  fits_read n spec x low within is its = line_fits P specs xs n (Some spec) (Some x) (slice_get_read specs (length specs) n spec refl low is) (slice_get_read xs (length xs) n x refl within its)

-- ---- objects

module _ (before : ℕ) (specs : List ObjectSpec) (os : List Object) where
  -- objects that are in their states and were said fit their lines
  pub states_fit : AreObjectStates (2 * before) specs os → All IsSaidObject os → (n : ℕ) → ObjectFits before specs os n
  states_fit states said = each_fits (Fits before) specs os states.as_many (λ n spec o at here. record {
    state = states.each n spec o at here;
    number = states.numbers n o here;
    said = subst IsSaidObject (get_or_from_slice_get os n o o here) (said n o (slice_get_within os n o here));
  })

  -- objects that fit their lines are in their states and were said
  module _ (n : ℕ) (long : length os ≡ length specs) (last : length os ≤ n) (all : (k : ℕ) → k < n → ObjectFits before specs os k) where
    pub fit_states : AreObjectStates (2 * before) specs os
    fit_states = record {
      as_many = long;
      each = λ k spec o at here. (line_fits (Fits before) specs os k (Some spec) (Some o) at here (all_fit (Fits before) specs os n long last all k)).state;
      numbers = λ k o here. (with_line (Fits before) specs os n long last all k o here).1.number;
    }

    pub fit_said : All IsSaidObject os
    fit_said = λ k d low. (with_line (Fits before) specs os n long last all k (get_or os k d) (slice_get-get_or os k d low)).1.said

-- ---- who is owed an end

module _ (inv : Configuration) (before : ℕ) (owed : List Owed) where
  abbrev IsFit : ObjectSpec → Owed → Type 0
  IsFit spec x = IsOwedFit inv before x

  -- those who are of the inventory, with numbers in range, and none without the option, fit it
  pub owing_fits : IsOwing inv owed → All (λ x. x.number ≤ GREATEST_NUMBER + 2 * before) owed → (recovers_the_told inv ≡ false → All (λ x. x ≡ nobody) owed) → (n : ℕ) → OwedFits inv before owed n
  owing_fits owing few without = each_fits IsFit inv.objects owed owing.as_many (λ n spec x at here. (let low = slice_get_within owed n x here in subst (IsOwedFit inv before) (get_or_from_slice_get owed n x x here) (record {
    within = owing.within n x low;
    number = few n x low;
    without = λ off. without off n x low;
  })))

  -- who was read fits, or not
  pub owed_here : (n : ℕ) (x : Owed) → n < length inv.objects → n < length owed → x ≡ get_or owed n x → IsOwedFit inv before x → OwedFits inv before owed n
  owed_here n x low within its fit = elim (slice_get_cases inv.objects n).1 [
    | inl spec ↦ fits_line IsFit inv.objects owed n (Some spec.0) (Some x) spec.2 (slice_get_read owed (length owed) n x refl within its) fit
    | inr beyond ↦ absurd (let past = beyond.0 in omega (arith, low, past))
  ]

  pub here_owed : (n : ℕ) (x : Owed) → n < length inv.objects → n < length owed → x ≡ get_or owed n x → OwedFits inv before owed n → IsOwedFit inv before x
  here_owed n x low within its fit = elim (slice_get_cases inv.objects n).1 [
    | inl spec ↦ line_fits IsFit inv.objects owed n (Some spec.0) (Some x) spec.2 (slice_get_read owed (length owed) n x refl within its) fit
    | inr beyond ↦ absurd (let past = beyond.0 in omega (arith, low, past))
  ]

  pub one_lacks : (n : ℕ) → n ≡ min (length owed) (length inv.objects) → (length owed ≡ length inv.objects → ⊥) → OwedFits inv before owed n → ⊥
  one_lacks n is differ fit = lacks_one IsFit inv.objects owed n is differ fit

  -- those who fit the inventory are of it
  module _ (n : ℕ) (long : length owed ≡ length inv.objects) (last : length owed ≤ n) (all : (k : ℕ) → k < n → OwedFits inv before owed k) where
    fit_owed : All (IsOwedFit inv before) owed
    fit_owed = λ k d low. (with_line IsFit inv.objects owed n long last all k (get_or owed k d) (slice_get-get_or owed k d low)).1

    pub all_owed : (k : ℕ) → OwedFits inv before owed k
    all_owed k = all_fit IsFit inv.objects owed n long last all k

    pub fit_owing : IsOwing inv owed
    fit_owing = record { as_many = long; within = λ k d low. (fit_owed k d low).within }

    pub fit_numbers : All (λ x. x.number ≤ GREATEST_NUMBER + 2 * before) owed
    fit_numbers = λ k d low. (fit_owed k d low).number

    pub fit_without : recovers_the_told inv ≡ false → All (λ x. x ≡ nobody) owed
    fit_without off = λ k d low. (fit_owed k d low).without off
