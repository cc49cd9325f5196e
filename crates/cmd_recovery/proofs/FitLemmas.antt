-- The feeds of a run: each is the clock feed, named by the call, or left out.
use Rattle.std.proofs.Common.{◌≡◌, ◌<◌, ◌≤◌, inl, inr, ℕ, ◌+◌, zero, suc, Bool, true, false, if◌then◌else◌, List, [], ◌∷◌, ◌++◌, length, map, get_or, take, Option, Some, None, IfSome, refl, sym, ap, ◌∙◌, subst, arith}
use Rattle.std.specs.Prelude.{slice_get}
use Rattle.std.specs.List.{count_by}
use Rattle.std.specs.Str.{bytes_eq}
use Rattle.std.proofs.lemmas.Bool.{cases_lt, eq-eqb, ne_eqb, eqb-true}
use Rattle.std.proofs.lemmas.List.{take_more}
use Rattle.std.proofs.lemmas.List.Sums.{sum_by-cons}
use Rattle.mon_engine.specs.Telling.{is_clock}
use Rattle.mon_state.specs.declared.feeds.KeptFeed.{KeptFeed}
use Rattle.cmd_recovery.specs.declared.feeds.assigned.Role.{Role}
use Rattle.cmd_recovery.specs.declared.feeds.assigned.Role.TheVariants.{Given, Clock, Unnamed}
use Rattle.cmd_recovery.specs.Assigns.{own_words, word_at, has_word, new_feed, given_places, left_out, IfGiven, Fits, AreFit}
use Rattle.cmd_recovery.proofs.AssignLemmas.{bit}

-- ---- the clock

abbrev pub Unclocked : (clock : Option ℕ) → (from upto : ℕ) → Type 0
Unclocked clock from upto = (m : ℕ) → from ≤ m → m < upto → is_clock clock m ≡ false

pub is_clock_some : (clock : Option ℕ) (k : ℕ) → is_clock clock k ≡ true → clock ≡ Some k
is_clock_some None k is = absurd cc
is_clock_some (Some c) k is = ap (λ (n : ℕ). Some n) (eqb-true c k is)

below_clock : (clock : Option ℕ) (n : ℕ) → IfSome clock (λ k. k < n) → (m : ℕ) → n ≤ m → is_clock clock m ≡ false
below_clock None n low m le = refl
below_clock (Some k) n low m le = ne_eqb k m (λ e. absurd (omega (arith, low, le, e)))

above_other : (k n : ℕ) → n ≤ k → is_clock (Some k) n ≡ false → n + 1 ≤ k
above_other k n le other = elim (cases_lt n k) [ inl low ↦ omega (arith, low) | inr high ↦ absurd (clash (eq-eqb k n (omega (arith, le, high)))) ]
  where
    clash : is_clock (Some k) n ≡ true → ⊥
    clash own = cc

-- ---- fits

module _ (words : List (List ℕ)) where
  pub fit_length : (clock : Option ℕ) (n : ℕ) (fs : List KeptFeed) (rs : List Role) → AreFit words clock n fs rs → length rs ≡ length fs
  fit_length clock n [] [] fit = refl
  fit_length clock n [] (r ∷ rs) fit = absurd fit
  fit_length clock n (f ∷ fs) [] fit = absurd fit
  fit_length clock n (f ∷ fs) (r ∷ rs) fit = ap suc (fit_length clock (n + 1) fs rs fit.1)

  pub fit_append : (clock : Option ℕ) (n : ℕ) (fs gs : List KeptFeed) (rs qs : List Role) → AreFit words clock n fs rs → AreFit words clock (n + length fs) gs qs → AreFit words clock n (fs ++ gs) (rs ++ qs)
  fit_append clock n [] gs [] qs fit more = (let e : n + 0 ≡ n = omega arith in subst (λ (m : ℕ). AreFit words clock m gs qs) e more)
  fit_append clock n [] gs (r ∷ rs) qs fit more = absurd fit
  fit_append clock n (f ∷ fs) gs [] qs fit more = absurd fit
  fit_append clock n (f ∷ fs) gs (r ∷ rs) qs fit more =
      (fit.0, fit_append clock (n + 1) fs gs rs qs fit.1 (let e : n + suc (length fs) ≡ (n + 1) + length fs = omega arith in subst (λ (m : ℕ). AreFit words clock m gs qs) e more))

  pub fit_at : (clock : Option ℕ) (n : ℕ) (fs : List KeptFeed) (rs : List Role) → AreFit words clock n fs rs → (k : ℕ) (r : Role) → slice_get rs k ≡ Some r → (f : KeptFeed) × (slice_get fs k ≡ Some f) × Fits words clock (n + k) f r
  fit_at clock n [] [] fit k r here = absurd cc
  fit_at clock n [] (q ∷ rs) fit k r here = absurd fit
  fit_at clock n (f ∷ fs) [] fit k r here = absurd fit
  fit_at clock n (f ∷ fs) (q ∷ rs) fit zero r here = (let own : q ≡ r = cc in (f, refl, (let e : n ≡ n + 0 = omega arith in subst (λ (p : ℕ × Role). Fits words clock p.0 f p.1) (λ i. (e i, own i)) fit.0)))
  fit_at clock n (f ∷ fs) (q ∷ rs) fit (suc k) r here =
      (let more = fit_at clock (n + 1) fs rs fit.1 k r here in (more.0, more.1, (let e : (n + 1) + k ≡ n + suc k = omega arith in subst (λ (m : ℕ). Fits words clock m more.0 r) e more.2)))

  -- new feeds fit after the clock feed
  pub fit_new : (clock : Option ℕ) (n : ℕ) (free : List ℕ) → IfSome clock (λ k. k < n) → AreFit words clock n (map (λ i. new_feed (word_at words i)) free) (map Given free)
  fit_new clock n [] low = tt
  fit_new clock n (i ∷ free) low = ((below_clock clock n low n (omega arith), refl), fit_new clock (n + 1) free (higher clock low))
    where
      higher : (c : Option ℕ) → IfSome c (λ k. k < n) → IfSome c (λ k. k < n + 1)
      higher None low = tt
      higher (Some k) low = omega (arith, low)

  -- where there is no clock feed, a clock feed after these feeds changes nothing
  pub fit_other : (n m : ℕ) (fs : List KeptFeed) (rs : List Role) → AreFit words None n fs rs → n + length fs ≤ m → AreFit words (Some m) n fs rs
  fit_other n m [] [] fit le = tt
  fit_other n m [] (r ∷ rs) fit le = absurd fit
  fit_other n m (f ∷ fs) [] fit le = absurd fit
  fit_other n m (f ∷ fs) (Given i ∷ rs) fit le = ((ne_eqb m n (λ e. absurd (omega (arith, le, e))), fit.0.1), fit_other (n + 1) m fs rs fit.1 (omega (arith, le)))
  fit_other n m (f ∷ fs) (Unnamed ∷ rs) fit le = (ne_eqb m n (λ e. absurd (omega (arith, le, e))), fit_other (n + 1) m fs rs fit.1 (omega (arith, le)))
  fit_other n m (f ∷ fs) (Clock ∷ rs) fit le = absurd (no_clock fit.0)
    where
      no_clock : false ≡ true → ⊥
      no_clock e = cc

  -- ---- how many

  pub none_clocks : (clock : Option ℕ) (n : ℕ) (fs : List KeptFeed) (rs : List Role) → AreFit words clock n fs rs → Unclocked clock n (n + length fs) → length (given_places rs) + length (left_out fs rs) ≡ length rs
  none_clocks clock n [] [] fit un = refl
  none_clocks clock n [] (r ∷ rs) fit un = absurd fit
  none_clocks clock n (f ∷ fs) [] fit un = absurd fit
  none_clocks clock n (f ∷ fs) (Given i ∷ rs) fit un = (let rest = none_clocks clock (n + 1) fs rs fit.1 (λ m le lt. un m (omega (arith, le)) (omega (arith, lt))) in omega (arith, rest))
  none_clocks clock n (f ∷ fs) (Unnamed ∷ rs) fit un = (let rest = none_clocks clock (n + 1) fs rs fit.1 (λ m le lt. un m (omega (arith, le)) (omega (arith, lt))) in omega (arith, rest))
  none_clocks clock n (f ∷ fs) (Clock ∷ rs) fit un = absurd (both (un n (omega arith) (omega arith)) fit.0)
    where
      both : is_clock clock n ≡ false → is_clock clock n ≡ true → ⊥
      both x y = cc

  pub one_clocks : (k n : ℕ) (fs : List KeptFeed) (rs : List Role) → AreFit words (Some k) n fs rs → n ≤ k → k < n + length fs → length (given_places rs) + length (left_out fs rs) + 1 ≡ length rs
  one_clocks k n [] rs fit le lt = absurd (omega (arith, le, lt))
  one_clocks k n (f ∷ fs) [] fit le lt = absurd fit
  one_clocks k n (f ∷ fs) (Given i ∷ rs) fit le lt = (let rest = one_clocks k (n + 1) fs rs fit.1 (above_other k n le fit.0.0) (omega (arith, lt)) in omega (arith, rest))
  one_clocks k n (f ∷ fs) (Unnamed ∷ rs) fit le lt = (let rest = one_clocks k (n + 1) fs rs fit.1 (above_other k n le fit.0) (omega (arith, lt)) in omega (arith, rest))
  one_clocks k n (f ∷ fs) (Clock ∷ rs) fit le lt =
      (let own : k ≡ n = eqb-true k n fit.0 in
      let rest = none_clocks (Some k) (n + 1) fs rs fit.1 (λ m le lt. ne_eqb k m (λ e. absurd (omega (arith, own, le, e)))) in
      omega (arith, rest))

  -- ---- the words of the directory's feeds: those that the call names, and those that it leaves out

  own_first : (w : List ℕ) (clock : Option ℕ) (n : ℕ) (f : KeptFeed) (fs : List KeptFeed) → is_clock clock n ≡ false → count_by (bytes_eq w) (own_words clock n (f ∷ fs)) ≡ bit (bytes_eq w f.words) + count_by (bytes_eq w) (own_words clock (n + 1) fs)
  own_first w clock n f fs other =
      ap (λ (b : Bool). count_by (bytes_eq w) (if b then own_words clock (n + 1) fs else f.words ∷ own_words clock (n + 1) fs)) other
      ∙ sum_by-cons (λ x. bit (bytes_eq w x)) f.words (own_words clock (n + 1) fs)

  pub own_given : (w : List ℕ) (clock : Option ℕ) (n : ℕ) (fs : List KeptFeed) (rs : List Role) → AreFit words clock n fs rs → count_by (bytes_eq w) (own_words clock n fs) ≡ count_by (has_word words w) (given_places rs) + count_by (bytes_eq w) (left_out fs rs)
  own_given w clock n [] [] fit = refl
  own_given w clock n [] (r ∷ rs) fit = absurd fit
  own_given w clock n (f ∷ fs) [] fit = absurd fit
  own_given w clock n (f ∷ fs) (Given i ∷ rs) fit =
      (let first = own_first w clock n f fs fit.0.0 in
      let same : bit (bytes_eq w f.words) ≡ bit (has_word words w i) = λ j. bit (bytes_eq w (sym fit.0.1 j)) in
      let rest = own_given w clock (n + 1) fs rs fit.1 in
      let given = sum_by-cons (λ k. bit (has_word words w k)) i (given_places rs) in
      omega (arith, first, same, rest, given))
  own_given w clock n (f ∷ fs) (Unnamed ∷ rs) fit =
      (let first = own_first w clock n f fs fit.0 in
      let rest = own_given w clock (n + 1) fs rs fit.1 in
      let left = sum_by-cons (λ x. bit (bytes_eq w x)) f.words (left_out fs rs) in
      omega (arith, first, rest, left))
  own_given w clock n (f ∷ fs) (Clock ∷ rs) fit =
      ap (λ (b : Bool). count_by (bytes_eq w) (if b then own_words clock (n + 1) fs else f.words ∷ own_words clock (n + 1) fs)) fit.0
      ∙ own_given w clock (n + 1) fs rs fit.1

-- the role of a feed of the directory
pub fits_of : (words : List (List ℕ)) (clock : Option ℕ) (n : ℕ) (f : KeptFeed) (r : Role) (b : Bool) → b ≡ is_clock clock n → (b ≡ true → ◌≡◌ {A = Role} r Clock) → (b ≡ false → IfGiven r (λ place. word_at words place ≡ f.words)) → Fits words clock n f r
fits_of words clock n f (Given i) true is clocked given = absurd (let clash : ◌≡◌ {A = Role} (Given i) Clock = clocked refl in cc)
fits_of words clock n f Unnamed true is clocked given = absurd (let clash : ◌≡◌ {A = Role} Unnamed Clock = clocked refl in cc)
fits_of words clock n f Clock true is clocked given = sym is
fits_of words clock n f (Given i) false is clocked given = (sym is, given refl)
fits_of words clock n f Clock false is clocked given = absurd (given refl)
fits_of words clock n f Unnamed false is clocked given = sym is

pub length_front : {A : Type 0} (xs : List A) (n : ℕ) → n < length xs → length (take n xs) ≡ n
length_front [] n lt = absurd (omega (arith, lt))
length_front (x ∷ xs) zero lt = refl
length_front (x ∷ xs) (suc n) lt = ap suc (length_front xs n (omega (arith, lt)))

-- one more feed fits its role
pub fit_more : (words : List (List ℕ)) (clock : Option ℕ) (feeds : List KeptFeed) (n : ℕ) (f : KeptFeed) (rs rs' : List Role) (r : Role) → n < length feeds → f ≡ get_or feeds n f → AreFit words clock 0 (take n feeds) rs → Fits words clock n f r → rs' ≡ rs ++ r ∷ []
    → AreFit words clock 0 (take (n + 1) feeds) rs'
fit_more words clock feeds n f rs rs' r lt is fit fits put =
    subst (λ (p : List KeptFeed × List Role). AreFit words clock 0 p.0 p.1) (λ i. (sym (take_more feeds n f lt ∙ ap (λ (g : KeptFeed). take n feeds ++ g ∷ []) (sym is)) i, sym put i))
    (fit_append words clock 0 (take n feeds) (f ∷ []) rs (r ∷ []) fit (let e : n ≡ 0 + length (take n feeds) = (let so = length_front feeds n lt in omega (arith, so)) in (subst (λ (m : ℕ). Fits words clock m f r) e fits, tt)))
