-- The feeds of a run: those that the call leaves out, and those that are new.
use Rattle.std.proofs.Common.{◌≡◌, ◌<◌, ◌≤◌, ◌⊎◌, inl, inr, ℕ, ◌+◌, zero, suc, Bool, true, false, if◌then◌else◌, List, [], ◌∷◌, ◌++◌, length, map, get_or, take, eqb, Option, Some, All, refl, sym, ap, ◌∙◌, subst, arith, append_assoc}
use Rattle.std.specs.Prelude.{slice_get}
use Rattle.std.specs.Option.{option_map}
use Rattle.std.specs.List.{count_by, list_any}
use Rattle.std.specs.List.Sorted.{IsPermutation}
use Rattle.std.specs.Str.{bytes_eq}
use Rattle.std.proofs.lemmas.Bool.{eq-eqb}
use Rattle.std.proofs.lemmas.Slice.Eq.{bytes_eq-Decides}
use Rattle.std.proofs.lemmas.List.{take_more}
use Rattle.std.proofs.lemmas.List.Elements.{All-append, All-cons, All-head, All-nil, All-tail, All-weaker}
use Rattle.std.proofs.lemmas.List.Folds.{Any-from_list_any, list_any_at}
use Rattle.std.proofs.lemmas.List.Sums.{sum_by-cons, sum_by-append}
use Rattle.std.proofs.lemmas.List.Sorted.{sum_by-IsPermutation}
use Rattle.std.proofs.lemmas.Option.{slice_get-get_or, slice_get-map, slice_get_within}
use Rattle.mon_state.specs.declared.feeds.KeptFeed.{KeptFeed}
use Rattle.mon_state.specs.Feeds.{Feeds}
use Rattle.cmd_recovery.specs.declared.feeds.assigned.Role.{Role}
use Rattle.cmd_recovery.specs.declared.feeds.assigned.Role.TheVariants.{Given, Clock, Unnamed}
use Rattle.cmd_recovery.specs.Assigns.{AreUnnamed, LacksOf, LacksOne, BringsOne, own_words, places_to, word_at, has_word, new_feed, places_of, words_left, left_out, given_places, AreFit}
use Rattle.cmd_recovery.proofs.AssignLemmas.{bit, all_counted, same_bytes}
use Rattle.cmd_recovery.proofs.FitLemmas.{fit_at, fit_length, own_given}

-- ---- the words that are left out

pub left_more : (fs gs : List KeptFeed) (rs qs : List Role) → length rs ≡ length fs → left_out (fs ++ gs) (rs ++ qs) ≡ left_out fs rs ++ left_out gs qs
left_more [] gs [] qs same = refl
left_more [] gs (r ∷ rs) qs same = absurd (omega (arith, same))
left_more (f ∷ fs) gs [] qs same = absurd (omega (arith, same))
left_more (f ∷ fs) gs (r ∷ rs) qs same =
    ap (λ (l : List (List ℕ)). words_left f r ++ l) (left_more fs gs rs qs (omega (arith, same))) ∙ sym (append_assoc (words_left f r) (left_out fs rs) (left_out gs qs))

-- none of the new feeds
pub left_new : (words : List (List ℕ)) (free : List ℕ) → left_out (map (λ i. new_feed (word_at words i)) free) (map Given free) ≡ []
left_new words [] = refl
left_new words (i ∷ free) = left_new words free

-- a feed that is left out has its words among them
left_at : (P : List ℕ → Type 0) (fs : List KeptFeed) (rs : List Role) (k : ℕ) (f : KeptFeed) → slice_get fs k ≡ Some f → slice_get rs k ≡ Some Unnamed → All P (left_out fs rs) → P f.words × (1 ≤ count_by (bytes_eq f.words) (left_out fs rs))
left_at P [] rs k f here role all = absurd cc
left_at P (g ∷ fs) [] k f here role all = absurd cc
left_at P (g ∷ fs) (Unnamed ∷ rs) zero f here role all =
    (let own : g ≡ f = cc in
    let self : bit (bytes_eq f.words g.words) ≡ 1 = ap bit ((bytes_eq-Decides f.words g.words).1 (λ i. (sym own i).words)) in
    let first = sum_by-cons (λ x. bit (bytes_eq f.words x)) g.words (left_out fs rs) in
    (subst (λ (x : KeptFeed). P x.words) own (All-head P g.words (left_out fs rs) all), omega (arith, self, first)))
left_at P (g ∷ fs) (Given i ∷ rs) zero f here role all = absurd cc
left_at P (g ∷ fs) (Clock ∷ rs) zero f here role all = absurd cc
left_at P (g ∷ fs) (Unnamed ∷ rs) (suc k) f here role all =
    (let rest = left_at P fs rs k f here role (All-tail P g.words (left_out fs rs) all) in
    let first = sum_by-cons (λ x. bit (bytes_eq f.words x)) g.words (left_out fs rs) in
    let more = rest.1 in
    (rest.0, omega (arith, more, first)))
left_at P (g ∷ fs) (Given i ∷ rs) (suc k) f here role all = left_at P fs rs k f here role all
left_at P (g ∷ fs) (Clock ∷ rs) (suc k) f here role all = left_at P fs rs k f here role all

-- where no role is that of a feed that is left out, there are none
pub none_left : (fs : List KeptFeed) (rs : List Role) → ((k : ℕ) → slice_get rs k ≡ Some Unnamed → ⊥) → left_out fs rs ≡ []
none_left [] rs none = refl
none_left (f ∷ fs) [] none = refl
none_left (f ∷ fs) (Given i ∷ rs) none = none_left fs rs (λ k. none (suc k))
none_left (f ∷ fs) (Clock ∷ rs) none = none_left fs rs (λ k. none (suc k))
none_left (f ∷ fs) (Unnamed ∷ rs) none = absurd (none zero refl)

-- ---- no index that is free has them

abbrev pub AllTaken : (words : List (List ℕ)) → (free : List ℕ) → List (List ℕ) → Type 0
AllTaken words free left = All (λ w. count_by (has_word words w) free ≡ 0) left

fewer : (words : List (List ℕ)) (free free' : List ℕ) (r : Role) → IsPermutation free (places_of r ++ free') → (w : List ℕ) → count_by (has_word words w) free ≡ 0 → count_by (has_word words w) free' ≡ 0
fewer words free free' r shared w none =
    (let total = sum_by-IsPermutation (λ k. bit (has_word words w k)) free (places_of r ++ free') shared in
    let both = sum_by-append (λ k. bit (has_word words w k)) (places_of r) free' in
    omega (arith, none, total, both))

-- with one more role
pub taken_more : (words : List (List ℕ)) (feeds : List KeptFeed) (n : ℕ) (f : KeptFeed) (rs rs' : List Role) (r : Role) (free free' : List ℕ) → n < length feeds → f ≡ get_or feeds n f → length rs ≡ length (take n feeds) → rs' ≡ rs ++ r ∷ [] → IsPermutation free (places_of r ++ free')
    → (◌≡◌ {A = Role} r Unnamed → count_by (has_word words f.words) free ≡ 0) → AllTaken words free (left_out (take n feeds) rs) → AllTaken words free' (left_out (take (n + 1) feeds) rs')
taken_more words feeds n f rs rs' r free free' lt is same put shared own before =
    subst (AllTaken words free')
    (sym (ap (λ (p : List KeptFeed × List Role). left_out p.0 p.1) (λ i. ((take_more feeds n f lt ∙ ap (λ (g : KeptFeed). take n feeds ++ g ∷ []) (sym is)) i, put i)) ∙ left_more (take n feeds) (f ∷ []) rs (r ∷ []) same))
    (All-append (λ w. count_by (has_word words w) free' ≡ 0) (left_out (take n feeds) rs) (left_out (f ∷ []) (r ∷ [])) (All-weaker (λ w. count_by (has_word words w) free ≡ 0) (λ w. count_by (has_word words w) free' ≡ 0) (fewer words free free' r shared) (left_out (take n feeds) rs) before) (last r shared own))
  where
    last : (r : Role) → IsPermutation free (places_of r ++ free') → (◌≡◌ {A = Role} r Unnamed → count_by (has_word words f.words) free ≡ 0) → AllTaken words free' (left_out (f ∷ []) (r ∷ []))
    last (Given i) shared own = All-nil (λ w. count_by (has_word words w) free' ≡ 0)
    last Clock shared own = All-nil (λ w. count_by (has_word words w) free' ≡ 0)
    last Unnamed shared own = All-cons (λ w. count_by (has_word words w) free' ≡ 0) f.words [] (fewer words free free' Unnamed shared f.words (own refl)) (All-nil (λ w. count_by (has_word words w) free' ≡ 0))

-- words that a free index has are none of them
other_left : (words : List (List ℕ)) (free : List ℕ) (w : List ℕ) (left : List (List ℕ)) → 1 ≤ count_by (has_word words w) free → AllTaken words free left → count_by (bytes_eq w) left ≡ 0
other_left words free w [] some all = refl
other_left words free w (x ∷ left) some all =
    (let rest = other_left words free w left some (All-tail (λ w. count_by (has_word words w) free ≡ 0) x left all) in
    let none = All-head (λ w. count_by (has_word words w) free ≡ 0) x left all in
    let first = sum_by-cons (λ y. bit (bytes_eq w y)) x left in
    by_test (bytes_eq w x) refl none rest first)
  where
    by_test : (b : Bool) → bytes_eq w x ≡ b → count_by (has_word words x) free ≡ 0 → count_by (bytes_eq w) left ≡ 0 → count_by (bytes_eq w) (x ∷ left) ≡ bit (bytes_eq w x) + count_by (bytes_eq w) left → count_by (bytes_eq w) (x ∷ left) ≡ 0
    by_test true is none rest first = absurd (let same = ap (λ (y : List ℕ). count_by (has_word words y) free) (same_bytes w x is) in omega (arith, some, none, same))
    by_test false is none rest first = (let other : bit (bytes_eq w x) ≡ 0 = ap bit is in omega (arith, rest, first, other))

-- ---- the roles behind those of the directory

abbrev pub Last : Bool → List Role
Last asks = if asks then Clock ∷ [] else []

none_behind : (free : List ℕ) (asks : Bool) (k : ℕ) → slice_get (map Given free ++ Last asks) k ≡ Some Unnamed → ⊥
none_behind [] true zero here = absurd cc
none_behind [] true (suc k) here = absurd cc
none_behind [] false k here = absurd cc
none_behind (i ∷ free) asks zero here = absurd cc
none_behind (i ∷ free) asks (suc k) here = none_behind free asks k here

before_new : (rs : List Role) (free : List ℕ) (asks : Bool) (k : ℕ) → slice_get (rs ++ (map Given free ++ Last asks)) k ≡ Some Unnamed → slice_get rs k ≡ Some Unnamed
before_new [] free asks k here = absurd (none_behind free asks k here)
before_new (r ∷ rs) free asks zero here = here
before_new (r ∷ rs) free asks (suc k) here = before_new rs free asks k here

before_clock : (rs : List Role) (asks : Bool) (l i : ℕ) → slice_get (rs ++ Last asks) l ≡ Some (Given i) → l < length rs
before_clock [] true zero i here = absurd cc
before_clock [] true (suc l) i here = absurd cc
before_clock [] false l i here = absurd cc
before_clock (r ∷ rs) asks zero i here = omega arith
before_clock (r ∷ rs) asks (suc l) i here = (let rest = before_clock rs asks l i here in omega (arith, rest))

-- ---- the test

pub nothing : (free : List ℕ) → length free ≡ 0 → free ≡ []
nothing [] none = refl
nothing (i ∷ free) none = absurd (omega (arith, none))

pub some_left : (free : List ℕ) → free ≡ [] → (n : ℕ) → n ≡ length free → eqb n 0 ≡ false → ⊥
some_left free none n count some = (let own : eqb n 0 ≡ true = eq-eqb n 0 (count ∙ ap length none) in cc)

pub some_role : (E : Role → Bool) → ((i : ℕ) → E (Given i) ≡ false) → E Clock ≡ false → (rs : List Role) → list_any E rs ≡ true → (k : ℕ) × (slice_get rs k ≡ Some Unnamed)
some_role E given clock rs is =
    (let at = Any-from_list_any E rs is in
    let there : slice_get rs at.0 ≡ Some at.1 = slice_get-get_or rs at.0 at.1 at.2 ∙ ap (λ (r : Role). Some r) at.3 in
    (at.0, there ∙ ap (λ (r : Role). Some r) (only at.1 at.4)))
  where
    only : (r : Role) → E r ≡ true → r ≡ Unnamed
    only (Given i) own = absurd (let other = given i in cc)
    only Clock own = absurd cc
    only Unnamed own = refl

pub no_role : (E : Role → Bool) → E Unnamed ≡ true → (rs : List Role) → list_any E rs ≡ false → (k : ℕ) → slice_get rs k ≡ Some Unnamed → ⊥
no_role E own rs none k here =
    (let lt = slice_get_within rs k Unnamed here in
    let at : get_or rs k Unnamed ≡ Unnamed = same (sym (slice_get-get_or rs k Unnamed lt) ∙ here) in
    let some = list_any_at E rs k Unnamed lt (ap E at ∙ own) in
    cc)
  where
    same : {r q : Role} → ◌≡◌ {A = Option Role} (Some r) (Some q) → r ≡ q
    same e = cc

-- ---- all of it

-- no feed is new, or none is left out
abbrev pub AreApart : List Role → (free : List ℕ) → Type 0
AreApart rs free = (free ≡ []) ⊎ ((k : ℕ) → slice_get rs k ≡ Some Unnamed → ⊥)

module _ (words : List (List ℕ)) (feeds : Feeds) (list : List KeptFeed) (clock : Option ℕ) (same : ◌≡◌ {A = Feeds} (record { list = list; clock = clock }) feeds) (all free : List ℕ) (places : all ≡ places_to (length words))
    (rs : List Role) (fit : AreFit words clock 0 list rs) (shared : IsPermutation all (given_places rs ++ free)) (taken : AllTaken words free (left_out list rs)) where
  counts : (w : List ℕ) → count_by (bytes_eq w) words ≡ count_by (has_word words w) (given_places rs) + count_by (has_word words w) free
  counts w =
      (let named = ap (count_by (has_word words w)) places ∙ all_counted words w in
      let total = sum_by-IsPermutation (λ k. bit (has_word words w k)) all (given_places rs ++ free) shared in
      let both = sum_by-append (λ k. bit (has_word words w k)) (given_places rs) free in
      omega (arith, named, total, both))

  own_counts : (w : List ℕ) → count_by (bytes_eq w) (own_words feeds.clock 0 feeds.list) ≡ count_by (has_word words w) (given_places rs) + count_by (bytes_eq w) (left_out list rs)
  own_counts w = ap (λ (f : Feeds). count_by (bytes_eq w) (own_words f.clock 0 f.list)) (sym same) ∙ own_given words w clock 0 list rs fit

  lacks_at : (k : ℕ) → slice_get rs k ≡ Some Unnamed → (f : KeptFeed) × (slice_get list k ≡ Some f) × LacksOf words feeds f.words
  lacks_at k role =
      (let there = fit_at words clock 0 list rs fit k Unnamed role in
      let w = there.0.words in
      let at = left_at (λ w. count_by (has_word words w) free ≡ 0) list rs k there.0 there.1 role taken in
      let none = at.0 in
      let some = at.1 in
      let named = counts w in
      let own = own_counts w in
      (there.0, there.1, omega (arith, none, some, named, own)))

  pub lacks_one : (k : ℕ) → slice_get rs k ≡ Some Unnamed → LacksOne words feeds
  lacks_one k role = (let at = lacks_at k role in (at.0.words, at.2))

  pub brings_one : (free ≡ [] → ⊥) → BringsOne words feeds
  brings_one some = first free refl
    where
      first : (places : List ℕ) → free ≡ places → BringsOne words feeds
      first [] is = absurd (some is)
      first (i ∷ places) is =
          (let w = word_at words i in
          let self : bit (has_word words w i) ≡ 1 = ap bit ((bytes_eq-Decides w w).1 refl) in
          let one = ap (count_by (has_word words w)) is ∙ sum_by-cons (λ k. bit (has_word words w k)) i places in
          let at_least : 1 ≤ count_by (has_word words w) free = omega (arith, self, one) in
          let none = other_left words free w (left_out list rs) at_least taken in
          let named = counts w in
          let own = own_counts w in
          (w, omega (arith, at_least, none, named, own)))

  pub are_unnamed : (rs' rs'' : List Role) (asks : Bool) → rs' ≡ rs ++ map Given free → rs'' ≡ rs' ++ Last asks → AreApart rs free → AreUnnamed words feeds rs''
  are_unnamed rs' rs'' asks more last apart = record {
    of = λ k role. (let at = lacks_at k (old k role) in (at.0.words, ap (λ (f : Feeds). slice_get (map (λ g. g.words) f.list) k) (sym same) ∙ slice_get-map (λ (g : KeptFeed). g.words) list k ∙ ap (option_map (λ (g : KeptFeed). g.words)) at.1, at.2));
    alone = λ k l i role given. elim apart [ inl none ↦ low none l i given | inr other ↦ absurd (other k (old k role)) ];
  }
    where
      whole : rs'' ≡ rs ++ (map Given free ++ Last asks)
      whole = last ∙ ap (λ (l : List Role). l ++ Last asks) more ∙ append_assoc rs (map Given free) (Last asks)

      old : (k : ℕ) → slice_get rs'' k ≡ Some Unnamed → slice_get rs k ≡ Some Unnamed
      old k role = before_new rs free asks k (subst (λ (l : List Role). slice_get l k ≡ Some Unnamed) whole role)

      low : free ≡ [] → (l i : ℕ) → slice_get rs'' l ≡ Some (Given i) → l < length feeds.list
      low none l i given =
          (let short : rs'' ≡ rs ++ Last asks = whole ∙ ap (λ (p : List ℕ). rs ++ (map Given p ++ Last asks)) none in
          let below = before_clock rs asks l i (subst (λ (q : List Role). slice_get q l ≡ Some (Given i)) short given) in
          let count = fit_length words clock 0 list rs fit in
          let as_many = ap (λ (f : Feeds). length f.list) same in
          omega (arith, below, count, as_many))
