-- The feeds of a run are assigned: each index is taken once, the feeds of the directory stay, and all can be written.
use Rattle.std.proofs.Common.{◌≡◌, ◌<◌, ◌≤◌, ◌⊎◌, inl, inr, ℕ, ◌+◌, zero, suc, Bool, true, false, eqb, if◌then◌else◌, List, [], ◌∷◌, ◌++◌, length, map, Option, Some, None, IfSome, All, Bor, refl, sym, ap, ◌∙◌, subst, arith, append_assoc, append-nil, length-append}
use Rattle.std.specs.Prelude.{slice_get}
use Rattle.std.specs.Option.{option_map}
use Rattle.std.specs.List.{count_by}
use Rattle.std.specs.List.Sorted.{IsPermutation}
use Rattle.std.proofs.lemmas.Bool.{cases_lt, eq-eqb}
use Rattle.std.proofs.lemmas.List.{get_or-map, length-map}
use Rattle.std.proofs.lemmas.List.Elements.{All-append, All-cons, All-nil, All-push, All-map, All-weaker}
use Rattle.std.proofs.lemmas.List.Sorted.{sum_by-IsPermutation, length_permutation}
use Rattle.std.proofs.lemmas.Option.{slice_get_within, slice_get_past, slice_get-get_or, slice_get-map}
use Rattle.cmd_types.specs.Bytes.{Lacks}
use Rattle.cmd_store.specs.Stores.{BeginsWith}
use Rattle.cmd_types.specs.declared.entry.TheConstants.{MOST_SENDERS}
use Rattle.mon_engine.specs.Telling.{is_clock}
use Rattle.mon_state.specs.declared.feeds.KeptFeed.{KeptFeed}
use Rattle.mon_state.specs.Feeds.{Feeds, IsWritable, AreWritable}
use Rattle.cmd_recovery.specs.declared.feeds.assigned.Role.{Role}
use Rattle.cmd_recovery.specs.declared.feeds.assigned.Role.TheVariants.{Given, Clock, Unnamed}
use Rattle.cmd_recovery.specs.Assigns.{IsNewFeed, TakesOver, AreAssigned, HasClock, asks_anew, clocks, new_clocks, places_to, word_at, new_feed, given_places, left_out, Fits, AreFit, clock_after}
use Rattle.cmd_recovery.proofs.AssignLemmas.{bit, one_place, no_place, is_counted, found, once_at, given_all, given_more}
use Rattle.cmd_recovery.proofs.UnnamedLemmas.{AreApart, left_more, left_new, none_left}
use Rattle.cmd_recovery.proofs.FitLemmas.{is_clock_some, fit_length, fit_append, fit_at, fit_new, fit_other, none_clocks, one_clocks}

some_at : {A : Type 0} (xs : List A) (k : ℕ) → k < length xs → (x : A) × (slice_get xs k ≡ Some x)
some_at [] k lt = absurd (omega (arith, lt))
some_at (x ∷ xs) zero lt = (x, refl)
some_at (x ∷ xs) (suc k) lt = some_at xs k (omega (arith, lt))

module _ (words : List (List ℕ)) (clock : Option ℕ) (fs : List KeptFeed) (rs : List Role) (fit : AreFit words clock 0 fs rs) (shared : IsPermutation (places_to (length words)) (given_places rs)) (within : IfSome clock (λ k. k < length fs)) where
  counted : (i : ℕ) → count_by (λ k. eqb i k) (given_places rs) ≡ count_by (λ k. eqb i k) (places_to (length words))
  counted i = sum_by-IsPermutation (λ k. bit (eqb i k)) (places_to (length words)) (given_places rs) shared

  is_place : (k i : ℕ) → slice_get rs k ≡ Some (Given i) → i < length words
  is_place k i here = elim (cases_lt i (length words)) [
    | inl low ↦ low
    | inr high ↦ absurd (let some = is_counted i rs k here in let none = no_place i (length words) high in let all = counted i in omega (arith, some, none, all))
  ]

  role_of : (o : Option ℕ) → IfSome o (λ k. k < length fs) → clock ≡ o → IfSome o (λ k. slice_get rs k ≡ Some Clock)
  role_of None low is = tt
  role_of (Some k) low is =
      (let there = some_at rs k (let same = fit_length words clock 0 fs rs fit in omega (arith, same, low)) in
      let fits = fit_at words clock 0 fs rs fit k there.0 there.1 in
      by_role there.0 there.1 fits.0 fits.2)
    where
      clash : is_clock clock (0 + k) ≡ false → ⊥
      clash none = (let e : k ≡ 0 + k = omega arith in let own : is_clock clock (0 + k) ≡ true = ap (λ (c : Option ℕ). is_clock c (0 + k)) is ∙ eq-eqb k (0 + k) e in cc)

      by_role : (r : Role) → slice_get rs k ≡ Some r → (f : KeptFeed) → Fits words clock (0 + k) f r → slice_get rs k ≡ Some Clock
      by_role (Given i) here f fits = absurd (clash fits.0)
      by_role Unnamed here f fits = absurd (clash fits)
      by_role Clock here f fits = here

  pub are_assigned : AreAssigned words (record { list = fs; clock = clock }) rs
  are_assigned = record {
    one_each = fit_length words clock 0 fs rs fit;
    is_given = λ k i here.
        (let fits = fit_at words clock 0 fs rs fit k (Given i) here in
        slice_get-get_or words i [] (is_place k i here) ∙ ap (λ (w : List ℕ). Some w) fits.2.1 ∙ sym (slice_get-map (λ (f : KeptFeed). f.words) fs k ∙ ap (option_map (λ (f : KeptFeed). f.words)) fits.1));
    has_number = λ i w here. found i rs (let one = one_place i (length words) (slice_get_within words i w here) in let all = counted i in omega (arith, one, all));
    once = λ k l i here there. once_at i rs k l (let one = one_place i (length words) (is_place k i here) in let all = counted i in omega (arith, one, all)) here there;
    clock = λ k here. (let fits = fit_at words clock 0 fs rs fit k Clock here in let e : 0 + k ≡ k = omega arith in is_clock_some clock k (ap (is_clock clock) (sym e) ∙ fits.2));
    clock_too = role_of clock within refl;
  }

  -- the number of feeds
  pub as_many : length fs ≡ length words + length (left_out fs rs) + clocks clock false
  as_many =
      (let same = fit_length words clock 0 fs rs fit in
      let all = length_permutation (places_to (length words)) (given_places rs) shared in
      let places = length_places (length words) in
      by_clock clock within refl (omega (arith, same)) (omega (arith, all, places)))
    where
      length_places : (n : ℕ) → length (places_to n) ≡ n
      length_places zero = refl
      length_places (suc n) = (let so = length_places n in omega (arith, so, length-append (places_to n) (n ∷ [])))

      by_clock : (o : Option ℕ) → IfSome o (λ k. k < length fs) → clock ≡ o → length fs ≡ length rs → length (given_places rs) ≡ length words → length fs ≡ length words + length (left_out fs rs) + clocks o false
      by_clock None low is same all = (let given = none_clocks words clock 0 fs rs fit (λ m le lt. ap (λ (c : Option ℕ). is_clock c m) is) in omega (arith, given, same, all))
      by_clock (Some k) low is same all =
          (let given = one_clocks words k 0 fs rs (subst (λ (c : Option ℕ). AreFit words c 0 fs rs) is fit) (omega arith) (omega (arith, low)) in omega (arith, given, same, all))

-- ---- the data that feeds keep

there_still : {A : Type 0} (xs ys : List A) (k : ℕ) (x : A) → slice_get xs k ≡ Some x → slice_get (xs ++ ys) k ≡ Some x
there_still [] ys k x here = absurd cc
there_still (y ∷ xs) ys zero x here = here
there_still (y ∷ xs) ys (suc k) x here = there_still xs ys k x here

new_one : (xs ys : List KeptFeed) → ((k : ℕ) (g : KeptFeed) → slice_get ys k ≡ Some g → IsNewFeed g) → (k : ℕ) (g : KeptFeed) → slice_get xs k ≡ None → slice_get (xs ++ ys) k ≡ Some g → IsNewFeed g
new_one [] ys new k g none here = new k g here
new_one (x ∷ xs) ys new zero g none here = absurd cc
new_one (x ∷ xs) ys new (suc k) g none here = new_one xs ys new k g none here

new_is : (words : List ℕ) → IsNewFeed (new_feed words)
new_is words = record { journaled = refl; earlier = refl; last = refl }

all_new : (words : List (List ℕ)) (free : List ℕ) (k : ℕ) (g : KeptFeed) → slice_get (map (λ i. new_feed (word_at words i)) free) k ≡ Some g → IsNewFeed g
all_new words [] k g here = absurd cc
all_new words (i ∷ free) zero g here = (let own : new_feed (word_at words i) ≡ g = cc in subst IsNewFeed own (new_is (word_at words i)))
all_new words (i ∷ free) (suc k) g here = all_new words free k g here

-- the new feeds, with a new clock feed where the call asks for one
abbrev pub news : (words : List (List ℕ)) → (free : List ℕ) → Bool → List KeptFeed
news words free asks = map (λ i. new_feed (word_at words i)) free ++ (if asks then new_feed [] ∷ [] else [])

news_new : (words : List (List ℕ)) (free : List ℕ) (asks : Bool) (k : ℕ) (g : KeptFeed) → slice_get (news words free asks) k ≡ Some g → IsNewFeed g
news_new words free false k g here = all_new words free k g (subst (λ (l : List KeptFeed). slice_get l k ≡ Some g) (append-nil (map (λ i. new_feed (word_at words i)) free)) here)
news_new words free true k g here = by_old (slice_get (map (λ i. new_feed (word_at words i)) free) k) refl
  where
    last_new : (k : ℕ) (g : KeptFeed) → slice_get (new_feed [] ∷ []) k ≡ Some g → IsNewFeed g
    last_new zero g here = (let own : new_feed [] ≡ g = cc in subst IsNewFeed own (new_is []))
    last_new (suc k) g here = absurd cc

    by_old : (o : Option KeptFeed) → slice_get (map (λ i. new_feed (word_at words i)) free) k ≡ o → IsNewFeed g
    by_old None none = new_one (map (λ i. new_feed (word_at words i)) free) (new_feed [] ∷ []) last_new k g none here
    by_old (Some f) there = all_new words free k g (there ∙ sym (there_still (map (λ i. new_feed (word_at words i)) free) (new_feed [] ∷ []) k f there) ∙ here)

pub takes_over : (words : List (List ℕ)) (free : List ℕ) (list : List KeptFeed) (clock : Option ℕ) (has_clock : Bool) (number : ℕ) → length list ≤ number
    → TakesOver (record { list = list; clock = clock }) (record { list = list ++ news words free (asks_anew clock has_clock); clock = clock_after clock has_clock number })
takes_over words free list clock has_clock number le = record {
  kept = λ k f here. (f, there_still list (news words free (asks_anew clock has_clock)) k f here, record { words = refl; journaled = refl; earlier = inl refl; last = refl });
  new = λ k g none here. new_one list (news words free (asks_anew clock has_clock)) (news_new words free (asks_anew clock has_clock)) k g none here;
  clock = by_clock clock has_clock;
}
  where
    by_clock : (o : Option ℕ) (b : Bool) → (clock_after o b number ≡ o) ⊎ ((o ≡ None) × IfSome (clock_after o b number) (λ k. slice_get list k ≡ None))
    by_clock (Some k) b = inl refl
    by_clock None false = inl refl
    by_clock None true = inr (refl, slice_get_past list number le)

pub has_clock : (clock : Option ℕ) (asked : Bool) (number : ℕ) → HasClock clock asked (clock_after clock asked number)
has_clock (Some k) asked number = refl
has_clock None true number = λ e. some_none e
  where
    some_none : Some number ≡ None → ⊥
    some_none e = cc
has_clock None false number = refl

-- ---- they can be written

new_writable : (w : List ℕ) → Lacks 10 w → IsWritable (new_feed w)
new_writable w lacks = record { words = lacks; last = tt; journaled = omega arith; earlier = omega arith }

pub are_writable : (words : List (List ℕ)) (free : List ℕ) (list : List KeptFeed) (clock clock' : Option ℕ) (asks : Bool) → All (Lacks 10) words → All (λ i. i < length words) free → AreWritable (record { list = list; clock = clock })
    → length (list ++ news words free asks) ≤ MOST_SENDERS → IfSome clock' (λ k. k < length (list ++ news words free asks)) → AreWritable (record { list = list ++ news words free asks; clock = clock' })
are_writable words free list clock clock' asks lacks low before few within = record {
  each = All-append IsWritable list (news words free asks) before.each (All-append IsWritable (map (λ i. new_feed (word_at words i)) free) (if asks then new_feed [] ∷ [] else [])
      (All-map IsWritable (λ i. new_feed (word_at words i)) free (All-weaker (λ i. i < length words) (λ i. IsWritable (new_feed (word_at words i))) (λ i lt. new_writable (word_at words i) (lacks i [] lt)) free low))
      (clock_writable asks));
  few = few;
  clock = within;
}
  where
    clock_writable : (b : Bool) → All IsWritable (if b then new_feed [] ∷ [] else [])
    clock_writable true = All-cons IsWritable (new_feed []) [] (new_writable [] tt) (All-nil IsWritable)
    clock_writable false = All-nil IsWritable

-- ---- all feeds

-- the feeds fit, and each index is taken once
abbrev Finished : (words : List (List ℕ)) → Option ℕ → List KeptFeed → List Role → Type 0
Finished words clock list rs = AreFit words clock 0 list rs × IsPermutation (places_to (length words)) (given_places rs) × IfSome clock (λ k. k < length list)

-- with a new clock feed, where the call asks for one
abbrev pub with_clock : Bool → List KeptFeed → List KeptFeed
with_clock asks list = list ++ (if asks then new_feed [] ∷ [] else [])

abbrev pub with_role : Bool → List Role → List Role
with_role asks rs = rs ++ (if asks then Clock ∷ [] else [])

finished : (words : List (List ℕ)) (clock : Option ℕ) (asked : Bool) (list : List KeptFeed) (rs : List Role) → AreFit words clock 0 list rs → IsPermutation (places_to (length words)) (given_places rs) → IfSome clock (λ k. k < length list)
    → Finished words (clock_after clock asked (length list)) (with_clock (asks_anew clock asked) list) (with_role (asks_anew clock asked) rs)
finished words (Some k) asked list rs fit shared within =
    subst (λ (p : List KeptFeed × List Role). Finished words (Some k) p.0 p.1) (λ i. (sym (append-nil list) i, sym (append-nil rs) i)) (fit, shared, within)
finished words None false list rs fit shared within =
    subst (λ (p : List KeptFeed × List Role). Finished words None p.0 p.1) (λ i. (sym (append-nil list) i, sym (append-nil rs) i)) (fit, shared, tt)
finished words None true list rs fit shared within =
    (let number = length list in
    let own : AreFit words (Some number) (0 + number) (new_feed [] ∷ []) (Clock ∷ []) = (eq-eqb number (0 + number) (omega arith), tt) in (
      fit_append words (Some number) 0 list (new_feed [] ∷ []) rs (Clock ∷ []) (fit_other words 0 number list rs fit (omega arith)) own,
      subst (IsPermutation (places_to (length words))) (sym (given_more rs (Clock ∷ []) ∙ append-nil (given_places rs))) shared,
      omega (arith, length-append list (new_feed [] ∷ [])),
    ))

module _ (words : List (List ℕ)) (feeds : Feeds) (list : List KeptFeed) (clock : Option ℕ) (asked : Bool) (same : ◌≡◌ {A = Feeds} (record { list = list; clock = clock }) feeds) (within : IfSome clock (λ k. k < length list)) (all free : List ℕ) (places : all ≡ places_to (length words))
    (rs : List Role) (fit : AreFit words clock 0 list rs) (shared : IsPermutation all (given_places rs ++ free)) (list' : List KeptFeed) (new_list : list' ≡ list ++ map (λ i. new_feed (word_at words i)) free) (rs' : List Role) (new_roles : rs' ≡ rs ++ map Given free) where
  fit' : AreFit words clock 0 list' rs'
  fit' = subst (λ (p : List KeptFeed × List Role). AreFit words clock 0 p.0 p.1) (λ i. (sym new_list i, sym new_roles i)) (fit_append words clock 0 list (map (λ i. new_feed (word_at words i)) free) rs (map Given free) fit (fit_new words clock (0 + length list) free (at_most clock within)))
    where
      at_most : (o : Option ℕ) → IfSome o (λ k. k < length list) → IfSome o (λ k. k < 0 + length list)
      at_most None low = tt
      at_most (Some k) low = omega (arith, low)

  shared' : IsPermutation (places_to (length words)) (given_places rs')
  shared' = subst (λ (p : List ℕ × List ℕ). IsPermutation p.0 p.1) (λ i. (places i, (ap (λ (l : List ℕ). given_places rs ++ l) (sym (given_all free)) ∙ sym (given_more rs (map Given free)) ∙ ap given_places (sym new_roles)) i)) shared

  longer : length list ≤ length list'
  longer = (let e = ap length new_list in omega (arith, e, length-append list (map (λ i. new_feed (word_at words i)) free)))

  within' : IfSome clock (λ k. k < length list')
  within' = more clock within
    where
      more : (o : Option ℕ) → IfSome o (λ k. k < length list) → IfSome o (λ k. k < length list')
      more None low = tt
      more (Some k) low = (let le = longer in omega (arith, low, le))

  left' : left_out list' rs' ≡ left_out list rs
  left' =
      ap (λ (p : List KeptFeed × List Role). left_out p.0 p.1) (λ i. (new_list i, new_roles i))
      ∙ left_more list (map (λ i. new_feed (word_at words i)) free) rs (map Given free) (fit_length words clock 0 list rs fit)
      ∙ ap (λ (l : List (List ℕ)). left_out list rs ++ l) (left_new words free)
      ∙ append-nil (left_out list rs)

  -- with a new clock they are few: those of the call where none is left out, those of the directory where none is new
  few_with : AreApart rs free → length words + clocks clock asked ≤ MOST_SENDERS → length list + new_clocks clock asked ≤ MOST_SENDERS → length list' + new_clocks clock asked ≤ MOST_SENDERS
  few_with apart named kept = elim apart [
    | inl none ↦ (let same = ap length (new_list ∙ ap (λ (l : List ℕ). list ++ map (λ i. new_feed (word_at words i)) l) none ∙ append-nil list) in omega (arith, same, kept))
    | inr other ↦ (let count = as_many words clock list' rs' fit' shared' within' in let none = ap length (left' ∙ none_left list rs other) in let clocks = clocks_are clock asked in omega (arith, count, none, clocks, named))
  ]
    where
      clocks_are : (o : Option ℕ) (b : Bool) → clocks o b ≡ clocks o false + new_clocks o b
      clocks_are (Some k) b = refl
      clocks_are None true = refl
      clocks_are None false = refl

  pub room : AreApart rs free → length words + clocks clock asked ≤ MOST_SENDERS → length list + new_clocks clock asked ≤ MOST_SENDERS → asks_anew clock asked ≡ true → length list' < MOST_SENDERS
  room apart named kept asks = (let few = few_with apart named kept in let new = by_clock clock asked asks in omega (arith, few, new))
    where
      by_clock : (o : Option ℕ) (b : Bool) → asks_anew o b ≡ true → new_clocks o b ≡ 1
      by_clock (Some k) b asks = absurd cc
      by_clock None b asks = ap (λ (x : Bool). if x then 1 else 0) asks

  module _ (list'' : List KeptFeed) (last_list : list'' ≡ with_clock (asks_anew clock asked) list') (rs'' : List Role) (last_roles : rs'' ≡ with_role (asks_anew clock asked) rs') (clock' : Option ℕ) (last_clock : clock' ≡ clock_after clock asked (length list')) where
    all_finished : Finished words clock' list'' rs''
    all_finished = subst (λ (p : Option ℕ × (List KeptFeed × List Role)). Finished words p.0 p.1.0 p.1.1) (λ i. (sym last_clock i, (sym last_list i, sym last_roles i))) (finished words clock asked list' rs' fit' shared' within')

    pub all_assigned : AreAssigned words (record { list = list''; clock = clock' }) rs''
    all_assigned = are_assigned words clock' list'' rs'' all_finished.0 all_finished.1 all_finished.2

    pub all_few : AreApart rs free → length words + clocks clock asked ≤ MOST_SENDERS → length list + new_clocks clock asked ≤ MOST_SENDERS → length list'' ≤ MOST_SENDERS
    all_few apart named kept = (let few = few_with apart named kept in let count = ap length last_list ∙ by_clock clock asked in omega (arith, few, count))
      where
        by_clock : (o : Option ℕ) (b : Bool) → length (with_clock (asks_anew o b) list') ≡ length list' + new_clocks o b
        by_clock (Some k) b = length-append list' []
        by_clock None true = length-append list' (new_feed [] ∷ [])
        by_clock None false = length-append list' []

    with_news : list'' ≡ list ++ news words free (asks_anew clock asked)
    with_news = last_list ∙ ap (with_clock (asks_anew clock asked)) new_list ∙ append_assoc list (map (λ i. new_feed (word_at words i)) free) (if asks_anew clock asked then new_feed [] ∷ [] else [])

    pub all_kept : BeginsWith list'' feeds.list
    all_kept = (news words free (asks_anew clock asked), with_news ∙ ap (λ (f : Feeds). f.list ++ news words free (asks_anew clock asked)) same)

    pub all_taken : TakesOver feeds (record { list = list''; clock = clock' })
    all_taken = subst (λ (p : Feeds × Feeds). TakesOver p.0 p.1) (λ i. (same i, record { list = sym with_news i; clock = sym last_clock i })) (takes_over words free list clock asked (length list') longer)

    pub all_writable : All (Lacks 10) words → All (λ i. i < length words) free → length list'' ≤ MOST_SENDERS → AreWritable feeds → AreWritable (record { list = list''; clock = clock' })
    all_writable lacks low few before =
        subst (λ (l : List KeptFeed). AreWritable (record { list = l; clock = clock' })) (sym with_news)
        (are_writable words free list clock clock' (asks_anew clock asked) lacks low (subst AreWritable (sym same) before) (subst (λ (l : List KeptFeed). length l ≤ MOST_SENDERS) with_news few)
        (subst (λ (l : List KeptFeed). IfSome clock' (λ k. k < length l)) with_news all_finished.2))

-- ---- the arguments and the result

pub below_all : (n m : ℕ) → n ≤ m → All (λ i. i < m) (places_to n)
below_all zero m le = All-nil (λ i. i < m)
below_all (suc n) m le = All-push (λ i. i < m) (places_to n) n (below_all n m (omega (arith, le))) (omega (arith, le))

pub all_lack : (words : List (Bor (List ℕ))) → All (λ w. Lacks 10 w.now) words → All (Lacks 10) (map (λ w. w.now) words)
all_lack words lacks = All-map (Lacks 10) (λ (w : Bor (List ℕ)). w.now) words lacks

pub each_lacks : (words : List (Bor (List ℕ))) → All (Lacks 10) (map (λ w. w.now) words) → All (λ w. Lacks 10 w.now) words
each_lacks words lacks = λ k d lt. subst (Lacks 10) (get_or-map (λ (w : Bor (List ℕ)). w.now) words k d [] lt) (lacks k [] (let same = length-map words (λ (w : Bor (List ℕ)). w.now) in omega (arith, lt, same)))
