-- The journaled commands of each feed, one feed after another, and the feeds that begin anew.
use Rattle.std.proofs.Common.{arith, ◌≡◌, ℕ, ◌+◌, ◌-◌, ◌≤◌, ◌<◌, inl, inr, zero, suc, true, false, List, [], ◌∷◌, ◌++◌, length, drop, get_or, Option, Some, None, refl, sym, ap, ◌∙◌, subst, append_assoc}
use Rattle.std.specs.Prelude.{slice_get}
use Rattle.std.proofs.lemmas.List.{at_drop_more, at_drop_all, length-set}
use Rattle.std.proofs.lemmas.Option.{slice_get_cases}
use Rattle.mon_engine.specs.Telling.{is_clock}
use Rattle.mon_state.specs.declared.feeds.KeptFeed.{KeptFeed}
use Rattle.cmd_live.specs.declared.start.Start.{Start}
use Rattle.cmd_live.specs.declared.start.Start.TheVariants.{Behind, Anew}
use Rattle.gateway.specs.KnownFeeds.{known_from, begun_anew_at, begun_anew, renewed}

module _ (clock : Option ℕ) (list : List KeptFeed) (k : ℕ) (f : KeptFeed) (all front : List (ℕ × List ℕ)) (low : k < length list) (own : get_or list k f ≡ f) where
  -- the feeds from this number on
  from_here : known_from clock k (drop k list) ≡ known_from clock k (f ∷ drop (k + 1) list)
  from_here = at_drop_more (known_from clock k) list k f low ∙ ap (λ (g : KeptFeed). known_from clock k (g ∷ drop (k + 1) list)) own

  -- the feed of this number is not the clock feed
  pub known_more : (x : ℕ × List ℕ) → is_clock clock k ≡ false → x ≡ (f.journaled - f.earlier, f.last) → front ++ known_from clock k (drop k list) ≡ all → (front ++ x ∷ []) ++ known_from clock (k + 1) (drop (k + 1) list) ≡ all
  known_more x other is so_far =
      let later = known_from clock (k + 1) (drop (k + 1) list) in
      let here : known_from clock k (f ∷ drop (k + 1) list) ≡ (f.journaled - f.earlier, f.last) ∷ later = rw other refl in
      append_assoc front (x ∷ []) later ∙ ap (λ (y : ℕ × List ℕ). front ++ y ∷ later) is ∙ ap (λ (l : List (ℕ × List ℕ)). front ++ l) (sym (from_here ∙ here)) ∙ so_far

  -- the feed of this number is the clock feed
  known_clock : is_clock clock k ≡ true → front ++ known_from clock k (drop k list) ≡ all → front ++ known_from clock (k + 1) (drop (k + 1) list) ≡ all
  known_clock clocked so_far =
      let here : known_from clock k (f ∷ drop (k + 1) list) ≡ known_from clock (k + 1) (drop (k + 1) list) = rw clocked refl in
      ap (λ (l : List (ℕ × List ℕ)). front ++ l) (sym (from_here ∙ here)) ∙ so_far

pub known_same : (clock : Option ℕ) (list : List KeptFeed) (k : ℕ) (all front : List (ℕ × List ℕ)) → k < length list → is_clock clock k ≡ true → front ++ known_from clock k (drop k list) ≡ all → front ++ known_from clock (k + 1) (drop (k + 1) list) ≡ all
known_same clock list k all front low clocked so_far = elim (slice_get_cases list k).1 [
  | inl here ↦ known_clock clock list k here.0 all front low here.3 clocked so_far
  | inr past ↦ absurd (let far = past.0 in omega arith)
]

-- ---- feeds that begin anew

-- the number of feeds is unchanged
pub as_many : (number : ℕ) (feeds : List KeptFeed) → length (begun_anew number feeds) ≡ length feeds
as_many number feeds = by_feed (slice_get feeds number)
  where
    by_feed : (o : Option KeptFeed) → length (begun_anew_at number feeds o) ≡ length feeds
    by_feed None = refl
    by_feed (Some f) = length-set feeds number (record f { earlier = f.journaled })

renewed_none : (numbers : List ℕ) (feeds : List KeptFeed) → renewed numbers [] feeds ≡ feeds
renewed_none [] feeds = refl
renewed_none (n ∷ numbers) feeds = refl

module _ (numbers : List ℕ) (starts : List Start) (k n : ℕ) (feeds : List KeptFeed) (low : k < length numbers) (own : get_or numbers k n ≡ n) where
  gate_here : (left : List Start) → renewed (drop k numbers) left feeds ≡ renewed (n ∷ drop (k + 1) numbers) left feeds
  gate_here left = at_drop_more (λ (l : List ℕ). renewed l left feeds) numbers k n low ∙ ap (λ (m : ℕ). renewed (m ∷ drop (k + 1) numbers) left feeds) own

  start_here : (s : Start) → k < length starts → get_or starts k s ≡ s → renewed (drop k numbers) (drop k starts) feeds ≡ renewed (n ∷ drop (k + 1) numbers) (s ∷ drop (k + 1) starts) feeds
  start_here s within is =
      gate_here (drop k starts) ∙ at_drop_more (λ (l : List Start). renewed (n ∷ drop (k + 1) numbers) l feeds) starts k s within ∙ ap (λ (r : Start). renewed (n ∷ drop (k + 1) numbers) (r ∷ drop (k + 1) starts) feeds) is

  past_here : length starts ≤ k → renewed (drop k numbers) (drop k starts) feeds ≡ renewed (drop (k + 1) numbers) (drop (k + 1) starts) feeds
  past_here past =
      gate_here (drop k starts) ∙ at_drop_all (λ (l : List Start). renewed (n ∷ drop (k + 1) numbers) l feeds) starts k past ∙ sym (renewed_none (drop (k + 1) numbers) feeds)
      ∙ sym (at_drop_all (λ (l : List Start). renewed (drop (k + 1) numbers) l feeds) starts (k + 1) (omega arith))

  -- the feed of this gate is another file
  pub renew_anew : slice_get starts k ≡ Some Anew → renewed (drop k numbers) (drop k starts) feeds ≡ renewed (drop (k + 1) numbers) (drop (k + 1) starts) (begun_anew n feeds)
  renew_anew anew = elim (slice_get_cases starts k).1 [
    | inl here ↦ (let same : here.0 ≡ Anew = cc in start_here Anew here.1 (subst (λ (s : Start). get_or starts k s ≡ s) same here.3))
    | inr past ↦ absurd (none_some (sym past.1 ∙ anew))
  ]
    where
      none_some : None ≡ Some Anew → ⊥
      none_some e = cc

  -- the feed of this gate is the same file, or nothing is known of it
  pub renew_same : (slice_get starts k ≡ Some Anew → ⊥) → renewed (drop k numbers) (drop k starts) feeds ≡ renewed (drop (k + 1) numbers) (drop (k + 1) starts) feeds
  renew_same other = elim (slice_get_cases starts k).1 [
    | inl here ↦ by_start here.0 here.1 here.2 here.3
    | inr past ↦ past_here past.0
  ]
    where
      by_start : (s : Start) → k < length starts → slice_get starts k ≡ Some s → get_or starts k s ≡ s → renewed (drop k numbers) (drop k starts) feeds ≡ renewed (drop (k + 1) numbers) (drop (k + 1) starts) feeds
      by_start (Behind bytes lines) within at is = start_here (Behind bytes lines) within is
      by_start Anew within at is = absurd (other at)

-- the default of a look-up within the list does not matter
pub get_own : (numbers : List ℕ) (k : ℕ) → k < length numbers → get_or numbers k (get_or numbers k 0) ≡ get_or numbers k 0
get_own [] k low = absurd (omega arith)
get_own (n ∷ numbers) zero low = refl
get_own (n ∷ numbers) (suc k) low = get_own numbers k (omega (arith, low))
