-- Events that leave the queue at its front: those of a moment or before, each once.
use Rattle.std.proofs.Common.{◌≡◌, ℕ, ◌+◌, ◌-◌, ◌<◌, ◌≤◌, Bool, true, false, nat_le, nat_lt, not, ◌&&◌, ◌||◌, List, [], ◌∷◌, length, get_or, take, drop, refl, ap, sym, ◌∙◌, subst, arith, zero, suc}
use Rattle.std.specs.List.{AllByRecursion}
use Rattle.std.specs.List.Sorted.{IsPermutation}
use Rattle.std.proofs.lemmas.Bool.Decides.{nat_tests}
use Rattle.std.proofs.lemmas.List.{take-append-drop, length-drop, length-take-le, drop_more, drop_all}
use Rattle.std.proofs.Math.Bool.{or-true}
use Rattle.std.proofs.lemmas.List.{drop-take, drop-drop, length-append}
use Rattle.std.proofs.lemmas.Slice.{between_is, between-put_mid, take-put_mid, drop-put_mid}
use borrow.Rule.Slice.PartMut.{put_mid}
use Rattle.mon_downtime.specs.declared.event.Event.{Event}
use Rattle.mon_downtime.specs.Order.{same, has, Ascending, AreOnce}
use Rattle.mon_downtime.specs.declared.queue.Queue.{Queue}
use Rattle.mon_downtime.specs.Queue.{ArePartedBy, IsQueue, queued, retired}
use Rattle.mon_downtime.proofs.SortedLemmas.{many_is, many_moved, one_if}
use Rattle.mon_downtime.proofs.OrderLemmas.{not_after}
use Rattle.mon_downtime.proofs.ListedLemmas.{has-append, same_itself, event_itself}
use Rattle.mon_downtime.proofs.OnceLemmas.{often, often-append, has_often, never, has_moved}

-- where all of a list are of a moment or before, or none is, so is each that it has
all_so : (t : ℕ) (c : Bool) (es : List Event) (e : Event) → AllByRecursion (λ x. nat_le x.moment t ≡ c) es → has es e ≡ true → nat_le e.moment t ≡ c
unfolding has
all_so t c [] e a h = absurd (cc)
all_so t c (x ∷ es) e a h = by_test (λ i. all_so t c es e a.1 i) (same x e) refl h
  where
    one : (x e : Event) → same x e ≡ true → nat_le e.moment t ≡ nat_le x.moment t
    one x e k = let m : x.moment ≡ e.moment = grind (arith, nat_tests) in ap (λ n. nat_le n t) (sym m)

    by_test : (has es e ≡ true → nat_le e.moment t ≡ c) → (b : Bool) → same x e ≡ b → (b || has es e) ≡ true → nat_le e.moment t ≡ c
    by_test again true k i = one x e k ∙ a.0
    by_test again false k i = again i

pub record AreParts (es : List Event) (t n : ℕ) (e : Event) : Type 0 where
  pub first : has (take n es) e ≡ (has es e && nat_le e.moment t)
  pub rest : has (drop n es) e ≡ (has es e && not (nat_le e.moment t))

pub parts : (es : List Event) (t n : ℕ) (e : Event) → ArePartedBy es t n → AreParts es t n e
parts es t n e p = by_tests (has (take n es) e) refl (has (drop n es) e) refl (nat_le e.moment t) refl
  where
    whole : has es e ≡ (has (take n es) e || has (drop n es) e)
    whole = ap (λ (xs : List Event). has xs e) (sym (take-append-drop n es)) ∙ has-append (take n es) (drop n es) e

    by_tests : (a : Bool) → has (take n es) e ≡ a → (b : Bool) → has (drop n es) e ≡ b → (c : Bool) → nat_le e.moment t ≡ c → AreParts es t n e
    by_tests true h b k false m = absurd (let yes_is = all_so t true (take n es) e p.below h in cc)
    by_tests a h true k true m = absurd (let no = all_so t false (drop n es) e p.above k in cc)
    by_tests true h false k true m = record { first = rw (whole, h, m) refl; rest = rw (whole, h, k, m) refl }
    by_tests false h true k false m = record { first = rw (whole, h, k, m) refl; rest = rw (whole, h, k, m) refl }
    by_tests false h false k c m = record { first = rw (whole, h, k) refl; rest = rw (whole, h, k) refl }

-- events in order are there once
ascending_once : (es : List Event) (e : Event) → Ascending es → often e es ≤ 1
ascending_once [] e w = omega arith
ascending_once (x ∷ es) e w = by_test (same x e) refl (ascending_once es e w.1)
  where
    by_test : (b : Bool) → same x e ≡ b → often e es ≤ 1 → one_if b (often e es) ≤ 1
    by_test true k again = let none = never es e (not_after x e es w.0 k) in omega arith
    by_test false k again = again

-- and so are the first of them, in any order
pub first_once : (es moved : List Event) (n : ℕ) → Ascending es → IsPermutation (take n es) moved → AreOnce moved
first_once es moved n w h = λ e.
    let all = many_is (λ x. same x e) moved in
    let now = many_moved (λ x. same x e) (take n es) moved h in
    let both = often-append (take n es) (drop n es) e in
    let whole = ap (λ (xs : List Event). often e xs) (take-append-drop n es) in
    let one = ascending_once es e w in
    omega arith

-- an event is not behind the index at which it is once
once_there : (es : List Event) (i : ℕ) (e : Event) → AreOnce es → drop i es ≡ e ∷ drop (i + 1) es → has (drop (i + 1) es) e ≡ false
once_there es i e once at =
    let rest = drop (i + 1) es in
    let all = many_is (λ x. same x e) es in
    let one = once e in
    let both = often-append (take i es) (drop i es) e in
    let whole = ap (λ (xs : List Event). often e xs) (take-append-drop i es) in
    let here : often e (drop i es) ≡ 1 + often e rest = ap (λ (xs : List Event). often e xs) at ∙ ap (λ b. one_if b (often e rest)) (same_itself e) in
    let none : often e rest ≡ 0 = omega arith in
    has_often rest e ∙ ap (λ n. nat_lt 0 n) none

-- ---- the list after they left

ascending_dropped : (n : ℕ) (es : List Event) → Ascending es → Ascending (drop n es)
ascending_dropped zero es w = w
ascending_dropped (suc n) [] w = tt
ascending_dropped (suc n) (x ∷ es) w = ascending_dropped n es w.1

-- of the list, with the first n events of the queue in another order, the rest is the queue
pub record IsFront (q : Queue) (items : List Event) (t n : ℕ) : Type 0 where
  pub rest : (e : Event) → has (drop (q.start + n) items) e ≡ (has (queued q) e && not (nat_le e.moment t))
  pub gone : (e : Event) → has (take n (drop q.start items)) e ≡ (has (queued q) e && nat_le e.moment t)
  pub once : AreOnce (take n (drop q.start items))
  pub ascending : Ascending (drop (q.start + n) items)

pub is_front : (q : Queue) (items : List Event) (t n : ℕ) → IsQueue q → ArePartedBy (queued q) t n → drop (q.start + n) items ≡ drop (q.start + n) q.list.items → IsPermutation (take n (queued q)) (take n (drop q.start items)) → IsFront q items t n
is_front q items t n w p same_rest moved = record {
  rest = λ e. ap (λ (xs : List Event). has xs e) behind ∙ (parts (queued q) t n e p).rest;
  gone = λ e. has_moved (take n (queued q)) (take n (drop q.start items)) e moved ∙ (parts (queued q) t n e p).first;
  once = first_once (queued q) (take n (drop q.start items)) n w.ascending moved;
  ascending = subst Ascending (sym behind) (ascending_dropped n (queued q) w.ascending);
}
  where
    behind : drop (q.start + n) items ≡ drop n (queued q)
    behind = same_rest ∙ sym (drop-drop n q.start q.list.items)

-- a part of a list, and what is behind it, after the part was written
pub record IsPart (xs ys : List Event) (a n : ℕ) (part : List Event) : Type 0 where
  pub long : length ys ≡ length xs
  pub behind : drop (a + n) ys ≡ drop (a + n) xs
  pub there : take n (drop a ys) ≡ part

pub is_part : (xs part : List Event) (a n : ℕ) → a + n ≤ length xs → length part ≡ n → IsPart xs (put_mid a n xs part) a n part
is_part xs part a n l long = record {
  long =
      let ys = put_mid a n xs part in
      let whole = ap (λ (zs : List Event). length zs) (take-append-drop (a + n) ys) in
      let both = length-append (take (a + n) ys) (drop (a + n) ys) in
      let front = ap (λ (zs : List Event). length zs) (take-put_mid a n xs part (a + n) (omega (arith, long)) (omega arith)) in
      let parts = length-append (take a xs) part in
      let first = length-take-le a xs (omega arith) in
      let back = ap (λ (zs : List Event). length zs) behind in
      let rest = length-drop (a + n) xs in
      omega arith;
  behind = behind;
  there = sym (drop-take a n (put_mid a n xs part)) ∙ sym (between_is (put_mid a n xs part) a (a + n)) ∙ between-put_mid a n xs part (a + n) (omega arith) (omega (arith, long));
}
  where
    behind : drop (a + n) (put_mid a n xs part) ≡ drop (a + n) xs
    behind = drop-put_mid a n xs part (a + n) (omega arith) (omega arith) long

-- ---- those that left one by one

-- the event at index i of these is there, and not behind it
pub record IsNextLeft (es : List Event) (i : ℕ) (e : Event) : Type 0 where
  pub at : drop i es ≡ e ∷ drop (i + 1) es
  pub there : has es e ≡ true
  pub gone : has (drop (i + 1) es) e ≡ false

pub length-retired : (q : Queue) (n : ℕ) → IsQueue q → n ≤ q.start → length (retired n q) ≡ n
length-retired q n w h =
    let within = w.within in
    let rest = length-drop (q.start - n) q.list.items in
    length-take-le n (drop (q.start - n) q.list.items) (omega arith)

pub next_left : (q : Queue) (n i : ℕ) (e : Event) → IsQueue q → n ≤ q.start → i < n → AreOnce (retired n q) → e ≡ get_or (retired n q) i e → IsNextLeft (retired n q) i e
next_left q n i e w h l once is = record { at = at; there = there; gone = once_there (retired n q) i e once at }
  where
    at : drop i (retired n q) ≡ e ∷ drop (i + 1) (retired n q)
    at = drop_more (retired n q) i e (let long = length-retired q n w h in omega arith) ∙ ap (λ (x : Event). x ∷ drop (i + 1) (retired n q)) (sym is)

    there : has (retired n q) e ≡ true
    there = ap (λ (xs : List Event). has xs e) (sym (take-append-drop i (retired n q))) ∙ has-append (take i (retired n q)) (drop i (retired n q)) e
        ∙ ap (λ (xs : List Event). has (take i (retired n q)) e || has xs e) at ∙ ap (λ b. has (take i (retired n q)) e || b) (event_itself e (drop (i + 1) (retired n q))) ∙ or-true (has (take i (retired n q)) e)

-- none is left at the end
pub none_left : (q : Queue) (n i : ℕ) → IsQueue q → n ≤ q.start → n ≤ i → drop i (retired n q) ≡ []
none_left q n i w h l = drop_all i (retired n q) (let long = length-retired q n w h in omega arith)
