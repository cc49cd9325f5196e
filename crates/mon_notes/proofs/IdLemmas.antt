-- Comments whose ids ascend: where one stands, and what edits leave of the order.
use Rattle.std.proofs.Common.{◌≡◌, ℕ, ◌+◌, ◌<◌, ◌≤◌, Bool, true, false, eqb, cond, not, List, [], ◌∷◌, ◌++◌, length, get_or, Some, None, is_some, Result, Ok, Err, is_ok, refl, ap, sym, arith, zero, suc, filter}
use Rattle.std.specs.Prelude.{IfSome, IfNone}
use Rattle.std.specs.List.{AllByRecursion, remove}
use Rattle.std.specs.List.Sorted.{IsSearchInRange, IsBinarySearchResult, IsNonDecreasingBy}
use Rattle.std.specs.Ordering.{nat_cmp, ordering_index}
use Rattle.std.specs.Result.{result_ok}
use Rattle.std.proofs.Common.{◌⊎◌, inl, inr}
use Rattle.std.proofs.lemmas.Bool.{cases_lt}
use Rattle.std.proofs.lemmas.Cmp.{ranked}
use Rattle.std.proofs.lemmas.Bool.Decides.{nat_tests}
use Rattle.mon_notes.specs.declared.comment.Comment.{Comment}
use Rattle.mon_notes.specs.Comments.{CommentList, IsCommentList, comment_of, kept, AreAscending, IsPlaceOf, CommentsStayInOrder}

-- ---- the order after an edit

lower : (low m : ℕ) (cs : List Comment) → m ≤ low → AreAscending low cs → AreAscending m cs
lower low m [] h w = tt
lower low m (c ∷ cs) h w = (omega (arith, w.0), w.1)

pub ascending_kept : (low : ℕ) (p : Comment → Bool) (cs : List Comment) → AreAscending low cs → AreAscending low (filter p cs)
ascending_kept low p [] w = tt
ascending_kept low p (c ∷ cs) w = by_test (p c) (ascending_kept c.id p cs w.1)
  where
    by_test : (b : Bool) → AreAscending c.id (filter p cs) → AreAscending low (cond b (c ∷ filter p cs) (filter p cs))
    by_test true rest = (w.0, rest)
    by_test false rest = lower c.id low (filter p cs) (omega (arith, w.0)) rest

given_kept : (last : ℕ) (p : Comment → Bool) (cs : List Comment) → AllByRecursion (λ (c : Comment). c.id ≤ last) cs → AllByRecursion (λ (c : Comment). c.id ≤ last) (filter p cs)
given_kept last p [] a = tt
given_kept last p (c ∷ cs) a = by_test (p c) (given_kept last p cs a.1)
  where
    by_test : (b : Bool) → AllByRecursion (λ (c : Comment). c.id ≤ last) (filter p cs) → AllByRecursion (λ (c : Comment). c.id ≤ last) (cond b (c ∷ filter p cs) (filter p cs))
    by_test true rest = (a.0, rest)
    by_test false rest = rest

pub IsCommentList-kept : (p : Comment → Bool) (b : CommentList) → IsCommentList b → IsCommentList (kept p b)
IsCommentList-kept p b w = record { ascending = ascending_kept 0 p b.comments w.ascending; given = given_kept b.last_id p b.comments w.given }

ascending_pushed : (low last : ℕ) (cs : List Comment) (c : Comment) → AreAscending low cs → AllByRecursion (λ (c : Comment). c.id ≤ last) cs → low < c.id → last < c.id → AreAscending low (cs ++ c ∷ [])
ascending_pushed low last [] c w a h k = (h, tt)
ascending_pushed low last (x ∷ cs) c w a h k = (w.0, ascending_pushed x.id last cs c w.1 a.1 (omega (arith, a.0)) k)

given_pushed : (last : ℕ) (cs : List Comment) (c : Comment) → AllByRecursion (λ (c : Comment). c.id ≤ last) cs → last < c.id → AllByRecursion (λ (x : Comment). x.id ≤ c.id) (cs ++ c ∷ [])
given_pushed last [] c a h = (omega arith, tt)
given_pushed last (x ∷ cs) c a h = (omega (arith, a.0), given_pushed last cs c a.1 h)

-- after a push, whether or not there was memory for it
pub IsCommentList-pushed : (cs ds : List Comment) (last : ℕ) (c : Comment) (b : Bool) → ds ≡ cond b (cs ++ c ∷ []) cs → IsCommentList (record { comments = cs; last_id = last }) → c.id ≡ last + 1 → IsCommentList (record { comments = ds; last_id = last + 1 })
IsCommentList-pushed cs ds last c true h w e = rw h (record { ascending = ascending_pushed 0 last cs c w.ascending w.given (omega arith) (omega arith); given = rw (← e) (given_pushed last cs c w.given (omega arith)) })
IsCommentList-pushed cs ds last c false h w e = rw h (record { ascending = w.ascending; given = given_more last cs w.given })
  where
    given_more : (last : ℕ) (cs : List Comment) → AllByRecursion (λ (c : Comment). c.id ≤ last) cs → AllByRecursion (λ (c : Comment). c.id ≤ last + 1) cs
    given_more last [] a = tt
    given_more last (x ∷ cs) a = (omega (arith, a.0), given_more last cs a.1)

pub comments_stay_in_order : CommentsStayInOrder
comments_stay_in_order b w = (λ object ack persistent time author text. IsCommentList-pushed b.comments _ b.last_id _ true refl w refl, λ keeps. IsCommentList-kept keeps b w)

-- ---- where a comment stands

-- what stands in the list is above the bound
above : (low : ℕ) (cs : List Comment) (i : ℕ) (d : Comment) → AreAscending low cs → i < length cs → low < (get_or cs i d).id
above low [] i d w h = absurd (omega arith)
above low (c ∷ cs) zero d w h = w.0
above low (c ∷ cs) (suc i) d w h = let rest = above c.id cs i d w.1 (omega arith) in omega (arith, w.0)

rise : (low : ℕ) (cs : List Comment) (i j : ℕ) (d : Comment) → AreAscending low cs → i ≤ j → j < length cs → (get_or cs i d).id ≤ (get_or cs j d).id
rise low [] i j d w h k = absurd (omega arith)
rise low (c ∷ cs) zero zero d w h k = omega arith
rise low (c ∷ cs) zero (suc j) d w h k = let rest = above c.id cs j d w.1 (omega arith) in omega arith
rise low (c ∷ cs) (suc i) zero d w h k = absurd (omega arith)
rise low (c ∷ cs) (suc i) (suc j) d w h k = rise c.id cs i j d w.1 (omega arith) (omega arith)

-- the comparisons with an id rise along the list, as a binary search asks
comparisons_rise : (cs : List Comment) (id : ℕ) → AreAscending 0 cs → IsNonDecreasingBy (λ (c : Comment). ordering_index (nat_cmp c.id id)) cs
comparisons_rise cs id w = λ i j d h k. let le = rise 0 cs i j d w h k in grind (arith, nat_tests)

-- no comment at any place has the id
missing : (cs : List Comment) (id : ℕ) → ((i : ℕ) (d : Comment) → i < length cs → (get_or cs i d).id ≡ id → ⊥) → comment_of cs id ≡ None
missing [] id h = refl
missing (c ∷ cs) id h =
    let first = h 0 c (omega arith) in
    let rest = missing cs id (λ i d k. h (suc i) d (omega arith)) in
    grind (arith, nat_tests)

-- what a binary search by id answers
pub searched : (cs : List Comment) (id : ℕ) → AreAscending 0 cs → (r : Result ℕ ℕ) → IsSearchInRange r (length cs) → IsBinarySearchResult (λ (c : Comment). nat_cmp c.id id) cs r → IfSome (result_ok r) (λ i. IsPlaceOf cs id i) × IfNone (result_ok r) (comment_of cs id ≡ None)
searched cs id w (Ok i) in_range equal = (record { within = in_range; at = λ d. ranked _ id _ (sym (equal d)) }, tt)
searched cs id w (Err i) in_range parted = (tt, missing cs id (λ j d h e. by_side j d h e (cases_lt j i)))
  where
    by_side : (j : ℕ) (d : Comment) → j < length cs → (get_or cs j d).id ≡ id → (j < i) ⊎ (i ≤ j) → ⊥
    by_side j d h e (inl l) = let less : (get_or cs j d).id < id = ranked _ id _ (sym ((parted (comparisons_rise cs id w)).0 j d (omega arith) l)) in omega arith
    by_side j d h e (inr g) = let more : id < (get_or cs j d).id = ranked _ id _ (sym ((parted (comparisons_rise cs id w)).1 j d g h)) in omega arith

-- ids up to the bound are not there
pub none_below : (low id : ℕ) (cs : List Comment) → AreAscending low cs → id ≤ low → comment_of cs id ≡ None
none_below low id [] w h = refl
none_below low id (c ∷ cs) w h =
    let next = w.0 in
    let rest = none_below c.id id cs w.1 (omega arith) in
    grind (arith, nat_tests)

found_at : (low id : ℕ) (cs : List Comment) (i : ℕ) (d : Comment) → AreAscending low cs → i < length cs → (get_or cs i d).id ≡ id → comment_of cs id ≡ Some (get_or cs i d)
found_at low id [] i d w h e = absurd (omega arith)
found_at low id (c ∷ cs) zero d w h e = grind (arith, nat_tests)
found_at low id (c ∷ cs) (suc i) d w h e =
    let next = above c.id cs i d w.1 (omega arith) in
    let rest = found_at c.id id cs i d w.1 (omega arith) e in
    grind (arith, nat_tests)

-- a comment that is not there is not missed
pub kept_all : (id : ℕ) (cs : List Comment) → comment_of cs id ≡ None → filter (λ (c : Comment). not (eqb c.id id)) cs ≡ cs
kept_all id [] h = refl
kept_all id (c ∷ cs) h = by_test (λ k. kept_all id cs k) (eqb c.id id) h
  where
    by_test : (comment_of cs id ≡ None → filter (λ (c : Comment). not (eqb c.id id)) cs ≡ cs) → (b : Bool) → cond b (Some c) (comment_of cs id) ≡ None → cond (not b) (c ∷ filter (λ (c : Comment). not (eqb c.id id)) cs) (filter (λ (c : Comment). not (eqb c.id id)) cs) ≡ c ∷ cs
    by_test again true k = absurd (cc)
    by_test again false k = ap (λ (xs : List Comment). c ∷ xs) (again k)

removed : (low id : ℕ) (cs : List Comment) (i : ℕ) (d : Comment) → AreAscending low cs → i < length cs → (get_or cs i d).id ≡ id → remove cs i ≡ filter (λ (c : Comment). not (eqb c.id id)) cs
removed low id [] i d w h e = absurd (omega arith)
removed low id (c ∷ cs) zero d w h e =
    let rest = kept_all id cs (none_below c.id id cs w.1 (omega arith)) in
    grind (arith, nat_tests)
removed low id (c ∷ cs) (suc i) d w h e =
    let next = above c.id cs i d w.1 (omega arith) in
    let rest = removed c.id id cs i d w.1 (omega arith) e in
    grind (arith, nat_tests)

-- the comment at its place is the one with the id
pub place_read : (cs : List Comment) (id i : ℕ) (d : Comment) → AreAscending 0 cs → IsPlaceOf cs id i → comment_of cs id ≡ Some (get_or cs i d)
place_read cs id i d w p = found_at 0 id cs i d w p.within (p.at d)

-- to remove at its place is to keep the others
pub place_removed : (cs : List Comment) (id i : ℕ) (d : Comment) → AreAscending 0 cs → IsPlaceOf cs id i → remove cs i ≡ filter (λ (c : Comment). not (eqb c.id id)) cs
place_removed cs id i d w p = removed 0 id cs i d w p.within (p.at d)

-- whether a binary search by id finds one
pub search_tells : (cs : List Comment) (id : ℕ) → AreAscending 0 cs → (r : Result ℕ ℕ) → IfSome (result_ok r) (λ i. IsPlaceOf cs id i) × IfNone (result_ok r) (comment_of cs id ≡ None) → is_ok r ≡ is_some (comment_of cs id)
search_tells [] id w (Ok i) h = absurd (let within = h.0.within in omega arith)
search_tells (c ∷ cs) id w (Ok i) h = sym (ap is_some (place_read (c ∷ cs) id i c w h.0))
search_tells cs id w (Err i) h = sym (ap is_some h.1)

pub place_some : (cs : List Comment) (id i : ℕ) → AreAscending 0 cs → IsPlaceOf cs id i → is_some (comment_of cs id) ≡ true
place_some [] id i w p = absurd (let within = p.within in omega arith)
place_some (c ∷ cs) id i w p = ap is_some (place_read (c ∷ cs) id i c w p)

pub taken_out : (cs : List Comment) (id i : ℕ) → AreAscending 0 cs → IsPlaceOf cs id i → remove cs i ≡ filter (λ (c : Comment). not (eqb c.id id)) cs
taken_out [] id i w p = absurd (let within = p.within in omega arith)
taken_out (c ∷ cs) id i w p = place_removed (c ∷ cs) id i c w p
