-- The first of all events.
use Rattle.std.proofs.Common.{◌≡◌, ℕ, ◌<◌, Bool, true, false, cond, leb, List, [], ◌∷◌, Option, Some, None, refl, arith}
use Rattle.std.specs.List.{AllByRecursion}
use Rattle.std.specs.Prelude.{Contains}
use Rattle.std.proofs.lemmas.Bool.{leb-true, leb-false}
use Rattle.std.proofs.lemmas.Bool.Decides.{nat_tests}
use Rattle.std.proofs.lemmas.List.Elements.{Contains-append_right}
use Rattle.mon_downtime.specs.declared.event.Event.{Event}
use Rattle.mon_downtime.specs.Events.{before, first_of, least, events, due, if_by}
use Rattle.mon_downtime.proofs.EventLemmas.{before_neg_trans}
use Rattle.mon_downtime.specs.Due.{IsFirst, IsDue, DueIsFirst}

before_itself : (e : Event) → before e e ≡ false
before_itself e = grind (arith, nat_tests)

before_not : (a b : Event) → before a b ≡ true → before b a ≡ false
before_not a b h = grind (arith, nat_tests)

contains_more : (x : Event) (es : List Event) (e : Event) → Contains es e → Contains (x ∷ es) e
contains_more x es e h = Contains-append_right (x ∷ []) es e h

contains_first : (x : Event) (es : List Event) → Contains (x ∷ es) x
contains_first x es = (0, omega arith, refl)

none_before_less : (es : List Event) (x y : Event) → before y x ≡ false → AllByRecursion (λ f. before f y ≡ false) es → AllByRecursion (λ f. before f x ≡ false) es
none_before_less [] x y h a = tt
none_before_less (f ∷ es) x y h a = (before_neg_trans x y f h a.0, none_before_less es x y h a.1)

-- what `least` says
Says : List Event → Option Event → Type 0
Says es None = es ≡ []
Says es (Some e) = IsFirst es e

says_more : (x : Event) (es : List Event) (r : Option Event) → Says es r → Says (x ∷ es) (first_of (Some x) r)
unfolding Says
says_more x es None s = record { one = contains_first x es; none_before = (before_itself x, rw s tt) }
says_more x es (Some y) s = by_test (before y x) refl
  where
    by_test : (b : Bool) → before y x ≡ b → IsFirst (x ∷ es) (cond b y x)
    by_test true h = record { one = contains_more x es y s.one; none_before = (before_not y x h, s.none_before) }
    by_test false h = record { one = contains_first x es; none_before = (before_itself x, none_before_less es x y h s.none_before) }

least_says : (es : List Event) → Says es (least es)
unfolding Says least
least_says [] = refl
least_says (x ∷ es) = says_more x es (least es) (least_says es)

later : (es : List Event) (e : Event) (t : ℕ) → t < e.moment → AllByRecursion (λ f. before f e ≡ false) es → AllByRecursion (λ f. t < f.moment) es
later [] e t h a = tt
later (f ∷ es) e t h a = (not_before f e t h a.0, later es e t h a.1)
  where
    not_before : (f e : Event) (t : ℕ) → t < e.moment → before f e ≡ false → t < f.moment
    not_before f e t h k = grind (arith, nat_tests)

due_says : (es : List Event) (t : ℕ) (r : Option Event) → Says es r → IsDue es t (if_by t r)
unfolding Says
due_says es t None s = rw s tt
due_says es t (Some e) s = by_test (leb e.moment t) refl
  where
    by_test : (b : Bool) → leb e.moment t ≡ b → IsDue es t (cond b (Some e) None)
    by_test true h = (s, leb-true e.moment t h)
    by_test false h = later es e t (leb-false e.moment t h) s.none_before

pub due_is_first : DueIsFirst
unfolding due
due_is_first ds t = due_says (events ds) t (least (events ds)) (least_says (events ds))
