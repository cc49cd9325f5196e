-- Which of several events comes first.
use Rattle.std.proofs.Common.{◌≡◌, ◌≤◌, ℕ, ◌+◌, ◌*◌, ◌==◌, ◌&&◌, ◌||◌, Bool, true, false, cond, nat_lt, Some, refl, ap, ◌∙◌, arith}
use Rattle.std.specs.Cmp.{Some-then}
use Rattle.std.specs.Ordering.{nat_cmp, ordering_then, partial_ordering_then, is_lt, is_some_and}
use Rattle.std.specs.declared.cmp.Ordering.TheVariants.{Less, Equal, Greater}
use Rattle.std.proofs.lemmas.Bool.Decides.{nat_tests}
use Rattle.mon_downtime.specs.declared.event.Event.{Event}
use Rattle.mon_downtime.specs.Event.{rank, key_of}
use Rattle.mon_downtime.specs.Events.{before, order_of}
use Rattle.mon_downtime.specs.declared.event.EventKind.{EventKind}
use Rattle.mon_downtime.specs.declared.event.EventKind.TheVariants.{Ends, Expires, Starts}

pub before_trans : (a b c : Event) → before a b ≡ true → before b c ≡ true → before a c ≡ true
before_trans a b c h k = grind (arith, nat_tests)

pub before_neg_trans : (a b c : Event) → before b a ≡ false → before c b ≡ false → before c a ≡ false
before_neg_trans a b c h k = grind (arith, nat_tests)

pub rank_small : (k : EventKind) → rank k ≤ 2
rank_small Ends = omega arith
rank_small Expires = omega arith
rank_small Starts = omega arith

-- two keys are ordered as the moments and, at one moment, as the ranks
by_key : (m n r s : ℕ) (i : Bool) → r ≤ 2 → s ≤ 2 → (nat_lt (4 * m + r) (4 * n + s) || ((4 * m + r == 4 * n + s) && i)) ≡ (nat_lt m n || ((m == n) && (nat_lt r s || ((r == s) && i))))
by_key m n r s i h k = grind (arith, nat_tests)

-- the order of their numbers, of which the first that differs decides
pub order_before : (a b : Event) → is_lt (ordering_then (nat_cmp (key_of a) (key_of b)) (nat_cmp a.id b.id)) ≡ before a b
order_before a b = by_tests (nat_lt (key_of a) (key_of b)) (key_of a == key_of b) (nat_lt a.id b.id) (a.id == b.id) ∙ by_key a.moment b.moment (rank a.kind) (rank b.kind) (nat_lt a.id b.id) (rank_small a.kind) (rank_small b.kind)
  where
    by_tests : (l e m f : Bool) → is_lt (ordering_then (cond l Less (cond e Equal Greater)) (cond m Less (cond f Equal Greater))) ≡ (l || (e && m))
    by_tests true e m f = refl
    by_tests false true true f = refl
    by_tests false true false true = refl
    by_tests false true false false = refl
    by_tests false false m f = refl

-- the same, as `<` of two keys says it
pub order_less : (a b : Event) (x y : ℕ × ℕ) → x ≡ order_of a → y ≡ order_of b → is_some_and is_lt (partial_ordering_then (Some (nat_cmp x.0 y.0)) (Some (nat_cmp x.1 y.1))) ≡ before a b
order_less a b x y e h = rw (e, h) (ap (is_some_and is_lt) (Some-then (nat_cmp (key_of a) (key_of b)) (nat_cmp a.id b.id)) ∙ order_before a b)
