-- Comments that go by their ids, one after another, and what that comes to.
use Rattle.std.proofs.Common.{◌≡◌, ℕ, Bool, true, false, ◌||◌, ◌&&◌, ◌==◌, eqb, not, Some, None, List, [], ◌∷◌, ◌++◌, cond, filter, refl, sym, ap, ◌∙◌, arith, inl, inr}
use Rattle.std.proofs.lemmas.Bool.Decides.{eqb_tells, nat_tests}
use Rattle.std.proofs.lemmas.Option.{same_Some}
use Rattle.std.proofs.lemmas.List.Folds.{list_any-append}
use Rattle.mon_notes.specs.declared.comment.Comment.{Comment}
use Rattle.mon_notes.specs.Comments.{AreAscending, comment_of}
use Rattle.mon_notes.specs.declared.comment.Group.{Group}
use Rattle.mon_notes.specs.declared.comment.Group.TheVariants.{Transient}
use Rattle.mon_notes.specs.Listed.{has, goes, AreAmong}
use Rattle.mon_notes.proofs.IdLemmas.{none_below, kept_all}

-- ---- filters

pub filter_alike : (f g : Comment → Bool) → ((c : Comment) → f c ≡ g c) → (cs : List Comment) → filter f cs ≡ filter g cs
filter_alike f g same [] = refl
filter_alike f g same (c ∷ cs) = rw (same c, filter_alike f g same cs) refl

pub filter_twice : (f g : Comment → Bool) (cs : List Comment) → filter f (filter g cs) ≡ filter (λ c. g c && f c) cs
filter_twice f g [] = refl
filter_twice f g (c ∷ cs) = by (g c) (filter_twice f g cs)
  where
    by : (b : Bool) → filter f (filter g cs) ≡ filter (λ c. g c && f c) cs → filter f (cond b (c ∷ filter g cs) (filter g cs)) ≡ cond (b && f c) (c ∷ filter (λ c. g c && f c) cs) (filter (λ c. g c && f c) cs)
    by true again = ap (λ (xs : List Comment). cond (f c) (c ∷ xs) xs) again
    by false again = again

-- ---- one id

-- the comment of that id goes, where the test says so
abbrev pub one_goes : ℕ → (Comment → Bool) → Comment → Bool
one_goes id p c = (c.id == id) && p c

pub absent : (id : ℕ) (p : Comment → Bool) (cs : List Comment) → comment_of cs id ≡ None → filter (λ c. not (one_goes id p c)) cs ≡ cs
absent id p [] e = refl
absent id p (c ∷ cs) e = by (λ k. absent id p cs k) (eqb c.id id) e
  where
    by : (comment_of cs id ≡ None → filter (λ c. not (one_goes id p c)) cs ≡ cs) → (b : Bool) → cond b (Some c) (comment_of cs id) ≡ None
        → cond (not (b && p c)) (c ∷ filter (λ c. not (one_goes id p c)) cs) (filter (λ c. not (one_goes id p c)) cs) ≡ c ∷ cs
    by again true e = absurd (cc)
    by again false e = ap (λ (xs : List Comment). c ∷ xs) (again e)

pub stays : (low id : ℕ) (p : Comment → Bool) (cs : List Comment) (x : Comment) → AreAscending low cs → comment_of cs id ≡ Some x → p x ≡ false → filter (λ c. not (one_goes id p c)) cs ≡ cs
stays low id p [] x w e h = absurd (cc)
stays low id p (c ∷ cs) x w e h =
    elim (eqb_tells c.id id) [
      | inl t ↦
          let it : c ≡ x = same_Some c x (rw t.0 at e) in
          let no : p c ≡ false = ap p it ∙ h in
          rw (t.0, no) (ap (λ (xs : List Comment). c ∷ xs) (absent id p cs (none_below c.id id cs w.1 (omega (arith, t.1)))))
      | inr t ↦ rw t.0 (ap (λ (xs : List Comment). c ∷ xs) (stays c.id id p cs x w.1 (rw t.0 at e) h))
    ]

pub leaves : (low id : ℕ) (p : Comment → Bool) (cs : List Comment) (x : Comment) → AreAscending low cs → comment_of cs id ≡ Some x → p x ≡ true
    → filter (λ c. not (one_goes id p c)) cs ≡ filter (λ c. not (c.id == id)) cs
leaves low id p [] x w e h = absurd (cc)
leaves low id p (c ∷ cs) x w e h =
    elim (eqb_tells c.id id) [
      | inl t ↦
          let it : c ≡ x = same_Some c x (rw t.0 at e) in
          let yes : p c ≡ true = ap p it ∙ h in
          let none = none_below c.id id cs w.1 (omega (arith, t.1)) in
          rw (t.0, yes) (absent id p cs none ∙ sym (kept_all id cs none))
      | inr t ↦ rw t.0 (ap (λ (xs : List Comment). c ∷ xs) (leaves c.id id p cs x w.1 (rw t.0 at e) h))
    ]

-- ---- several ids

-- the comments of these ids go, where the test says so
abbrev pub each_goes : List ℕ → (Comment → Bool) → Comment → Bool
each_goes ids p c = has ids c.id && p c

pub one_more : (ids : List ℕ) (id : ℕ) (p : Comment → Bool) (cs : List Comment)
    → filter (λ c. not (one_goes id p c)) (filter (λ c. not (each_goes ids p c)) cs) ≡ filter (λ c. not (each_goes (ids ++ id ∷ []) p c)) cs
one_more ids id p cs =
    filter_twice (λ c. not (one_goes id p c)) (λ c. not (each_goes ids p c)) cs
    ∙ filter_alike (λ c. not (each_goes ids p c) && not (one_goes id p c)) (λ c. not (each_goes (ids ++ id ∷ []) p c))
    (λ c. by (has ids c.id) (id == c.id) (c.id == id) (p c) (either_way id c.id) ∙ ap (λ b. not (b && p c)) (sym (list_any-append (λ x. x == c.id) ids (id ∷ [])))) cs
  where
    either_way : (n m : ℕ) → (m == n) ≡ (n == m)
    either_way n m = grind (arith, nat_tests)

    by : (a b d q : Bool) → d ≡ b → (not (a && q) && not (d && q)) ≡ not ((a || (b || false)) && q)
    by a b d q e = rw e (cases a b q)
      where
        cases : (a b q : Bool) → (not (a && q) && not (b && q)) ≡ not ((a || (b || false)) && q)
        cases true true true = refl
        cases true true false = refl
        cases true false true = refl
        cases true false false = refl
        cases false true true = refl
        cases false true false = refl
        cases false false true = refl
        cases false false false = refl

pub no_ids : (p : Comment → Bool) (cs : List Comment) → filter (λ c. not (each_goes [] p c)) cs ≡ cs
no_ids p [] = refl
no_ids p (c ∷ cs) = ap (λ (xs : List Comment). c ∷ xs) (no_ids p cs)

-- where those of a group are among these ids, they are the ones that go
pub all_that_go : (ids : List ℕ) (g : Group) (cs : List Comment) → AreAmong g ids cs → filter (λ c. not (each_goes ids (goes g) c)) cs ≡ filter (λ c. not (goes g c)) cs
all_that_go ids g [] w = refl
all_that_go ids g (c ∷ cs) w = rw (by (has ids c.id) (goes g c) w.0, all_that_go ids g cs w.1) refl
  where
    by : (a b : Bool) → (b ≡ true → a ≡ true) → (a && b) ≡ b
    by true b h = refl
    by false true h = absurd (let no = h refl in cc)
    by false false h = refl

pub of_transient : (cs : List Comment) → filter (λ c. not (goes Transient c)) cs ≡ filter (λ c. c.persistent) cs
of_transient cs = filter_alike (λ c. not (goes Transient c)) (λ c. c.persistent) (λ c. by c.persistent) cs
  where
    by : (b : Bool) → not (not b) ≡ b
    by true = refl
    by false = refl
