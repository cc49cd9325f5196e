-- The law of the clock: each event lowers what is left, so any number of steps that is enough gives the same events.
use Rattle.std.proofs.Common.{◌≡◌, ℕ, ◌≤◌, Bool, true, false, cond, List, [], ◌∷◌, ◌++◌, Option, Some, None, fold, refl, ap, sym, ◌∙◌, arith, zero, suc, leb}
use Rattle.std.proofs.lemmas.Bool.{leb-true, le-leb}
use Rattle.std.proofs.lemmas.List.Sums.{fold-append}
use Rattle.mon_downtime.specs.declared.downtime.Downtime.{Downtime}
use Rattle.mon_downtime.specs.declared.event.Event.{Event}
use Rattle.mon_downtime.specs.Events.{due, if_by, least, events, after_event, work}
use Rattle.mon_downtime.specs.Clock.{and_after, next_events, happening, advanced, WhatIsDueHappens, LawOfTheClock, NothingIsLeft}
use Rattle.mon_downtime.proofs.LeftLemmas.{left, left_within, due_falls}

-- one event more
next_some : (n : ℕ) (ds : List Downtime) (t : ℕ) (e : Event) → due ds t ≡ Some e → next_events (suc n) ds t ≡ e ∷ next_events n (after_event ds e) t
unfolding next_events
next_some n ds t e h = ap (λ (o : Option Event). and_after o (λ e. next_events n (after_event ds e) t)) h

-- nothing is due: nothing happens
next_none : (n : ℕ) (ds : List Downtime) (t : ℕ) → due ds t ≡ None → next_events n ds t ≡ []
unfolding next_events
next_none zero ds t h = refl
next_none (suc n) ds t h = ap (λ (o : Option Event). and_after o (λ e. next_events n (after_event ds e) t)) h

none_left : (ds : List Downtime) (t : ℕ) → left ds ≤ 0 → due ds t ≡ None
none_left ds t h = none (due ds t) refl
  where
    none : (o : Option Event) → due ds t ≡ o → due ds t ≡ None
    none None e = e
    none (Some x) e = absurd (let f = due_falls ds t x e in omega arith)

-- any number of steps that is enough gives the same
next_enough : (n m : ℕ) (ds : List Downtime) (t : ℕ) → left ds ≤ n → left ds ≤ m → next_events n ds t ≡ next_events m ds t
unfolding next_events
next_enough zero m ds t a b = sym (next_none m ds t (none_left ds t a))
next_enough (suc n) m ds t a b = by_next (λ m xs h h'. next_enough n m xs t h h') (due ds t) refl m b
  where
    by_next : ((m : ℕ) (xs : List Downtime) → left xs ≤ n → left xs ≤ m → next_events n xs t ≡ next_events m xs t) → (o : Option Event) → due ds t ≡ o → (m : ℕ) → left ds ≤ m → next_events (suc n) ds t ≡ next_events m ds t
    by_next again None e m b = next_none (suc n) ds t e ∙ sym (next_none m ds t e)
    by_next again (Some x) e zero b = absurd (let f = due_falls ds t x e in omega arith)
    by_next again (Some x) e (suc m) b =
        let f = due_falls ds t x e in
        next_some n ds t x e ∙ ap (λ (es : List Event). x ∷ es) (again m (after_event ds x) (omega arith) (omega arith)) ∙ sym (next_some m ds t x e)

-- with enough steps nothing is left
next_done : (n : ℕ) (ds : List Downtime) (t : ℕ) → left ds ≤ n → due (fold after_event ds (next_events n ds t)) t ≡ None
unfolding next_events
next_done zero ds t a = none_left ds t a
next_done (suc n) ds t a = by_next (λ xs h. next_done n xs t h) (due ds t) refl
  where
    by_next : ((xs : List Downtime) → left xs ≤ n → due (fold after_event xs (next_events n xs t)) t ≡ None) → (o : Option Event) → due ds t ≡ o → due (fold after_event ds (and_after o (λ e. next_events n (after_event ds e) t))) t ≡ None
    by_next again None e = e
    by_next again (Some x) e = again (after_event ds x) (let f = due_falls ds t x e in omega arith)

-- no more is left than before
next_less : (n : ℕ) (ds : List Downtime) (t : ℕ) → left (fold after_event ds (next_events n ds t)) ≤ left ds
unfolding next_events
next_less zero ds t = omega arith
next_less (suc n) ds t = by_next (λ xs. next_less n xs t) (due ds t) refl
  where
    by_next : ((xs : List Downtime) → left (fold after_event xs (next_events n xs t)) ≤ left xs) → (o : Option Event) → due ds t ≡ o → left (fold after_event ds (and_after o (λ e. next_events n (after_event ds e) t))) ≤ left ds
    by_next again None e = omega arith
    by_next again (Some x) e = let r = again (after_event ds x) in let f = due_falls ds t x e in omega arith

if_by_sooner : (a b : ℕ) (o : Option Event) (e : Event) → a ≤ b → if_by a o ≡ Some e → if_by b o ≡ Some e
if_by_sooner a b None e l h = absurd (cc)
if_by_sooner a b (Some x) e l h = by_test (leb x.moment a) refl h
  where
    by_test : (p : Bool) → leb x.moment a ≡ p → cond p (Some x) None ≡ Some e → cond (leb x.moment b) (Some x) None ≡ Some e
    by_test true k h = let m = leb-true x.moment a k in let now : leb x.moment b ≡ true = le-leb x.moment b (omega arith) in rw now h
    by_test false k h = absurd (cc)

due_sooner : (ds : List Downtime) (a b : ℕ) (e : Event) → a ≤ b → due ds a ≡ Some e → due ds b ≡ Some e
unfolding due
due_sooner ds a b e l h = if_by_sooner a b (least (events ds)) e l h

-- what happens up to a, and then what happens up to b
next_twice : (n m : ℕ) (ds : List Downtime) (a b : ℕ) → a ≤ b → left ds ≤ n → left ds ≤ m → next_events m ds b ≡ next_events n ds a ++ next_events m (fold after_event ds (next_events n ds a)) b
unfolding next_events
next_twice zero m ds a b l h h' = refl
next_twice (suc n) m ds a b l h h' = by_next (λ m xs i i'. next_twice n m xs a b l i i') (due ds a) refl
  where
    by_next : ((m : ℕ) (xs : List Downtime) → left xs ≤ n → left xs ≤ m → next_events m xs b ≡ next_events n xs a ++ next_events m (fold after_event xs (next_events n xs a)) b)
        → (o : Option Event) → due ds a ≡ o → next_events m ds b ≡ and_after o (λ e. next_events n (after_event ds e) a) ++ next_events m (fold after_event ds (and_after o (λ e. next_events n (after_event ds e) a))) b
    by_next again None e = refl
    by_next again (Some x) e =
        let f = due_falls ds a x e in
        next_enough m (suc m) ds b h' (omega arith)
        ∙ next_some m ds b x (due_sooner ds a b x l e)
        ∙ ap (λ (es : List Event). x ∷ es) (again m (after_event ds x) (omega arith) (omega arith))

pub what_is_due_happens : WhatIsDueHappens
unfolding happening
what_is_due_happens ds t = by_next (due ds t) refl
  where
    by_next : (o : Option Event) → due ds t ≡ o → next_events (work ds) ds t ≡ and_after o (λ e. next_events (work (after_event ds e)) (after_event ds e) t)
    by_next None e = next_none (work ds) ds t e
    by_next (Some x) e =
        let f = due_falls ds t x e in
        let before = left_within ds in
        next_enough (work ds) (suc (work ds)) ds t before (omega arith)
        ∙ next_some (work ds) ds t x e
        ∙ ap (λ (es : List Event). x ∷ es) (next_enough (work ds) (work (after_event ds x)) (after_event ds x) t (omega arith) (left_within (after_event ds x)))

-- the law of the clock
pub law_of_the_clock : LawOfTheClock
unfolding advanced happening
law_of_the_clock ds a b l =
    let first = left_within ds in
    let less = next_less (work ds) ds a in
    let after : List Downtime = fold after_event ds (next_events (work ds) ds a) in
    let happens : next_events (work ds) ds b ≡ next_events (work ds) ds a ++ next_events (work after) after b =
    next_twice (work ds) (work ds) ds a b l first first
    ∙ ap (λ (es : List Event). next_events (work ds) ds a ++ es) (next_enough (work ds) (work after) after b (omega arith) (left_within after)) in
    (happens, sym (ap (fold after_event ds) happens ∙ fold-append after_event ds (next_events (work ds) ds a) (next_events (work after) after b)))

pub nothing_is_left : NothingIsLeft
unfolding advanced happening
nothing_is_left ds t = next_done (work ds) ds t (left_within ds)
