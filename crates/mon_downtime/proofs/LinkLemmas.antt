-- A new record is linked to its trigger.
use Rattle.std.proofs.Common.{◌≡◌, ℕ, ◌+◌, ◌-◌, ◌<◌, ◌≤◌, Bool, true, false, eqb, cond, List, [], ◌∷◌, ◌++◌, length, get_or, set, Option, Some, None, refl, ap, sym, ◌∙◌, subst, arith}
use Rattle.std.proofs.Common.{◌⊎◌, inl, inr}
use Rattle.std.proofs.lemmas.Bool.{eqb-true, cases_lt}
use Rattle.std.proofs.lemmas.Bool.Decides.{nat_tests}
use Rattle.std.proofs.lemmas.List.{length-append, length-set, get_or-set_same, get_or-set_other, get_or_append_left, get_or_at, get_or_default}
use Rattle.mon_downtime.specs.declared.downtime.Downtime.{Downtime}
use Rattle.mon_downtime.specs.declared.links.Link.{Link}
use Rattle.mon_downtime.specs.Records.{record_of, IsNumbered, AreNumbered}
use Rattle.mon_downtime.specs.Cancel.{trigger_of, trigger_in}
use Rattle.mon_downtime.specs.Links.{IsLatest, AreLinked}
use Rattle.mon_downtime.proofs.RecordLemmas.{record_of_past}
use Rattle.mon_downtime.proofs.CancelLemmas.{trigger_falls}

-- ---- one more record

pub numbered_front : (n : ℕ) (ds : List Downtime) (r : Downtime) → AreNumbered n (ds ++ r ∷ []) → AreNumbered n ds × IsNumbered (n + length ds) r
numbered_front n [] r w = (tt, (let e : n + 0 ≡ n = omega arith in rw e w.0))
numbered_front n (d ∷ ds) r w =
    let rest = numbered_front (n + 1) ds r w.1 in
    let e : n + length (d ∷ ds) ≡ (n + 1) + length ds = omega arith in
    ((w.0, rest.0), rw e rest.1)

pub record_before : (ds : List Downtime) (r : Downtime) (x : ℕ) → eqb r.id x ≡ false → record_of (ds ++ r ∷ []) x ≡ record_of ds x
record_before [] r x h = rw h refl
record_before (d ∷ ds) r x h = ap (λ (o : Option Downtime). cond (eqb d.id x) (Some d) o) (record_before ds r x h)

pub record_pushed : (ds : List Downtime) (r : Downtime) → record_of ds r.id ≡ None → record_of (ds ++ r ∷ []) r.id ≡ Some r
record_pushed [] r h = let e : eqb r.id r.id ≡ true = grind (arith, nat_tests) in rw e refl
record_pushed (d ∷ ds) r h = by_test (eqb d.id r.id) (λ k. record_pushed ds r k) h
  where
    by_test : (b : Bool) → (record_of ds r.id ≡ None → record_of (ds ++ r ∷ []) r.id ≡ Some r) → cond b (Some d) (record_of ds r.id) ≡ None → cond b (Some d) (record_of (ds ++ r ∷ []) r.id) ≡ Some r
    by_test true again k = absurd (cc)
    by_test false again k = again k

pub record More (ds : List Downtime) (r : Downtime) : Type 0 where
  pub old : AreNumbered 0 ds
  pub next : r.id ≡ length ds + 1
  pub trigger : r.plan.times.trigger_id ≤ length ds
  pub same : (y : ℕ) → y ≤ length ds → trigger_of (ds ++ r ∷ []) y ≡ trigger_of ds y
  pub its : trigger_of (ds ++ r ∷ []) (length ds + 1) ≡ r.plan.times.trigger_id
  pub long : length (ds ++ r ∷ []) ≡ length ds + 1

pub more : (ds : List Downtime) (r : Downtime) → AreNumbered 0 (ds ++ r ∷ []) → More ds r
more ds r w =
    let front = numbered_front 0 ds r w in
    let next = front.1.id_next in
    let is : r.id ≡ length ds + 1 = omega arith in
    record {
      old = front.0;
      next = is;
      trigger = (let t = front.1.trigger_earlier in omega arith);
      same = λ y h. ap trigger_in (record_before ds r y (let k = is in grind (arith, nat_tests)));
      its = subst (λ x. trigger_of (ds ++ r ∷ []) x ≡ r.plan.times.trigger_id) is (ap trigger_in (record_pushed ds r (record_of_past 0 ds r.id front.0 (omega arith))));
      long = length-append ds (r ∷ []);
    }

-- ---- the last with a trigger

kept : (ds : List Downtime) (r : Downtime) (t k x : ℕ) → More ds r → k ≤ length ds → IsLatest ds t k x → IsLatest (ds ++ r ∷ []) t k x
kept ds r t k x m l w =
    let within = w.within in
    record {
      within = within;
      one = λ h. m.same x (omega arith) ∙ w.one h;
      none_after = λ y h g. ap (λ z. eqb z t) (m.same y (omega arith)) ∙ w.none_after y h g;
    }

-- the new record has another trigger
passed : (ds : List Downtime) (r : Downtime) (t x : ℕ) → More ds r → eqb r.plan.times.trigger_id t ≡ false → IsLatest ds t (length ds) x → IsLatest (ds ++ r ∷ []) t (length ds + 1) x
passed ds r t x m other w =
    let within = w.within in
    record {
      within = omega arith;
      one = λ h. m.same x (omega arith) ∙ w.one h;
      none_after = λ y h g. by_place y h g (cases_lt (length ds) y);
    }
  where
    by_place : (y : ℕ) → x < y → y ≤ length ds + 1 → (length ds < y) ⊎ (y ≤ length ds) → eqb (trigger_of (ds ++ r ∷ []) y) t ≡ false
    by_place y h g (inl l) = let e : y ≡ length ds + 1 = omega arith in ap (λ z. eqb z t) (ap (trigger_of (ds ++ r ∷ [])) e ∙ m.its) ∙ other
    by_place y h g (inr l) = ap (λ z. eqb z t) (m.same y l) ∙ w.none_after y h l

newest : (ds : List Downtime) (r : Downtime) → More ds r → IsLatest (ds ++ r ∷ []) r.plan.times.trigger_id (length ds + 1) r.id
newest ds r m =
    let is = m.next in
    record {
      within = omega arith;
      one = λ h. ap (trigger_of (ds ++ r ∷ [])) is ∙ m.its;
      none_after = λ y h g. absurd (omega arith);
    }

-- nothing hangs on the new record
nothing : (ds : List Downtime) (r : Downtime) → More ds r → AreNumbered 0 (ds ++ r ∷ []) → IsLatest (ds ++ r ∷ []) (length ds + 1) (length ds + 1) 0
nothing ds r m w = record {
  within = omega arith;
  one = λ h. absurd (omega arith);
  none_after = λ y h g. let falls = trigger_falls (ds ++ r ∷ []) y w in grind (arith, nat_tests);
}

-- ---- the links

-- links of which each has its latest, with that of the new record behind them
linked : (ds : List Downtime) (old : List Link) (r : Downtime) (links : List Link) (e : ℕ) → AreNumbered 0 (ds ++ r ∷ []) → AreLinked ds old → length links ≡ length old
    → ((i : ℕ) (l : Link) → i < length links → IsLatest (ds ++ r ∷ []) (i + 1) (length ds + 1) (get_or links i l).latest)
    → ((i : ℕ) (l : Link) → i < length links → (get_or links i l).earlier ≡ (get_or old i l).earlier)
    → (0 < r.plan.times.trigger_id → IsLatest ds r.plan.times.trigger_id (length ds) e)
    → AreLinked (ds ++ r ∷ []) (links ++ record { latest = 0; earlier = e; all_over = false } ∷ [])
linked ds old r links e w k long latest same last =
    let m = more ds r w in
    let each = k.each in
    let all = length-append links (record { latest = 0; earlier = e; all_over = false } ∷ []) in
    record {
      each = (let n = m.long in omega (arith, all, long));
      latest = λ i l h. rw m.long (latest_by m i l (omega (arith, all, h)) (cases_lt i (length links)));
      earlier = λ i l h some. earlier_by m i l (omega (arith, all, h)) some (cases_lt i (length links));
    }
  where
    at_end : (i : ℕ) (l : Link) → length links ≤ i → i < length links + 1 → get_or (links ++ record { latest = 0; earlier = e; all_over = false } ∷ []) i l ≡ record { latest = 0; earlier = e; all_over = false }
    at_end i l g h = get_or_at links (record { latest = 0; earlier = e; all_over = false }) [] l i (omega arith)

    latest_by : More ds r → (i : ℕ) (l : Link) → i < length links + 1 → (i < length links) ⊎ (length links ≤ i) → IsLatest (ds ++ r ∷ []) (i + 1) (length ds + 1) (get_or (links ++ record { latest = 0; earlier = e; all_over = false } ∷ []) i l).latest
    latest_by m i l h (inl g) = rw (get_or_append_left links (record { latest = 0; earlier = e; all_over = false } ∷ []) l i g) (latest i l g)
    latest_by m i l h (inr g) =
        let each = k.each in
        let is : i ≡ length ds = omega arith in
        rw (at_end i l g h, is) (nothing ds r m w)

    earlier_by : More ds r → (i : ℕ) (l : Link) → i < length links + 1 → 0 < trigger_of (ds ++ r ∷ []) (i + 1) → (i < length links) ⊎ (length links ≤ i) → IsLatest (ds ++ r ∷ []) (trigger_of (ds ++ r ∷ []) (i + 1)) i (get_or (links ++ record { latest = 0; earlier = e; all_over = false } ∷ []) i l).earlier
    earlier_by m i l h some (inl g) =
        let each = k.each in
        let t = m.same (i + 1) (omega arith) in
        rw (get_or_append_left links (record { latest = 0; earlier = e; all_over = false } ∷ []) l i g, t, same i l g) (kept ds r (trigger_of ds (i + 1)) i (get_or old i l).earlier m (omega arith) (k.earlier i l (omega arith) (rw (← t) some)))
    earlier_by m i l h some (inr g) =
        let each = k.each in
        let is : i ≡ length ds = omega arith in
        let t : trigger_of (ds ++ r ∷ []) (i + 1) ≡ r.plan.times.trigger_id = ap (λ n. trigger_of (ds ++ r ∷ []) (n + 1)) is ∙ m.its in
        rw (at_end i l g h, t, is) (kept ds r r.plan.times.trigger_id (length ds) e m (omega arith) (last (rw (← t) some)))

pub linked_alone : (ds : List Downtime) (links : List Link) (r : Downtime) → AreNumbered 0 (ds ++ r ∷ []) → AreLinked ds links → r.plan.times.trigger_id ≡ 0 → AreLinked (ds ++ r ∷ []) (links ++ record { latest = 0; earlier = 0; all_over = false } ∷ [])
linked_alone ds links r w k alone = linked ds links r links 0 w k refl (λ i l h. pass i l h) (λ i l h. refl) (λ h. absurd (omega arith))
  where
    pass : (i : ℕ) (l : Link) → i < length links → IsLatest (ds ++ r ∷ []) (i + 1) (length ds + 1) (get_or links i l).latest
    pass i l h = passed ds r (i + 1) (get_or links i l).latest (more ds r w) (grind (arith, nat_tests)) (k.latest i l h)

pub linked_behind : (ds : List Downtime) (links : List Link) (r : Downtime) (d : Link) → AreNumbered 0 (ds ++ r ∷ []) → AreLinked ds links → (r.plan.times.trigger_id ≡ 0 → ⊥)
    → AreLinked (ds ++ r ∷ []) (set links (r.plan.times.trigger_id - 1) (record (get_or links (r.plan.times.trigger_id - 1) d) { latest = r.id }) ++ record { latest = 0; earlier = (get_or links (r.plan.times.trigger_id - 1) d).latest; all_over = false } ∷ [])
linked_behind ds links r d w k some =
    let m = more ds r w in
    let each = k.each in
    let earlier = m.trigger in
    let t : (r.plan.times.trigger_id - 1) + 1 ≡ r.plan.times.trigger_id = omega arith in
    let old = subst (λ n. IsLatest ds n (length ds) (get_or links (r.plan.times.trigger_id - 1) d).latest) t (k.latest (r.plan.times.trigger_id - 1) d (omega arith)) in
    linked ds links r (set links (r.plan.times.trigger_id - 1) (record (get_or links (r.plan.times.trigger_id - 1) d) { latest = r.id })) (get_or links (r.plan.times.trigger_id - 1) d).latest w k
    (length-set links (r.plan.times.trigger_id - 1) (record (get_or links (r.plan.times.trigger_id - 1) d) { latest = r.id }))
    (λ i l h. latest_by m i l (rw (length-set links (r.plan.times.trigger_id - 1) (record (get_or links (r.plan.times.trigger_id - 1) d) { latest = r.id })) at h) (eqb i (r.plan.times.trigger_id - 1)) refl)
    (λ i l h. earlier_by i l (rw (length-set links (r.plan.times.trigger_id - 1) (record (get_or links (r.plan.times.trigger_id - 1) d) { latest = r.id })) at h) (eqb i (r.plan.times.trigger_id - 1)) refl)
    (λ h. old)
  where
    unlike : (i j : ℕ) → eqb i j ≡ false → (i ≡ j → ⊥)
    unlike i j k e = let yes_is : eqb i j ≡ true = grind (arith, nat_tests) in absurd (cc)

    latest_by : More ds r → (i : ℕ) (l : Link) → i < length links → (b : Bool) → eqb i (r.plan.times.trigger_id - 1) ≡ b → IsLatest (ds ++ r ∷ []) (i + 1) (length ds + 1) (get_or (set links (r.plan.times.trigger_id - 1) (record (get_or links (r.plan.times.trigger_id - 1) d) { latest = r.id })) i l).latest
    latest_by m i l h true e =
        let is = eqb-true i (r.plan.times.trigger_id - 1) e in
        let t : i + 1 ≡ r.plan.times.trigger_id = omega arith in
        rw (is, get_or-set_same links (r.plan.times.trigger_id - 1) (record (get_or links (r.plan.times.trigger_id - 1) d) { latest = r.id }) l (omega arith)) (subst (λ n. IsLatest (ds ++ r ∷ []) n (length ds + 1) r.id) (sym t ∙ ap (λ n. n + 1) is) (newest ds r m))
    latest_by m i l h false e =
        let other : eqb r.plan.times.trigger_id (i + 1) ≡ false = grind (arith, nat_tests) in
        rw (get_or-set_other links (r.plan.times.trigger_id - 1) i (record (get_or links (r.plan.times.trigger_id - 1) d) { latest = r.id }) l (unlike i (r.plan.times.trigger_id - 1) e)) (passed ds r (i + 1) (get_or links i l).latest m other (k.latest i l h))

    earlier_by : (i : ℕ) (l : Link) → i < length links → (b : Bool) → eqb i (r.plan.times.trigger_id - 1) ≡ b → (get_or (set links (r.plan.times.trigger_id - 1) (record (get_or links (r.plan.times.trigger_id - 1) d) { latest = r.id })) i l).earlier ≡ (get_or links i l).earlier
    earlier_by i l h true e =
        let is = eqb-true i (r.plan.times.trigger_id - 1) e in
        ap (λ n. (get_or (set links (r.plan.times.trigger_id - 1) (record (get_or links (r.plan.times.trigger_id - 1) d) { latest = r.id })) n l).earlier) is
        ∙ ap (λ (x : Link). x.earlier) (get_or-set_same links (r.plan.times.trigger_id - 1) (record (get_or links (r.plan.times.trigger_id - 1) d) { latest = r.id }) l (omega arith))
        ∙ ap (λ (x : Link). x.earlier) (get_or_default links (r.plan.times.trigger_id - 1) d l (omega arith))
        ∙ ap (λ n. (get_or links n l).earlier) (sym is)
    earlier_by i l h false e = ap (λ (x : Link). x.earlier) (get_or-set_other links (r.plan.times.trigger_id - 1) i (record (get_or links (r.plan.times.trigger_id - 1) d) { latest = r.id }) l (unlike i (r.plan.times.trigger_id - 1) e))

-- the same, with the trigger's links as they are read
pub linked_by : (ds : List Downtime) (links : List Link) (r : Downtime) (x : Link) → AreNumbered 0 (ds ++ r ∷ []) → AreLinked ds links → (r.plan.times.trigger_id ≡ 0 → ⊥) → x ≡ get_or links (r.plan.times.trigger_id - 1) x
    → AreLinked (ds ++ r ∷ []) (set links (r.plan.times.trigger_id - 1) (record x { latest = r.id }) ++ record { latest = 0; earlier = x.latest; all_over = false } ∷ [])
linked_by ds links r x w k some is =
    subst (λ (y : Link). AreLinked (ds ++ r ∷ []) (set links (r.plan.times.trigger_id - 1) (record y { latest = r.id }) ++ record { latest = 0; earlier = y.latest; all_over = false } ∷ [])) (sym is) (linked_behind ds links r x w k some)

pub link_within : (ds : List Downtime) (links : List Link) (r : Downtime) → AreNumbered 0 (ds ++ r ∷ []) → AreLinked ds links → (r.plan.times.trigger_id ≡ 0 → ⊥) → r.plan.times.trigger_id - 1 < length links
link_within ds links r w k some =
    let t = (more ds r w).trigger in
    let each = k.each in
    omega arith
