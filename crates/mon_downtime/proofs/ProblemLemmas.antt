-- A downtime that a problem starts, and all of them.
use Rattle.std.proofs.Common.{◌≡◌, ℕ, ◌+◌, ◌<◌, ◌≤◌, ◌^◌, Bool, true, false, cond, eqb, leb, ltb, not, ◌&&◌, List, [], ◌∷◌, length, map, Option, Some, None, refl, ap, sym, ◌∙◌, subst, arith, eq-eqb, zero, suc, lit<}
use Rattle.std.specs.Prelude.{filter, find}
use Rattle.std.proofs.lemmas.Bool.{eqb-true}
use Rattle.std.proofs.lemmas.Bool.Decides.{nat_tests}
use Rattle.cmd_types.specs.declared.limits.TheConstants.{GREATEST_NUMBER}
use Rattle.mon_downtime.specs.declared.downtime.Downtime.{Downtime}
use Rattle.mon_downtime.specs.declared.downtime.Fate.{Fate}
use Rattle.mon_downtime.specs.declared.downtime.Fate.TheVariants.{Pending, Active, Over}
use Rattle.mon_downtime.specs.Records.{AreNumbered, AreRecords, with_fate, record_of, is_over, is_live, is_live_record}
use Rattle.mon_downtime.specs.Events.{work, steps_left}
use Rattle.mon_downtime.specs.Problem.{is_pending, waits_for, waiting, after_problem, start_found, started_by, started, all_started, all_waiting, after_problems, ids_started, id_before, AllThatWaitStart, StartsFirst, OneStartsAfterAnother}
use Rattle.mon_downtime.proofs.RecordLemmas.{with_fate_earlier, record_by_test, record_found, record_of_earlier, place_found, numbered, AreNumbered-with_fate}
use Rattle.mon_downtime.proofs.WorkLemmas.{with_fate_of, work_falls}

-- the downtime that a problem starts
pub record IsWaiting (ds : List Downtime) (clock : ℕ) (d : Downtime) : Type 0 where
  pub found : record_of ds d.id ≡ Some d
  pub first : 1 ≤ d.id
  pub last : d.id ≤ length ds
  pub clock_small : clock ≤ GREATEST_NUMBER
  pub until_small : clock + d.plan.times.duration ≤ GREATEST_NUMBER + GREATEST_NUMBER

waits_until : (object clock : ℕ) (d : Downtime) → waits_for object clock d ≡ true → clock < d.plan.times.end_time
waits_until object clock d h = grind (arith, nat_tests)

pub waiting_is : (ds : List Downtime) (object clock : ℕ) (d : Downtime) → AreRecords 0 ds → waiting ds object clock ≡ Some d → IsWaiting ds clock d
waiting_is ds object clock d w h =
    let by = record_by_test 0 (waits_for object clock) ds d (numbered 0 ds w) h in
    let p = place_found ds d.id d (numbered 0 ds w) by.0 in
    let r = record_found 0 ds d.id d w by.0 in
    let u = waits_until object clock d by.1 in
    let e = r.1.end_small in
    let l = r.1.duration_small in
    record { found = by.0; first = p.first; last = p.last; clock_small = omega arith; until_small = omega arith }

pub after_problem_some : (ds : List Downtime) (object clock : ℕ) (d : Downtime) → AreNumbered 0 ds → waiting ds object clock ≡ Some d → after_problem ds object clock ≡ with_fate ds d.id (λ _. Active clock (clock + d.plan.times.duration))
unfolding after_problem
after_problem_some ds object clock d w h = ap (start_found ds clock) h ∙ with_fate_of ds d.id (started_by clock) d w (record_by_test 0 (waits_for object clock) ds d w h).0

pub after_problem_none : (ds : List Downtime) (object clock : ℕ) → waiting ds object clock ≡ None → after_problem ds object clock ≡ ds
unfolding after_problem
after_problem_none ds object clock h = ap (start_found ds clock) h

-- the two ends of the interval in one fact for `Fits`
pub waiting_fits : (ds : List Downtime) (clock : ℕ) (d : Downtime) → IsWaiting ds clock d → clock + d.plan.times.duration < 2 ^ 64
waiting_fits ds clock d w = let u = w.until_small in omega arith

-- what waits is pending
waits_pending : (object clock : ℕ) (d : Downtime) → waits_for object clock d ≡ true → is_pending d.fate ≡ true
waits_pending object clock d h = by_object (eqb d.object object) (is_pending d.fate) h
  where
    by_object : (a b : Bool) → (a && b && not d.plan.times.fixed && eqb d.plan.times.trigger_id 0 && leb d.plan.times.start_time clock && ltb clock d.plan.times.end_time) ≡ true → b ≡ true
    by_object true true h = refl
    by_object true false h = absurd (cc)
    by_object false b h = absurd (cc)

-- and so not over
pub waiting_live : (ds : List Downtime) (object clock : ℕ) (d : Downtime) → AreNumbered 0 ds → waiting ds object clock ≡ Some d → is_live ds d.id ≡ true
waiting_live ds object clock d w h =
    let by = record_by_test 0 (waits_for object clock) ds d w h in
    ap is_live_record by.0 ∙ by_fate d.fate refl (waits_pending object clock d by.1)
  where
    by_fate : (f : Fate) → d.fate ≡ f → is_pending f ≡ true → is_live_record (Some d) ≡ true
    by_fate Pending e k = ap (λ g. cond (is_over g) false true) e
    by_fate (Active since until) e k = absurd (cc)
    by_fate Over e k = absurd (cc)

-- less is left where one that waits has started
pub problem_falls : (ds : List Downtime) (object clock : ℕ) (d : Downtime) → AreNumbered 0 ds → waiting ds object clock ≡ Some d → work (after_problem ds object clock) < work ds
unfolding after_problem
problem_falls ds object clock d w h = rw h (work_falls 0 ds d.id (started_by clock) d w by.0 (by_fate d.fate (waits_pending object clock d by.1)))
  where
    by : (record_of ds d.id ≡ Some d) × (waits_for object clock d ≡ true)
    by = record_by_test 0 (waits_for object clock) ds d w h

    by_fate : (f : Fate) → is_pending f ≡ true → 1 < steps_left f
    by_fate Pending e = lit< tt
    by_fate (Active since until) e = absurd (cc)
    by_fate Over e = absurd (cc)

pub AreNumbered-after_problem : (ds : List Downtime) (object clock : ℕ) → AreNumbered 0 ds → AreNumbered 0 (after_problem ds object clock)
unfolding after_problem
AreNumbered-after_problem ds object clock w = by_waiting (waiting ds object clock)
  where
    by_waiting : (o : Option Downtime) → AreNumbered 0 (start_found ds clock o)
    by_waiting None = w
    by_waiting (Some d) = AreNumbered-with_fate 0 ds d.id (started_by clock) w

-- ---- all that wait

-- a downtime that has started waits no more
started_waits : (object clock c : ℕ) (d : Downtime) (f : Fate) → waits_for object clock (record d { fate = Active c (c + d.plan.times.duration) }) ≡ false
started_waits object clock c d f = by_object (eqb d.object object)
  where
    by_object : (b : Bool) → (b && false && not d.plan.times.fixed && eqb d.plan.times.trigger_id 0 && Rattle.std.proofs.Common.leb d.plan.times.start_time clock && Rattle.std.proofs.Common.ltb clock d.plan.times.end_time) ≡ false
    by_object true = refl
    by_object false = refl

started_head : (object clock : ℕ) (x : Downtime) → waits_for object clock x ≡ true → started object clock (record x { fate = started_by clock x }) ≡ started object clock x
started_head object clock x e =
    ap (λ b. cond b (record x { fate = started_by clock x }) (record x { fate = started_by clock x })) (started_waits object clock clock x x.fate)
    ∙ sym (ap (λ b. cond b (record x { fate = started_by clock x }) x) e)

-- the first that waits starts, and then the others: that is all of them
all_started_step : (n : ℕ) (ds : List Downtime) (object clock : ℕ) (d : Downtime) → AreNumbered n ds → find (waits_for object clock) ds ≡ Some d → map (started object clock) (with_fate ds d.id (started_by clock)) ≡ map (started object clock) ds
all_started_step n [] object clock d w h = absurd (cc)
all_started_step n (x ∷ ds) object clock d w h = by_test (λ k. all_started_step (n + 1) ds object clock d w.1 k) (waits_for object clock x) refl h
  where
    by_id : (b : Bool) → eqb x.id d.id ≡ b → waits_for object clock x ≡ false → record_of ds d.id ≡ Some d → map (started object clock) (with_fate ds d.id (started_by clock)) ≡ map (started object clock) ds → started object clock (cond b (record x { fate = started_by clock x }) x) ∷ map (started object clock) (with_fate ds d.id (started_by clock)) ≡ started object clock x ∷ map (started object clock) ds
    by_id true e k r again = absurd (let next = w.0.id_next in let is = eqb-true x.id d.id e in let none = record_of_earlier (n + 1) ds d.id w.1 (omega arith) in cc)
    by_id false e k r again = ap (λ xs. started object clock x ∷ xs) again

    by_test : (find (waits_for object clock) ds ≡ Some d → map (started object clock) (with_fate ds d.id (started_by clock)) ≡ map (started object clock) ds) → (b : Bool) → waits_for object clock x ≡ b → cond b (Some x) (find (waits_for object clock) ds) ≡ Some d → map (started object clock) (with_fate (x ∷ ds) d.id (started_by clock)) ≡ map (started object clock) (x ∷ ds)
    by_test again true e k =
        let same : x ≡ d = cc in
        let next = w.0.id_next in
        let earlier : d.id ≤ n + 1 = subst (λ (v : Downtime). v.id ≤ n + 1) same (omega arith) in
        let itself : eqb x.id d.id ≡ true = eq-eqb x.id d.id (ap (λ (v : Downtime). v.id) same) in
        let others = with_fate_earlier (n + 1) ds d.id (started_by clock) w.1 earlier in
        let head : started object clock (cond (eqb x.id d.id) (record x { fate = started_by clock x }) x) ≡ started object clock x = ap (λ b. started object clock (cond b (record x { fate = started_by clock x }) x)) itself ∙ started_head object clock x e in
        ap (λ (xs : List Downtime). started object clock (cond (eqb x.id d.id) (record x { fate = started_by clock x }) x) ∷ map (started object clock) xs) others
        ∙ ap (λ y. y ∷ map (started object clock) ds) head
    by_test again false e k = by_id (eqb x.id d.id) refl e (record_by_test (n + 1) (waits_for object clock) ds d w.1 k).0 (again k)

-- the code's turn: one starts, and what all would be is as before
all_started_turn : (ds : List Downtime) (object clock : ℕ) (d : Downtime) → AreNumbered 0 ds → waiting ds object clock ≡ Some d → all_started (after_problem ds object clock) object clock ≡ all_started ds object clock
unfolding all_started after_problem
all_started_turn ds object clock d w h = ap (λ (o : Option Downtime). map (started object clock) (start_found ds clock o)) h ∙ all_started_step 0 ds object clock d w h

-- none waits: nothing would change
all_started_none : (object clock : ℕ) (ds : List Downtime) → find (waits_for object clock) ds ≡ None → map (started object clock) ds ≡ ds
all_started_none object clock [] h = refl
all_started_none object clock (x ∷ ds) h = by_test (λ k. all_started_none object clock ds k) (waits_for object clock x) refl h
  where
    by_test : (find (waits_for object clock) ds ≡ None → map (started object clock) ds ≡ ds) → (b : Bool) → waits_for object clock x ≡ b → cond b (Some x) (find (waits_for object clock) ds) ≡ None → map (started object clock) (x ∷ ds) ≡ x ∷ ds
    by_test again true e k = absurd (cc)
    by_test again false e k = ap (λ (xs : List Downtime). started object clock x ∷ xs) (again k) ∙ ap (λ b. cond b (record x { fate = started_by clock x }) x ∷ ds) e

-- of those that wait the first starts, and the others still wait, in order
waits_head : (object clock : ℕ) (x : Downtime) (ys : List Downtime) → waits_for object clock x ≡ true → filter (waits_for object clock) (record x { fate = started_by clock x } ∷ ys) ≡ filter (waits_for object clock) ys
waits_head object clock x ys e = ap (λ b. cond b (record x { fate = started_by clock x } ∷ filter (waits_for object clock) ys) (filter (waits_for object clock) ys)) (started_waits object clock clock x x.fate)

all_waiting_step : (n : ℕ) (ds : List Downtime) (object clock : ℕ) (d : Downtime) → AreNumbered n ds → find (waits_for object clock) ds ≡ Some d → filter (waits_for object clock) ds ≡ d ∷ filter (waits_for object clock) (with_fate ds d.id (started_by clock))
all_waiting_step n [] object clock d w h = absurd (cc)
all_waiting_step n (x ∷ ds) object clock d w h = by_test (λ k. all_waiting_step (n + 1) ds object clock d w.1 k) (waits_for object clock x) refl h
  where
    by_id : (b : Bool) → eqb x.id d.id ≡ b → waits_for object clock x ≡ false → record_of ds d.id ≡ Some d → filter (waits_for object clock) ds ≡ d ∷ filter (waits_for object clock) (with_fate ds d.id (started_by clock)) → filter (waits_for object clock) ds ≡ d ∷ filter (waits_for object clock) (cond b (record x { fate = started_by clock x }) x ∷ with_fate ds d.id (started_by clock))
    by_id true e k r again = absurd (let next = w.0.id_next in let is = eqb-true x.id d.id e in let none = record_of_earlier (n + 1) ds d.id w.1 (omega arith) in cc)
    by_id false e k r again = again ∙ ap (λ b. d ∷ cond b (x ∷ filter (waits_for object clock) (with_fate ds d.id (started_by clock))) (filter (waits_for object clock) (with_fate ds d.id (started_by clock)))) (sym k)

    by_test : (find (waits_for object clock) ds ≡ Some d → filter (waits_for object clock) ds ≡ d ∷ filter (waits_for object clock) (with_fate ds d.id (started_by clock))) → (b : Bool) → waits_for object clock x ≡ b → cond b (Some x) (find (waits_for object clock) ds) ≡ Some d → cond b (x ∷ filter (waits_for object clock) ds) (filter (waits_for object clock) ds) ≡ d ∷ filter (waits_for object clock) (with_fate (x ∷ ds) d.id (started_by clock))
    by_test again true e k =
        let same : x ≡ d = cc in
        let next = w.0.id_next in
        let earlier : d.id ≤ n + 1 = subst (λ (v : Downtime). v.id ≤ n + 1) same (omega arith) in
        let itself : eqb x.id d.id ≡ true = eq-eqb x.id d.id (ap (λ (v : Downtime). v.id) same) in
        let others = with_fate_earlier (n + 1) ds d.id (started_by clock) w.1 earlier in
        ap (λ (v : Downtime). v ∷ filter (waits_for object clock) ds) same
        ∙ sym (ap (λ b. d ∷ filter (waits_for object clock) (cond b (record x { fate = started_by clock x }) x ∷ with_fate ds d.id (started_by clock))) itself
        ∙ ap (λ (ys : List Downtime). d ∷ ys) (waits_head object clock x (with_fate ds d.id (started_by clock)) e ∙ ap (filter (waits_for object clock)) others))
    by_test again false e k = by_id (eqb x.id d.id) refl e (record_by_test (n + 1) (waits_for object clock) ds d w.1 k).0 (again k)

all_waiting_turn : (ds : List Downtime) (object clock : ℕ) (d : Downtime) → AreNumbered 0 ds → waiting ds object clock ≡ Some d → all_waiting ds object clock ≡ d ∷ all_waiting (after_problem ds object clock) object clock
unfolding all_waiting after_problem
all_waiting_turn ds object clock d w h = all_waiting_step 0 ds object clock d w h ∙ sym (ap (λ (o : Option Downtime). d ∷ filter (waits_for object clock) (start_found ds clock o)) h)

-- the first of a filtered list
none_kept : (p : Downtime → Bool) (ds : List Downtime) → find p ds ≡ None → filter p ds ≡ []
none_kept p [] h = refl
none_kept p (x ∷ ds) h = by_test (λ k. none_kept p ds k) (p x) h
  where
    by_test : (find p ds ≡ None → filter p ds ≡ []) → (b : Bool) → cond b (Some x) (find p ds) ≡ None → cond b (x ∷ filter p ds) (filter p ds) ≡ []
    by_test again true k = absurd (cc)
    by_test again false k = again k

none_found : (p : Downtime → Bool) (ds : List Downtime) → length (filter p ds) ≡ 0 → find p ds ≡ None
none_found p [] h = refl
none_found p (x ∷ ds) h = by_test (λ k. none_found p ds k) (p x) h
  where
    by_test : (length (filter p ds) ≡ 0 → find p ds ≡ None) → (b : Bool) → length (cond b (x ∷ filter p ds) (filter p ds)) ≡ 0 → cond b (Some x) (find p ds) ≡ None
    by_test again true k = absurd (omega arith)
    by_test again false k = again k

-- what has started waits no more, and the others did not
none_waits : (object clock : ℕ) (ds : List Downtime) → find (waits_for object clock) (map (started object clock) ds) ≡ None
none_waits object clock [] = refl
none_waits object clock (x ∷ ds) = by_test (waits_for object clock x) refl (none_waits object clock ds)
  where
    by_test : (b : Bool) → waits_for object clock x ≡ b → find (waits_for object clock) (map (started object clock) ds) ≡ None → find (waits_for object clock) (cond b (record x { fate = started_by clock x }) x ∷ map (started object clock) ds) ≡ None
    by_test true e rest = ap (λ b. cond b (Some (record x { fate = started_by clock x })) (find (waits_for object clock) (map (started object clock) ds))) (started_waits object clock clock x x.fate) ∙ rest
    by_test false e rest = ap (λ b. cond b (Some x) (find (waits_for object clock) (map (started object clock) ds))) e ∙ rest

record StartsInTurn (ds : List Downtime) (object clock n : ℕ) : Type 0 where
  all : after_problems n ds object clock ≡ all_started ds object clock
  in_order : ids_started n ds object clock ≡ map (λ (d : Downtime). d.id) (all_waiting ds object clock)

starts_in_turn : (n : ℕ) (ds : List Downtime) (object clock : ℕ) → AreNumbered 0 ds → length (all_waiting ds object clock) ≡ n → StartsInTurn ds object clock n
unfolding after_problems ids_started all_waiting all_started
starts_in_turn zero ds object clock w h =
    let none = none_found (waits_for object clock) ds h in
    record { all = sym (all_started_none object clock ds none); in_order = ap (map (λ (d : Downtime). d.id)) (sym (none_kept (waits_for object clock) ds none)) }
starts_in_turn (suc n) ds object clock w h = by_waiting (starts_in_turn n (after_problem ds object clock) object clock (AreNumbered-after_problem ds object clock w)) (waiting ds object clock) refl
  where
    by_waiting : (length (all_waiting (after_problem ds object clock) object clock) ≡ n → StartsInTurn (after_problem ds object clock) object clock n) → (o : Option Downtime) → waiting ds object clock ≡ o → StartsInTurn ds object clock (suc n)
    by_waiting again None e = absurd (let none = ap (λ (xs : List Downtime). length xs) (none_kept (waits_for object clock) ds e) in omega arith)
    by_waiting again (Some d) e =
        let turn = all_waiting_turn ds object clock d w e in
        let long = ap (λ (xs : List Downtime). length xs) turn in
        let rest = again (omega arith) in
        record {
          all = rest.all ∙ all_started_turn ds object clock d w e;
          in_order = ap (λ (o : Option Downtime). id_before o (ids_started n (after_problem ds object clock) object clock)) e ∙ ap (λ ids. d.id ∷ ids) rest.in_order ∙ sym (ap (map (λ (d : Downtime). d.id)) turn);
        }

-- problems seen until none waits start all that wait
pub all_that_wait_start : AllThatWaitStart
unfolding all_started
all_that_wait_start ds object clock w =
    let r = starts_in_turn (length (all_waiting ds object clock)) ds object clock w refl in
    record { all = r.all; in_order = r.in_order; none_left = none_waits object clock ds }

-- each problem starts the first that waits
pub one_starts_after_another : OneStartsAfterAnother
unfolding all_waiting all_started
one_starts_after_another ds object clock = by_waiting (waiting ds object clock) refl
  where
    by_waiting : (o : Option Downtime) → waiting ds object clock ≡ o → StartsFirst ds object clock o
    by_waiting None e = (none_kept (waits_for object clock) ds e, all_started_none object clock ds e)
    by_waiting (Some d) e = λ w. (all_waiting_turn ds object clock d w e, sym (all_started_turn ds object clock d w e))
