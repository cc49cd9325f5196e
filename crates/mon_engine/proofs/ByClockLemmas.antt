-- What the clock tells: of each object that is ready its notice, and nothing of another one.
use Rattle.std.proofs.Common.{◌≡◌, ◌⊎◌, inl, inr, ℕ, zero, suc, ◌+◌, ◌<◌, ◌≤◌, Bool, true, false, true≢false, not, ◌&&◌, ◌||◌, eqb, nat_lt, if◌then◌else◌, List, [], ◌∷◌, ◌++◌, length, Option, Some, None, is_some, slice_get, option_to_list, fold, refl, ap, sym, ◌∙◌, subst, append_assoc, append-nil, arith}
use Rattle.std.specs.List.{flat_map, range_with_len}
use Rattle.std.proofs.lemmas.Bool.{cases_lt, and_parts, or_cases, eq-eqb, eqb-true, ltb-true, leb-true, not-true, false_from_ne_true}
use Rattle.std.proofs.lemmas.Grind.{flat_map-append}
use Rattle.std.proofs.lemmas.List.{map-id}
use Rattle.std.proofs.lemmas.List.FromFn.{map-range_with_len_more}
use Rattle.std.proofs.lemmas.List.Sums.{fold-append}
use Rattle.std.proofs.lemmas.Option.{slice_get_past}
use Rattle.mon_inventory.specs.declared.records.ObjectSpec.{ObjectSpec}
use Rattle.mon_inventory.specs.Configuration.{Configuration, tells_by_clock}
use Rattle.mon_notify.specs.declared.facts.Facts.{Facts}
use Rattle.mon_notify.specs.Letters.{letter_of}
use Rattle.mon_notify.specs.Viable.{problem_viable, is_due, is_of_code, is_over, is_old, is_settled}
use Rattle.mon_engine.specs.declared.notices.Occasion.TheVariants.{Clock}
use Rattle.mon_engine.specs.declared.notice.Notice.{Notice}
use Rattle.mon_engine.specs.declared.object.Object.{Object}
use Rattle.mon_engine.specs.declared.withheld.Withheld.{Withheld}
use Rattle.mon_engine.specs.Objects.{is_service, is_up, back_since, after_told}
use Rattle.mon_engine.specs.World.{World}
use Rattle.mon_engine.specs.Notices.{of_object, problem_facts, problem_notice, problem_notice_by, with_problem, told_problem_of, told_problem}
use Rattle.mon_engine.specs.Places.{changed_at}
use Rattle.mon_engine.specs.Sound.{IsTellable}
use Rattle.mon_engine.specs.Withheld.{next_problem, withheld_by, withheld_of}
use Rattle.mon_engine.specs.ByClock.{told_among, told_by_clock}
use Rattle.mon_engine.specs.ByClockLaws.{unless, ready_notice_of, ready_notice, ready_notices, after_ready, TellsWhatIsReady, TheClockTellsWhatIsReady}
use Rattle.mon_engine.proofs.ListLemmas.{All-each, changed_here, changed_other, changed_reads, length-changed_at}
use Rattle.mon_engine.proofs.NewsLemmas.{More, if_some}
use Rattle.mon_engine.proofs.UnlessLemmas.{IsUnless, problem_unless}

-- ---- one object

unless_is : (h : Option Withheld) (p : Notice) (n : Option Notice) → IsUnless h p n → n ≡ unless h p
unless_is None p n is = is
unless_is (Some why) p n is = is

pub ready_is : (inv : Configuration) (w : World) (k : ℕ) (spec : ObjectSpec) (o : Object) → problem_notice inv w Clock k spec o ≡ unless (withheld_of inv w Clock k spec o) (next_problem inv w k spec o)
ready_is inv w k spec o = unless_is (withheld_of inv w Clock k spec o) (next_problem inv w k spec o) (problem_notice inv w Clock k spec o) (problem_unless inv w Clock k spec o)

-- what is told of an object is what it is ready for
pub told_problem_is : (inv : Configuration) (w : World) (k : ℕ) → told_problem inv Clock w k ≡ with_problem w k (ready_notice inv w k)
unfolding told_problem ready_notice
told_problem_is inv w k = by_object (slice_get inv.objects k) (slice_get w.objects k)
  where
    by_code : (b : Bool) (n m : Option Notice) → n ≡ m → (if b then w else with_problem w k n) ≡ with_problem w k (if b then None else m)
    by_code true n m e = refl
    by_code false n m e = ap (with_problem w k) e

    by_object : (s : Option ObjectSpec) (o : Option Object) → of_object w (told_problem_of inv w Clock k) s o ≡ with_problem w k (of_object None (ready_notice_of inv w k) s o)
    by_object None o = refl
    by_object (Some spec) None = refl
    by_object (Some spec) (Some o) = by_code (eqb o.status.code 0) _ _ (ready_is inv w k spec o)

-- what an object is ready for rests on its own state, and of the other objects only on which have code 0
pub same_ready : (inv : Configuration) (w : World) (os : List Object) (ns : List Notice) (k : ℕ) → slice_get os k ≡ slice_get w.objects k
    → ((h : ℕ) → (is_up (slice_get os h) ≡ is_up (slice_get w.objects h)) × (back_since (slice_get os h) ≡ back_since (slice_get w.objects h)))
    → ready_notice inv (record w { objects = os; notices = ns }) k ≡ ready_notice inv w k
unfolding ready_notice
same_ready inv w os ns k at seen = ap (of_object None (ready_notice_of inv v k) (slice_get inv.objects k)) at ∙ by_object (slice_get inv.objects k) (slice_get w.objects k)
  where
    v : World
    v = record w { objects = os; notices = ns }

    with_host : ObjectSpec → Object → Bool → Option ℕ → Option Notice
    with_host spec o up back = if eqb o.status.code 0 then None
        else unless (withheld_by (record (problem_facts inv w Clock k spec o) { host_up = if is_service spec then up else true; above_back = if is_service spec then back else None }) (nat_lt 0 (length (next_problem inv w k spec o).contacts))) (next_problem inv w k spec o)

    by_object : (s : Option ObjectSpec) (o : Option Object) → of_object None (ready_notice_of inv v k) s o ≡ of_object None (ready_notice_of inv w k) s o
    by_object None o = refl
    by_object (Some spec) None = refl
    by_object (Some spec) (Some o) =
        ap (λ (b : Bool). with_host spec o b (back_since (slice_get os spec.host_object))) (seen spec.host_object).0 ∙ ap (with_host spec o (is_up (slice_get w.objects spec.host_object))) (seen spec.host_object).1

-- an object that is ready is there
ready_there : (inv : Configuration) (w : World) (k : ℕ) (n : Notice) → ready_notice inv w k ≡ Some n → (spec : ObjectSpec) × (o : Object) × (slice_get inv.objects k ≡ Some spec) × (slice_get w.objects k ≡ Some o)
unfolding ready_notice
ready_there inv w k n e = by_object (slice_get inv.objects k) (slice_get w.objects k) refl refl e
  where
    by_object : (s : Option ObjectSpec) (p : Option Object) → slice_get inv.objects k ≡ s → slice_get w.objects k ≡ p → of_object None (ready_notice_of inv w k) s p ≡ Some n
        → (spec : ObjectSpec) × (o : Object) × (slice_get inv.objects k ≡ Some spec) × (slice_get w.objects k ≡ Some o)
    by_object None p known at is = absurd (cc)
    by_object (Some spec) None known at is = absurd (cc)
    by_object (Some spec) (Some o) known at is = (spec, o, known, at)

pub ready_at : (inv : Configuration) (w : World) (k : ℕ) (spec : ObjectSpec) (o : Object) → slice_get inv.objects k ≡ Some spec → slice_get w.objects k ≡ Some o → ready_notice inv w k ≡ ready_notice_of inv w k spec o
unfolding ready_notice
ready_at inv w k spec o known at = ap (λ (s : Option ObjectSpec). of_object None (ready_notice_of inv w k) s (slice_get w.objects k)) known ∙ ap (of_object None (ready_notice_of inv w k) (Some spec)) at

-- what an object is ready for is the notice of its problem
pub ready_says : (inv : Configuration) (w : World) (k : ℕ) (n : Notice) → ready_notice inv w k ≡ Some n
    → (spec : ObjectSpec) × (o : Object) × (slice_get inv.objects k ≡ Some spec) × (slice_get w.objects k ≡ Some o) × (eqb o.status.code 0 ≡ false) × (problem_notice inv w Clock k spec o ≡ Some n)
ready_says inv w k n e = (let says = by_code (eqb o.status.code 0) refl (sym (ready_at inv w k spec o known at) ∙ e) in (spec, o, known, at, says.0, says.1))
  where
    spec : ObjectSpec
    spec = (ready_there inv w k n e).0

    o : Object
    o = (ready_there inv w k n e).1

    known : slice_get inv.objects k ≡ Some spec
    known = (ready_there inv w k n e).2

    at : slice_get w.objects k ≡ Some o
    at = (ready_there inv w k n e).3

    by_code : (b : Bool) → eqb o.status.code 0 ≡ b → (if b then None else unless (withheld_of inv w Clock k spec o) (next_problem inv w k spec o)) ≡ Some n → (eqb o.status.code 0 ≡ false) × (problem_notice inv w Clock k spec o ≡ Some n)
    by_code true is h = absurd (cc)
    by_code false is h = (is, ready_is inv w k spec o ∙ h)

-- ---- a further notice of one code

pub due_again : (number : ℕ) (notified last : Option ℕ) (code interval clock m moment : ℕ) → notified ≡ Some code → last ≡ Some moment → m ≤ moment → 0 < number
    → (eqb number 0 || not (is_of_code notified code) || (nat_lt 0 interval && is_over last interval clock)) ≡ true → (0 < interval) × (m + interval ≤ clock)
due_again number notified last code interval clock m moment same at since some due = which (or_cases (eqb number 0 || not (is_of_code notified code)) (nat_lt 0 interval && is_over last interval clock) due)
  where
    again : (eqb number 0 ≡ true) ⊎ (not (is_of_code notified code) ≡ true) → (0 < interval) × (m + interval ≤ clock)
    again (inl none) = let zero_is = eqb-true number 0 none in absurd (omega (arith, zero_is, some))
    again (inr other) = absurd (true≢false (sym (ap (λ (o : Option ℕ). is_of_code o code) same ∙ eq-eqb code code refl) ∙ not-true (is_of_code notified code) other))

    which : (eqb number 0 || not (is_of_code notified code) ≡ true) ⊎ (nat_lt 0 interval && is_over last interval clock ≡ true) → (0 < interval) × (m + interval ≤ clock)
    which (inl first) = again (or_cases (eqb number 0) (not (is_of_code notified code)) first)
    which (inr over) =
        let parts = and_parts (nat_lt 0 interval) (is_over last interval clock) over in
        let late = leb-true (moment + interval) clock (ap (λ (o : Option ℕ). is_over o interval clock) (sym at) ∙ parts.1) in
        (ltb-true 0 interval parts.0, omega (arith, since, late))

pub viable_due : (f : Facts) → problem_viable f ≡ true → is_due f ≡ true
viable_due f h = (and_parts _ (is_due f) (and_parts _ (is_old f) (and_parts _ (is_settled f) h).0).0).1

-- nothing is due of an object of which a PROBLEM went out at the clock
none_due : (f : Facts) → f.volatile ≡ false → 0 < f.number → f.notified ≡ Some f.code → f.last ≡ Some f.clock → problem_viable f ≡ false
none_due f steady some same at = false_from_ne_true (problem_viable f)
    (λ viable. (let due = ap (λ (v : Bool). v || eqb f.number 0 || not (is_of_code f.notified f.code) || (nat_lt 0 f.interval && is_over f.last f.interval f.clock)) (sym steady) ∙ viable_due f viable in
    let again = due_again f.number f.notified f.last f.code f.interval f.clock f.clock f.clock same at (omega arith) some due in let long = again.0 in let late = again.1 in absurd (omega (arith, long, late))))

pub told_once : (inv : Configuration) (w : World) (k : ℕ) (spec : ObjectSpec) (o : Object) → slice_get inv.objects k ≡ Some spec → slice_get w.objects k ≡ Some o → 0 < o.number → o.notified ≡ Some o.status.code → o.last ≡ Some w.clock → ready_notice inv w k ≡ None
unfolding problem_notice
told_once inv w k spec o known at some same last = ready_at inv w k spec o known at ∙ ap (λ (n : Option Notice). if eqb o.status.code 0 then None else n) (sym (ready_is inv w k spec o) ∙ none) ∙ either (eqb o.status.code 0)
  where
    nothing : Option Notice
    nothing = None

    none : problem_notice inv w Clock k spec o ≡ None
    none = ap (problem_notice_by inv w k o (letter_of (is_service spec) o.status.code)) (none_due (problem_facts inv w Clock k spec o) refl some same last)

    either : (b : Bool) → (if b then None else nothing) ≡ None
    either true = refl
    either false = refl

-- ---- one object told of

-- it is not ready any more
pub told_none : (inv : Configuration) (w : World) (k : ℕ) → ready_notice inv (told_problem inv Clock w k) k ≡ None
told_none inv w k = ap (λ (v : World). ready_notice inv v k) (told_problem_is inv w k) ∙ by_notice (ready_notice inv w k) refl
  where
    by_notice : (r : Option Notice) → ready_notice inv w k ≡ r → ready_notice inv (with_problem w k r) k ≡ None
    by_notice None is = is
    by_notice (Some m) is = (let at = ready_there inv w k m is in told_once inv (with_problem w k (Some m)) k at.0 (after_told w.clock at.1) at.2 (changed_here w.objects k (after_told w.clock) at.1 at.3) (omega arith) refl refl)

-- and another one is ready for the same, at any clock
pub told_other : (inv : Configuration) (w : World) (x k c : ℕ) → (k ≡ x → ⊥) → ready_notice inv (record (told_problem inv Clock w x) { clock = c }) k ≡ ready_notice inv (record w { clock = c }) k
told_other inv w x k c other = ap (λ (v : World). ready_notice inv (record v { clock = c }) k) (told_problem_is inv w x) ∙ by_notice (ready_notice inv w x)
  where
    by_notice : (r : Option Notice) → ready_notice inv (record (with_problem w x r) { clock = c }) k ≡ ready_notice inv (record w { clock = c }) k
    by_notice None = refl
    by_notice (Some m) = same_ready inv (record w { clock = c }) (changed_at w.objects x (after_told w.clock)) (w.notices ++ m ∷ []) k (changed_other w.objects x k (after_told w.clock) (λ e. other (sym e))) (λ j. (changed_reads is_up w.objects x j (after_told w.clock) (λ o. refl), changed_reads back_since w.objects x j (after_told w.clock) (λ o. refl)))

pub told_clock : (inv : Configuration) (w : World) (k : ℕ) → (told_problem inv Clock w k).clock ≡ w.clock
told_clock inv w k = ap (λ (v : World). v.clock) (told_problem_is inv w k) ∙ by_notice (ready_notice inv w k)
  where
    by_notice : (r : Option Notice) → (with_problem w k r).clock ≡ w.clock
    by_notice None = refl
    by_notice (Some m) = refl

pub told_tellable : (inv : Configuration) (w u : World) (k : ℕ) → IsTellable inv w → u ≡ told_problem inv Clock w k → IsTellable inv u
told_tellable inv w u k h is = subst (IsTellable inv) (sym (is ∙ told_problem_is inv w k)) (by_notice (ready_notice inv w k))
  where
    by_notice : (r : Option Notice) → IsTellable inv (with_problem w k r)
    by_notice None = h
    by_notice (Some m) = record { objects = length-changed_at w.objects k (after_told w.clock) ∙ h.objects; contacts = h.contacts }

-- ---- one object after another

-- what is told of the first so many objects: v is the world after it
record AreTold (inv : Configuration) (w : World) (count : ℕ) (v : World) : Type 0 where
  same : v ≡ record w { objects = v.objects; notices = w.notices ++ ready_notices inv w count }
  as_many : length v.objects ≡ length w.objects
  seen : (h : ℕ) → (is_up (slice_get v.objects h) ≡ is_up (slice_get w.objects h)) × (back_since (slice_get v.objects h) ≡ back_since (slice_get w.objects h))
  later : (k : ℕ) → count ≤ k → slice_get v.objects k ≡ slice_get w.objects k
  earlier : (k : ℕ) (o : Object) → k < count → slice_get w.objects k ≡ Some o → slice_get v.objects k ≡ Some (after_ready inv w k o)
  none : (k : ℕ) → k < count → ready_notice inv v k ≡ None

pub range_more : (n : ℕ) → range_with_len 0 (n + 1) ≡ range_with_len 0 n ++ n ∷ []
range_more n = sym (map-id (range_with_len 0 (n + 1))) ∙ map-range_with_len_more (λ x. x) 0 n n (omega arith) ∙ ap (λ (xs : List ℕ). xs ++ n ∷ []) (map-id (range_with_len 0 n))

pub told_more : (inv : Configuration) (w : World) (n : ℕ) → told_among inv w (n + 1) ≡ told_problem inv Clock (told_among inv w n) n
told_more inv w n = ap (fold (told_problem inv Clock) w) (range_more n) ∙ fold-append (told_problem inv Clock) w (range_with_len 0 n) (n ∷ [])

pub notices_more : (inv : Configuration) (w : World) (n : ℕ) → ready_notices inv w (n + 1) ≡ ready_notices inv w n ++ option_to_list (ready_notice inv w n)
notices_more inv w n =
    let f = λ (k : ℕ). option_to_list (ready_notice inv w k) in
    ap (flat_map f) (range_more n) ∙ flat_map-append f (range_with_len 0 n) (n ∷ []) ∙ ap (λ (x : List Notice). ready_notices inv w n ++ x) (append-nil (f n))

pub cases_below : (k n : ℕ) → k < n + 1 → (k < n) ⊎ (k ≡ n)
cases_below k n low = elim (cases_lt k n) [
  | inl below ↦ inl below
  | inr high ↦ inr (omega (arith, low, high))
]

one_more : (inv : Configuration) (w v : World) (n : ℕ) → AreTold inv w n v → AreTold inv w (n + 1) (told_problem inv Clock v n)
one_more inv w v n h = subst (AreTold inv w (n + 1)) (sym (told_problem_is inv v n)) (by_notice (ready_notice inv v n) refl)
  where
    there : slice_get v.objects n ≡ slice_get w.objects n
    there = h.later n (omega arith)

    as_before : ready_notice inv v n ≡ ready_notice inv w n
    as_before = ap (λ (x : World). ready_notice inv x n) h.same ∙ same_ready inv w v.objects (w.notices ++ ready_notices inv w n) n there h.seen

    clock : v.clock ≡ w.clock
    clock = ap (λ (x : World). x.clock) h.same

    added : (r : Option Notice) → ready_notice inv v n ≡ r → v.notices ++ option_to_list r ≡ w.notices ++ ready_notices inv w (n + 1)
    added r is = ap (λ (x : World). x.notices ++ option_to_list r) h.same ∙ append_assoc w.notices (ready_notices inv w n) (option_to_list r)
        ∙ ap (λ (x : List Notice). w.notices ++ x) (ap (λ (m : Option Notice). ready_notices inv w n ++ option_to_list m) (sym is ∙ as_before) ∙ sym (notices_more inv w n))

    by_notice : (r : Option Notice) → ready_notice inv v n ≡ r → AreTold inv w (n + 1) (with_problem v n r)
    by_notice None is = record {
      same = h.same ∙ ap (λ (ns : List Notice). record w { objects = v.objects; notices = ns }) (ap (λ (x : World). x.notices) (sym h.same) ∙ sym (append-nil v.notices) ∙ added None is);
      as_many = h.as_many;
      seen = h.seen;
      later = λ k high. h.later k (omega (arith, high));
      earlier = λ k o low at. elim (cases_below k n low) [
        | inl below ↦ h.earlier k o below at
        | inr here ↦ (let quiet : ready_notice inv w n ≡ None = sym as_before ∙ is in
            ap (slice_get v.objects) here ∙ there ∙ ap (slice_get w.objects) (sym here) ∙ at ∙ ap (λ (r : Option Notice). Some (if is_some r then after_told w.clock o else o)) (sym (ap (ready_notice inv w) here ∙ quiet)))
      ];
      none = λ k low. elim (cases_below k n low) [
        | inl below ↦ h.none k below
        | inr here ↦ ap (ready_notice inv v) here ∙ is
      ];
    }
    by_notice (Some m) is = record {
      same = ap (λ (x : World). record x { objects = os; notices = v.notices ++ m ∷ [] }) h.same ∙ ap (λ (ns : List Notice). record w { objects = os; notices = ns }) (added (Some m) is);
      as_many = length-changed_at v.objects n (after_told v.clock) ∙ h.as_many;
      seen = λ j. (changed_reads is_up v.objects n j (after_told v.clock) (λ o. refl) ∙ (h.seen j).0, changed_reads back_since v.objects n j (after_told v.clock) (λ o. refl) ∙ (h.seen j).1);
      later = λ k high. changed_other v.objects n k (after_told v.clock) (λ e. absurd (omega (arith, e, high))) ∙ h.later k (omega (arith, high));
      earlier = λ k o low at. elim (cases_below k n low) [
        | inl below ↦ changed_other v.objects n k (after_told v.clock) (λ e. absurd (omega (arith, e, below))) ∙ h.earlier k o below at
        | inr here ↦ (let now : slice_get v.objects n ≡ Some o = there ∙ ap (slice_get w.objects) (sym here) ∙ at in
            ap (slice_get os) here ∙ changed_here v.objects n (after_told v.clock) o now ∙ ap (λ (c : ℕ). Some (after_told c o)) clock
            ∙ ap (λ (r : Option Notice). Some (if is_some r then after_told w.clock o else o)) (sym (ap (ready_notice inv w) here ∙ sym as_before ∙ is)))
      ];
      none = λ k low. elim (cases_below k n low) [
        | inl below ↦ same_ready inv v os (v.notices ++ m ∷ []) k (changed_other v.objects n k (after_told v.clock) (λ e. absurd (omega (arith, e, below)))) (λ j. (changed_reads is_up v.objects n j (after_told v.clock) (λ o. refl), changed_reads back_since v.objects n j (after_told v.clock) (λ o. refl))) ∙ h.none k below
        | inr here ↦ ap (ready_notice inv (with_problem v n (Some m))) here ∙ ap (λ (r : Option Notice). ready_notice inv (with_problem v n r) n) (sym is) ∙ ap (λ (x : World). ready_notice inv x n) (sym (told_problem_is inv v n)) ∙ told_none inv v n
      ];
    }
      where
        os : List Object
        os = changed_at v.objects n (after_told v.clock)

are_told : (inv : Configuration) (w : World) (count : ℕ) → AreTold inv w count (told_among inv w count)
are_told inv w zero = record {
  same = ap (λ (ns : List Notice). record w { notices = ns }) (sym (append-nil w.notices));
  as_many = refl;
  seen = λ h. (refl, refl);
  later = λ k high. refl;
  earlier = λ k o low at. absurd (omega (arith, low));
  none = λ k low. absurd (omega (arith, low));
}
are_told inv w (suc n) = (let next : n + 1 ≡ suc n = omega arith in subst (λ (k : ℕ). AreTold inv w k (told_among inv w k)) next (subst (AreTold inv w (n + 1)) (sym (told_more inv w n)) (one_more inv w (told_among inv w n) n (are_told inv w n))))

-- the world in which the next object is told of
pub among_tellable : (inv : Configuration) (w v : World) (n : ℕ) → IsTellable inv w → v ≡ told_among inv w n → IsTellable inv v
among_tellable inv w v n h is =
    let told = are_told inv w n in
    subst (IsTellable inv) (sym is) (record { objects = told.as_many ∙ h.objects; contacts = ap (λ (x : World). length x.contacts) told.same ∙ h.contacts })

-- it stands there as before
pub among_later : (inv : Configuration) (w v : World) (n : ℕ) → v ≡ told_among inv w n → slice_get v.objects n ≡ slice_get w.objects n
among_later inv w v n is = ap (λ (x : World). slice_get x.objects n) is ∙ (are_told inv w n).later n (omega arith)

-- once the next one is told of, it is not ready
pub none_after : (inv : Configuration) (w v : World) (n k : ℕ) → k < n → v ≡ told_among inv w n → ready_notice inv v k ≡ None
none_after inv w v n k low is = ap (λ (x : World). ready_notice inv x k) is ∙ (are_told inv w n).none k low

pub among_more : (inv : Configuration) (w v u : World) (n : ℕ) → v ≡ told_among inv w n → u ≡ told_problem inv Clock v n → u ≡ told_among inv w (n + 1)
among_more inv w v u n is next = next ∙ ap (λ (x : World). told_problem inv Clock x n) is ∙ sym (told_more inv w n)

-- ---- all objects

pub clock_on : (inv : Configuration) (w : World) → tells_by_clock inv ≡ true → told_by_clock inv w ≡ told_among inv w (length inv.objects)
unfolding told_by_clock
clock_on inv w on = ap (λ (b : Bool). if b then told_among inv w (length inv.objects) else w) on

pub clock_off : (inv : Configuration) (w : World) → tells_by_clock inv ≡ false → told_by_clock inv w ≡ w
unfolding told_by_clock
clock_off inv w off = ap (λ (b : Bool). if b then told_among inv w (length inv.objects) else w) off

pub none_beyond : (inv : Configuration) (w : World) (k : ℕ) → length inv.objects ≤ k → ready_notice inv w k ≡ None
unfolding ready_notice
none_beyond inv w k high = ap (λ (s : Option ObjectSpec). of_object None (ready_notice_of inv w k) s (slice_get w.objects k)) (slice_get_past inv.objects k high)

pub the_clock_tells_what_is_ready : TheClockTellsWhatIsReady
the_clock_tells_what_is_ready inv w on = subst (TellsWhatIsReady inv w) (sym (clock_on inv w on)) (record {
  same = all.same;
  as_many = all.as_many;
  each = λ k o at. elim (cases_lt k (length inv.objects)) [
    | inl low ↦ all.earlier k o low at
    | inr high ↦ all.later k high ∙ at ∙ ap (λ (r : Option Notice). Some (if is_some r then after_told w.clock o else o)) (sym (none_beyond inv w k high))
  ];
})
  where
    all : AreTold inv w (length inv.objects) (told_among inv w (length inv.objects))
    all = are_told inv w (length inv.objects)

-- after the clock has told, nothing is ready
pub none_is_ready : (inv : Configuration) (w : World) (k : ℕ) → tells_by_clock inv ≡ true → ready_notice inv (told_by_clock inv w) k ≡ None
none_is_ready inv w k on = elim (cases_lt k (length inv.objects)) [
  | inl low ↦ ap (λ (v : World). ready_notice inv v k) (clock_on inv w on) ∙ (are_told inv w (length inv.objects)).none k low
  | inr high ↦ none_beyond inv (told_by_clock inv w) k high
]

-- ---- what the clock leaves alone

-- either the clock tells nothing, or it tells what is ready
pub clock_cases : (inv : Configuration) (w : World) (P : World → Type 0) → P w → ((v : World) → TellsWhatIsReady inv w v → P v) → P (told_by_clock inv w)
clock_cases inv w P same tells = by_option (tells_by_clock inv) refl
  where
    by_option : (b : Bool) → tells_by_clock inv ≡ b → P (told_by_clock inv w)
    by_option true on = tells (told_by_clock inv w) (the_clock_tells_what_is_ready inv w on)
    by_option false off = subst P (sym (clock_off inv w off)) same

pub clock_leaves : (inv : Configuration) (w : World) → told_by_clock inv w ≡ record w { objects = (told_by_clock inv w).objects; notices = (told_by_clock inv w).notices }
clock_leaves inv w = clock_cases inv w (λ (v : World). v ≡ record w { objects = v.objects; notices = v.notices }) refl (λ v h. h.same ∙ ap (λ (ns : List Notice). record w { objects = v.objects; notices = ns }) (ap (λ (x : World). x.notices) (sym h.same)))

-- an object is as it was, or counts one notice more
pub clock_object : (inv : Configuration) (w : World) (k : ℕ) (o : Object) → slice_get w.objects k ≡ Some o
    → (slice_get (told_by_clock inv w).objects k ≡ Some o) ⊎ ((slice_get (told_by_clock inv w).objects k ≡ Some (after_told w.clock o)) × ((n : Notice) × (ready_notice inv w k ≡ Some n)))
clock_object inv w k o at = clock_cases inv w (λ (v : World). (slice_get v.objects k ≡ Some o) ⊎ ((slice_get v.objects k ≡ Some (after_told w.clock o)) × ((n : Notice) × (ready_notice inv w k ≡ Some n)))) (inl at)
    (λ v h. by_notice v (ready_notice inv w k) refl (h.each k o at))
  where
    by_notice : (v : World) (r : Option Notice) → ready_notice inv w k ≡ r → slice_get v.objects k ≡ Some (if is_some (ready_notice inv w k) then after_told w.clock o else o)
        → (slice_get v.objects k ≡ Some o) ⊎ ((slice_get v.objects k ≡ Some (after_told w.clock o)) × ((n : Notice) × (ready_notice inv w k ≡ Some n)))
    by_notice v None is now = inl (now ∙ ap (λ (r : Option Notice). Some (if is_some r then after_told w.clock o else o)) is)
    by_notice v (Some n) is now = inr (now ∙ ap (λ (r : Option Notice). Some (if is_some r then after_told w.clock o else o)) is, (n, is))

-- what is told of an object is counted by it
pub clock_counts : (inv : Configuration) (w v : World) (k : ℕ) (o : Object) (n : Notice) → TellsWhatIsReady inv w v → slice_get w.objects k ≡ Some o → ready_notice inv w k ≡ Some n → slice_get v.objects k ≡ Some (after_told w.clock o)
clock_counts inv w v k o n h at is = h.each k o at ∙ ap (λ (r : Option Notice). Some (if is_some r then after_told w.clock o else o)) is

-- each notice of the clock is one for which an object was ready
pub clock_more : (inv : Configuration) (w v : World) (P : Notice → Type 0) → TellsWhatIsReady inv w v → ((k : ℕ) (n : Notice) → ready_notice inv w k ≡ Some n → P n) → More P w.notices v.notices
clock_more inv w v P h each =
    (ready_notices inv w (length inv.objects), ap (λ (x : World). x.notices) h.same, All-each P (λ k. option_to_list (ready_notice inv w k)) (λ k. if_some P (ready_notice inv w k) (each k)) (range_with_len 0 (length inv.objects)))

-- a host is up as before
pub clock_up : (inv : Configuration) (w : World) (k : ℕ) → is_up (slice_get (told_by_clock inv w).objects k) ≡ is_up (slice_get w.objects k)
clock_up inv w k = by_option (tells_by_clock inv) refl
  where
    by_option : (b : Bool) → tells_by_clock inv ≡ b → is_up (slice_get (told_by_clock inv w).objects k) ≡ is_up (slice_get w.objects k)
    by_option true on = ap (λ (v : World). is_up (slice_get v.objects k)) (clock_on inv w on) ∙ ((are_told inv w (length inv.objects)).seen k).0
    by_option false off = ap (λ (v : World). is_up (slice_get v.objects k)) (clock_off inv w off)

-- and came back when it did
pub clock_back : (inv : Configuration) (w : World) (k : ℕ) → back_since (slice_get (told_by_clock inv w).objects k) ≡ back_since (slice_get w.objects k)
clock_back inv w k = by_option (tells_by_clock inv) refl
  where
    by_option : (b : Bool) → tells_by_clock inv ≡ b → back_since (slice_get (told_by_clock inv w).objects k) ≡ back_since (slice_get w.objects k)
    by_option true on = ap (λ (v : World). back_since (slice_get v.objects k)) (clock_on inv w on) ∙ ((are_told inv w (length inv.objects)).seen k).1
    by_option false off = ap (λ (v : World). back_since (slice_get v.objects k)) (clock_off inv w off)
