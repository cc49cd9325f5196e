-- Each event brings one record on, so that there is an end to them.
use Rattle.std.proofs.Common.{◌≡◌, ℕ, ◌+◌, ◌<◌, ◌≤◌, Bool, true, false, eqb, cond, List, [], ◌∷◌, ◌++◌, length, get_or, Option, Some, None, refl, ap, sym, ◌∙◌, subst, arith, leb, lit<}
use Rattle.std.specs.List.{flat_map, All, AllByRecursion}
use Rattle.std.proofs.lemmas.List.Elements.{recursion_from_All}
use Rattle.std.proofs.lemmas.Bool.{leb-true, eqb-true}
use Rattle.std.proofs.lemmas.Option.{slice_get-get_or}
use Rattle.mon_downtime.specs.declared.downtime.Downtime.{Downtime}
use Rattle.mon_downtime.specs.declared.event.Event.{Event}
use Rattle.mon_downtime.specs.declared.downtime.Fate.{Fate}
use Rattle.mon_downtime.specs.declared.downtime.Fate.TheVariants.{Pending, Active, Over}
use Rattle.mon_downtime.specs.Records.{record_of, with_fate, AreNumbered}
use Rattle.mon_downtime.specs.Events.{before, first_of, least, events_of, events_at, events, start_of, starts, IsEventOf, steps_left, fate_by, work, due, if_by, after_event}
use Rattle.mon_downtime.proofs.RecordLemmas.{record_at, record_is, with_fate_earlier}

-- the first of two is one of them
first_of_one : (P : Event → Type 0) (x y e : Event) → P x → P y → first_of (Some x) (Some y) ≡ Some e → P e
first_of_one P x y e p q h = by_test (before y x) h
  where
    by_test : (b : Bool) → Some (cond b y x) ≡ Some e → P e
    by_test true h = subst P (let same : y ≡ e = cc in same) q
    by_test false h = subst P (let same : x ≡ e = cc in same) p

-- the first of all is one of them
pub least_one : (P : Event → Type 0) (es : List Event) (e : Event) → AllByRecursion P es → least es ≡ Some e → P e
unfolding least
least_one P [] e a h = absurd (cc)
least_one P (x ∷ es) e a h = by_rest (least es) (λ y k. least_one P es y a.1 k) h
  where
    by_rest : (r : Option Event) → ((y : Event) → r ≡ Some y → P y) → first_of (Some x) r ≡ Some e → P e
    by_rest None rest h = subst P (let same : x ≡ e = cc in same) a.0
    by_rest (Some y) rest h = first_of_one P x y e a.0 (rest y refl) h

append_all : {X : Type 0} (P : X → Type 0) (xs ys : List X) → AllByRecursion P xs → AllByRecursion P ys → AllByRecursion P (xs ++ ys)
append_all P [] ys a b = b
append_all P (x ∷ xs) ys a b = (a.0, append_all P xs ys a.1 b)

pub all_flat : {X Y : Type 0} (P : Y → Type 0) (f : X → List Y) (xs : List X) → AllByRecursion (λ x. AllByRecursion P (f x)) xs → AllByRecursion P (flat_map f xs)
all_flat P f [] a = tt
all_flat P f (x ∷ xs) a = append_all P (f x) (flat_map f xs) a.0 (all_flat P f xs a.1)

-- a record of the list, found by its id
found_at : (ds : List Downtime) (i : ℕ) (d : Downtime) → AreNumbered 0 ds → i < length ds → record_of ds (get_or ds i d).id ≡ Some (get_or ds i d)
found_at ds i d w h =
    let r = record_is 0 ds i d w h in
    let next = r.2.id_next in
    record_at 0 ds (get_or ds i d).id i w (omega (arith, r.1)) ∙ slice_get-get_or ds i d h

pub all_found : (ds : List Downtime) → AreNumbered 0 ds → All (λ (d : Downtime). record_of ds d.id ≡ Some d) ds
all_found ds w = λ k d h. found_at ds k d w h

starts_ok : (ds : List Downtime) (d : Downtime) → d.fate ≡ Pending → record_of ds d.id ≡ Some d → (o : Option ℕ) → AllByRecursion (IsEventOf ds) (starts d.id o)
starts_ok ds d p h None = tt
starts_ok ds d p h (Some m) = (record { of = d; found = h; falls = rw p (lit< tt) }, tt)

-- what can happen to a record of the list
events_ok : (ds : List Downtime) (d : Downtime) → record_of ds d.id ≡ Some d → AllByRecursion (IsEventOf ds) (events_of ds d)
unfolding events_of
events_ok ds d h = by_fate d.fate refl
  where
    by_fate : (f : Fate) → d.fate ≡ f → AllByRecursion (IsEventOf ds) (events_at ds d f)
    by_fate Pending e = (record { of = d; found = h; falls = rw e (lit< tt) }, starts_ok ds d e h (start_of ds d))
    by_fate (Active since until) e = (record { of = d; found = h; falls = rw e (lit< tt) }, tt)
    by_fate Over e = tt

all_events_ok : (ds : List Downtime) → AreNumbered 0 ds → AllByRecursion (IsEventOf ds) (events ds)
unfolding events
all_events_ok ds w = all_flat (IsEventOf ds) (events_of ds) ds (each ds (recursion_from_All (λ (d : Downtime). record_of ds d.id ≡ Some d) ds (all_found ds w)))
  where
    each : (xs : List Downtime) → AllByRecursion (λ (d : Downtime). record_of ds d.id ≡ Some d) xs → AllByRecursion (λ d. AllByRecursion (IsEventOf ds) (events_of ds d)) xs
    each [] a = tt
    each (x ∷ xs) a = (events_ok ds x a.0, each xs a.1)

if_by_some : (t : ℕ) (o : Option Event) (e : Event) → if_by t o ≡ Some e → (o ≡ Some e) × (e.moment ≤ t)
if_by_some t None e h = absurd (cc)
if_by_some t (Some x) e h = by_test (leb x.moment t) refl h
  where
    by_test : (b : Bool) → leb x.moment t ≡ b → cond b (Some x) None ≡ Some e → (Some x ≡ Some e) × (e.moment ≤ t)
    by_test true k h = let same : x ≡ e = cc in (h, subst (λ (v : Event). v.moment ≤ t) same (leb-true x.moment t k))
    by_test false k h = absurd (cc)

pub due_is_least : (ds : List Downtime) (t : ℕ) (e : Event) → due ds t ≡ Some e → (least (events ds) ≡ Some e) × (e.moment ≤ t)
unfolding due
due_is_least ds t e h = if_by_some t (least (events ds)) e h

pub due_is_event : (ds : List Downtime) (t : ℕ) (e : Event) → AreNumbered 0 ds → due ds t ≡ Some e → IsEventOf ds e
due_is_event ds t e w h = least_one (IsEventOf ds) (events ds) e (all_events_ok ds w) (due_is_least ds t e h).0

work_kept : (n : ℕ) (ds : List Downtime) (id : ℕ) (f : Downtime → Fate) → AreNumbered n ds → id ≤ n → work (with_fate ds id f) ≡ work ds
work_kept n ds id f w h = ap work (with_fate_earlier n ds id f w h)

work_falls_by : (n : ℕ) (ds : List Downtime) (id : ℕ) (f : Downtime → Fate) (x d : Downtime) (b : Bool) → AreNumbered n (x ∷ ds) → eqb x.id id ≡ b → cond b (Some x) (record_of ds id) ≡ Some d → steps_left (f d) < steps_left d.fate → (record_of ds id ≡ Some d → work (with_fate ds id f) < work ds) → steps_left (cond b (record x { fate = f x }) x).fate + work (with_fate ds id f) < steps_left x.fate + work ds
work_falls_by n ds id f x d true w e h k rest =
    let same : x ≡ d = cc in
    let next = w.0.id_next in
    let is = eqb-true x.id id e in
    let kept = work_kept (n + 1) ds id f w.1 (omega arith) in
    let falls : steps_left (f x) < steps_left x.fate = subst (λ (v : Downtime). steps_left (f v) < steps_left v.fate) (sym same) k in
    omega arith
work_falls_by n ds id f x d false w e h k rest = let r = rest h in omega arith

-- less is left where a record is brought on
pub work_falls : (n : ℕ) (ds : List Downtime) (id : ℕ) (f : Downtime → Fate) (d : Downtime) → AreNumbered n ds → record_of ds id ≡ Some d → steps_left (f d) < steps_left d.fate → work (with_fate ds id f) < work ds
unfolding work
work_falls n [] id f d w h k = absurd (cc)
work_falls n (x ∷ ds) id f d w h k = work_falls_by n ds id f x d (eqb x.id id) w refl h k (λ e. work_falls (n + 1) ds id f d w.1 e k)

pub event_falls : (ds : List Downtime) (e : Event) → AreNumbered 0 ds → IsEventOf ds e → work (after_event ds e) < work ds
unfolding after_event
event_falls ds e w h = work_falls 0 ds e.id (fate_by e.moment e.kind) h.of w h.found h.falls

-- an event's fate, where its record is known, is one fate
with_fate_known : (n : ℕ) (ds : List Downtime) (id : ℕ) (f : Downtime → Fate) (d : Downtime) → AreNumbered n ds → record_of ds id ≡ Some d → with_fate ds id f ≡ with_fate ds id (λ _. f d)
with_fate_known n [] id f d w h = refl
with_fate_known n (x ∷ ds) id f d w h = by_test (λ k. with_fate_known (n + 1) ds id f d w.1 k) (eqb x.id id) refl h
  where
    by_test : (record_of ds id ≡ Some d → with_fate ds id f ≡ with_fate ds id (λ _. f d)) → (b : Bool) → eqb x.id id ≡ b → cond b (Some x) (record_of ds id) ≡ Some d → cond b (record x { fate = f x }) x ∷ with_fate ds id f ≡ cond b (record x { fate = f d }) x ∷ with_fate ds id (λ _. f d)
    by_test again true e k =
        let same : x ≡ d = cc in
        let next = w.0.id_next in
        let is = eqb-true x.id id e in
        let a = with_fate_earlier (n + 1) ds id f w.1 (omega arith) in
        let b = with_fate_earlier (n + 1) ds id (λ _. f d) w.1 (omega arith) in
        rw (a, b, same) refl
    by_test again false e k = ap (λ xs. x ∷ xs) (again k)

pub with_fate_of : (ds : List Downtime) (id : ℕ) (f : Downtime → Fate) (d : Downtime) → AreNumbered 0 ds → record_of ds id ≡ Some d → with_fate ds id f ≡ with_fate ds id (λ _. f d)
with_fate_of ds id f d w h = with_fate_known 0 ds id f d w h
