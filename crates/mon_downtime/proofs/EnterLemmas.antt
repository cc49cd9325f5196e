-- New records that are alike have their starts in one block and their expiries in another: what these bring into the queue.
use Rattle.std.proofs.Common.{◌≡◌, ℕ, ◌+◌, ◌-◌, ◌*◌, ◌<◌, ◌≤◌, Bool, true, false, eqb, nat_lt, cond, not, ◌&&◌, ◌||◌, List, [], ◌∷◌, length, Option, Some, None, refl, ap, sym, ◌∙◌, arith}
use Rattle.std.specs.Prelude.{vec_capacity, IfSome}
use Rattle.std.specs.Option.{option_to_list}
use Rattle.std.proofs.lemmas.Bool.{eqb-true, and_parts}
use Rattle.std.proofs.lemmas.Bool.Decides.{nat_tests}
use Rattle.mon_downtime.specs.declared.downtime.Downtime.{Downtime}
use Rattle.mon_downtime.specs.declared.event.Event.{Event}
use Rattle.mon_downtime.specs.declared.event.EventKind.{EventKind}
use Rattle.mon_downtime.specs.declared.event.EventKind.TheVariants.{Expires, Starts}
use Rattle.mon_downtime.specs.declared.queue.Queue.{Queue}
use Rattle.mon_downtime.specs.Records.{record_of, AreNumbered, AreRecords}
use Rattle.mon_downtime.specs.Events.{start_of, starts}
use Rattle.mon_downtime.specs.Order.{same, has}
use Rattle.mon_downtime.specs.Queue.{IsQueue, queued, in_block, in_block_of}
use Rattle.mon_downtime.specs.Listed.{starts_of, starts_at, lasts_of, lasts_at, is_event, starts_in, lasts_in, is_start, is_last, IsPartOf, AreAlike}
use Rattle.mon_downtime.proofs.RecordLemmas.{numbered, record_of_past, id_found, place_found}
use Rattle.mon_downtime.proofs.ListedLemmas.{event_is, not_both, one_of, last_is_event, start_is_event, last_other_id, start_other_id}

-- where no record is found behind the first, the id is past the last
none_past : (k : ℕ) (ds : List Downtime) (id : ℕ) → AreNumbered k ds → k < id → record_of ds id ≡ None → k + length ds < id
none_past k [] id w l h = omega arith
none_past k (d ∷ ds) id w l h = by_test (λ g i. none_past (k + 1) ds id w.1 g i) (eqb d.id id) refl h
  where
    by_test : (k + 1 < id → record_of ds id ≡ None → (k + 1) + length ds < id) → (b : Bool) → eqb d.id id ≡ b → cond b (Some d) (record_of ds id) ≡ None → k + length (d ∷ ds) < id
    by_test again true e h = absurd (cc)
    by_test again false e h =
        let next = w.0.id_next in
        let more : k + 1 < id = grind (arith, nat_tests) in
        let rest = again more h in
        omega arith

-- ---- blocks

-- an event of a kind for an id, where there is a moment for it
abbrev pub timed : EventKind → Option ℕ → ℕ → List Event
timed k None id = []
timed k (Some moment) id = record { moment = moment; kind = k; id = id } ∷ []

timed_block : (k : EventKind) (at : Option ℕ) (first n : ℕ) (o : Option Event) (e : Event) → option_to_list o ≡ timed k at first → in_block_of o n e ≡ (not (nat_lt e.id first) && (nat_lt e.id (first + n) && has (timed k at e.id) e))
unfolding has
timed_block k None first n None e h = none (nat_lt e.id first) (nat_lt e.id (first + n))
  where
    none : (a b : Bool) → false ≡ (not a && (b && false))
    none true b = refl
    none false true = refl
    none false false = refl
timed_block k None first n (Some x) e h = absurd (cc)
timed_block k (Some m) first n None e h = absurd (cc)
timed_block k (Some m) first n (Some x) e h =
    let is : x ≡ record { moment = m; kind = k; id = first } = cc in
    rw is (one k m first n e)
  where
    one : (k : EventKind) (m first n : ℕ) (e : Event) → in_block (record { moment = m; kind = k; id = first }) n e ≡ (not (nat_lt e.id first) && (nat_lt e.id (first + n) && (same (record { moment = m; kind = k; id = e.id }) e || false)))
    one k m first n e = grind (arith, nat_tests)

-- the events that records from an id on have of one kind at one moment are a block
pub own_block : (ds : List Downtime) (own : Option Downtime → List Event) (k : EventKind) (at : Option ℕ) (first n : ℕ) (o : Option Event) (e : Event) → AreNumbered 0 ds → 1 ≤ first → first + n ≡ length ds + 1 → own None ≡ [] → ((id : ℕ) (x : Downtime) → first ≤ id → record_of ds id ≡ Some x → own (Some x) ≡ timed k at id) → option_to_list o ≡ timed k at first → in_block_of o n e ≡ (not (nat_lt e.id first) && has (own (record_of ds e.id)) e)
unfolding has
own_block ds own k at first n o e w l long none some h = timed_block k at first n o e h ∙ by_test (nat_lt e.id first) refl
  where
    by_record : first ≤ e.id → (r : Option Downtime) → record_of ds e.id ≡ r → (nat_lt e.id (first + n) && has (timed k at e.id) e) ≡ has (own r) e
    by_record g None i =
        let past = none_past 0 ds e.id w (omega arith) i in
        let no : nat_lt e.id (first + n) ≡ false = grind (arith, nat_tests) in
        rw (no, none) refl
    by_record g (Some x) i =
        let last = (place_found ds e.id x w i).last in
        let yes_it_is : nat_lt e.id (first + n) ≡ true = grind (arith, nat_tests) in
        rw (yes_it_is, some e.id x g i) refl

    by_test : (b : Bool) → nat_lt e.id first ≡ b → (not b && (nat_lt e.id (first + n) && has (timed k at e.id) e)) ≡ (not b && has (own (record_of ds e.id)) e)
    by_test true i = refl
    by_test false i = by_record (let g : first ≤ e.id = grind (arith, nat_tests) in g) (record_of ds e.id) refl

-- where there is no record with the first id there is none behind it
pub no_block : (ds : List Downtime) (own : Option Downtime → List Event) (first n : ℕ) (o : Option Event) (e : Event) → AreNumbered 0 ds → 1 ≤ first → record_of ds first ≡ None → own None ≡ [] → option_to_list o ≡ [] → in_block_of o n e ≡ (not (nat_lt e.id first) && has (own (record_of ds e.id)) e)
unfolding has
no_block ds own first n (Some x) e w l missing none h = absurd (cc)
no_block ds own first n None e w l missing none h = by_test (nat_lt e.id first) refl
  where
    by_test : (b : Bool) → nat_lt e.id first ≡ b → false ≡ (not b && has (own (record_of ds e.id)) e)
    by_test true i = refl
    by_test false i =
        let past = none_past 0 ds first w (omega arith) missing in
        let g : length ds < e.id = grind (arith, nat_tests) in
        rw (record_of_past 0 ds e.id w (omega arith), none) refl

-- n records that are alike from an id on are the last
pub record AreNew (ds : List Downtime) (first n : ℕ) : Type 0 where
  pub numbered : AreNumbered 0 ds
  pub some : 1 ≤ first
  pub long : first + n ≡ length ds + 1
  pub alike : AreAlike ds first

pub are_new : (ds : List Downtime) (first : ℕ) → AreRecords 0 ds → (1 ≤ first) × (first ≤ length ds + 1) → AreAlike ds first → AreNew ds first (length ds - (first - 1))
are_new ds first w there a = record { numbered = numbered 0 ds w; some = there.0; long = omega (arith, there.0, there.1); alike = a }

-- their expiries are a block
lasts_block : (ds : List Downtime) (first n : ℕ) (o : Option Event) → AreNew ds first n → option_to_list o ≡ lasts_in (record_of ds first) → (e : Event) → in_block_of o n e ≡ (not (nat_lt e.id first) && is_last ds e.id e)
unfolding is_last lasts_of
lasts_block ds first n o new h e = by_first (record_of ds first) refl h
  where
    own : (d : Downtime) → record_of ds first ≡ Some d → (id : ℕ) (x : Downtime) → first ≤ id → record_of ds id ≡ Some x → lasts_of x ≡ timed Expires (Some d.plan.times.end_time) id
    own d g id x k i =
        let its = id_found ds id x i in
        let end : x.plan.times.end_time ≡ d.plan.times.end_time = ap (λ (y : Downtime). y.plan.times.end_time) (new.alike.alike id d x g k i) in
        ap (λ f. lasts_at x f) (new.alike.pending id x k i) ∙ (rw (its, end) refl)

    by_first : (r : Option Downtime) → record_of ds first ≡ r → option_to_list o ≡ lasts_in r → in_block_of o n e ≡ (not (nat_lt e.id first) && has (lasts_in (record_of ds e.id)) e)
    by_first None g i = no_block ds lasts_in first n o e new.numbered new.some g refl i
    by_first (Some d) g i = own_block ds lasts_in Expires (Some d.plan.times.end_time) first n o e new.numbered new.some new.long refl (own d g) (i ∙ own d g first d (omega arith) g)

-- and so are their starts
starts_block : (ds : List Downtime) (first n : ℕ) (o : Option Event) → AreNew ds first n → option_to_list o ≡ starts_in ds (record_of ds first) → (e : Event) → in_block_of o n e ≡ (not (nat_lt e.id first) && is_start ds e.id e)
unfolding is_start starts_of
starts_block ds first n o new h e = by_first (record_of ds first) refl h
  where
    timed_starts : (id : ℕ) (at : Option ℕ) → starts id at ≡ timed Starts at id
    timed_starts id None = refl
    timed_starts id (Some m) = refl

    own : (d : Downtime) → record_of ds first ≡ Some d → (id : ℕ) (x : Downtime) → first ≤ id → record_of ds id ≡ Some x → starts_of ds x ≡ timed Starts (start_of ds d) id
    own d g id x k i =
        let its = id_found ds id x i in
        let start : start_of ds x ≡ start_of ds d = ap (λ (y : Downtime). start_of ds y) (new.alike.alike id d x g k i) in
        ap (λ f. starts_at ds x f) (new.alike.pending id x k i) ∙ ap (λ y. starts y (start_of ds x)) its ∙ ap (λ at. starts id at) start ∙ timed_starts id (start_of ds d)

    by_first : (r : Option Downtime) → record_of ds first ≡ r → option_to_list o ≡ starts_in ds r → in_block_of o n e ≡ (not (nat_lt e.id first) && has (starts_in ds (record_of ds e.id)) e)
    by_first None g i = no_block ds (starts_in ds) first n o e new.numbered new.some g refl i
    by_first (Some d) g i = own_block ds (starts_in ds) Starts (start_of ds d) first n o e new.numbered new.some new.long refl (own d g) (i ∙ own d g first d (omega arith) g)

-- ---- the blocks are put into the queue

pub others_are_part : (ds : List Downtime) (q : Queue) (first : ℕ) → IsQueue q → 2 * length ds ≤ vec_capacity q.list → ((e : Event) → has (queued q) e ≡ (is_event ds e && nat_lt e.id first)) → IsPartOf ds q
others_are_part ds q first w room others = record {
  queue = w;
  some = λ e h. front (is_event ds e) (nat_lt e.id first) (sym (others e) ∙ h);
  room = room;
}
  where
    front : (a b : Bool) → (a && b) ≡ true → a ≡ true
    front true b k = refl
    front false b k = absurd (cc)

pub lasts_are_events : (ds : List Downtime) (first n : ℕ) (o : Option Event) → AreNew ds first n → option_to_list o ≡ lasts_in (record_of ds first) → (e : Event) → in_block_of o n e ≡ true → is_event ds e ≡ true
lasts_are_events ds first n o new is e h = last_is_event ds e.id e (and_parts (not (nat_lt e.id first)) (is_last ds e.id e) (sym (lasts_block ds first n o new is e) ∙ h)).1

pub starts_are_events : (ds : List Downtime) (first n : ℕ) (o : Option Event) → AreNew ds first n → option_to_list o ≡ starts_in ds (record_of ds first) → (e : Event) → in_block_of o n e ≡ true → is_event ds e ≡ true
starts_are_events ds first n o new is e h = start_is_event ds e.id e (and_parts (not (nat_lt e.id first)) (is_start ds e.id e) (sym (starts_block ds first n o new is e) ∙ h)).1

-- the starts are not in yet
pub starts_not_in : (ds : List Downtime) (first n : ℕ) (o : Option Event) → AreNew ds first n → option_to_list o ≡ starts_in ds (record_of ds first) → (e : Event) → in_block_of o n e ≡ true → (is_event ds e && nat_lt e.id first) ≡ false
starts_not_in ds first n o new is e h = no (is_event ds e) (nat_lt e.id first) (is_start ds e.id e) (sym (starts_block ds first n o new is e) ∙ h)
  where
    no : (v b s : Bool) → (not b && s) ≡ true → (v && b) ≡ false
    no v true s k = absurd (cc)
    no true false s k = refl
    no false false s k = refl

-- nor are the expiries, once the starts are
pub lasts_not_in : (ds : List Downtime) (first n : ℕ) (o p : Option Event) → AreNew ds first n → option_to_list o ≡ starts_in ds (record_of ds first) → option_to_list p ≡ lasts_in (record_of ds first) → (e : Event) → in_block_of p n e ≡ true → (in_block_of o n e || (is_event ds e && nat_lt e.id first)) ≡ false
lasts_not_in ds first n o p new starts is e h =
    let lasts = sym (lasts_block ds first n p new is e) ∙ h in
    rw (starts_block ds first n o new starts e) (no (is_event ds e) (nat_lt e.id first) (is_last ds e.id e) (is_start ds e.id e) lasts (not_both ds e.id e (and_parts (not (nat_lt e.id first)) (is_last ds e.id e) lasts).1))
  where
    no : (v b l s : Bool) → (not b && l) ≡ true → s ≡ false → ((not b && s) || (v && b)) ≡ false
    no v true l s k i = absurd (cc)
    no true false l s k i = rw i refl
    no false false l s k i = rw i refl

-- and then all events are in
pub all_are_in : (ds : List Downtime) (first n : ℕ) (o p : Option Event) → AreNew ds first n → option_to_list o ≡ starts_in ds (record_of ds first) → option_to_list p ≡ lasts_in (record_of ds first) → (e : Event) → (in_block_of p n e || (in_block_of o n e || (is_event ds e && nat_lt e.id first))) ≡ is_event ds e
all_are_in ds first n o p new starts lasts e = rw (lasts_block ds first n p new lasts e, starts_block ds first n o new starts e) (by_test (nat_lt e.id first) (is_last ds e.id e) (is_start ds e.id e) (is_event ds e) (event_is ds e))
  where
    by_test : (b l s v : Bool) → v ≡ (l || s) → ((not b && l) || ((not b && s) || (v && b))) ≡ v
    by_test true l s true k = refl
    by_test true l s false k = refl
    by_test false true true v k = sym k
    by_test false true false v k = sym k
    by_test false false true v k = sym k
    by_test false false false true k = absurd (cc)
    by_test false false false false k = refl

-- ---- the ids of a block

pub last_id_is : (ds : List Downtime) (id n m : ℕ) (o : Option Event) → option_to_list o ≡ lasts_in (record_of ds id) → id + n ≤ m → IfSome o (λ f. f.id + n ≤ m)
unfolding is_last
last_id_is ds id n m o h l = one_of o (lasts_in (record_of ds id)) (λ f. f.id + n ≤ m) h (λ e k. by_test e (eqb id e.id) refl k)
  where
    by_test : (e : Event) (b : Bool) → eqb id e.id ≡ b → is_last ds id e ≡ true → e.id + n ≤ m
    by_test e true i k = let same = eqb-true id e.id i in omega arith
    by_test e false i k = absurd (let no = last_other_id ds id e i in cc)

pub start_id_is : (ds : List Downtime) (id n m : ℕ) (o : Option Event) → option_to_list o ≡ starts_in ds (record_of ds id) → id + n ≤ m → IfSome o (λ f. f.id + n ≤ m)
unfolding is_start
start_id_is ds id n m o h l = one_of o (starts_in ds (record_of ds id)) (λ f. f.id + n ≤ m) h (λ e k. by_test e (eqb id e.id) refl k)
  where
    by_test : (e : Event) (b : Bool) → eqb id e.id ≡ b → is_start ds id e ≡ true → e.id + n ≤ m
    by_test e true i k = let same = eqb-true id e.id i in omega arith
    by_test e false i k = absurd (let no = start_other_id ds id e i in cc)

-- one event is a block of its own
pub one_alone : (o : Option Event) (es : List Event) (e : Event) → option_to_list o ≡ es → in_block_of o 1 e ≡ has es e
unfolding has
one_alone o es e h = by_option o ∙ ap (λ xs. has xs e) h
  where
    alone : (x e : Event) → in_block x 1 e ≡ (same x e || false)
    alone x e = grind (arith, nat_tests)

    by_option : (o : Option Event) → in_block_of o 1 e ≡ has (option_to_list o) e
    by_option None = refl
    by_option (Some x) = alone x e
