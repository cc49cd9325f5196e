-- What commands and events leave of downtimes, and what is new.
use Rattle.std.proofs.Common.{◌≡◌, ℕ, suc, ◌+◌, ◌<◌, ◌≤◌, Bool, true, false, not, ◌&&◌, cond, eqb, leb, ltb, List, [], ◌∷◌, length, map, All, Option, Some, None, refl, ap, sym, subst, arith}
use Rattle.std.specs.List.{AllByRecursion}
use Rattle.std.proofs.lemmas.Bool.{and_parts, eqb-true, not-true}
use Rattle.std.proofs.lemmas.List.{length-map}
use Rattle.std.proofs.lemmas.List.Elements.{All-map, All-weaker, recursion_from_All, All-from_recursion}
use Rattle.mon_downtime.specs.declared.downtime.Downtime.{Downtime}
use Rattle.mon_downtime.specs.declared.downtime.Fate.{Fate}
use Rattle.mon_downtime.specs.declared.downtime.Fate.TheVariants.{Pending, Active, Over}
use Rattle.mon_downtime.specs.declared.event.Event.{Event}
use Rattle.mon_downtime.specs.declared.plan.Plan.{Plan}
use Rattle.mon_downtime.specs.Records.{changed}
use Rattle.mon_downtime.specs.Events.{after_event, fate_by}
use Rattle.mon_downtime.specs.Problem.{is_pending, started, started_by, start_found, waits_for, waiting, after_problem}
use Rattle.mon_downtime.specs.Schedule.{new_records}
use Rattle.mon_downtime.specs.Cancel.{cancelled, cancelled_record, depends}
use Rattle.mon_inventory.specs.declared.records.ObjectSpec.{ObjectSpec}
use Rattle.mon_inventory.specs.Lists.{indices_from}
use Rattle.mon_inventory.specs.Lookups.{services_of, is_service_of}

-- ---- another fate

-- it changes fates alone
abbrev pub OnlyFates : (Downtime → Downtime) → Type 0
OnlyFates f = (d : Downtime) → f d ≡ record d { fate = (f d).fate }

only_fate : (d : Downtime) (fate : Fate) (b : Bool) → cond b (record d { fate = fate }) d ≡ record d { fate = (cond b (record d { fate = fate }) d).fate }
only_fate d fate true = refl
only_fate d fate false = refl

pub changed_only : (id : ℕ) (f : Downtime → Fate) → OnlyFates (changed id f)
changed_only id f d = only_fate d (f d) (eqb d.id id)

pub started_only : (object clock : ℕ) → OnlyFates (started object clock)
started_only object clock d = only_fate d (started_by clock d) (waits_for object clock d)

pub cancelled_only : (ds : List Downtime) (id : ℕ) → OnlyFates (cancelled_record ds id)
cancelled_only ds id d = only_fate d Over (depends ds id d.id)

-- what no fate touches stays
pub fates_keep : (P : Downtime → Type 0) → ((d : Downtime) (fate : Fate) → P d → P (record d { fate = fate })) → (f : Downtime → Downtime) → OnlyFates f → (ds : List Downtime) → All P ds → All P (map f ds)
fates_keep P keeps f only ds a = All-map P f ds (All-weaker P (λ d. P (f d)) (λ d h. subst P (sym (only d)) (keeps d (f d).fate h)) ds a)

-- so the objects are known
pub fates_known : (n : ℕ) (f : Downtime → Downtime) → OnlyFates f → (ds : List Downtime) → All (λ d. d.object < n) ds → All (λ d. d.object < n) (map f ds)
fates_known n f only ds a = fates_keep (λ (d : Downtime). d.object < n) (λ d fate h. h) f only ds a

pub after_problem_known : (n : ℕ) (ds : List Downtime) (object clock : ℕ) → All (λ d. d.object < n) ds → All (λ d. d.object < n) (after_problem ds object clock)
unfolding after_problem
after_problem_known n ds object clock a = by_found (waiting ds object clock)
  where
    by_found : (o : Option Downtime) → All (λ d. d.object < n) (start_found ds clock o)
    by_found None = a
    by_found (Some x) = fates_known n (changed x.id (started_by clock)) (changed_only x.id (started_by clock)) ds a

pub cancelled_known : (n : ℕ) (ds : List Downtime) (id : ℕ) → All (λ d. d.object < n) ds → All (λ d. d.object < n) (cancelled ds id)
unfolding cancelled
cancelled_known n ds id a = fates_known n (cancelled_record ds id) (cancelled_only ds id) ds a

pub after_event_known : (n : ℕ) (ds : List Downtime) (e : Event) → All (λ d. d.object < n) ds → All (λ d. d.object < n) (after_event ds e)
unfolding after_event
after_event_known n ds e a = fates_known n (changed e.id (fate_by e.moment e.kind)) (changed_only e.id (fate_by e.moment e.kind)) ds a

pub length-after_event : (ds : List Downtime) (e : Event) → length (after_event ds e) ≡ length ds
unfolding after_event
length-after_event ds e = length-map ds (changed e.id (fate_by e.moment e.kind))

-- ---- flexible downtimes that wait

pending_is : (f : Fate) → is_pending f ≡ true → f ≡ Pending
pending_is Pending h = refl
pending_is (Active since until) h = absurd (cc)
pending_is Over h = absurd (cc)

-- one that waits is of the object, pending, and not fixed
pub waits_as : (object clock : ℕ) (d : Downtime) → waits_for object clock d ≡ true → (d.object ≡ object) × (d.fate ≡ Pending) × (d.plan.times.fixed ≡ false)
waits_as object clock d h =
    let before = and_parts (eqb d.object object && is_pending d.fate && not d.plan.times.fixed && eqb d.plan.times.trigger_id 0 && leb d.plan.times.start_time clock) (ltb clock d.plan.times.end_time) h in
    let from = and_parts (eqb d.object object && is_pending d.fate && not d.plan.times.fixed && eqb d.plan.times.trigger_id 0) (leb d.plan.times.start_time clock) before.0 in
    let alone = and_parts (eqb d.object object && is_pending d.fate && not d.plan.times.fixed) (eqb d.plan.times.trigger_id 0) from.0 in
    let flexible = and_parts (eqb d.object object && is_pending d.fate) (not d.plan.times.fixed) alone.0 in
    let of = and_parts (eqb d.object object) (is_pending d.fate) flexible.0 in
    (eqb-true d.object object of.0, pending_is d.fate of.1, not-true d.plan.times.fixed flexible.1)

-- ---- new records

pub length-new_records : (n clock : ℕ) (objects : List ℕ) (plan : Plan) → length (new_records n clock objects plan) ≡ length objects
unfolding new_records
length-new_records n clock [] plan = refl
length-new_records n clock (x ∷ objects) plan = ap suc (length-new_records (n + 1) clock objects plan)

new_known : (m n clock : ℕ) (objects : List ℕ) (plan : Plan) → AllByRecursion (λ o. o < m) objects → AllByRecursion (λ (d : Downtime). d.object < m) (new_records n clock objects plan)
unfolding new_records
new_known m n clock [] plan a = tt
new_known m n clock (x ∷ objects) plan a = (a.0, new_known m (n + 1) clock objects plan a.1)

pub new_records_known : (m n clock : ℕ) (objects : List ℕ) (plan : Plan) → All (λ o. o < m) objects → All (λ d. d.object < m) (new_records n clock objects plan)
new_records_known m n clock objects plan a =
    All-from_recursion (λ (d : Downtime). d.object < m) (new_records n clock objects plan) (new_known m n clock objects plan (recursion_from_All (λ (o : ℕ). o < m) objects a))

-- ---- the services of a host

below_by : (m n : ℕ) (ks : List ℕ) (b : Bool) → n < m → AllByRecursion (λ k. k < m) ks → AllByRecursion (λ k. k < m) (cond b (n ∷ ks) ks)
below_by m n ks true h a = (h, a)
below_by m n ks false h a = a

numbers_below : {X : Type 0} (test : X → Bool) (n m : ℕ) (xs : List X) → n + length xs ≤ m → AllByRecursion (λ k. k < m) (indices_from test n xs)
numbers_below test n m [] h = tt
numbers_below test n m (x ∷ xs) h = below_by m n (indices_from test (n + 1) xs) (test x) (omega arith) (numbers_below test (n + 1) m xs (omega arith))

few_by : (n m : ℕ) (ks : List ℕ) (b : Bool) → length ks ≤ m → length (cond b (n ∷ ks) ks) ≤ m + 1
few_by n m ks true h = omega arith
few_by n m ks false h = omega arith

few_numbers : {X : Type 0} (test : X → Bool) (n : ℕ) (xs : List X) → length (indices_from test n xs) ≤ length xs
few_numbers test n [] = omega arith
few_numbers test n (x ∷ xs) = let e = few_by n (length xs) (indices_from test (n + 1) xs) (test x) (few_numbers test (n + 1) xs) in omega (arith, e)

pub length-services_of : (os : List ObjectSpec) (host : ℕ) → length (services_of os host) ≤ length os
unfolding services_of
length-services_of os host = few_numbers (is_service_of host) 0 os

pub services_within : (os : List ObjectSpec) (host : ℕ) → All (λ k. k < length os) (services_of os host)
unfolding services_of
services_within os host = All-from_recursion (λ (k : ℕ). k < length os) (indices_from (is_service_of host) 0 os) (numbers_below (is_service_of host) 0 (length os) os (omega arith))
