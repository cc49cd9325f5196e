-- The figures: at first none is counted, and the counts that are kept are those of the figures.
use Rattle.std.proofs.Common.{◌≡◌, ℕ, ◌<◌, ◌≤◌, Bool, false, eqb, List, [], length, map, refl, ap, sym, ◌∙◌, subst, arith}
use Rattle.std.specs.Prelude.{count_by, All, nat_lt, ◌&&◌}
use Rattle.std.specs.List.{range_with_len}
use Rattle.std.proofs.lemmas.Bool.{ne_eqb}
use Rattle.std.proofs.lemmas.List.Sums.{count_by-le-length}
use Rattle.std.proofs.lemmas.List.FromFn.{length-range_with_len}
use Rattle.std.proofs.lemmas.List.Elements.{All-weaker, All-map}
use Rattle.mon_downtime.specs.declared.downtime.Downtime.{Downtime}
use Rattle.mon_downtime.specs.Records.{depth_of, is_active}
use Rattle.mon_downtime.specs.Depths.{is_in_downtime, objects_in_downtime, every_object}
use Rattle.mon_inventory.specs.declared.limits.TheConstants.{MOST_OBJECTS}
use Rattle.mon_inventory.specs.declared.records.ObjectSpec.{ObjectSpec}
use Rattle.mon_engine.specs.declared.object.Object.{Object}
use Rattle.mon_engine.specs.Objects.{initial_object}
use Rattle.mon_engine.specs.World.{World, initial}
use Rattle.mon_engine.specs.Figures.{figures, is_problem, has_acknowledgement, AreCounted, NothingIsCountedAtFirst}
use Rattle.mon_engine.proofs.CountLemmas.{count_none, range_beyond}

-- ---- the objects in a downtime

few_in_downtime : (ds : List Downtime) (n : ℕ) → objects_in_downtime ds n ≤ n
unfolding objects_in_downtime
few_in_downtime ds n =
    let few = count_by-le-length (is_in_downtime ds) (range_with_len 0 n) in
    let long = length-range_with_len 0 n in
    omega (arith, few, long)

no_depth : (ds : List Downtime) (n k : ℕ) → n ≤ k → All (λ d. d.object < n) ds → depth_of ds k ≡ 0
no_depth ds n k l a = count_none (λ (d : Downtime). eqb d.object k && is_active d.fate) ds
    (All-weaker (λ (d : Downtime). d.object < n) (λ (d : Downtime). (eqb d.object k && is_active d.fate) ≡ false) (λ d below. ap (λ (b : Bool). b && is_active d.fate) (ne_eqb d.object k (λ e. omega (arith, e, l, below)))) ds a)

-- objects past the last that has a downtime do not count
in_downtime_beyond : (ds : List Downtime) (n t : ℕ) → All (λ d. d.object < n) ds → n ≤ t → objects_in_downtime ds t ≡ objects_in_downtime ds n
unfolding objects_in_downtime
in_downtime_beyond ds n t a l = range_beyond (is_in_downtime ds) 0 n t (λ k m. ap (λ x. nat_lt 0 x) (no_depth ds n k (omega (arith, m)) a)) l

-- ---- the figures

-- w0 is the world by its fields: its count of the objects in a downtime is small
pub busy_few : (w0 w : World) (busy : ℕ) → w0 ≡ w → length w.objects ≤ MOST_OBJECTS → All (λ d. d.object < length w.objects) w.downtimes → busy ≡ objects_in_downtime w0.downtimes every_object → busy ≤ MOST_OBJECTS
busy_few w0 w busy same few known is =
    let all : busy ≡ objects_in_downtime w.downtimes every_object = is ∙ ap (λ (v : World). objects_in_downtime v.downtimes every_object) same in
    let those = in_downtime_beyond w.downtimes (length w.objects) every_object known (omega arith) in
    let most = few_in_downtime w.downtimes (length w.objects) in
    omega (arith, all, those, most, few)

-- the counts that are kept are those of the figures
pub figures_read : (w0 w : World) (problems acknowledged busy : ℕ) → w0 ≡ w → problems ≡ count_by is_problem w0.objects → acknowledged ≡ count_by has_acknowledgement w0.objects → busy ≡ objects_in_downtime w0.downtimes every_object
    → length w.objects ≤ MOST_OBJECTS → All (λ d. d.object < length w.objects) w.downtimes → record { entries = w0.entries; problems = problems; acknowledged = acknowledged; in_downtime = busy } ≡ figures w
unfolding figures
figures_read w0 w problems acknowledged busy same p a d few known =
    let all : busy ≡ objects_in_downtime w0.downtimes (length w0.objects) =
    subst (λ (v : World). busy ≡ objects_in_downtime v.downtimes (length v.objects)) (sym same) (d ∙ ap (λ (v : World). objects_in_downtime v.downtimes every_object) same ∙ in_downtime_beyond w.downtimes (length w.objects) every_object known (omega arith)) in
    rw (p, a, all) (ap figures same)

-- ---- at first

none_at_first : (p : Object → Bool) (specs : List ObjectSpec) → All (λ s. p (initial_object s) ≡ false) specs → count_by p (map initial_object specs) ≡ 0
none_at_first p specs h = count_none p (map initial_object specs) (All-map (λ (o : Object). p o ≡ false) initial_object specs h)

idle : (n : ℕ) → objects_in_downtime [] n ≡ 0
unfolding objects_in_downtime
idle n = count_none (is_in_downtime []) (range_with_len 0 n) (λ k d lt. refl)

pub first_counted : (specs : List ObjectSpec) → AreCounted (map initial_object specs) 0 0
first_counted specs = record {
  in_problem = sym (none_at_first is_problem specs (λ k d lt. refl));
  acked = sym (none_at_first has_acknowledgement specs (λ k d lt. refl));
}

pub nothing_counted : NothingIsCountedAtFirst
unfolding figures initial
nothing_counted inv =
    let counted = first_counted inv.objects in
    let problems : count_by is_problem (map initial_object inv.objects) ≡ 0 = sym counted.in_problem in
    let acknowledged : count_by has_acknowledgement (map initial_object inv.objects) ≡ 0 = sym counted.acked in
    let in_downtime : objects_in_downtime [] (length (map initial_object inv.objects)) ≡ 0 = idle (length (map initial_object inv.objects)) in
    λ i. record { entries = 0; problems = problems i; acknowledged = acknowledged i; in_downtime = in_downtime i }
