-- The loop over the flexible downtimes that start.
use Rattle.std.proofs.Common.{◌≡◌, ℕ, ◌<◌, Bool, true, false, cond, eqb, List, [], ◌∷◌, ◌++◌, Option, Some, None, All, length, drop, get_or, ◌+◌, ◌≤◌, append_assoc, refl, ap, sym, ◌∙◌, subst}
use Rattle.std.specs.List.{flat_map}
use Rattle.std.specs.Option.{option_map}
use Rattle.std.specs.Prelude.{option_to_list}
use Rattle.std.proofs.lemmas.List.{append-nil, drop_all, at_drop_more}
use Rattle.mon_downtime.specs.declared.downtime.Downtime.{Downtime}
use Rattle.mon_downtime.specs.declared.downtime.Fate.{Fate}
use Rattle.mon_downtime.specs.Records.{IsNumbered, AreNumbered, IsRecord, AreRecords, with_fate}
use Rattle.mon_downtime.specs.Problem.{start_found, started_by, waiting, after_problem, all_waiting, all_started, StartsFirst, OneStartsAfterAnother}
use Rattle.mon_inventory.specs.Configuration.{Configuration}
use Rattle.mon_engine.specs.declared.notice.Notice.{Notice}
use Rattle.mon_engine.specs.declared.notice.Word.TheVariants.{DowntimeStart}
use Rattle.mon_engine.specs.World.{World}
use Rattle.mon_engine.specs.Notices.{told, downtime_notice}
use Rattle.mon_engine.specs.Results.{started_all}
use Rattle.mon_engine.specs.Downtimes.{cancel_notice, told_cancelled}
use Rattle.mon_engine.proofs.DowntimeLemmas.{after_problem_known}
use Rattle.mon_engine.specs.Sound.{IsTellable, IsTimely}

-- w is a world on the way from start to the one in which all have started
pub record IsStart (inv : Configuration) (start w : World) (object clock : ℕ) : Type 0 where
  pub run : started_all inv w object ≡ started_all inv start object
  pub clock_is : w.clock ≡ clock
  pub timely : IsTimely inv w

pub start_first : (inv : Configuration) (w : World) (object clock : ℕ) → clock ≡ w.clock → IsTimely inv w → IsStart inv w w object clock
start_first inv w object clock same h = record { run = refl; clock_is = sym same; timely = h }

pub start_timely : (inv : Configuration) (start w0 w : World) (object clock : ℕ) (ds : List Downtime) → IsStart inv start w object clock → w0 ≡ w → IsTellable inv (record w0 { downtimes = ds })
start_timely inv start w0 w object clock ds i v =
    let here : IsTimely inv w0 = subst (IsTimely inv) (sym v) i.timely in
    record { objects = here.tellable.objects; contacts = here.tellable.contacts }

-- records of which one has another fate are numbered: so they were before
numbered_from : (n : ℕ) (ds : List Downtime) (id : ℕ) (f : Downtime → Fate) → AreRecords n (with_fate ds id f) → AreNumbered n ds
numbered_from n [] id f r = tt
numbered_from n (d ∷ ds) id f r = (one (eqb d.id id) r.0, numbered_from (n + 1) ds id f r.1)
  where
    one : (b : Bool) → IsRecord n (cond b (record d { fate = f d }) d) → IsNumbered n d
    one true h = record { id_next = h.numbered.id_next; trigger_earlier = h.numbered.trigger_earlier }
    one false h = h.numbered

numbered_before : (ds after : List Downtime) (object clock : ℕ) (d : Downtime) → waiting ds object clock ≡ Some d → after ≡ after_problem ds object clock → AreRecords 0 after → AreNumbered 0 ds
unfolding after_problem
numbered_before ds after object clock d e is r = numbered_from 0 ds d.id (started_by clock) (subst (AreRecords 0) (is ∙ ap (start_found ds clock) e) r)

-- one that waits starts, and is told of
start_turn : (inv : Configuration) (w : World) (object : ℕ) (ds : List Downtime) (d : Downtime) → AreNumbered 0 w.downtimes → StartsFirst w.downtimes object w.clock (Some d) → ds ≡ after_problem w.downtimes object w.clock
    → started_all inv (told (record w { downtimes = ds }) (downtime_notice inv (record w { downtimes = ds }) DowntimeStart w.clock object)) object ≡ started_all inv w object
unfolding started_all downtime_notice
start_turn inv w object ds d n first is =
    let notice = option_to_list (downtime_notice inv w DowntimeStart w.clock object) in
    let started : all_started ds object w.clock ≡ all_started w.downtimes object w.clock = ap (λ (xs : List Downtime). all_started xs object w.clock) is ∙ sym (first n).1 in
    let rest : all_waiting w.downtimes object w.clock ≡ d ∷ all_waiting ds object w.clock = (first n).0 ∙ ap (λ (xs : List Downtime). d ∷ all_waiting xs object w.clock) (sym is) in
    let notices : (w.notices ++ notice) ++ flat_map (λ (x : Downtime). notice) (all_waiting ds object w.clock) ≡ w.notices ++ flat_map (λ (x : Downtime). notice) (all_waiting w.downtimes object w.clock) =
    append_assoc w.notices notice (flat_map (λ (x : Downtime). notice) (all_waiting ds object w.clock)) ∙ ap (λ (xs : List Downtime). w.notices ++ flat_map (λ (x : Downtime). notice) xs) (sym rest) in
    ap (λ (xs : List Downtime). record w { downtimes = xs; notices = (w.notices ++ notice) ++ flat_map (λ (x : Downtime). notice) (all_waiting ds object w.clock) }) started
    ∙ ap (λ (ns : List Notice). record w { downtimes = all_started w.downtimes object w.clock; notices = ns }) notices

started_one : (k : OneStartsAfterAnother) (inv : Configuration) (start w0 w w' : World) (object id : ℕ) (ds : List Downtime) → IsStart inv start w object w0.clock → w0 ≡ w → AreRecords 0 ds
    → Some id ≡ option_map (λ d. d.id) (waiting w0.downtimes object w0.clock) → ds ≡ after_problem w0.downtimes object w0.clock
    → w' ≡ told (record w0 { downtimes = ds }) (downtime_notice inv (record w0 { downtimes = ds }) DowntimeStart w0.clock object) → IsStart inv start w' object w0.clock
started_one k inv start w0 w w' object id ds i v r e is n = by_waiting (waiting w0.downtimes object w0.clock) refl (k w0.downtimes object w0.clock) e
  where
    here : IsTimely inv w0
    here = subst (IsTimely inv) (sym v) i.timely

    by_waiting : (o : Option Downtime) → waiting w0.downtimes object w0.clock ≡ o → StartsFirst w0.downtimes object w0.clock o → Some id ≡ option_map (λ d. d.id) o → IsStart inv start w' object w0.clock
    by_waiting None f first e = absurd (cc)
    by_waiting (Some d) f first e =
        let turn = start_turn inv w0 object ds d (numbered_before w0.downtimes ds object w0.clock d f is r) first is in
        let on : IsStart inv start (told (record w0 { downtimes = ds }) (downtime_notice inv (record w0 { downtimes = ds }) DowntimeStart w0.clock object)) object w0.clock = record {
          run = turn ∙ ap (λ (x : World). started_all inv x object) v ∙ i.run;
          clock_is = refl;
          timely = record {
            tellable = record { objects = here.tellable.objects; contacts = here.tellable.contacts };
            known = subst (λ (xs : List Downtime). All (λ (x : Downtime). x.object < length inv.objects) xs) (sym is) (after_problem_known (length inv.objects) w0.downtimes object w0.clock here.known);
          };
        } in
        subst (λ (x : World). IsStart inv start x object w0.clock) (sym n) on

-- w0 is the world by its fields, w the same as the loop has it
pub start_on : (k : OneStartsAfterAnother) (inv : Configuration) (start w0 w w' : World) (object clock id : ℕ) (ds : List Downtime) → IsStart inv start w object clock → w0 ≡ w
    → Some id ≡ option_map (λ d. d.id) (waiting w0.downtimes object clock) → ds ≡ after_problem w0.downtimes object clock → AreRecords 0 ds
    → w' ≡ told (record w0 { downtimes = ds }) (downtime_notice inv (record w0 { downtimes = ds }) DowntimeStart clock object) → IsStart inv start w' object clock
start_on k inv start w0 w w' object clock id ds i v e is r n =
    let same : w0.clock ≡ clock = ap (λ (x : World). x.clock) v ∙ i.clock_is in
    subst (λ (k : ℕ). IsStart inv start w object k → Some id ≡ option_map (λ d. d.id) (waiting w0.downtimes object k) → ds ≡ after_problem w0.downtimes object k
    → w' ≡ told (record w0 { downtimes = ds }) (downtime_notice inv (record w0 { downtimes = ds }) DowntimeStart k object) → IsStart inv start w' object k) same
    (λ i e is n. started_one k inv start w0 w w' object id ds i v r e is n) i e is n

-- where none waits all are as they were
none_started : (inv : Configuration) (w : World) (object : ℕ) → StartsFirst w.downtimes object w.clock None → started_all inv w object ≡ w
unfolding started_all
none_started inv w object first =
    let notice = option_to_list (downtime_notice inv w DowntimeStart w.clock object) in
    ap (λ (xs : List Downtime). record w { downtimes = xs; notices = w.notices ++ flat_map (λ (x : Downtime). notice) (all_waiting w.downtimes object w.clock) }) first.1
    ∙ ap (λ (xs : List Downtime). record w { notices = w.notices ++ flat_map (λ (x : Downtime). notice) xs }) first.0
    ∙ ap (λ (ns : List Notice). record w { notices = ns }) (append-nil w.notices)

pub start_last : (k : OneStartsAfterAnother) (inv : Configuration) (start w0 w w' : World) (object clock : ℕ) → IsStart inv start w object clock → w0 ≡ w
    → None ≡ option_map (λ d. d.id) (waiting w0.downtimes object clock) → w' ≡ w0 → w' ≡ started_all inv start object
start_last k inv start w0 w w' object clock i v e s =
    let same : w0.clock ≡ clock = ap (λ (x : World). x.clock) v ∙ i.clock_is in
    by_waiting (waiting w0.downtimes object w0.clock) (k w0.downtimes object w0.clock) (subst (λ (k : ℕ). None ≡ option_map (λ d. d.id) (waiting w0.downtimes object k)) (sym same) e)
  where
    by_waiting : (o : Option Downtime) → StartsFirst w0.downtimes object w0.clock o → None ≡ option_map (λ d. d.id) o → w' ≡ started_all inv start object
    by_waiting None first e = s ∙ sym (none_started inv w0 object first) ∙ ap (λ (x : World). started_all inv x object) v ∙ i.run
    by_waiting (Some d) first e = absurd (cc)

-- ---- the downtimes that a command cancels

-- w is a world on the way from start to the one in which all of these are told of
pub record IsToldUpTo (inv : Configuration) (start w : World) (ids : List ℕ) (i : ℕ) : Type 0 where
  pub rest : told_cancelled inv w (drop i ids) ≡ told_cancelled inv start ids
  pub timely : IsTimely inv w

-- those that were active are told of, one after another
told_turn : (inv : Configuration) (w : World) (id : ℕ) (ids : List ℕ) → told_cancelled inv (told w (cancel_notice inv w id)) ids ≡ told_cancelled inv w (id ∷ ids)
unfolding told_cancelled downtime_notice
told_turn inv w id ids =
    ap (λ (ns : List Notice). record w { notices = ns }) (append_assoc w.notices (option_to_list (cancel_notice inv w id)) (flat_map (λ (x : ℕ). option_to_list (cancel_notice inv w x)) ids))

told_timely : (inv : Configuration) (w : World) (n : Option Notice) → IsTimely inv w → IsTimely inv (told w n)
told_timely inv w n h = record { tellable = record { objects = h.tellable.objects; contacts = h.tellable.contacts }; known = h.known }

pub told_on : (inv : Configuration) (start w w' : World) (ids : List ℕ) (i d : ℕ) → i < length ids → IsTimely inv w → w' ≡ told w (cancel_notice inv w (get_or ids i d)) → told_cancelled inv w (drop i ids) ≡ told_cancelled inv start ids → IsToldUpTo inv start w' ids (i + 1)
told_on inv start w w' ids i d h timely is e = record {
  rest = ap (λ (x : World). told_cancelled inv x (drop (i + 1) ids)) is ∙ told_turn inv w (get_or ids i d) (drop (i + 1) ids) ∙ sym (at_drop_more (told_cancelled inv w) ids i d h) ∙ e;
  timely = subst (IsTimely inv) (sym is) (told_timely inv w _ timely);
}

pub told_last : (inv : Configuration) (w w' : World) (ids : List ℕ) (i : ℕ) → length ids ≤ i → told_cancelled inv w (drop i ids) ≡ w' → w ≡ w'
unfolding told_cancelled
told_last inv w w' ids i h e =
    sym (ap (λ (ns : List Notice). record w { notices = ns }) (ap (λ (xs : List ℕ). w.notices ++ flat_map (λ (x : ℕ). option_to_list (cancel_notice inv w x)) xs) (drop_all i ids h) ∙ append-nil w.notices)) ∙ e
