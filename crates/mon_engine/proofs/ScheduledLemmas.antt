-- What schedules and cancels downtimes leads from a world that holds together to another.
use Rattle.std.proofs.Common.{◌≡◌, ℕ, ◌+◌, ◌<◌, List, [], ◌∷◌, ◌++◌, length, Option, Ok, map, length-append, refl, arith}
use Rattle.std.proofs.lemmas.List.{length-map}
use Rattle.std.proofs.lemmas.List.Elements.{All-push, All-append}
use Rattle.mon_downtime.specs.declared.downtime.Downtime.{Downtime}
use Rattle.mon_downtime.specs.declared.plan.Plan.{Plan}
use Rattle.mon_downtime.specs.Schedule.{Fault, new_record, new_records}
use Rattle.mon_downtime.specs.Cancel.{cancelled, cancelled_record, active_dependants}
use Rattle.mon_inventory.specs.Configuration.{Configuration}
use Rattle.mon_inventory.specs.Facts.{IsInventory}
use Rattle.mon_inventory.specs.Lookups.{services_of}
use Rattle.mon_engine.specs.declared.object.Kind.{Kind}
use Rattle.mon_engine.specs.declared.notice.Word.TheVariants.{DowntimeCancelled}
use Rattle.mon_engine.specs.World.{World}
use Rattle.mon_engine.specs.Downtimes.{with_records, told_cancelled, after_cancel, after_del_downtime}
use Rattle.mon_engine.specs.Sound.{IsNoticeOf, IsWorldAt, IsWorld, Follows, ever, raised}
use Rattle.mon_engine.proofs.DowntimeLemmas.{length-new_records, new_records_known, length-services_of, services_within, cancelled_known}
use Rattle.mon_engine.proofs.ActLemmas.{schedule_cases, del_downtime_cases}
use Rattle.mon_engine.proofs.ListLemmas.{All-each}
use Rattle.mon_engine.proofs.NoticeLemmas.{downtime_notice_as, cancel_notice_as, sound_as}
use Rattle.mon_engine.proofs.PartLemmas.{next_world, AreDowntimesAt, with_downtimes, with_more_notices, Reaches}

pub scheduled_follows : (inv : Configuration) (w w' : World) (new : List Downtime) (fault : Option Fault) → IsWorld inv w → AreDowntimesAt inv (ever w + 1) (w.downtimes ++ new) → with_records w new fault ≡ Ok w' → Follows inv w w'
scheduled_follows inv w w' new fault h fine e = schedule_cases (Follows inv w) w w' new fault e (λ sound. record { world = with_downtimes inv (ever w + 1) (raised w + 1) w _ (next_world inv w h) fine; entries = refl; before = refl })

pub one_record : (inv : Configuration) (w : World) (object : ℕ) (plan : Plan) → IsWorld inv w → object < length inv.objects → AreDowntimesAt inv (ever w + 1) (w.downtimes ++ new_record (length w.downtimes) w.clock object plan ∷ [])
one_record inv w object plan h within =
    let few = h.downtimes in
    record {
      few = omega (arith, length-append w.downtimes (new_record (length w.downtimes) w.clock object plan ∷ []));
      known = All-push (λ (d : Downtime). d.object < length inv.objects) w.downtimes _ h.known within;
    }

pub service_records : (inv : Configuration) (w : World) (host : ℕ) (plan : Plan) → IsInventory inv → IsWorld inv w → AreDowntimesAt inv (ever w + 1) (w.downtimes ++ new_records (length w.downtimes) w.clock (services_of inv.objects host) plan)
service_records inv w host plan sound h =
    let few = h.downtimes in
    let many = length-services_of inv.objects host in
    let least = sound.few_objects in
    let new = new_records (length w.downtimes) w.clock (services_of inv.objects host) plan in
    record {
      few = omega (arith, length-append w.downtimes new, length-new_records (length w.downtimes) w.clock (services_of inv.objects host) plan);
      known = All-append (λ (d : Downtime). d.object < length inv.objects) w.downtimes new h.known (new_records_known (length inv.objects) (length w.downtimes) w.clock (services_of inv.objects host) plan (services_within inv.objects host));
    }

cancelled_world : (inv : Configuration) (n m : ℕ) (w : World) (id : ℕ) → IsWorldAt inv n m w → Reaches inv n m w (after_cancel inv w id)
unfolding after_cancel cancelled told_cancelled
cancelled_world inv n m w id h =
    let few = h.downtimes in
    let same : length (map (cancelled_record w.downtimes id) w.downtimes) ≡ length w.downtimes = length-map w.downtimes (cancelled_record w.downtimes id) in
    record {
      world = with_more_notices inv n m (record w { downtimes = map (cancelled_record w.downtimes id) w.downtimes }) _
          (with_downtimes inv n m w _ h (record { few = omega arith; known = cancelled_known (length inv.objects) w.downtimes id h.known }))
          (All-each (IsNoticeOf inv) _ (λ x. cancel_notice_as (IsNoticeOf inv) inv _ x (λ object. sound_as _ (downtime_notice_as inv _ DowntimeCancelled _ object))) (active_dependants w.downtimes id));
      entries = refl;
      before = refl;
    }

pub cancelled_follows : (inv : Configuration) (w w' : World) (kind : Kind) (id : ℕ) → IsWorld inv w → after_del_downtime inv w kind id ≡ Ok w' → Follows inv w w'
cancelled_follows inv w w' kind id h e = del_downtime_cases (Follows inv w) inv w w' kind id e
    (λ there. (let done = cancelled_world inv (ever w + 1) (raised w + 1) w id (next_world inv w h) in record { world = done.world; entries = done.entries; before = done.before }))
