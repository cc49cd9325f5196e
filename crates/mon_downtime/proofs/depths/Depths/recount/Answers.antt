use Rattle.std.proofs.Common.{◌≡◌, ℕ, ◌-◌, ◌<◌, ◌≤◌, ◌^◌, List, arith, sym, ◌∙◌, ap, subst, length, get_or, ltb, set, rules, Bool, true, false}
use Rattle.mon_downtime.specs.declared.depths.Depths.{Depths}
use Rattle.mon_downtime.specs.declared.downtime.Downtime.{Downtime}
use Rattle.std.proofs.lemmas.List.{get_or_default}
use Rattle.mon_downtime.specs.Records.{depth_of}
use Rattle.cmd_types.specs.Counts.{one}
use Rattle.mon_downtime.specs.Depths.{every_object, AreDepths}
use Rattle.mon_downtime.proofs.RecordLemmas.{numbered, record_there}
use Rattle.mon_downtime.proofs.BusyLemmas.{one_in_downtime, few_in_downtime}
use Rattle.mon_downtime.proofs.DepthLemmas.{depths_changed, counted_one, depth_room}
use Rattle.mon_downtime.proofs.depths.Depths.recount.Goals as goal

within : (ds : List Downtime) (a : Depths) (id : ℕ) (d : Downtime) → AreDepths ds a → (1 ≤ id) × (id ≤ length ds) → d ≡ get_or ds (id - 1) d → d.object < length a.each.items
within ds a id d w there is = subst (λ (v : Downtime). v.object < length a.each.items) (sym is) (w.all (id - 1) d (omega (arith, there.0, there.1)))

-- the depth that is read
depth_read : (ds : List Downtime) (a : Depths) (d : Downtime) (o v : ℕ) → AreDepths ds a → d.object < length a.each.items → o ≡ d.object → v ≡ get_or a.each.items o v → v ≡ depth_of ds d.object
depth_read ds a d o v w l same is = is ∙ ap (λ n. get_or a.each.items n v) same ∙ get_or_default a.each.items d.object v 0 l ∙ w.exact d.object

pub recounted-after-requires-clause-counted : goal.recounted-after-requires-clause-counted
recounted-after-requires-clause-counted c =
    let ds = c.args.records.now in
    let d = c.index-records-id.result in
    let l = within ds c.args.self.now c.args.id d c.requires.depths c.requires.there c.index-records-id.is in
    let read = depth_read ds c.args.self.now d c.object_of-object.result c.index-before.result.now c.requires.depths l c.object_of-object.ensures.object c.index-before.ensures in
    let counted = counted_one ds c.args.id d (record_there ds c.args.id d c.requires.records c.requires.there c.index-records-id.is) in
    let was = ap one c.is_active.ensures in
    omega (arith, read, counted, was)

pub recounted-after-requires-clause-room : goal.recounted-after-requires-clause-room
recounted-after-requires-clause-room c =
    let ds = c.args.records.now in
    let d = c.index-records-id.result in
    let l = within ds c.args.self.now c.args.id d c.requires.depths c.requires.there c.index-records-id.is in
    let read = depth_read ds c.args.self.now d c.object_of-object.result c.index-before.result.now c.requires.depths l c.object_of-object.ensures.object c.index-before.ensures in
    let room = depth_room ds c.args.id c.args.fate d (numbered 0 ds c.requires.records) (record_there ds c.args.id d c.requires.records c.requires.there c.index-records-id.is) in
    let few : length ds < 2 ^ 63 = search rules in
    let was = ap one c.is_active.ensures in
    let is = ap one c.is_active-2.ensures in
    omega (arith, read, room, few, was, is)

pub recounted-self-requires-clause-counted : goal.recounted-self-requires-clause-counted
recounted-self-requires-clause-counted c =
    let ds = c.args.records.now in
    let d = c.index-records-id.result in
    let l = within ds c.args.self.now c.args.id d c.requires.depths c.requires.there c.index-records-id.is in
    let read = depth_read ds c.args.self.now d c.object_of-object.result c.index-before.result.now c.requires.depths l c.object_of-object.ensures.object c.index-before.ensures in
    let small = subst (λ o. o < every_object) c.object_of-object.ensures.object c.object_of-object.ensures.small in
    let counted = one_in_downtime ds d.object every_object small in
    let busy = c.requires.depths.busy in
    let was = ap (λ n. one (ltb 0 n)) read in
    omega (arith, counted, busy, was)

pub recounted-self-requires-clause-room : goal.recounted-self-requires-clause-room
recounted-self-requires-clause-room c =
    let few = few_in_downtime c.args.records.now every_object in
    let busy = c.requires.depths.busy in
    let most = one_most (ltb 0 c.recounted-after.result) in
    omega (arith, few, busy, most)
  where
    one_most : (b : Bool) → one b ≤ 1
    one_most true = omega arith
    one_most false = omega arith

pub returns : goal.returns
returns c =
    let ds = c.args.records.now in
    let a = c.args.self.now in
    let d = c.index-records-id.result in
    let same = c.object_of-object.ensures.object in
    let l = within ds a c.args.id d c.requires.depths c.requires.there c.index-records-id.is in
    let read = depth_read ds a d c.object_of-object.result c.index-before.result.now c.requires.depths l same c.index-before.ensures in
    let at : get_or a.each.items d.object 0 ≡ c.index-before.result.now = c.requires.depths.exact d.object ∙ sym read in
    let small = subst (λ o. o < every_object) same c.object_of-object.ensures.small in
    let was = ap one c.is_active.ensures in
    let is = ap one c.is_active-2.ensures in
    let here = ap (λ n. one (ltb 0 n)) at in
    let depth = c.recounted-after.ensures in
    let busy = c.recounted-self.ensures in
    depths_changed ds a _ c.args.id c.args.fate d c.recounted-after.result (numbered 0 ds c.requires.records) c.requires.depths (record_there ds c.args.id d c.requires.records c.requires.there c.index-records-id.is) l small
    (ap (λ o. set a.each.items o c.recounted-after.result) same)
    (omega (arith, at, depth, was, is))
    (omega (arith, here, busy))
