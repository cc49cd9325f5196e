use Rattle.std.proofs.Common.{◌≡◌, ℕ, ◌+◌, ◌<◌, ◌^◌, ltb, set, length, get_or, List, sym, ap, ◌∙◌, subst, arith, rules}
use Rattle.std.proofs.lemmas.Bool.{lt-ltb}
use Rattle.std.proofs.lemmas.List.{get_or_default}
use Rattle.mon_downtime.specs.Depths.{every_object}
use Rattle.cmd_types.specs.Counts.{one}
use Rattle.mon_downtime.proofs.AddLemmas.{added_depths, added_active}
use Rattle.mon_downtime.proofs.BusyLemmas.{one_in_downtime, few_in_downtime}
use Rattle.mon_downtime.proofs.DepthLemmas.{depth_within}
use Rattle.mon_downtime.proofs.depths.Depths.add.Goals as goal

-- what is read of a table within its bounds
read : (xs : List ℕ) (n o v : ℕ) → n < length xs → o ≡ n → v ≡ get_or xs o v → v ≡ get_or xs n 0
read xs n o v within same is = is ∙ ap (λ k. get_or xs k v) same ∙ get_or_default xs n v 0 within

pub returns-then-not-is_active : goal.returns-then-not-is_active
returns-then-not-is_active c = added_depths c.args.records.now c.args.added.now c.args.self.now c.requires.depths c.requires.counted (sym c.is_active.ensures ∙ c.if-not-is_active.true)

pub overflow_add-before : goal.overflow_add-before
overflow_add-before c =
    let at = read c.args.self.now.each.items c.args.added.now.object c.object_of-object.result c.index-before.result.now c.requires.counted c.object_of-object.ensures.object c.index-before.ensures in
    let exact = c.requires.depths.exact c.args.added.now.object in
    let few = depth_within c.args.records.now c.args.added.now.object in
    let short : length c.args.records.now < 2 ^ 63 = search rules in
    omega (arith, at, exact, few, short)

pub recounted-self-requires-clause-counted : goal.recounted-self-requires-clause-counted
recounted-self-requires-clause-counted c =
    let at = read c.args.self.now.each.items c.args.added.now.object c.object_of-object.result c.index-before.result.now c.requires.counted c.object_of-object.ensures.object c.index-before.ensures in
    let small = subst (λ o. o < every_object) c.object_of-object.ensures.object c.object_of-object.ensures.small in
    let counted = one_in_downtime c.args.records.now c.args.added.now.object every_object small in
    let busy = c.requires.depths.busy in
    let was = ap (λ n. one (ltb 0 n)) (at ∙ c.requires.depths.exact c.args.added.now.object) in
    omega (arith, counted, busy, was)

pub recounted-self-requires-clause-room : goal.recounted-self-requires-clause-room
recounted-self-requires-clause-room c =
    let few = few_in_downtime c.args.records.now every_object in
    let busy = c.requires.depths.busy in
    omega (arith, few, busy)

pub returns : goal.returns
returns c =
    let a = c.args.self.now in
    let r = c.args.added.now in
    let v = c.index-before.result.now in
    let same = c.object_of-object.ensures.object in
    let at = read a.each.items r.object c.object_of-object.result v c.requires.counted same c.index-before.ensures in
    let small = subst (λ o. o < every_object) same c.object_of-object.ensures.small in
    let was = ap (λ n. one (ltb 0 n)) at in
    let busy = c.recounted-self.ensures in
    let some : one (ltb 0 (v + 1)) ≡ 1 = positive v in
    added_active c.args.records.now r a _ (v + 1) c.requires.depths c.requires.counted small (sym c.is_active.ensures ∙ c.if-not-is_active.false)
    (ap (λ o. set a.each.items o (v + 1)) same)
    (omega (arith, at))
    (omega (arith, was, busy, some))
  where
    positive : (n : ℕ) → one (ltb 0 (n + 1)) ≡ 1
    positive n = ap one (lt-ltb 0 (n + 1) (omega arith))
