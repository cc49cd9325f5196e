use Rattle.std.proofs.Common.{◌≡◌, ◌+◌, ◌-◌, List, take, drop, arith, sym, ◌∙◌, ap, subst}
use Rattle.std.specs.List.Sorted.{IsPermutation}
use Rattle.std.proofs.lemmas.List.{with_items_is, length-drop, length-take-le}
use borrow.Rule.Slice.PartMut.{put_mid}
use Rattle.mon_downtime.specs.declared.event.Event.{Event}
use Rattle.mon_downtime.proofs.RetireLemmas.{IsPart, is_part}
use Rattle.mon_downtime.proofs.queue.sort_by_ids.Goals as goal

pub returns-clause-behind : goal.returns-clause-behind
returns-clause-behind c =
    let ws = c.deref_mut.result.now in
    let first = c.args.first in
    let k = first + c.args.count - first in
    let same : k ≡ c.args.count = omega arith in
    let rest = length-drop first ws in
    let mid = length-take-le k (drop first ws) (omega (arith, c.deref_mut.ensures.len, c.requires.within)) in
    let p = is_part ws c.sort_unstable_by_key.new.self first k (omega (arith, c.deref_mut.ensures.len, c.requires.within)) (omega (arith, c.sort_unstable_by_key.ensures.len, mid)) in
    ap (λ (xs : List Event). drop (first + c.args.count) xs) (with_items_is c.args.list.now (put_mid first k ws c.sort_unstable_by_key.new.self) (omega (arith, p.long, c.deref_mut.ensures.len)))
    ∙ (subst (λ n. IsPart ws (put_mid first k ws c.sort_unstable_by_key.new.self) first n c.sort_unstable_by_key.new.self) same p).behind
    ∙ ap (λ (xs : List Event). drop (first + c.args.count) xs) c.deref_mut.ensures.value

pub returns-clause-moved : goal.returns-clause-moved
returns-clause-moved c =
    let ws = c.deref_mut.result.now in
    let first = c.args.first in
    let k = first + c.args.count - first in
    let same : k ≡ c.args.count = omega arith in
    let rest = length-drop first ws in
    let mid = length-take-le k (drop first ws) (omega (arith, c.deref_mut.ensures.len, c.requires.within)) in
    let p = is_part ws c.sort_unstable_by_key.new.self first k (omega (arith, c.deref_mut.ensures.len, c.requires.within)) (omega (arith, c.sort_unstable_by_key.ensures.len, mid)) in
    let there = ap (λ (xs : List Event). take c.args.count (drop first xs)) (with_items_is c.args.list.now (put_mid first k ws c.sort_unstable_by_key.new.self) (omega (arith, p.long, c.deref_mut.ensures.len)))
    ∙ (subst (λ n. IsPart ws (put_mid first k ws c.sort_unstable_by_key.new.self) first n c.sort_unstable_by_key.new.self) same p).there in
    subst (λ (xs : List Event). IsPermutation (take c.args.count (drop first c.args.list.now.items)) xs) (sym there)
    (subst (λ (xs : List Event). IsPermutation (take c.args.count (drop first xs)) c.sort_unstable_by_key.new.self) c.deref_mut.ensures.value
    (subst (λ n. IsPermutation (take n (drop first ws)) c.sort_unstable_by_key.new.self) same c.sort_unstable_by_key.ensures.permutation))
