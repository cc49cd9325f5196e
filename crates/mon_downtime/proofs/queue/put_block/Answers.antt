use Rattle.std.proofs.Common.{◌≡◌, ◌++◌, ◌∷◌, [], List, ◌+◌, ◌-◌, length, take, drop, arith, sym, ◌∙◌, ap, refl}
use Rattle.std.proofs.lemmas.List.{append-nil, append_assoc, take_rest, length-take-le, length-drop, length-append, with_items_is}
use borrow.Rule.Slice.PartMut.{put_mid}
use Rattle.mon_downtime.specs.declared.event.Event.{Event}
use Rattle.mon_downtime.specs.Queue.{block}
use Rattle.mon_downtime.proofs.BlockLemmas.{block-more, length-block, end_turned}
use Rattle.mon_downtime.proofs.queue.put_block.Goals as goal

pub loop-i-init : goal.loop-i-init
unfolding block
loop-i-init c = record { items = sym (append-nil c.args.list.now.items); long = omega arith; room = refl }

pub loop-i-preserved : goal.loop-i-preserved
loop-i-preserved c =
    let w = c.loop-i.invariant in
    let i = c.loop-i.i in
    let first = c.args.first in
    let next = record first { id = first.id + i } ∷ [] in
    record {
      items = c.push_reserved.ensures.items
          ∙ ap (λ (e : Event). c.loop-i.list.items ++ e ∷ []) c.under_id.ensures
          ∙ ap (λ (xs : List Event). xs ++ next) w.items
          ∙ append_assoc c.args.list.now.items (block first i) next
          ∙ ap (λ (xs : List Event). c.args.list.now.items ++ xs) (sym (block-more first i));
      long = omega (arith, c.push_reserved.ensures.len, w.long);
      room = c.push_reserved.ensures.capacity ∙ w.room;
    }

pub rotate_right-requires : goal.rotate_right-requires
rotate_right-requires c =
    let ws = c.deref_mut.result.now in
    let rest = take_rest ws c.args.at in
    rw rest (omega (arith, length-drop c.args.at ws, c.deref_mut.ensures.len, c.loop-i.invariant.long, c.loop-i-test.false, c.requires.within))

pub returns-clause-items : goal.returns-clause-items
returns-clause-items c =
    let xs = c.args.list.now.items in
    let at = c.args.at in
    let ws = c.deref_mut.result.now in
    let done : c.loop-i.i ≡ c.args.count = omega (arith, c.loop-i-test.false, c.loop-i.auto.i-end) in
    let all = c.deref_mut.ensures.value ∙ c.loop-i.invariant.items ∙ ap (λ n. xs ++ block c.args.first n) done in
    let count = length-block c.args.first c.args.count in
    let is = end_turned at c.args.count xs (block c.args.first c.args.count) ws c.rotate_right.new.self all (omega (arith, c.requires.within)) (sym count) c.rotate_right.ensures.after in
    let long = length-append (take at xs) (block c.args.first c.args.count ++ drop at xs) in
    let back = length-append (block c.args.first c.args.count) (drop at xs) in
    with_items_is c.loop-i.list (put_mid at (length ws - at) ws c.rotate_right.new.self) (rw is (omega (arith, long, back, count, length-take-le at xs (omega (arith, c.requires.within)), length-drop at xs, c.loop-i.invariant.long, done, c.requires.within))) ∙ is
