use Rattle.std.proofs.Common.{◌≡◌, suc, ◌+◌, ℕ, List, not, take, filter, get_or, sym, ap, ◌∙◌, arith}
use Rattle.std.proofs.Math.Seq.{take-suc}
use Rattle.std.proofs.lemmas.List.{take_all}
use Rattle.mon_notes.specs.declared.comment.Comment.{Comment}
use Rattle.mon_notes.specs.Listed.{goes}
use Rattle.mon_notes.proofs.IdLemmas.{ascending_kept}
use Rattle.mon_notes.proofs.DropLemmas.{one_goes, each_goes, one_more, no_ids}
use Rattle.mon_notes.proofs.notes.drop_each.Goals as goal

pub loop-id-init : goal.loop-id-init
loop-id-init c = sym (no_ids (goes c.args.group) c.args.row.now)

pub drop_one-requires : goal.drop_one-requires
drop_one-requires c = rw c.loop-id.invariant (ascending_kept 0 (λ (x : Comment). not (each_goes (take c.loop-id.id-index c.args.ids.now) (goes c.args.group) x)) c.args.row.now c.requires)

pub loop-id-preserved : goal.loop-id-preserved
loop-id-preserved c =
    let p = goes c.args.group in
    let ids = c.args.ids.now in
    let i = c.loop-id.id-index in
    let id = get_or ids i 0 in
    let next : suc i ≡ i + 1 = omega arith in
    c.drop_one.ensures
    ∙ ap (filter (λ (x : Comment). not (one_goes id p x))) c.loop-id.invariant
    ∙ one_more (take i ids) id p c.args.row.now
    ∙ ap (λ (those : List ℕ). filter (λ (x : Comment). not (each_goes those p x)) c.args.row.now) (sym (take-suc ids i 0 c.loop-id-test.true) ∙ ap (λ n. take n ids) next)

pub returns : goal.returns
returns c =
    let all : take c.loop-id.id-index c.args.ids.now ≡ c.args.ids.now = take_all c.loop-id.id-index c.args.ids.now (omega (arith, c.loop-id-test.false)) in
    c.loop-id.invariant ∙ ap (λ (those : List ℕ). filter (λ (x : Comment). not (each_goes those (goes c.args.group) x)) c.args.row.now) all
