use Rattle.std.proofs.Common.{List, ℕ, [], ◌∷◌, length, get_or, ap, ◌∙◌, arith}
use Rattle.std.proofs.lemmas.List.{length-append}
use Rattle.mon_notes.proofs.ListedLemmas.{padded}
use Rattle.mon_notes.proofs.ids.Ids.make_list.Goals as goal

pub loop-init : goal.loop-init
loop-init c = record { same = λ o. ap (λ (lists : List (List ℕ)). get_or lists o []) c.self.view_is; many = omega (arith, c.len-counter.ensures, c.self.inside.lists.ok.0) }

pub returns-in_err-push-clause-same : goal.returns-in_err-push-clause-same
returns-in_err-push-clause-same c = λ o. rw c.in_err-push.ensures.items (c.loop.invariant.same o)

pub loop-preserved : goal.loop-preserved
loop-preserved c = record {
  same = λ o. ap (λ (lists : List (List ℕ)). get_or lists o []) c.in_ok-push.ensures.items ∙ rw c.new.ensures (padded c.loop.self-inside.lists.items o ∙ c.loop.invariant.same o);
  many = omega (arith, ap length c.in_ok-push.ensures.items, length-append c.loop.self-inside.lists.items (c.new.result ∷ []), c.loop.invariant.many);
}

pub returns-clause-same : goal.returns-clause-same
returns-clause-same c = c.loop.invariant.same

pub returns-clause-ok : goal.returns-clause-ok
returns-clause-ok c = omega (arith, c.loop.invariant.many, c.loop-test.false)
