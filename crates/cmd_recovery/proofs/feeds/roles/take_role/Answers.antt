use Rattle.std.proofs.Common.{◌<◌, ℕ, List, ◌∷◌, length, sym, subst, IsPermutation}
use Rattle.std.proofs.lemmas.List.Sorted.{IsPermutation-remove}
use Rattle.cmd_recovery.specs.Assigns.{Ascend}
use Rattle.cmd_recovery.proofs.OrderLemmas.{ascend_without}
use Rattle.cmd_recovery.proofs.feeds.roles.take_role.Goals as goal

pub returns-in-Some-clause-ascend : goal.returns-in-Some-clause-ascend
returns-in-Some-clause-ascend c = λ at. subst Ascend (sym c.remove.ensures.items) (ascend_without c.args.free.now.items c.in-Some.at at)

pub returns-in-Some-clause-shared : goal.returns-in-Some-clause-shared
returns-in-Some-clause-shared c =
    let low : c.in-Some.at < length c.args.free.now.items = subst (λ (l : List ℕ). c.in-Some.at < length l) c.deref.ensures.value c.in-Some.ensures.0 in
    subst (λ (l : List ℕ). IsPermutation c.args.free.now.items (c.remove.result ∷ l)) (sym c.remove.ensures.items) (IsPermutation-remove c.args.free.now.items c.in-Some.at c.remove.result low c.remove.ensures.value)
