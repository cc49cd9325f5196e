use Rattle.std.proofs.Common.{◌≡◌, ℕ, List, [], ap, sym, ◌∙◌}
use Rattle.std.proofs.lemmas.Bool.{eqb-true}
use Rattle.std.proofs.lemmas.List.{nil_from_length}
use Rattle.mon_notify.specs.Ends.{still_owed}
use Rattle.mon_carry.specs.Carried.{contacts_moved}
use Rattle.mon_carry.proofs.OwedLemmas.{none_still}
use Rattle.mon_carry.proofs.owed.owed_still.Goals as goal
use Rattle.mon_carry.proofs.owed.owed_still.Goals.{then-is_empty, else-is_empty+in_ok-moved+in_ok-contacts}

pub returns : goal.returns
returns c =
    let old = c.args.old.now in
    let new = c.args.new.now in
    let known : List ℕ = c.args.known.now.contacts in
    let is : c.if-is_empty.contacts.items ≡ still_owed new c.args.object (contacts_moved old.contacts new.contacts known) = elim c.if-is_empty.branch [
      | then-is_empty w ↦
          (let empty : known ≡ [] = sym c.as_slice-contacts.ensures ∙ nil_from_length c.as_slice-contacts.result.now (eqb-true _ _ (sym c.is_empty.ensures ∙ w.if-is_empty.true)) in
          ap (λ v. v.items) w.contacts-is ∙ w.new-contacts.ensures.items ∙ none_still old new c.args.object known empty)
      | else-is_empty+in_ok-moved+in_ok-contacts w ↦
          ap (λ v. v.items) w.contacts-is ∙ w.in_ok-contacts.ensures.owed
          ∙ ap (still_owed new c.args.object) (w.deref.ensures.value ∙ w.in_ok-moved.ensures ∙ ap (contacts_moved old.contacts new.contacts) c.as_slice-contacts.ensures)
    ] in
    ap (λ (contacts : List ℕ). record c.args.known.now { contacts = contacts }) (c.new.ensures ∙ is)
