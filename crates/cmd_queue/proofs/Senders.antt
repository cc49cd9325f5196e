-- What a sender's calls do to its pass.
use Rattle.std.proofs.Common.{◌≡◌, ◌||◌, ℕ, ◌+◌, true, false, List, [], ◌∷◌, ◌++◌, length, refl, sym, ap, ◌∙◌, subst, arith, length-append, append-nil}
use Rattle.cmd_types.specs.Spelling.{Timed}
use Rattle.cmd_queue.specs.declared.taken.Taken.TheVariants.{Closed}
use Rattle.cmd_queue.specs.declared.message.Message.{Message}
use Rattle.cmd_queue.specs.declared.message.Message.TheVariants.{Mark}
use Rattle.cmd_queue.specs.declared.rule.View.{View}
use Rattle.cmd_queue.specs.Lists.{entries, has_mark, IsInOrder, IsInOrderAfter}
use Rattle.cmd_queue.specs.Plans.{planned_of, ComeFirst, commands_in}
use Rattle.cmd_queue.specs.Rows.{Row, row_taken}
use Rattle.cmd_queue.specs.Messages.{message_sender, carried, all_carried}
use Rattle.cmd_queue.specs.Views.{Put}
use Rattle.crossbeam_channel.specs.Claims.{Pass, view}
use Rattle.cmd_queue.specs.Sides.{with_mark}
use Rattle.cmd_queue.specs.Ends.{IsSenderView, IsClosedView, queue_of, sent_by, ended_by}
use Rattle.cmd_queue.proofs.Lists.{all_carried_more, in_order_more, has_mark-append, entries-append, length-entries, row_in_order, row_unmarked, row_commands, length-row, planned_more, planned_mark}
use Rattle.cmd_queue.proofs.Steps.{MaySend}

-- a message that carries what is next of the sender keeps its list in order
pub next_in_order : (v : View) (sender count : ℕ) (m : Message) → IsSenderView v sender count → IsInOrderAfter count sender (carried m) → IsInOrder v.from (all_carried (v.put ++ m ∷ []))
next_in_order v sender count m is next =
    subst (λ l. IsInOrder v.from l) (sym (all_carried_more v.put m))
    (subst (λ s. IsInOrder s (all_carried v.put ++ carried m)) is.1 (in_order_more 0 count sender (all_carried v.put) (carried m) (is.2 ∙ omega arith) is.3 is.4 next))

-- what is next of the sender, also in the plan, may be sent
pub may_send : (v : View) (sender count : ℕ) (m : Message) → IsSenderView v sender count → message_sender m ≡ sender → IsInOrderAfter count sender (carried m) → ComeFirst (planned_of v.plan v.from) (commands_in (all_carried v.put) ++ commands_in (carried m)) → MaySend v m
may_send v sender count m is own next planned = record { sends = is.0; own = own ∙ is.1; told = next_in_order v sender count m is next; planned = λ _. planned_more v.plan v.from v.put m planned }

-- and so may its mark, which has no command
pub may_send_mark : (v : View) (sender count : ℕ) → IsSenderView v sender count → MaySend v (Mark sender count)
may_send_mark v sender count is = record { sends = is.0; own = is.1; told = next_in_order v sender count (Mark sender count) is (refl, refl, refl); planned = planned_mark v.plan v.from v.put sender count }

-- commands in a row behind those that were sent
module _ (sender count : ℕ) (commands : List Timed) (row : Row) (is : row ≡ record { sender = sender; before = count; commands = commands }) where
  pub row_next : IsInOrderAfter count sender (row_taken row)
  row_next = subst (λ r. IsInOrderAfter count sender (row_taken r)) (sym is) (row_in_order count sender commands)

  pub row_open : has_mark (row_taken row) ≡ false
  row_open = ap (λ r. has_mark (row_taken r)) is ∙ row_unmarked count sender commands

  pub row_carries : commands_in (row_taken row) ≡ commands
  row_carries = ap (λ r. commands_in (row_taken r)) is ∙ row_commands count sender commands

  pub row_length : length (row_taken row) ≡ length commands
  row_length = ap (λ r. length (row_taken r)) is ∙ length-row count sender commands

module _ (v w : View) (sender count : ℕ) (is : IsSenderView v sender count) where
  -- after a message of commands
  pub sent_commands : (n : ℕ) (m : Message) → IsInOrderAfter count sender (carried m) → has_mark (carried m) ≡ false → n ≡ count + length (carried m) → Put v m w → IsSenderView w sender n
  sent_commands n m next open_yet all put =
      let l : all_carried (v.put ++ m ∷ []) ≡ all_carried v.put ++ carried m = all_carried_more v.put m in
      subst (λ u. IsSenderView u sender n) (sym put) (
        refl,
        is.1,
        all ∙ (let c = is.2 in omega (arith, ap length l, length-append (all_carried v.put) (carried m))),
        subst (λ s. IsInOrder s (all_carried (v.put ++ m ∷ []))) (sym is.1) (next_in_order v sender count m is next),
        ap has_mark l ∙ has_mark-append (all_carried v.put) (carried m) ∙ (λ i. is.4 i || open_yet i),
      )

  -- after the close mark
  pub sent_mark : Put v (Mark sender count) w → IsClosedView w sender count true
  sent_mark put =
      let m : Message = Mark sender count in
      let l : all_carried (v.put ++ m ∷ []) ≡ all_carried v.put ++ Closed sender count ∷ [] = all_carried_more v.put m in
      subst (λ u. IsClosedView u sender count true) (sym put) (
        refl,
        is.1,
        is.2 ∙ sym (length-entries (all_carried v.put) is.4) ∙ ap length (sym (ap entries l ∙ entries-append (all_carried v.put) (Closed sender count ∷ []) ∙ append-nil (entries (all_carried v.put)))),
        subst (λ s. IsInOrder s (all_carried (v.put ++ m ∷ []))) (sym is.1) (next_in_order v sender count m is (refl, refl, refl)),
        ap has_mark l ∙ has_mark-append (all_carried v.put) (Closed sender count ∷ []) ∙ ap (λ b. b || true) is.4,
      )

-- without a mark
pub not_marked : (v : View) (sender count : ℕ) → IsSenderView v sender count → IsClosedView v sender count false
not_marked v sender count is = (is.0, is.1, is.2 ∙ sym (length-entries (all_carried v.put) is.4), is.3, is.4)

-- what contracts see after the close mark
pub closed_after : (p q : Pass Message View) (sender count : ℕ) → IsSenderView (view p) sender count → queue_of q ≡ queue_of p → Put (view p) (Mark sender count) (view q) → ended_by q true ≡ with_mark (sent_by p)
closed_after p q sender count is same put =
    let sent : List Message = (view p).put in
    let list : all_carried (view q).put ≡ all_carried sent ++ Closed (view p).from (length (all_carried sent)) ∷ [] =
    ap (λ (u : View). all_carried u.put) put ∙ all_carried_more sent (Mark sender count) ∙ (λ i. all_carried sent ++ Closed (is.1 i) (is.2 i) ∷ []) in
    λ i. record { queue = same i; sender = (put i).from; list = list i; marked = true }
