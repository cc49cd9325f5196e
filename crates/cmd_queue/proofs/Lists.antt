-- Lists of messages and of what they carry.
use Rattle.std.proofs.Common.{◌≡◌, ◌≢◌, ◌==◌, ◌||◌, ◌⊎◌, ℕ, zero, suc, ◌+◌, Bool, true, false, true≢false, List, [], ◌∷◌, ◌++◌, length, set, sym, refl, ap, subst, ◌∙◌, inl, inr, ⊎_elim, eq-eqb, ne_eqb, cond, append-nil, append_assoc, arith, Option, None, Some}
use Rattle.std.specs.List.{filter}
use Rattle.std.proofs.lemmas.List.Elements.{filter-append, filter_map-append}
use Rattle.std.proofs.lemmas.List.{map-append}
use Rattle.cmd_types.specs.declared.entry.Entry.{Entry}
use Rattle.std.proofs.lemmas.Grind.{flat_map-append}
use mathlib.Core.Option.{some, some-injective, some-ne-none}
use native.Mathlib.Decide.{ℕ_discrete}
use lib.ListN.{get_elem?}
use Rattle.cmd_types.specs.Entries.{entries_after}
use Rattle.cmd_types.specs.Spelling.{Timed}
use Rattle.cmd_queue.specs.declared.taken.Taken.{Taken}
use Rattle.cmd_queue.specs.declared.taken.Taken.TheVariants.{Command, Closed}
use Rattle.cmd_queue.specs.declared.message.Message.{Message}
use Rattle.cmd_queue.specs.declared.message.Message.TheVariants.{One, Many, Mark}
use Rattle.cmd_queue.specs.Lists.{sender_of, of_sender, all_sent, entry_in, entries, has_mark, IsInOrderAfter, IsPlaced}
use Rattle.cmd_queue.specs.Plans.{Plan, planned_of, ComeFirst, stamped_of, commands_in, commands_of}
use Rattle.cmd_queue.specs.Messages.{message_sender, messages_of, carried, all_carried, IsPlanned}

module _ {A : Type 0} where
  -- an element of a list with one more stands in the list, or at its end
  pub at_more : (l : List A) (a b : A) (j : ℕ) → get_elem? (l ++ a ∷ []) j ≡ some b → (get_elem? l j ≡ some b) ⊎ ((j ≡ length l) × (a ≡ b))
  at_more [] a b zero e = inr (refl, some-injective a b e)
  at_more [] a b (suc j) e = absurd (some-ne-none b (sym e))
  at_more (x ∷ xs) a b zero e = inl e
  at_more (x ∷ xs) a b (suc j) e = ⊎_elim (λ t. inl t) (λ t. inr (ap suc t.0, t.1)) (at_more xs a b j e)

  pub at_last : (l : List A) (a : A) → get_elem? (l ++ a ∷ []) (length l) ≡ some a
  at_last [] a = refl
  at_last (x ∷ xs) a = at_last xs a

  -- an element of a list in which one was set is that one, or stands elsewhere in the list
  pub at_set : (l : List A) (i j : ℕ) (a b : A) → get_elem? (set l i a) j ≡ some b → ((j ≡ i) × (a ≡ b)) ⊎ ((j ≢ i) × (get_elem? l j ≡ some b))
  at_set [] i j a b e = absurd (some-ne-none b (sym e))
  at_set (x ∷ xs) zero zero a b e = inl (refl, some-injective a b e)
  at_set (x ∷ xs) zero (suc j) a b e = inr ((λ h. omega arith), e)
  at_set (x ∷ xs) (suc i) zero a b e = inr ((λ h. omega arith), e)
  at_set (x ∷ xs) (suc i) (suc j) a b e = ⊎_elim (λ t. inl (ap suc t.0, t.1)) (λ t. let n = t.0 in inr ((λ h. n (omega arith)), t.1)) (at_set xs i j a b e)

  pub append_cons_ne : (xs ys : List A) (x : A) → xs ++ x ∷ ys ≡ [] → ⊥
  append_cons_ne [] ys x e = cc
  append_cons_ne (z ∷ zs) ys x e = cc

  -- a filter at the first element
  filter_first : (p : A → Bool) (x : A) (xs : List A) → p x ≡ true → filter p (x ∷ xs) ≡ x ∷ filter p xs
  filter_first p x xs e = ap (λ b. cond b (x ∷ filter p xs) (filter p xs)) e

  filter_rest : (p : A → Bool) (x : A) (xs : List A) → p x ≡ false → filter p (x ∷ xs) ≡ filter p xs
  filter_rest p x xs e = ap (λ b. cond b (x ∷ filter p xs) (filter p xs)) e

-- ---- of one sender

pub messages_of-append : (s : ℕ) (xs ys : List Message) → messages_of s (xs ++ ys) ≡ messages_of s xs ++ messages_of s ys
messages_of-append s xs ys = filter-append (λ m. message_sender m == s) xs ys

pub messages_of_own : (s : ℕ) (x : Message) (ys : List Message) → message_sender x ≡ s → messages_of s (x ∷ ys) ≡ x ∷ messages_of s ys
messages_of_own s x ys e = filter_first (λ m. message_sender m == s) x ys (eq-eqb (message_sender x) s e)

pub messages_of_other : (s : ℕ) (x : Message) (ys : List Message) → message_sender x ≢ s → messages_of s (x ∷ ys) ≡ messages_of s ys
messages_of_other s x ys e = filter_rest (λ m. message_sender m == s) x ys (ne_eqb (message_sender x) s e)

pub of_sender-append : (s : ℕ) (xs ys : List Taken) → of_sender s (xs ++ ys) ≡ of_sender s xs ++ of_sender s ys
of_sender-append s xs ys = filter-append (λ x. sender_of x == s) xs ys

pub of_sender_own : (s : ℕ) (x : Taken) (ys : List Taken) → sender_of x ≡ s → of_sender s (x ∷ ys) ≡ x ∷ of_sender s ys
of_sender_own s x ys e = filter_first (λ y. sender_of y == s) x ys (eq-eqb (sender_of x) s e)

pub of_sender_other : (s : ℕ) (x : Taken) (ys : List Taken) → sender_of x ≢ s → of_sender s (x ∷ ys) ≡ of_sender s ys
of_sender_other s x ys e = filter_rest (λ y. sender_of y == s) x ys (ne_eqb (sender_of x) s e)

-- ---- what messages carry

pub all_carried-append : (xs ys : List Message) → all_carried (xs ++ ys) ≡ all_carried xs ++ all_carried ys
all_carried-append xs ys = flat_map-append carried xs ys

pub all_carried_more : (xs : List Message) (x : Message) → all_carried (xs ++ x ∷ []) ≡ all_carried xs ++ carried x
all_carried_more xs x = all_carried-append xs (x ∷ []) ∙ ap (λ l. all_carried xs ++ l) (append-nil (carried x))

pub row_own : (s t n : ℕ) (cs : List Timed) → t ≡ s → of_sender s (all_sent (entries_after t n cs)) ≡ all_sent (entries_after t n cs)
row_own s t n [] is = refl
row_own s t n (c ∷ cs) is =
    let x : Taken = Command (record { sender = t; place = n + 1; stamped = c }) in
    of_sender_own s x (all_sent (entries_after t (n + 1) cs)) is ∙ ap (λ l. x ∷ l) (row_own s t (n + 1) cs is)

pub row_other : (s t n : ℕ) (cs : List Timed) → t ≢ s → of_sender s (all_sent (entries_after t n cs)) ≡ []
row_other s t n [] is = refl
row_other s t n (c ∷ cs) is = of_sender_other s (Command (record { sender = t; place = n + 1; stamped = c })) (all_sent (entries_after t (n + 1) cs)) is ∙ row_other s t (n + 1) cs is

carried_own : (s : ℕ) (m : Message) → message_sender m ≡ s → of_sender s (carried m) ≡ carried m
carried_own s (One entry) is = of_sender_own s (Command entry) [] is
carried_own s (Many row) is = row_own s row.sender row.before row.commands is
carried_own s (Mark t n) is = of_sender_own s (Closed t n) [] is

carried_other : (s : ℕ) (m : Message) → message_sender m ≢ s → of_sender s (carried m) ≡ []
carried_other s (One entry) is = of_sender_other s (Command entry) [] is
carried_other s (Many row) is = row_other s row.sender row.before row.commands is
carried_other s (Mark t n) is = of_sender_other s (Closed t n) [] is

-- what is of a sender is what its messages carry
pub of_sender-all_carried : (s : ℕ) (ms : List Message) → of_sender s (all_carried ms) ≡ all_carried (messages_of s ms)
of_sender-all_carried s [] = refl
of_sender-all_carried s (m ∷ ms) = of_sender-append s (carried m) (all_carried ms) ∙ elim (ℕ_discrete (message_sender m) s) [
  | yes e ↦ (λ i. carried_own s m e i ++ of_sender-all_carried s ms i) ∙ sym (ap all_carried (messages_of_own s m ms e))
  | no ne ↦ (λ i. carried_other s m ne i ++ of_sender-all_carried s ms i) ∙ sym (ap all_carried (messages_of_other s m ms ne))
]

-- ---- in order

-- the beginning of a list in order is in order
pub in_order_start : (n s : ℕ) (xs ys : List Taken) → IsInOrderAfter n s (xs ++ ys) → IsInOrderAfter n s xs
in_order_start n s [] ys h = tt
in_order_start n s (Command e ∷ xs) ys h = (h.0, h.1, in_order_start (n + 1) s xs ys h.2)
in_order_start n s (Closed t c ∷ []) ys h = (h.0, h.1, refl)
in_order_start n s (Closed t c ∷ z ∷ zs) ys h = absurd (append_cons_ne [] (zs ++ ys) z h.2)

placed_first : (n k s : ℕ) (ys : List Taken) (x : Taken) → k ≡ n → IsInOrderAfter n s (x ∷ ys) → IsPlaced k x
placed_first n k s ys (Command e) is h = h.1 ∙ ap (λ i. i + 1) (sym is)
placed_first n k s ys (Closed t c) is h = h.1 ∙ sym is

-- before an element of a list in order there is no mark, and as many entries as it says
pub placed_behind : (n k s : ℕ) (xs ys : List Taken) (x : Taken) → k ≡ n + length xs → IsInOrderAfter n s (xs ++ x ∷ ys) → (has_mark xs ≡ false) × IsPlaced k x
placed_behind n k s [] ys x is h = (refl, placed_first n k s ys x (omega arith) h)
placed_behind n k s (Command e ∷ xs) ys x is h = placed_behind (n + 1) k s xs ys x (omega arith) h.2
placed_behind n k s (Closed t c ∷ xs) ys x is h = absurd (append_cons_ne xs ys x h.2)

-- what is next may join a list in order that has no mark
pub in_order_more : (n k s : ℕ) (xs ys : List Taken) → k ≡ n + length xs → IsInOrderAfter n s xs → has_mark xs ≡ false → IsInOrderAfter k s ys → IsInOrderAfter n s (xs ++ ys)
in_order_more n k s [] ys is h open_yet next = subst (λ i. IsInOrderAfter i s ys) (is ∙ omega arith) next
in_order_more n k s (Command e ∷ xs) ys is h open_yet next = (h.0, h.1, in_order_more (n + 1) k s xs ys (omega arith) h.2 open_yet next)
in_order_more n k s (Closed t c ∷ xs) ys is h open_yet next = absurd (true≢false open_yet)

-- commands in a row are in order
pub row_in_order : (n s : ℕ) (cs : List Timed) → IsInOrderAfter n s (all_sent (entries_after s n cs))
row_in_order n s [] = tt
row_in_order n s (c ∷ cs) = (refl, refl, row_in_order (n + 1) s cs)

pub row_unmarked : (n s : ℕ) (cs : List Timed) → has_mark (all_sent (entries_after s n cs)) ≡ false
row_unmarked n s [] = refl
row_unmarked n s (c ∷ cs) = row_unmarked (n + 1) s cs

pub length-row : (n s : ℕ) (cs : List Timed) → length (all_sent (entries_after s n cs)) ≡ length cs
length-row n s [] = refl
length-row n s (c ∷ cs) = ap suc (length-row (n + 1) s cs)

-- nothing stands behind a mark
pub nothing_behind : (n s : ℕ) (xs ys : List Taken) → IsInOrderAfter n s (xs ++ ys) → has_mark xs ≡ true → ys ≡ []
nothing_behind n s [] ys h marked = absurd (true≢false (sym marked))
nothing_behind n s (Command e ∷ xs) ys h marked = nothing_behind (n + 1) s xs ys h.2 marked
nothing_behind n s (Closed t c ∷ []) ys h marked = h.2
nothing_behind n s (Closed t c ∷ z ∷ zs) ys h marked = absurd (append_cons_ne [] (zs ++ ys) z h.2)

-- ---- marks and entries

pub has_mark-append : (xs ys : List Taken) → has_mark (xs ++ ys) ≡ has_mark xs || has_mark ys
has_mark-append [] ys = refl
has_mark-append (Command e ∷ xs) ys = has_mark-append xs ys
has_mark-append (Closed s n ∷ xs) ys = refl

pub entries-append : (xs ys : List Taken) → entries (xs ++ ys) ≡ entries xs ++ entries ys
entries-append xs ys = filter_map-append entry_in xs ys

-- without a mark there are entries alone
pub length-entries : (xs : List Taken) → has_mark xs ≡ false → length (entries xs) ≡ length xs
length-entries [] open_yet = refl
length-entries (Command e ∷ xs) open_yet = ap suc (length-entries xs open_yet)
length-entries (Closed s n ∷ xs) open_yet = absurd (true≢false open_yet)

-- ---- of a plan

pub commands_in-append : (xs ys : List Taken) → commands_in (xs ++ ys) ≡ commands_in xs ++ commands_in ys
commands_in-append xs ys = ap stamped_of (entries-append xs ys) ∙ map-append (λ (e : Entry). e.stamped) (entries xs) (entries ys)

-- a beginning of what is begun with is begun with too
pub begun_start : (planned : Option (List Timed)) (cs ds : List Timed) → ComeFirst planned (cs ++ ds) → ComeFirst planned cs
begun_start None cs ds begun = tt
begun_start (Some all) cs ds begun = (ds ++ begun.0, begun.1 ∙ append_assoc cs ds begun.0)

begun_nothing : (planned : Option (List Timed)) → ComeFirst planned []
begun_nothing None = tt
begun_nothing (Some all) = (all, refl)

-- the beginning of a planned list is planned
pub planned_start : (plan : Plan) (s : ℕ) (xs ys : List Message) → IsPlanned plan s (xs ++ ys) → IsPlanned plan s xs
planned_start plan s xs ys planned =
    begun_start (planned_of plan s) (commands_in (all_carried xs)) (commands_in (all_carried ys)) (subst (ComeFirst (planned_of plan s)) (ap commands_in (all_carried-append xs ys) ∙ commands_in-append (all_carried xs) (all_carried ys)) planned)

pub planned_nothing : (plan : Plan) (s : ℕ) → IsPlanned plan s []
planned_nothing plan s = begun_nothing (planned_of plan s)

-- one message more is planned where its commands come next
pub planned_more : (plan : Plan) (s : ℕ) (put : List Message) (m : Message) → ComeFirst (planned_of plan s) (commands_in (all_carried put) ++ commands_in (carried m)) → IsPlanned plan s (put ++ m ∷ [])
planned_more plan s put m next =
    subst (ComeFirst (planned_of plan s)) (sym (ap commands_in (all_carried_more put m) ∙ commands_in-append (all_carried put) (carried m))) next

-- a mark carries no command
pub planned_mark : (plan : Plan) (s : ℕ) (put : List Message) (t n : ℕ) → IsPlanned plan s put → IsPlanned plan s (put ++ Mark t n ∷ [])
planned_mark plan s put t n planned = planned_more plan s put (Mark t n) (subst (ComeFirst (planned_of plan s)) (sym (append-nil (commands_in (all_carried put)))) planned)

pub row_commands : (n s : ℕ) (cs : List Timed) → commands_in (all_sent (entries_after s n cs)) ≡ cs
row_commands n s [] = refl
row_commands n s (c ∷ cs) = ap (λ l. c ∷ l) (row_commands (n + 1) s cs)

-- the commands of a sender among the entries are those of what is its own
pub commands_of-entries : (s : ℕ) (list : List Taken) → commands_of s (entries list) ≡ commands_in (of_sender s list)
commands_of-entries s [] = refl
commands_of-entries s (Closed t n ∷ list) = elim (ℕ_discrete t s) [
  | yes e ↦ commands_of-entries s list ∙ sym (ap commands_in (of_sender_own s (Closed t n) list e))
  | no ne ↦ commands_of-entries s list ∙ sym (ap commands_in (of_sender_other s (Closed t n) list ne))
]
commands_of-entries s (Command x ∷ list) = elim (ℕ_discrete x.sender s) [
  | yes e ↦ ap stamped_of (filter_first (λ (y : Entry). y.sender == s) x (entries list) (eq-eqb x.sender s e)) ∙ ap (λ l. x.stamped ∷ l) (commands_of-entries s list) ∙ sym (ap commands_in (of_sender_own s (Command x) list e))
  | no ne ↦ ap stamped_of (filter_rest (λ (y : Entry). y.sender == s) x (entries list) (ne_eqb x.sender s ne)) ∙ commands_of-entries s list ∙ sym (ap commands_in (of_sender_other s (Command x) list ne))
]
