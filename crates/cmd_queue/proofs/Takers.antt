-- What the dispatcher's calls do to its pass.
use Rattle.std.proofs.Common.{◌≡◌, ◌≢◌, ◌<◌, ◌≤◌, ◌↔◌, ◌||◌, ℕ, ◌+◌, ◌-◌, Bool, true, false, List, [], ◌∷◌, ◌++◌, length, take, set, replicate, slice_index_or, EachIndex, refl, sym, ap, ◌∙◌, subst, arith, length-append, length-set, append-nil, append_assoc, lt_of_not-le, get_or-set_same, get_or-set_other}
use Rattle.std.proofs.Math.Bool.{or-false, or-true}
use Rattle.std.proofs.Math.Seq.{take-append_seam}
use Rattle.std.proofs.lemmas.List.{length-replicate, get_or-replicate}
use native.Mathlib.Decide.{dec_le, ℕ_discrete}
use Rattle.cmd_types.specs.declared.entry.Entry.{Entry}
use Rattle.cmd_queue.specs.declared.taken.Taken.{Taken}
use Rattle.cmd_queue.specs.declared.taken.Taken.TheVariants.{Command, Closed}
use Rattle.cmd_queue.specs.declared.message.Message.{Message}
use Rattle.cmd_queue.specs.declared.rule.View.{View}
use Rattle.cmd_queue.specs.declared.rule.SenderMessages.{SenderMessages}
use Rattle.cmd_queue.specs.declared.tally.Tally.{Tally}
use Rattle.cmd_queue.specs.Lists.{sender_of, of_sender, all_sent, entries, has_mark, is_closed, IsInOrder, IsPlaced, IsNext, AreNext}
use Rattle.cmd_queue.specs.Plans.{Plan, planned_of, ComeFirst, commands_in, AreOfPlan}
use Rattle.cmd_queue.specs.Messages.{message_sender, messages_of, carried, all_carried, Follows, IsBegun}
use Rattle.cmd_types.specs.Entries.{entries_after}
use Rattle.cmd_types.specs.Spelling.{Timed}
use Rattle.cmd_queue.specs.Rows.{Row, row_taken}
use Rattle.cmd_queue.specs.Views.{Took, AreSettled, keeping, taker_view}
use Rattle.cmd_queue.specs.Sides.{IsSettled}
use Rattle.crossbeam_channel.specs.Claims.{Pass, view}
use Rattle.cmd_queue.specs.Ends.{answered, taken_by, ended_by, Counts, AreTallies, AreOrdered, ArePlanned, IsReceived, IsTakerView, IsAnswer, IsAnswerOf}
use Rattle.cmd_queue.proofs.Lists.{at_last, append_cons_ne, messages_of-append, messages_of_other, of_sender-append, of_sender_own, of_sender_other, of_sender-all_carried, all_carried-append, all_carried_more, placed_behind, nothing_behind, row_own, row_other, row_unmarked, length-row, has_mark-append, entries-append, length-entries, begun_start, planned_nothing, commands_in-append, commands_of-entries}

-- ---- what is answered

-- without what is kept there stands what was answered
answered_front : (xs ys zs : List Taken) → xs ≡ ys ++ zs → answered xs (length zs) ≡ ys
answered_front xs ys zs is =
    let n : length xs - length zs ≡ length ys = omega (arith, ap length is, length-append ys zs) in
    ap (λ k. take k xs) n ∙ ap (take (length ys)) is ∙ take-append_seam ys zs

-- what stands behind others that are of so many senders and in order is next
next_behind : (n : ℕ) (all list rest : List Taken) (x : Taken) → AreOrdered n all → all ≡ list ++ x ∷ rest → IsNext n list x
next_behind n all list rest x ordered is =
    let s : ℕ = sender_of x in
    let split : of_sender s all ≡ of_sender s list ++ x ∷ of_sender s rest = ap (of_sender s) is ∙ of_sender-append s list (x ∷ rest) ∙ ap (λ l. of_sender s list ++ l) (of_sender_own s x rest refl) in
    let front = placed_behind 0 (length (of_sender s list)) s (of_sender s list) (of_sender s rest) x (omega arith) (subst (IsInOrder s) split (ordered s).0) in
    let known : Dec (n ≤ s) → s < n = λ d. elim d [
      | yes le ↦ absurd (append_cons_ne (of_sender s list) (of_sender s rest) x (sym split ∙ (ordered s).1 le))
      | no nle ↦ lt_of_not-le nle
    ] in
    record {
      known = known (dec_le n s);
      open_yet = front.0;
      placed = subst (λ k. IsPlaced k x) (sym (length-entries (of_sender s list) front.0)) front.1;
    }

answer : (v w : View) (kept kept' : List Taken) (x : Taken) → w.made ≡ v.made → w.plan ≡ v.plan → w.takes ≡ true → AreOrdered w.made (all_carried w.taken) → ArePlanned w.plan (all_carried w.taken) → all_carried w.taken ≡ answered (all_carried v.taken) (length kept) ++ x ∷ kept' → IsAnswer v kept x w kept'
answer v w kept kept' x made plan takes ordered planned is =
    let list : List Taken = answered (all_carried v.taken) (length kept) in
    let all : all_carried w.taken ≡ (list ++ x ∷ []) ++ kept' = is ∙ sym (append_assoc list (x ∷ []) kept') in
    let front : answered (all_carried w.taken) (length kept') ≡ list ++ x ∷ [] = answered_front (all_carried w.taken) (list ++ x ∷ []) kept' all in
    record {
      made = made;
      plan = plan;
      received = record { takes = takes; ordered = ordered; planned = planned; parts = all ∙ ap (λ l. l ++ kept') (sym front) };
      answer = front;
      next = subst (λ n. IsNext n list x) made (next_behind w.made (all_carried w.taken) list kept' x ordered is);
    }

-- the next of what is kept
pub answer_kept : (v : View) (kept kept' : List Taken) (x : Taken) → IsReceived v kept → kept ≡ x ∷ kept' → IsAnswer v kept x v kept'
answer_kept v kept kept' x is next = answer v v kept kept' x refl refl is.takes is.ordered is.planned (is.parts ∙ ap (λ l. answered (all_carried v.taken) (length kept) ++ l) next)

-- what is of the other senders stays with one message more
of_others : (s : ℕ) (taken : List Message) (m : Message) → s ≢ message_sender m → of_sender s (all_carried (taken ++ m ∷ [])) ≡ of_sender s (all_carried taken)
of_others s taken m ne =
    of_sender-all_carried s (taken ++ m ∷ [])
    ∙ ap all_carried (messages_of-append s taken (m ∷ []) ∙ ap (λ l. messages_of s taken ++ l) (messages_of_other s m [] (λ e. ne (sym e))) ∙ append-nil (messages_of s taken))
    ∙ sym (of_sender-all_carried s taken)

-- one message more is of so many senders and in order
ordered_more : (plan : Plan) (n : ℕ) (taken : List Message) (m : Message) → AreOrdered n (all_carried taken) → Follows plan n taken m → AreOrdered n (all_carried (taken ++ m ∷ []))
ordered_more plan n taken m was follows s = elim (ℕ_discrete s (message_sender m)) [
  | yes e ↦ (
    subst (IsInOrder s) (sym (of_sender-all_carried s (taken ++ m ∷ []))) (subst (λ k. IsInOrder k (all_carried (messages_of k (taken ++ m ∷ [])))) (sym e) follows.1),
    λ le. let low = follows.0 in absurd (omega arith),
  )
  | no ne ↦
      let same = of_others s taken m ne in
      (subst (IsInOrder s) (sym same) (was s).0, λ le. same ∙ (was s).1 le)
]

-- and of the plan
more_planned : (plan : Plan) (n : ℕ) (taken : List Message) (m : Message) → ArePlanned plan (all_carried taken) → Follows plan n taken m → ArePlanned plan (all_carried (taken ++ m ∷ []))
more_planned plan n taken m was follows s = elim (ℕ_discrete s (message_sender m)) [
  | yes e ↦
      subst (λ l. ComeFirst (planned_of plan s) (commands_in l)) (sym (of_sender-all_carried s (taken ++ m ∷ [])))
      (subst (λ k. ComeFirst (planned_of plan k) (commands_in (all_carried (messages_of k (taken ++ m ∷ []))))) (sym e) follows.2)
  | no ne ↦ subst (λ l. ComeFirst (planned_of plan s) (commands_in l)) (sym (of_others s taken m ne)) (was s)
]

-- what a message begins with that was received when nothing was kept
pub answer_first : (v w : View) (kept kept' : List Taken) (m : Message) (x : Taken) → IsReceived v kept → kept ≡ [] → Took v m w → carried m ≡ x ∷ kept' → IsAnswer v kept x w kept'
answer_first v w kept kept' m x is none took carries =
    let list : List Taken = answered (all_carried v.taken) (length kept) in
    let whole : all_carried v.taken ≡ list = is.parts ∙ ap (λ l. list ++ l) none ∙ append-nil list in
    let w' : View = taker_view v.plan v.made (v.taken ++ m ∷ []) v.kept in
    subst (λ (u : View). IsAnswer v kept x u kept') (sym took.0)
    (answer v w' kept kept' x refl refl refl (ordered_more v.plan v.made v.taken m is.ordered took.1) (more_planned v.plan v.made v.taken m is.planned took.1) (all_carried_more v.taken m ∙ (λ i. whole i ++ carries i)))

-- ---- what is answered at once

-- each of those that stand behind others in order is next
are_next : (n : ℕ) (all list xs rest : List Taken) → AreOrdered n all → all ≡ list ++ (xs ++ rest) → AreNext n list xs
are_next n all list [] rest ordered is = tt
are_next n all list (x ∷ xs) rest ordered is = (next_behind n all list (xs ++ rest) x ordered is, are_next n all (list ++ x ∷ []) xs rest ordered (is ∙ sym (append_assoc list (x ∷ []) (xs ++ rest))))

-- one that is answered alone
pub answer_one : (v w : View) (kept kept' : List Taken) (x : Taken) → IsAnswer v kept x w kept' → IsAnswerOf v kept (x ∷ []) w kept'
answer_one v w kept kept' x is = record { made = is.made; plan = is.plan; received = is.received; answer = is.answer; next = (is.next, tt) }

pub answer_alone : (v w : View) (kept kept' : List Taken) (x : Taken) → IsAnswerOf v kept (x ∷ []) w kept' → IsAnswer v kept x w kept'
answer_alone v w kept kept' x is = record { made = is.made; plan = is.plan; received = is.received; answer = is.answer; next = is.next.0 }

-- all that a message carries which was received when nothing was kept
pub answer_all : (v w : View) (kept kept' xs : List Taken) (m : Message) → IsReceived v kept → kept ≡ [] → kept' ≡ [] → Took v m w → carried m ≡ xs → IsAnswerOf v kept xs w kept'
answer_all v w kept kept' xs m is none none' took carries =
    let list : List Taken = answered (all_carried v.taken) (length kept) in
    let whole : all_carried v.taken ≡ list = is.parts ∙ ap (λ l. list ++ l) none ∙ append-nil list in
    let ordered = ordered_more v.plan v.made v.taken m is.ordered took.1 in
    let all : all_carried (v.taken ++ m ∷ []) ≡ list ++ xs = all_carried_more v.taken m ∙ (λ i. whole i ++ carries i) in
    let front : answered (all_carried (v.taken ++ m ∷ [])) 0 ≡ list ++ xs = answered_front (all_carried (v.taken ++ m ∷ [])) (list ++ xs) [] (all ∙ sym (append-nil (list ++ xs))) in
    subst (λ (y : View × List Taken). IsAnswerOf v kept xs y.0 y.1) (λ i. (sym took.0 i, sym none' i)) (record {
      made = refl;
      plan = refl;
      received = record { takes = refl; ordered = ordered; planned = more_planned v.plan v.made v.taken m is.planned took.1; parts = sym (append-nil (all_carried (v.taken ++ m ∷ []))) ∙ ap (λ l. l ++ []) (all ∙ sym front) };
      answer = front;
      next = are_next v.made (all_carried (v.taken ++ m ∷ [])) list xs [] ordered (all ∙ ap (λ l. list ++ l) (sym (append-nil xs)));
    })

-- nothing was received
pub nothing_received : (v : View) (plan : Plan) (n : ℕ) (kept : List Taken) → v ≡ taker_view plan n [] [] → kept ≡ [] → IsReceived v kept
nothing_received v plan n kept is none =
    subst (λ (y : View × List Taken). IsReceived y.0 y.1) (λ i. (sym is i, sym none i)) (record { takes = refl; ordered = λ s. (tt, λ le. refl); planned = planned_nothing plan; parts = refl })

-- and nothing counted
pub nothing_counted : (v : View) (plan : Plan) (n : ℕ) (kept : List Taken) (ts : List Tally) → v ≡ taker_view plan n [] [] → kept ≡ [] → ts ≡ replicate n (record { count = 0; closed = false }) → AreTallies ts v.made (answered (all_carried v.taken) (length kept))
nothing_counted v plan n kept ts is none all =
    let t : Tally = record { count = 0; closed = false } in
    subst (λ (y : View × List Taken × List Tally). AreTallies y.2 y.0.made (answered (all_carried y.0.taken) (length y.1))) (λ i. (sym is i, sym none i, sym all i)) (
      length-replicate n t,
      λ s d low. let here : slice_index_or (replicate n t) s d ≡ t = get_or-replicate n s t d low in (ap (λ (y : Tally). y.count) here, ap (λ (y : Tally). y.closed) here),
    )

-- what the pass knows where nothing was taken
pub received_same : (v w : View) (kept kept' : List Taken) → IsReceived v kept → w ≡ v → kept' ≡ kept → IsReceived w kept'
received_same v w kept kept' is same same' = subst (λ (y : View × List Taken). IsReceived y.0 y.1) (λ i. (sym same i, sym same' i)) is

-- what was answered is of the plan
pub answered_planned : (v : View) (kept : List Taken) → IsReceived v kept → AreOfPlan v.plan (entries (answered (all_carried v.taken) (length kept)))
answered_planned v kept is s =
    let list : List Taken = answered (all_carried v.taken) (length kept) in
    subst (ComeFirst (planned_of v.plan s)) (sym (commands_of-entries s list))
    (begun_start (planned_of v.plan s) (commands_in (of_sender s list)) (commands_in (of_sender s kept))
    (subst (ComeFirst (planned_of v.plan s)) (ap (λ l. commands_in (of_sender s l)) is.parts ∙ ap commands_in (of_sender-append s list kept) ∙ commands_in-append (of_sender s list) (of_sender s kept)) (is.planned s)))

-- ---- tallies

-- what is of a sender, with one more of it, or of another
of_sender_more : (list : List Taken) (s : ℕ) (x : Taken) → sender_of x ≡ s → of_sender s (list ++ x ∷ []) ≡ of_sender s list ++ x ∷ []
of_sender_more list s x e = of_sender-append s list (x ∷ []) ∙ ap (λ l. of_sender s list ++ l) (of_sender_own s x [] e)

-- one tally is changed, that of the sender of all these
retallied : (ts : List Tally) (n : ℕ) (list xs : List Taken) (k : ℕ) (t : Tally) → AreTallies ts n list → ((s : ℕ) → s ≢ k → of_sender s xs ≡ []) → Counts (list ++ xs) k t → AreTallies (set ts k t) n (list ++ xs)
retallied ts n list xs k t are others counts = (
  length-set ts k t ∙ are.0,
  λ s d h. elim (ℕ_discrete s k) [
    | yes e ↦ let here : slice_index_or (set ts k t) k d ≡ t = get_or-set_same ts k t d (let l = are.0 in omega arith) in
        subst (λ i. Counts (list ++ xs) i (slice_index_or (set ts k t) i d)) (sym e) (subst (λ u. Counts (list ++ xs) k u) (sym here) counts)
    | no ne ↦ let there : slice_index_or (set ts k t) s d ≡ slice_index_or ts s d = get_or-set_other ts k s t d ne in
        let l : of_sender s (list ++ xs) ≡ of_sender s list = of_sender-append s list xs ∙ ap (λ l. of_sender s list ++ l) (others s ne) ∙ append-nil (of_sender s list) in
        subst (λ u. Counts (list ++ xs) s u) (sym there) ((are.1 s d h).0 ∙ ap (λ m. length (entries m)) (sym l), (are.1 s d h).1 ∙ ap has_mark (sym l))
  ],
)

-- the first of a row is of its sender, at the place behind what was taken of it
pub row_first : (n : ℕ) (list : List Taken) (s before : ℕ) (cs : List Timed) → AreNext n list (all_sent (entries_after s before cs)) → 0 < length (all_sent (entries_after s before cs)) → (s < n) × (before ≡ length (entries (of_sender s list)))
row_first n list s before [] next some = absurd (omega arith)
row_first n list s before (c ∷ cs) next some = (next.0.known, (let h : before + 1 ≡ length (entries (of_sender s list)) + 1 = next.0.placed in omega arith))

module _ (v w : View) (kept kept' : List Taken) (ts : List Tally) (k : ℕ) (t : Tally) (is : IsTakerView v ts kept) (at : t ≡ slice_index_or ts k t) where
  abbrev list : List Taken
  list = answered (all_carried v.taken) (length kept)

  tallied : (x : Taken) (t' : Tally) → IsAnswer v kept x w kept' → k ≡ sender_of x → Counts (list ++ x ∷ []) k t' → IsTakerView w (set ts k t') kept'
  tallied x t' a key counts =
      (a.received, subst (λ (y : ℕ × List Taken). AreTallies (set ts k t') y.0 y.1) (λ i. (sym a.made i, sym a.answer i)) (retallied ts v.made list (x ∷ []) k t' is.1 (λ s ne. of_sender_other s x [] (λ e. ne (sym e ∙ sym key))) counts))

  pub counted : (e : Entry) → IsAnswer v kept (Command e) w kept' → k ≡ e.sender → IsTakerView w (set ts k (record { count = e.place; closed = t.closed })) kept'
  counted e a key =
      let x : Taken = Command e in
      let low : k < v.made = subst (λ i. i < v.made) (sym key) a.next.known in
      let n : e.place ≡ length (entries (of_sender k list)) + 1 = subst (λ i. e.place ≡ length (entries (of_sender i list)) + 1) (sym key) a.next.placed in
      let l : of_sender k (list ++ x ∷ []) ≡ of_sender k list ++ x ∷ [] = of_sender_more list k x (sym key) in
      let was : Counts list k (slice_index_or ts k t) = is.1.1 k t low in
      tallied x (record { count = e.place; closed = t.closed }) a key (
        n ∙ sym (ap (λ m. length (entries m)) l ∙ ap length (entries-append (of_sender k list) (x ∷ [])) ∙ length-append (entries (of_sender k list)) (e ∷ [])),
        ap (λ (y : Tally). y.closed) at ∙ was.1 ∙ sym (ap has_mark l ∙ has_mark-append (of_sender k list) (x ∷ []) ∙ or-false (has_mark (of_sender k list))),
      )

  pub marked : (s n : ℕ) → IsAnswer v kept (Closed s n) w kept' → k ≡ s → IsTakerView w (set ts k (record { count = t.count; closed = true })) kept'
  marked s n a key =
      let x : Taken = Closed s n in
      let low : k < v.made = subst (λ i. i < v.made) (sym key) a.next.known in
      let l : of_sender k (list ++ x ∷ []) ≡ of_sender k list ++ x ∷ [] = of_sender_more list k x (sym key) in
      let was : Counts list k (slice_index_or ts k t) = is.1.1 k t low in
      tallied x (record { count = t.count; closed = true }) a key (
        ap (λ (y : Tally). y.count) at ∙ was.0 ∙ sym (ap (λ m. length (entries m)) l ∙ ap length (entries-append (of_sender k list) (x ∷ []) ∙ append-nil (entries (of_sender k list)))),
        sym (ap has_mark l ∙ has_mark-append (of_sender k list) (x ∷ []) ∙ or-true (has_mark (of_sender k list))),
      )

  -- commands in a row
  pub counted_row : (row : Row) (last : ℕ) → IsAnswerOf v kept (row_taken row) w kept' → 0 < length (row_taken row) → k ≡ row.sender → last ≡ row.before + length row.commands → IsTakerView w (set ts k (record { count = last; closed = t.closed })) kept'
  counted_row row last a some key is_last =
      let xs : List Taken = row_taken row in
      let own : of_sender k (list ++ xs) ≡ of_sender k list ++ xs = of_sender-append k list xs ∙ ap (λ l. of_sender k list ++ l) (row_own k row.sender row.before row.commands (sym key)) in
      let first : (row.sender < v.made) × (row.before ≡ length (entries (of_sender row.sender list))) = row_first v.made list row.sender row.before row.commands a.next some in
      let low : k < v.made = subst (λ i. i < v.made) (sym key) first.0 in
      let before : row.before ≡ length (entries (of_sender k list)) = first.1 ∙ ap (λ i. length (entries (of_sender i list))) (sym key) in
      let was : Counts list k (slice_index_or ts k t) = is.1.1 k t low in
      let unmarked : has_mark xs ≡ false = row_unmarked row.before row.sender row.commands in
      let many : length (entries xs) ≡ length row.commands = length-entries xs unmarked ∙ length-row row.before row.sender row.commands in (
        a.received,
        subst (λ (y : ℕ × List Taken). AreTallies (set ts k (record { count = last; closed = t.closed })) y.0 y.1) (λ i. (sym a.made i, sym a.answer i))
            (retallied ts v.made list xs k (record { count = last; closed = t.closed }) is.1 (λ s ne. row_other s row.sender row.before row.commands (λ e. ne (sym e ∙ sym key))) (
              is_last ∙ sym (ap (λ m. length (entries m)) own ∙ ap length (entries-append (of_sender k list) xs) ∙ length-append (entries (of_sender k list)) (entries xs) ∙ omega (arith, before, many)),
              ap (λ (y : Tally). y.closed) at ∙ was.1 ∙ sym (ap has_mark own ∙ has_mark-append (of_sender k list) xs ∙ ap (λ b. has_mark (of_sender k list) || b) unmarked ∙ or-false (has_mark (of_sender k list))),
            )),
      )

-- what stands at a sender's number is its tally
pub tally_at : (ts : List Tally) (n : ℕ) (list : List Taken) (s k : ℕ) (t : Tally) → AreTallies ts n list → s < n → k ≡ s → t ≡ slice_index_or ts k t → Counts list s t
tally_at ts n list s k t are low is at = subst (Counts list s) (sym (at ∙ ap (λ i. slice_index_or ts i t) is)) (are.1 s t low)

-- each tally is closed where each sender's mark was taken
pub all_closed : (ts : List Tally) (n : ℕ) (list : List Taken) → AreTallies ts n list
    → (EachIndex ts (λ s. (d : Tally) → (slice_index_or ts s d).closed ≡ true)) ↔ ((s : ℕ) → s < n → is_closed s list ≡ true)
all_closed ts n list are = (
  (λ each s low. let d : Tally = record { count = 0; closed = false } in sym (are.1 s d low).1 ∙ each s (let l = are.0 in omega arith) d),
  λ each s low d. let low' : s < n = (let l = are.0 in omega arith) in (are.1 s d low').1 ∙ each s low',
)

-- ---- ends that came back

-- the list that was kept last is settled
pub kept_settled : (p q : Pass Message View) (mark : Bool) (u : View) (kept : List Taken) → IsReceived (view p) kept → u ≡ keeping (view p) (view q) → AreSettled u.made u.taken u.kept → IsSettled (taken_by p kept) (ended_by q mark)
kept_settled p q mark u kept received is all =
    let v : View = view p in
    let s : ℕ = (view q).from in
    let sent : List Message = (view q).put in
    let k : SenderMessages = record { sender = s; list = sent } in
    let all' : AreSettled v.made v.taken (v.kept ++ k ∷ []) = subst (λ (u : View). AreSettled u.made u.taken u.kept) is all in
    let begun : IsBegun v.made v.taken s sent = all' (length v.kept) k (at_last v.kept k) in
    let list : List Taken = answered (all_carried v.taken) (length kept) in
    let rest : List Taken = of_sender s kept ++ all_carried begun.1.0 in
    let whole : all_carried sent ≡ of_sender s list ++ rest =
    ap all_carried begun.1.1
    ∙ all_carried-append (messages_of s v.taken) begun.1.0
    ∙ ap (λ l. l ++ all_carried begun.1.0) (sym (of_sender-all_carried s v.taken) ∙ ap (of_sender s) received.parts ∙ of_sender-append s list kept)
    ∙ append_assoc (of_sender s list) (of_sender s kept) (all_carried begun.1.0) in
    record {
      known = begun.0;
      in_order = begun.2;
      begins = (rest, whole);
      whole = λ closed. sym (whole ∙ ap (λ l. of_sender s list ++ l) (nothing_behind 0 s (of_sender s list) rest (subst (λ l. IsInOrder s l) whole begun.2) closed) ∙ append-nil (of_sender s list));
    }
