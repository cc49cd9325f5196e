-- Each step keeps the rule of the queue.
use Rattle.std.proofs.Common.{◌≡◌, ◌≢◌, ◌==◌, ℕ, zero, suc, ◌<◌, ◌≤◌, true, true≢false, List, [], ◌∷◌, ◌++◌, length, set, sym, refl, ap, ◌∙◌, subst, ⊎_elim, append_assoc, append-nil, eq-eqb, ne_eqb, if◌then◌else◌, lt_of_not-le, arith}
use mathlib.Core.Option.{Option, none, some, some-injective, some-ne-none}
use native.Mathlib.Decide.{dec_le, ℕ_discrete}
use lib.ListN.{get_elem?}
use Rattle.crossbeam_channel.specs.Fifo.{Pushes, Pops, Forks, Merges, Learns}
use Rattle.cmd_queue.specs.declared.message.Message.{Message}
use Rattle.cmd_queue.specs.declared.rule.View.{View}
use Rattle.cmd_queue.specs.declared.rule.SenderMessages.{SenderMessages}
use Rattle.cmd_queue.specs.Lists.{IsInOrder}
use Rattle.cmd_queue.specs.Plans.{Plan}
use Rattle.cmd_queue.specs.Messages.{message_sender, messages_of, all_carried, IsPlanned}
use Rattle.cmd_queue.specs.Views.{sender_view, taker_view, newcomer, spent, with_plan, one_more, keeping, Put, Took, AreSettled}
use Rattle.cmd_queue.specs.Rule.{Fits, Ruled}
use Rattle.cmd_queue.proofs.Lists.{at_more, at_set, append_cons_ne, messages_of-append, messages_of_own, messages_of_other, all_carried-append, in_order_start, planned_start, planned_nothing}

-- a function, changed at one number
module _ {A : Type 0} where
  abbrev changed : (ℕ → A) → ℕ → A → ℕ → A
  changed f s a p = if p == s then a else f p

  changed_here : (f : ℕ → A) (s p : ℕ) (a : A) → p ≡ s → changed f s a p ≡ a
  changed_here f s p a e = ap (λ b. if b then a else f p) (eq-eqb p s e)

  changed_else : (f : ℕ → A) (s p : ℕ) (a : A) → p ≢ s → changed f s a p ≡ f p
  changed_else f s p a n = ap (λ b. if b then a else f p) (ne_eqb p s n)

-- what holds of each view and its pass
abbrev All : (ℕ → View → Type 0) → List View → Type 0
All F views = (j : ℕ) (u : View) → get_elem? views j ≡ some u → F j u

all_set : (F : ℕ → View → Type 0) (views : List View) (i : ℕ) (w : View) → F i w → ((j : ℕ) (u : View) → j ≢ i → get_elem? views j ≡ some u → F j u) → All F (set views i w)
all_set F views i w mine others j u e = ⊎_elim (λ (x : (j ≡ i) × (w ≡ u)). subst (λ (y : ℕ × View). F y.0 y.1) (λ k. (sym x.0 k, x.1 k)) mine)
    (λ (x : (j ≢ i) × (get_elem? views j ≡ some u)). others j u x.0 x.1) (at_set views i j w u e)

-- the rule holds of a queue without senders
pub begins : Ruled [] (newcomer ∷ [])
begins = record {
  plan = [];
  taker = 0;
  seat = λ s. none;
  sent = λ s. [];
  taken = [];
  lawful = λ s. (refl, tt, tt);
  fits = all_set (Fits [] 0 (λ s. none) (λ s. []) []) (newcomer ∷ []) 0 newcomer
      ((λ e. absurd (true≢false (sym e))), λ e. (refl, refl, (λ s le. (refl, refl)), (λ i k at. absurd (some-ne-none k (sym at))), refl))
      (λ j u other e. absurd (nothing_more j u other e));
}
  where
    nothing_more : (j : ℕ) (u : View) → j ≢ 0 → get_elem? (newcomer ∷ []) j ≡ some u → ⊥
    nothing_more zero u other e = other refl
    nothing_more (suc j) u other e = some-ne-none u (sym e)

-- a sender's pass may send the message next
pub record MaySend (v : View) (x : Message) : Type 0 where
  pub sends : v.sends ≡ true
  pub own : message_sender x ≡ v.from
  pub told : IsInOrder v.from (all_carried (v.put ++ x ∷ []))
  pub planned : IsPlanned v.plan v.from v.put → IsPlanned v.plan v.from (v.put ++ x ∷ [])

-- a send
pub sends : (n pass : ℕ) (v : View) (x : Message) → MaySend v x → Pushes Ruled n pass v x (Put v x)
sends n pass v x may items views room r at =
    let w : View = sender_view v.plan v.from (v.put ++ x ∷ []) in
    let mine = (r.fits pass v at).0 may.sends in
    let sent : ℕ → List Message = changed r.sent v.from (v.put ++ x ∷ []) in
    let unseated : (s : ℕ) → r.seat s ≡ none → s ≢ v.from = λ s free e. some-ne-none pass (sym mine.0 ∙ ap r.seat (sym e) ∙ free) in
    let of_plan : IsPlanned r.plan v.from (v.put ++ x ∷ []) = subst (λ (p : Plan). IsPlanned p v.from (v.put ++ x ∷ [])) mine.2 (may.planned (subst (λ (y : Plan × List Message). IsPlanned y.0 v.from y.1) (λ i. (sym mine.2 i, sym mine.1 i)) (r.lawful v.from).2)) in
    let law : (s : ℕ) → Dec (s ≡ v.from) → (messages_of s (r.taken ++ (items ++ x ∷ [])) ≡ sent s) × IsInOrder s (all_carried (sent s)) × IsPlanned r.plan s (sent s) = λ s d.
    let joined : messages_of s (r.taken ++ (items ++ x ∷ [])) ≡ r.sent s ++ messages_of s (x ∷ []) =
    ap (messages_of s) (sym (append_assoc r.taken items (x ∷ []))) ∙ messages_of-append s (r.taken ++ items) (x ∷ []) ∙ ap (λ l. l ++ messages_of s (x ∷ [])) (r.lawful s).0 in
    elim d [
      | yes e ↦
          let here : sent s ≡ v.put ++ x ∷ [] = changed_here r.sent v.from s (v.put ++ x ∷ []) e in
          let was : r.sent s ≡ v.put = ap r.sent e ∙ sym mine.1 in (
            joined ∙ ap (λ l. r.sent s ++ l) (messages_of_own s x [] (may.own ∙ sym e)) ∙ ap (λ l. l ++ x ∷ []) was ∙ sym here,
            subst (λ l. IsInOrder s (all_carried l)) (sym here) (subst (λ k. IsInOrder k (all_carried (v.put ++ x ∷ []))) (sym e) may.told),
            subst (IsPlanned r.plan s) (sym here) (subst (λ k. IsPlanned r.plan k (v.put ++ x ∷ [])) (sym e) of_plan),
          )
      | no ne ↦
          let here : sent s ≡ r.sent s = changed_else r.sent v.from s (v.put ++ x ∷ []) ne in (
            joined ∙ ap (λ l. r.sent s ++ l) (messages_of_other s x [] (λ e. ne (sym e ∙ may.own))) ∙ append-nil (r.sent s) ∙ sym here,
            subst (λ l. IsInOrder s (all_carried l)) (sym here) (r.lawful s).1,
            subst (IsPlanned r.plan s) (sym here) (r.lawful s).2,
          )
    ] in (
      w,
      record {
        plan = r.plan;
        taker = r.taker;
        seat = r.seat;
        sent = sent;
        taken = r.taken;
        lawful = λ s. law s (ℕ_discrete s v.from);
        fits = all_set (Fits r.plan r.taker r.seat sent r.taken) views pass w
            ((λ _. (mine.0, sym (changed_here r.sent v.from v.from (v.put ++ x ∷ []) refl), mine.2)), λ e. absurd (true≢false (sym e)))
            (λ j u other e. (
              (λ s. let theirs = (r.fits j u e).0 s in
                  let ne : u.from ≢ v.from = λ same. other (some-injective j pass (sym theirs.0 ∙ ap r.seat same ∙ mine.0)) in
                  (theirs.0, theirs.1 ∙ sym (changed_else r.sent v.from u.from (v.put ++ x ∷ []) ne), theirs.2)),
              λ t. let theirs = (r.fits j u e).1 t in (
                theirs.0,
                theirs.1,
                (λ s le. let f = theirs.2 s le in (f.0, changed_else r.sent v.from s (v.put ++ x ∷ []) (unseated s f.0) ∙ f.1)),
                (λ i k there. let f = theirs.3 i k there in (f.0, f.1, f.2 ∙ sym (changed_else r.sent v.from k.sender (v.put ++ x ∷ []) (unseated k.sender f.1)))),
                theirs.4,
              ),
            ));
      },
      refl,
    )

-- a receive
pub takes : (pass : ℕ) (v : View) → v.takes ≡ true → Pops Ruled pass v (Took v)
takes pass v may x items views r at =
    let w : View = taker_view v.plan v.made (v.taken ++ x ∷ []) v.kept in
    let mine = (r.fits pass v at).1 may in
    let s : ℕ = message_sender x in
    let split : messages_of s (r.taken ++ x ∷ items) ≡ messages_of s r.taken ++ x ∷ messages_of s items = messages_of-append s r.taken (x ∷ items) ∙ ap (λ l. messages_of s r.taken ++ l) (messages_of_own s x items refl) in
    let more : messages_of s (v.taken ++ x ∷ []) ++ messages_of s items ≡ r.sent s =
    sym (messages_of-append s (v.taken ++ x ∷ []) items) ∙ ap (λ l. messages_of s ((l ++ x ∷ []) ++ items)) mine.1 ∙ ap (messages_of s) (append_assoc r.taken (x ∷ []) items) ∙ (r.lawful s).0 in
    let told : IsInOrder s (all_carried (messages_of s (v.taken ++ x ∷ []))) =
    in_order_start 0 s (all_carried (messages_of s (v.taken ++ x ∷ []))) (all_carried (messages_of s items)) (subst (λ l. IsInOrder s l) (ap all_carried (sym more) ∙ all_carried-append (messages_of s (v.taken ++ x ∷ [])) (messages_of s items)) (r.lawful s).1) in
    let planned : IsPlanned v.plan s (messages_of s (v.taken ++ x ∷ [])) =
    planned_start v.plan s (messages_of s (v.taken ++ x ∷ [])) (messages_of s items) (subst (λ (y : Plan × List Message). IsPlanned y.0 s y.1) (λ i. (sym mine.4 i, sym more i)) (r.lawful s).2) in
    let within : Dec (v.made ≤ s) → s < v.made = λ d. elim d [
      | yes le ↦ absurd (append_cons_ne (messages_of s r.taken) (messages_of s items) x (sym split ∙ (r.lawful s).0 ∙ (mine.2 s le).1))
      | no nle ↦ lt_of_not-le nle
    ] in
    let taken : List Message = r.taken ++ x ∷ [] in (
      w,
      record {
        plan = r.plan;
        taker = r.taker;
        seat = r.seat;
        sent = r.sent;
        taken = taken;
        lawful = λ p. (ap (messages_of p) (append_assoc r.taken (x ∷ []) items) ∙ (r.lawful p).0, (r.lawful p).1, (r.lawful p).2);
        fits = all_set (Fits r.plan r.taker r.seat r.sent taken) views pass w
            ((λ e. absurd (true≢false (sym e))), λ _. (mine.0, ap (λ l. l ++ x ∷ []) mine.1, mine.2, mine.3, mine.4))
            (λ j u other e. ((r.fits j u e).0, λ t. absurd (other (((r.fits j u e).1 t).0 ∙ sym mine.0))));
      },
      (refl, (within (dec_le v.made s), told, planned)),
    )

-- a split of the dispatcher's pass before there are senders, which makes the plan
pub plans : (plan : Plan) (pass : ℕ) (v : View) → v.takes ≡ true → v.made ≡ 0 → Forks Ruled pass v (with_plan plan v) spent
plans plan pass v may nobody items views r at =
    let left : View = with_plan plan v in
    let mine = (r.fits pass v at).1 may in
    let none_yet : (s : ℕ) → (r.seat s ≡ none) × (r.sent s ≡ []) = λ s. mine.2 s (omega (arith, nobody)) in
    let vs : List View = set views pass left in
    let old : All (Fits plan r.taker r.seat r.sent r.taken) vs = all_set (Fits plan r.taker r.seat r.sent r.taken) views pass left
    ((λ e. absurd (true≢false (sym e))), λ _. (mine.0, mine.1, mine.2, mine.3, refl))
    (λ j u other e. (
      (λ s. let theirs = (r.fits j u e).0 s in absurd (some-ne-none j (sym theirs.0 ∙ (none_yet u.from).0))),
      λ t. absurd (other (((r.fits j u e).1 t).0 ∙ sym mine.0)),
    )) in
    record {
      plan = plan;
      taker = r.taker;
      seat = r.seat;
      sent = r.sent;
      taken = r.taken;
      lawful = λ s. ((r.lawful s).0, (r.lawful s).1, subst (IsPlanned plan s) (sym (none_yet s).1) (planned_nothing plan s));
      fits = λ j u e. ⊎_elim (λ x. old j u x) (λ x. subst (Fits plan r.taker r.seat r.sent r.taken j) x.1 ((λ e. absurd (true≢false (sym e))), λ e. absurd (true≢false (sym e)))) (at_more vs spent u j e);
    }

-- a split of the dispatcher's pass, which makes a sender's
pub forks : (pass : ℕ) (v : View) → v.takes ≡ true → Forks Ruled pass v (one_more v) (sender_view v.plan v.made [])
forks pass v may items views r at =
    let left : View = one_more v in
    let right : View = sender_view v.plan v.made [] in
    let mine = (r.fits pass v at).1 may in
    let vs : List View = set views pass left in
    let seat : ℕ → Option ℕ = changed r.seat v.made (some (length vs)) in
    let free = mine.2 v.made (omega arith) in
    let old : All (Fits r.plan r.taker seat r.sent r.taken) vs = all_set (Fits r.plan r.taker seat r.sent r.taken) views pass left (
      (λ e. absurd (true≢false (sym e))),
      λ _. (
        mine.0,
        mine.1,
        (λ s le. let f = mine.2 s (omega arith) in (changed_else r.seat v.made s (some (length vs)) (λ e. omega arith) ∙ f.0, f.1)),
        (λ i k there. let f = mine.3 i k there in (omega arith, changed_else r.seat v.made k.sender (some (length vs)) (λ e. omega arith) ∙ f.1, f.2)),
        mine.4,
      ),
    )
    (λ j u other e. (
      (λ s. let theirs = (r.fits j u e).0 s in
          (changed_else r.seat v.made u.from (some (length vs)) (λ same. some-ne-none j (sym theirs.0 ∙ ap r.seat same ∙ free.0)) ∙ theirs.0, theirs.1, theirs.2)),
      λ t. absurd (other (((r.fits j u e).1 t).0 ∙ sym mine.0)),
    )) in
    let last : (j : ℕ) (u : View) → j ≡ length vs → right ≡ u → Fits r.plan r.taker seat r.sent r.taken j u = λ j u end is.
    subst (λ (y : ℕ × View). Fits r.plan r.taker seat r.sent r.taken y.0 y.1) (λ k. (sym end k, is k))
    ((λ _. (changed_here r.seat v.made v.made (some (length vs)) refl, sym free.1, mine.4)), λ e. absurd (true≢false (sym e))) in
    record {
      plan = r.plan;
      taker = r.taker;
      seat = seat;
      sent = r.sent;
      taken = r.taken;
      lawful = r.lawful;
      fits = λ j u e. ⊎_elim (λ x. old j u x) (λ x. last j u x.0 x.1) (at_more vs right u j e);
    }

-- a join of a sender's pass
pub merges : (pass : ℕ) (v : View) (other : ℕ) (w : View) → v.takes ≡ true → w.sends ≡ true → Merges Ruled pass v other w (keeping v w) spent
merges pass v other w may gives items views r at two at' =
    let both : View = keeping v w in
    let mine = (r.fits pass v at).1 may in
    let vs : List View = set views pass both in
    let was : get_elem? views other ≡ some w = ⊎_elim (λ x. absurd (two x.0)) (λ x. x.1) (at_set views pass other both w at') in
    let theirs = (r.fits other w was).0 gives in
    let seat : ℕ → Option ℕ = changed r.seat w.from none in
    let stays : (s : ℕ) → r.seat s ≡ none → Dec (s ≡ w.from) → seat s ≡ none = λ s free d. elim d [
      | yes e ↦ changed_here r.seat w.from s none e
      | no ne ↦ changed_else r.seat w.from s none ne ∙ free
    ] in
    let within : Dec (v.made ≤ w.from) → w.from < v.made = λ d. elim d [
      | yes le ↦ absurd (some-ne-none other (sym theirs.0 ∙ (mine.2 w.from le).0))
      | no nle ↦ lt_of_not-le nle
    ] in
    let k₀ : SenderMessages = record { sender = w.from; list = w.put } in
    let Fine : SenderMessages → Type 0 = λ k. (k.sender < v.made) × (seat k.sender ≡ none) × (k.list ≡ r.sent k.sender) in
    let fine : Fine k₀ = (within (dec_le v.made w.from), changed_here r.seat w.from w.from none refl, theirs.1) in
    let Now : ℕ → View → Type 0 = λ j u. j ≢ other → Fits r.plan r.taker seat r.sent r.taken j u in
    let now : All Now vs = all_set Now views pass both
    (λ _. (
      (λ e. absurd (true≢false (sym e))),
      λ _. (
        mine.0,
        mine.1,
        (λ s le. let f = mine.2 s le in (stays s f.0 (ℕ_discrete s w.from), f.1)),
        (λ i k there. ⊎_elim (λ x. let f = mine.3 i k x in (f.0, stays k.sender f.1 (ℕ_discrete k.sender w.from), f.2)) (λ x. subst Fine x.1 fine) (at_more v.kept k₀ k i there)),
        mine.4,
      ),
    ))
    (λ j u ne e apart. (
      (λ s. let u's = (r.fits j u e).0 s in
          (changed_else r.seat w.from u.from none (λ same. apart (some-injective j other (sym u's.0 ∙ ap r.seat same ∙ theirs.0))) ∙ u's.0, u's.1, u's.2)),
      λ t. absurd (ne (((r.fits j u e).1 t).0 ∙ sym mine.0)),
    )) in
    record {
      plan = r.plan;
      taker = r.taker;
      seat = seat;
      sent = r.sent;
      taken = r.taken;
      lawful = r.lawful;
      fits = all_set (Fits r.plan r.taker seat r.sent r.taken) vs other spent
          ((λ e. absurd (true≢false (sym e))), λ e. absurd (true≢false (sym e)))
          (λ j u apart e. now j u e apart);
    }

-- a read of the dispatcher's pass
pub settles : (pass : ℕ) (v : View) → v.takes ≡ true → Learns Ruled pass v (λ items. AreSettled v.made v.taken v.kept)
settles pass v may items views r at i k there =
    let mine = (r.fits pass v at).1 may in
    let s : ℕ = k.sender in
    let is = (mine.3 i k there).2 in (
      (mine.3 i k there).0,
      (messages_of s items, is ∙ sym (r.lawful s).0 ∙ messages_of-append s r.taken items ∙ ap (λ l. messages_of s l ++ messages_of s items) (sym mine.1)),
      subst (λ l. IsInOrder s (all_carried l)) (sym is) (r.lawful s).1,
    )
