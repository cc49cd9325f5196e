-- Who is owed an end: after ends were told, each by the world before them, and after problems were notified.
use Rattle.std.proofs.Common.{◌≡◌, ◌⊎◌, inl, inr, ℕ, zero, suc, ◌+◌, ◌<◌, ◌≤◌, Bool, true, false, true≢false, not, ◌&&◌, ◌||◌, eqb, nat_lt, cond, if◌then◌else◌, List, [], ◌∷◌, ◌++◌, length, filter, fold, get_or, Option, Some, None, Contains, Ok, All, slice_get, refl, ap, sym, ◌∙◌, subst, append_assoc, append-nil, arith}
use Rattle.std.specs.Prelude.{option_to_list, count_by}
use Rattle.std.specs.List.{list_any, range_with_len}
use Rattle.std.proofs.lemmas.Bool.{and_parts, eq-eqb, eqb-true, eqb-false, false_from_ne_true, lt-ltb, ltb-true, not-true, or_cases, or_right}
use Rattle.std.proofs.lemmas.List.Sums.{sum_by-append, sum_by-cons}
use Rattle.std.proofs.lemmas.List.Elements.{All-nil, All-cons, All-weaker, All-append, All-contains_itself, Contains-append_left, Contains-append_right}
use Rattle.std.proofs.lemmas.List.FromFn.{get_or-range_with_len, length-range_with_len}
use Rattle.std.proofs.lemmas.Option.{slice_get_cases}
use Rattle.cmd_types.specs.declared.entry.Entry.{Entry}
use Rattle.mon_checks.specs.States.{change_by}
use Rattle.mon_inventory.specs.declared.records.ObjectSpec.{ObjectSpec}
use Rattle.mon_inventory.specs.Configuration.{Configuration}
use Rattle.mon_notify.specs.Ends.{hears, hears_of, is_owed_with, is_within_reach, missed, one_hears, owed_with, reached}
use Rattle.mon_notify.specs.Escalations.{has_contact}
use Rattle.mon_engine.specs.declared.ends.Owed.{Owed}
use Rattle.mon_engine.specs.declared.notice.Notice.{Notice}
use Rattle.mon_engine.specs.declared.notice.Subject.{Subject}
use Rattle.mon_engine.specs.declared.notice.Word.{Word}
use Rattle.mon_engine.specs.declared.notice.Word.TheVariants as words
use Rattle.mon_engine.specs.declared.object.Object.{Object}
use Rattle.mon_engine.specs.Clock.{advanced}
use Rattle.mon_engine.specs.Effects as acts
use Rattle.mon_engine.specs.Effects.{Act, act}
use Rattle.mon_engine.specs.EndLaws.{is_recovery_of, is_recovery_word, IsBeginning, IsOwed}
use Rattle.mon_engine.specs.Ends.{end_notice, is_end_due, is_end_due_of, is_news, owed_after, owed_at, owed_of, owes, told_end, told_ends_among}
use Rattle.mon_engine.specs.Laws.{moment_of}
use Rattle.mon_engine.specs.Notices.{is_problem_word, subject_of}
use Rattle.mon_engine.specs.Places.{change_to, changed_at}
use Rattle.mon_engine.specs.Results.{with_result, with_started, after_check_result}
use Rattle.mon_engine.specs.Step.{acted, counted}
use Rattle.mon_engine.specs.World.{World}
use Rattle.mon_engine.proofs.ActLemmas.{act_leaves, check_result_cases, noticed_leaves, started_leaves}
use Rattle.mon_engine.proofs.ByClockLemmas.{cases_below}
use Rattle.mon_engine.proofs.EndLemmas.{and_false, are_ended, due_at, end_cases, ends_next, owed_here, owed_there, same_due, same_due_of}
use Rattle.mon_engine.proofs.EntryLemmas.{found, advanced_leaves, entry_cases}
use Rattle.mon_engine.proofs.ListLemmas.{changed_here, changed_other, changed_reads, length-changed_at}
use Rattle.mon_engine.proofs.NewsLemmas.{More, if_some}
use Rattle.mon_engine.proofs.OnceLemmas.{problem_word}
use Rattle.mon_engine.proofs.ReachedLemmas.{someone_is}

-- ---- what an entry does leaves who is owed an end

act_owes_nobody : (inv : Configuration) (v w : World) (a : Act) → act inv v a ≡ Ok w → w.owed ≡ v.owed
unfolding act after_check_result
act_owes_nobody inv v w (acts.CheckResult object code output) e = check_result_cases (λ (y : World). y.owed ≡ v.owed) inv v w object code output e
    (λ spec o known at. ap (λ (x : World). x.owed) (noticed_leaves inv (with_started inv (with_result inv v object spec o code output) object) object (change_by o.status code))
    ∙ ap (λ (x : World). x.owed) (started_leaves inv (with_result inv v object spec o code output) object))
act_owes_nobody inv v w a e = ap (λ (x : World). x.owed) (act_leaves inv v w a e)

pub acted_owed : (inv : Configuration) (w : World) (e : Entry) → (acted inv w e).0.owed ≡ w.owed
acted_owed inv w e = entry_cases inv w e (λ p. p.0.owed ≡ w.owed) (λ why. closes _ at_found) (λ a b n k. closes (counted b) (act_owes_nobody inv (found inv w e) b a k ∙ at_found))
  where
    at_found : (found inv w e).owed ≡ w.owed
    at_found = ap (λ (x : World). x.owed) (advanced_leaves inv w (moment_of w e))

    closes : (u : World) → u.owed ≡ w.owed → (advanced inv u (moment_of w e)).owed ≡ w.owed
    closes u is = ap (λ (x : World). x.owed) (advanced_leaves inv u (moment_of w e)) ∙ is

-- ---- one contact of several

-- where only those that pass the test are kept
pub kept : (p : ℕ → Bool) (c : ℕ) (xs : List ℕ) → has_contact c (filter p xs) ≡ (p c && has_contact c xs)
kept p c [] = sym (and_false (p c) false refl)
kept p c (x ∷ xs) = by (p x) refl (eqb x c) refl (kept p c xs)
  where
    by : (b : Bool) → p x ≡ b → (d : Bool) → eqb x c ≡ d → has_contact c (filter p xs) ≡ (p c && has_contact c xs) → has_contact c (cond b (x ∷ filter p xs) (filter p xs)) ≡ (p c && (eqb x c || has_contact c xs))
    by true passes true here rest = ap (λ (y : Bool). y || has_contact c (filter p xs)) here
        ∙ sym (ap (λ (y : Bool). p c && (y || has_contact c xs)) here ∙ ap (λ (y : Bool). y && true) (ap p (sym (eqb-true x c here)) ∙ passes))
    by true passes false there rest = ap (λ (y : Bool). y || has_contact c (filter p xs)) there ∙ rest ∙ sym (ap (λ (y : Bool). p c && (y || has_contact c xs)) there)
    by false fails true here rest = (let fails_too : p c ≡ false = ap p (sym (eqb-true x c here)) ∙ fails in
        rest ∙ ap (λ (y : Bool). y && has_contact c xs) fails_too ∙ sym (ap (λ (y : Bool). y && (eqb x c || has_contact c xs)) fails_too))
    by false fails false there rest = rest ∙ sym (ap (λ (y : Bool). p c && (y || has_contact c xs)) there)

has_from : (xs : List ℕ) (c i : ℕ) → i < length xs → get_or xs i c ≡ c → has_contact c xs ≡ true
has_from [] c i low is = absurd (omega (arith, low))
has_from (x ∷ xs) c zero low is = ap (λ (b : Bool). b || has_contact c xs) (eq-eqb x c is)
has_from (x ∷ xs) c (suc i) low is = or_right (eqb x c) (has_contact c xs) (has_from xs c i (omega (arith, low)) is)

-- each contact of several is one of them
pub each_has : (xs : List ℕ) → All (λ c. has_contact c xs ≡ true) xs
each_has xs = All-weaker (Contains xs) (λ c. has_contact c xs ≡ true) (λ c h. has_from xs c h.0 h.1 h.2) xs (All-contains_itself xs)

pub in_range : (n c : ℕ) → c < n → has_contact c (range_with_len 0 n) ≡ true
in_range n c low = (let many = length-range_with_len 0 n in has_from (range_with_len 0 n) c c (omega (arith, low, many)) (get_or-range_with_len 0 n c c (omega (arith, low, many)) ∙ (let none : 0 + c ≡ c = omega arith in none)))

-- who hears of ends is in the inventory, and so is the object
pub heard_of : (inv : Configuration) (k c : ℕ) → hears inv k c ≡ true → (k < length inv.objects) × (c < length inv.contacts)
heard_of inv k c h = elim (slice_get_cases inv.objects k).1 [
  | inl spec ↦ elim (slice_get_cases inv.contacts c).1 [
    | inl contact ↦ (spec.1, contact.1)
    | inr past ↦ absurd (none (Some spec.0) spec.2 past.1)
  ]
  | inr past ↦ absurd (true≢false (sym h ∙ ap (λ (s : Option ObjectSpec). hears_of s (slice_get inv.contacts c)) past.1))
]
  where
    none : (s : Option ObjectSpec) → slice_get inv.objects k ≡ s → slice_get inv.contacts c ≡ None → ⊥
    none None at past = true≢false (sym h ∙ ap (λ (x : Option ObjectSpec). hears_of x (slice_get inv.contacts c)) at)
    none (Some spec) at past = true≢false (sym h ∙ ap (λ (x : Option ObjectSpec). hears_of x (slice_get inv.contacts c)) at ∙ ap (hears_of (Some spec)) past)

-- ---- the ends that are told, by the world before them

-- the end of the object of this index is due
pub record IsDue (inv : Configuration) (w : World) (k : ℕ) : Type 0 where
  pub spec : ObjectSpec
  pub of : Object
  pub known : slice_get inv.objects k ≡ Some spec
  pub there : slice_get w.objects k ≡ Some of
  pub due : is_end_due_of inv w k spec of ≡ true

-- it is due and news, and this is its notice
abbrev pub IsEnd : Configuration → World → (object : ℕ) → Notice → Type 0
IsEnd inv w k n = (d : IsDue inv w k) × (is_news w.clock d.of ≡ true) × (end_notice inv w k d.of (owed_at w k) ≡ Some n)

-- who is owed the end of the object afterwards, where these notices of ends go out: as before where it is not due; else
-- nobody where it is no news, or those who were not reached
abbrev pub IsEnded : Configuration → World → (object : ℕ) → List Notice → Option Owed → Type 0
IsEnded inv w k new x = ((is_end_due inv w k ≡ false) × (x ≡ slice_get w.owed k)) ⊎ ((d : IsDue inv w k)
    × (((is_news w.clock d.of ≡ false) × ((owed_of x).contacts ≡ []))
    ⊎ ((is_news w.clock d.of ≡ true) × ((owed_of x).contacts ≡ missed inv w.contacts k (owed_at w k).contacts) × ((n : Notice) → end_notice inv w k d.of (owed_at w k) ≡ Some n → Contains new n))))

ended_more : (inv : Configuration) (w : World) (k : ℕ) (new more : List Notice) (x : Option Owed) → IsEnded inv w k new x → IsEnded inv w k (new ++ more) x
ended_more inv w k new more x (inl idle) = inl idle
ended_more inv w k new more x (inr (d, inl stale)) = inr (d, inl stale)
ended_more inv w k new more x (inr (d, inr told)) = inr (d, inr (told.0, told.1, λ n is. Contains-append_left new more n (told.2 n is)))

-- the ends of the first so many objects were told
pub record AreTold (inv : Configuration) (w : World) (count : ℕ) (ns : List Notice) (owed : List Owed) : Type 0 where
  pub sent : More (λ n. IsEnd inv w n.subject.object n) w.notices ns
  pub later : (k : ℕ) → count ≤ k → slice_get owed k ≡ slice_get w.owed k
  pub each : (k : ℕ) → k < count → IsEnded inv w k sent.0 (slice_get owed k)
  pub once : (k : ℕ) → count_by (is_recovery_of k) sent.0 ≤ cond (nat_lt k count) 1 0

-- how many recoveries of the object are among several notices
pub recoveries_join : (k : ℕ) (xs ys : List Notice) → count_by (is_recovery_of k) (xs ++ ys) ≡ count_by (is_recovery_of k) xs + count_by (is_recovery_of k) ys
recoveries_join k xs ys = sum_by-append (λ (n : Notice). cond (is_recovery_of k n) 1 0) xs ys

no_fewer : (k n : ℕ) → cond {A = ℕ} (nat_lt k n) 1 0 ≤ cond (nat_lt k (n + 1)) 1 0
no_fewer k n = by (nat_lt k n) refl
  where
    by : (b : Bool) → nat_lt k n ≡ b → cond {A = ℕ} b 1 0 ≤ cond (nat_lt k (n + 1)) 1 0
    by false high = omega arith
    by true low = (let more = ap (λ (b : Bool). cond {A = ℕ} b 1 0) (lt-ltb k (n + 1) (let less = ltb-true k n low in omega (arith, less))) in omega (arith, more))

-- one end more, which is of the object n
one_end_more : (k n : ℕ) (xs : List Notice) (r : Option Notice) → ((m : Notice) → r ≡ Some m → m.subject.object ≡ n) → count_by (is_recovery_of k) xs ≤ cond (nat_lt k n) 1 0 → count_by (is_recovery_of k) (xs ++ option_to_list r) ≤ cond (nat_lt k (n + 1)) 1 0
one_end_more k n xs None is few = (let same = ap (count_by (is_recovery_of k)) (append-nil xs) in let more = no_fewer k n in omega (arith, same, more, few))
one_end_more k n xs (Some m) is few = by (eqb n k) refl
  where
    joined : count_by (is_recovery_of k) (xs ++ m ∷ []) ≡ count_by (is_recovery_of k) xs + count_by (is_recovery_of k) (m ∷ [])
    joined = recoveries_join k xs (m ∷ [])

    one : count_by (is_recovery_of k) (m ∷ []) ≡ cond (is_recovery_of k m) 1 0
    one = (let first = sum_by-cons (λ (x : Notice). cond (is_recovery_of k x) 1 0) m [] in omega (arith, first))

    most : (b : Bool) → cond {A = ℕ} b 1 0 ≤ 1
    most true = omega arith
    most false = omega arith

    by : (b : Bool) → eqb n k ≡ b → count_by (is_recovery_of k) (xs ++ m ∷ []) ≤ cond (nat_lt k (n + 1)) 1 0
    by true here =
        let same = eqb-true n k here in
        let none = ap (λ (b : Bool). cond {A = ℕ} b 1 0) (false_from_ne_true (nat_lt k n) (λ low. (let less = ltb-true k n low in absurd (omega (arith, less, same))))) in
        let room = ap (λ (b : Bool). cond {A = ℕ} b 1 0) (lt-ltb k (n + 1) (omega (arith, same))) in
        let at_most = most (is_recovery_of k m) in
        omega (arith, joined, one, none, room, at_most, few)
    by false other =
        let differs : is_recovery_of k m ≡ false = and_false (is_recovery_word m.subject.word) (eqb m.subject.object k) (ap (λ (j : ℕ). eqb j k) (is m refl) ∙ other) in
        let none = ap (λ (b : Bool). cond {A = ℕ} b 1 0) differs in
        let more = no_fewer k n in
        omega (arith, joined, one, none, more, few)

end_object : (inv : Configuration) (w : World) (k : ℕ) (o : Object) (x : Owed) (n : Notice) → end_notice inv w k o x ≡ Some n → n.subject.object ≡ k
end_object inv w k o x n is = someone_is (λ m. m.subject.object ≡ k) (subject_of w.clock words.Recovery k o x.number) _ n is refl

told_next : (inv : Configuration) (w : World) (ns : List Notice) (owed : List Owed) (n : ℕ) → AreTold inv w n ns owed
    → AreTold inv w (n + 1) (told_end inv (record w { notices = ns; owed = owed }) n).notices (told_end inv (record w { notices = ns; owed = owed }) n).owed
told_next inv w ns owed n h = end_cases (λ (u : World). AreTold inv w (n + 1) u.notices u.owed) inv v n idle_here stale_here told_here
  where
    v : World
    v = record w { notices = ns; owed = owed }

    same : slice_get owed n ≡ slice_get w.owed n
    same = h.later n (omega arith)

    is_due : (spec : ObjectSpec) (o : Object) → slice_get inv.objects n ≡ Some spec → slice_get w.objects n ≡ Some o → is_end_due_of inv v n spec o ≡ true → IsDue inv w n
    is_due spec o known at due = record { spec = spec; of = o; known = known; there = at; due = sym (same_due_of inv w ns owed n spec o same) ∙ due }

    -- the other objects, where one place is changed
    others_later : (f : Owed → Owed) (k : ℕ) → n + 1 ≤ k → slice_get (changed_at owed n f) k ≡ slice_get w.owed k
    others_later f k high = changed_other owed n k f (λ e. absurd (omega (arith, e, high))) ∙ h.later k (omega (arith, high))

    others_each : (f : Owed → Owed) (more : List Notice) (k : ℕ) → k < n → IsEnded inv w k (h.sent.0 ++ more) (slice_get (changed_at owed n f) k)
    others_each f more k low = subst (IsEnded inv w k (h.sent.0 ++ more)) (sym (changed_other owed n k f (λ e. absurd (omega (arith, e, low))))) (ended_more inv w k h.sent.0 more (slice_get owed k) (h.each k low))

    as_few : (k : ℕ) → count_by (is_recovery_of k) h.sent.0 ≤ cond (nat_lt k (n + 1)) 1 0
    as_few k = (let few = h.once k in let more = no_fewer k n in omega (arith, few, more))

    idle_here : is_end_due inv v n ≡ false → AreTold inv w (n + 1) ns owed
    idle_here idle = record {
      sent = h.sent;
      later = λ k high. h.later k (omega (arith, high));
      each = λ k low. elim (cases_below k n low) [
        | inl below ↦ h.each k below
        | inr here ↦ subst (λ (j : ℕ). IsEnded inv w j h.sent.0 (slice_get owed j)) (sym here) (inl (sym (same_due inv w ns owed n same) ∙ idle, same))
      ];
      once = as_few;
    }

    stale_here : (spec : ObjectSpec) (o : Object) → slice_get inv.objects n ≡ Some spec → slice_get w.objects n ≡ Some o → is_end_due_of inv v n spec o ≡ true → is_news w.clock o ≡ false → AreTold inv w (n + 1) ns (changed_at owed n (λ x. record x { contacts = [] }))
    stale_here spec o known at due stale =
        let f : Owed → Owed = λ x. record x { contacts = [] } in
        let mine = owed_there inv v n spec o due in
        record {
          sent = h.sent;
          later = others_later f;
          each = λ k low. elim (cases_below k n low) [
            | inl below ↦ subst (λ (xs : List Notice). IsEnded inv w k xs (slice_get (changed_at owed n f) k)) (append-nil h.sent.0) (others_each f [] k below)
            | inr here ↦ subst (λ (j : ℕ). IsEnded inv w j h.sent.0 (slice_get (changed_at owed n f) j)) (sym here) (inr (is_due spec o known at due, inl (stale, owed_here v n mine.0 [] mine.1)))
          ];
          once = as_few;
        }

    told_here : (spec : ObjectSpec) (o : Object) → slice_get inv.objects n ≡ Some spec → slice_get w.objects n ≡ Some o → is_end_due_of inv v n spec o ≡ true → is_news w.clock o ≡ true
        → AreTold inv w (n + 1) (ns ++ option_to_list (end_notice inv v n o (owed_at v n))) (changed_at owed n (λ x. record x { contacts = missed inv w.contacts n (owed_at v n).contacts }))
    told_here spec o known at due news =
        let left = missed inv w.contacts n (owed_at v n).contacts in
        let f : Owed → Owed = λ x. record x { contacts = left } in
        let d = is_due spec o known at due in
        let mine = owed_there inv v n spec o due in
        let notice : end_notice inv v n o (owed_at v n) ≡ end_notice inv w n o (owed_at w n) = ap (λ (x : Option Owed). end_notice inv w n o (owed_of x)) same in
        let more = option_to_list (end_notice inv v n o (owed_at v n)) in
        record {
          sent = (
            h.sent.0 ++ more,
            ap (λ (xs : List Notice). xs ++ more) h.sent.1 ∙ append_assoc w.notices h.sent.0 more,
            All-append (λ m. IsEnd inv w m.subject.object m) h.sent.0 more h.sent.2
                (if_some (λ m. IsEnd inv w m.subject.object m) (end_notice inv v n o (owed_at v n)) (λ m is. subst (λ (j : ℕ). IsEnd inv w j m) (sym (end_object inv v n o (owed_at v n) m is)) (d, news, sym notice ∙ is))),
          );
          later = others_later f;
          each = λ k low. elim (cases_below k n low) [
            | inl below ↦ others_each f more k below
            | inr here ↦ subst (λ (j : ℕ). IsEnded inv w j (h.sent.0 ++ more) (slice_get (changed_at owed n f) j)) (sym here) (inr (
              d,
              inr (
                news,
                owed_here v n mine.0 left mine.1 ∙ ap (λ (x : Option Owed). missed inv w.contacts n (owed_of x).contacts) same,
                λ m is. Contains-append_right h.sent.0 more m (subst (λ (r : Option Notice). Contains (option_to_list r) m) (sym (notice ∙ is)) (0, omega arith, refl)),
              ),
            ))
          ];
          once = λ k. one_end_more k n h.sent.0 (end_notice inv v n o (owed_at v n)) (λ m is. end_object inv v n o (owed_at v n) m is) (h.once k);
        }

pub are_told : (inv : Configuration) (w : World) (count : ℕ) → AreTold inv w count (told_ends_among inv w count).notices (told_ends_among inv w count).owed
are_told inv w zero = record { sent = ([], sym (append-nil w.notices), All-nil (λ n. IsEnd inv w n.subject.object n)); later = λ k high. refl; each = λ k low. absurd (omega (arith, low)); once = λ k. omega arith }
are_told inv w (suc n) = (let v : World = told_ends_among inv w n in
    let next : n + 1 ≡ suc n = omega arith in
    subst (λ (k : ℕ). AreTold inv w k (told_ends_among inv w k).notices (told_ends_among inv w k).owed) next
    (subst (λ (u : World). AreTold inv w (n + 1) u.notices u.owed) (sym (ends_next inv w n))
    (subst (λ (u : World). AreTold inv w (n + 1) (told_end inv u n).notices (told_end inv u n).owed) (sym (are_ended inv w n).left) (told_next inv w v.notices v.owed n (are_told inv w n)))))

-- ---- one contact, where ends were told

pub was_owed : (inv : Configuration) (w : World) (k c : ℕ) (new : List Notice) (x : Option Owed) → IsEnded inv w k new x → has_contact c (owed_of x).contacts ≡ true → IsOwed w k c
was_owed inv w k c new x (inl idle) h = ap (λ (y : Option Owed). has_contact c (owed_of y).contacts) (sym idle.1) ∙ h
was_owed inv w k c new x (inr (d, inl stale)) h = absurd (true≢false (sym h ∙ ap (has_contact c) stale.1))
was_owed inv w k c new x (inr (d, inr told)) h = (and_parts (not (is_within_reach inv w.contacts k c)) (has_contact c (owed_at w k).contacts)
    (sym (kept (λ a. not (is_within_reach inv w.contacts k a)) c (owed_at w k).contacts) ∙ sym (ap (has_contact c) told.1) ∙ h)).1

-- those whom the notice of the end reaches
pub end_reaches : (inv : Configuration) (w : World) (k : ℕ) (o : Object) (x : Owed) (n : Notice) → end_notice inv w k o x ≡ Some n → n.contacts ≡ reached inv w.contacts k x.contacts
end_reaches inv w k o x n is = someone_is (λ m. m.contacts ≡ reached inv w.contacts k x.contacts) (subject_of w.clock words.Recovery k o x.number) _ n is refl

pub not_told : (inv : Configuration) (w : World) (k c : ℕ) (new : List Notice) (x : Option Owed) (n : Notice) → IsEnded inv w k new x → has_contact c (owed_of x).contacts ≡ true → IsEnd inv w k n → has_contact c n.contacts ≡ true → ⊥
not_told inv w k c new x n (inl idle) h (d, news, is) to = true≢false (sym (due_at inv w k d.spec d.of d.known d.there ∙ d.due) ∙ idle.0)
not_told inv w k c new x n (inr (d, inl stale)) h end to = true≢false (sym h ∙ ap (has_contact c) stale.1)
not_told inv w k c new x n (inr (d, inr told)) h (there, news, is) to =
    let xs = (owed_at w k).contacts in
    let out : not (is_within_reach inv w.contacts k c) ≡ true = (and_parts (not (is_within_reach inv w.contacts k c)) (has_contact c xs) (sym (kept (λ a. not (is_within_reach inv w.contacts k a)) c xs) ∙ sym (ap (has_contact c) told.1) ∙ h)).0 in
    let within : is_within_reach inv w.contacts k c ≡ true = (and_parts (is_within_reach inv w.contacts k c) (has_contact c xs) (sym (kept (is_within_reach inv w.contacts k) c xs) ∙ ap (has_contact c) (sym (end_reaches inv w k there.of (owed_at w k) n is)) ∙ to)).0 in
    true≢false (sym within ∙ not-true (is_within_reach inv w.contacts k c) out)

-- somebody among several
pub not_nobody : (c : ℕ) (xs : List ℕ) → has_contact c xs ≡ true → nat_lt 0 (length xs) ≡ true
not_nobody c [] h = absurd (true≢false (sym h))
not_nobody c (x ∷ xs) h = lt-ltb 0 (length (x ∷ xs)) (omega arith)

pub still_owed_to : (inv : Configuration) (w : World) (k c : ℕ) (new : List Notice) (x : Option Owed) → IsEnded inv w k new x → IsOwed w k c → ((d : IsDue inv w k) → is_news w.clock d.of ≡ false → ⊥)
    → ((n : Notice) → Contains new n → n.subject.word ≡ words.Recovery → n.subject.object ≡ k → has_contact c n.contacts ≡ true → ⊥) → has_contact c (owed_of x).contacts ≡ true
still_owed_to inv w k c new x (inl idle) h news untold = ap (λ (y : Option Owed). has_contact c (owed_of y).contacts) idle.1 ∙ h
still_owed_to inv w k c new x (inr (d, inl stale)) h news untold = absurd (news d stale.0)
still_owed_to inv w k c new x (inr (d, inr told)) h news untold = by (is_within_reach inv w.contacts k c) refl
  where
    xs : List ℕ
    xs = (owed_at w k).contacts

    s : Subject
    s = subject_of w.clock words.Recovery k d.of (owed_at w k).number

    by : (b : Bool) → is_within_reach inv w.contacts k c ≡ b → has_contact c (owed_of x).contacts ≡ true
    by false out = ap (has_contact c) told.1 ∙ kept (λ a. not (is_within_reach inv w.contacts k a)) c xs ∙ ap (λ (b : Bool). not b && has_contact c xs) out ∙ h
    by true within =
        let n : Notice = record { subject = s; contacts = reached inv w.contacts k xs } in
        let to : has_contact c (reached inv w.contacts k xs) ≡ true = kept (is_within_reach inv w.contacts k) c xs ∙ ap (λ (b : Bool). b && has_contact c xs) within ∙ h in
        let is : end_notice inv w k d.of (owed_at w k) ≡ Some n = ap (λ (b : Bool). if b then Some n else None) (not_nobody c (reached inv w.contacts k xs) to) in
        absurd (untold n (told.2 n is) refl refl to)

-- ---- those whom problems reach are owed the end too

owed_with_has : (inv : Configuration) (k c : ℕ) (xs ys : List ℕ) → has_contact c (owed_with inv k xs ys) ≡ true → is_owed_with inv k xs ys c ≡ true
unfolding owed_with
owed_with_has inv k c xs ys h = (and_parts (is_owed_with inv k xs ys c) (has_contact c (range_with_len 0 (length inv.contacts))) (sym (kept (is_owed_with inv k xs ys) c (range_with_len 0 (length inv.contacts))) ∙ h)).0

has_owed_with : (inv : Configuration) (k c : ℕ) (xs ys : List ℕ) → c < length inv.contacts → is_owed_with inv k xs ys c ≡ true → has_contact c (owed_with inv k xs ys) ≡ true
unfolding owed_with
has_owed_with inv k c xs ys low is = kept (is_owed_with inv k xs ys) c (range_with_len 0 (length inv.contacts))
    ∙ ap (λ (b : Bool). b && has_contact c (range_with_len 0 (length inv.contacts))) is ∙ in_range (length inv.contacts) c low

-- one who was notified of the problem of the object, and hears of its end
pub record IsTold (inv : Configuration) (k c : ℕ) (ns : List Notice) : Type 0 where
  pub notice : Notice
  pub in_them : Contains ns notice
  pub word_is : notice.subject.word ≡ words.Problem
  pub object_is : notice.subject.object ≡ k
  pub to : has_contact c notice.contacts ≡ true
  pub hears : hears inv k c ≡ true

abbrev pub Has : Configuration → (k c : ℕ) → List Owed → Type 0
Has inv k c owed = has_contact c (owed_of (slice_get owed k)).contacts ≡ true

-- a change of who is owed the end of one object: that object's, which is none or one, and another
change_cases : (P : Owed → Type 0) (owed : List Owed) (j k : ℕ) (f : Owed → Owed) → (slice_get owed j ≡ None → j ≡ k → P (owed_of (slice_get owed k))) → ((x : Owed) → slice_get owed j ≡ Some x → j ≡ k → P (f x)) → ((j ≡ k → ⊥) → P (owed_of (slice_get owed k)))
    → P (owed_of (slice_get (changed_at owed j f) k))
change_cases P owed j k f none some other = by_place (eqb j k) refl
  where
    by_owed : (r : Option Owed) → slice_get owed j ≡ r → j ≡ k → P (owed_of (slice_get (changed_at owed j f) k))
    by_owed None at same = subst (λ (xs : List Owed). P (owed_of (slice_get xs k))) (sym (ap (change_to owed j f) at)) (none at same)
    by_owed (Some x) at same = subst (λ (r : Option Owed). P (owed_of r)) (sym (ap (slice_get (changed_at owed j f)) (sym same) ∙ changed_here owed j f x at)) (some x at same)

    by_place : (b : Bool) → eqb j k ≡ b → P (owed_of (slice_get (changed_at owed j f) k))
    by_place true here = by_owed (slice_get owed j) refl (eqb-true j k here)
    by_place false there = subst (λ (r : Option Owed). P (owed_of r)) (sym (changed_other owed j k f (eqb-false j k there))) (other (eqb-false j k there))

pub owes_cases : (inv : Configuration) (k c : ℕ) (ns : List Notice) (owed : List Owed) → Has inv k c (fold (owes inv) owed ns) → Has inv k c owed ⊎ IsTold inv k c ns
owes_cases inv k c [] owed h = inl h
owes_cases inv k c (n ∷ ns) owed h = elim (owes_cases inv k c ns (owes inv owed n) h) [
  | inl now ↦ by_word (is_problem_word n.subject.word) refl (one_hears inv n.subject.object n.contacts) now
  | inr told ↦ inr (record { notice = told.notice; in_them = Contains-append_right (n ∷ []) ns told.notice told.in_them; word_is = told.word_is; object_is = told.object_is; to = told.to; hears = told.hears })
]
  where
    of_notice : (x : Owed) → is_problem_word n.subject.word ≡ true → slice_get owed n.subject.object ≡ Some x → n.subject.object ≡ k → has_contact c (owed_after inv n x).contacts ≡ true → Has inv k c owed ⊎ IsTold inv k c (n ∷ ns)
    of_notice x is at same now = elim (or_cases (has_contact c x.contacts) (has_contact c n.contacts && hears inv n.subject.object c) (owed_with_has inv n.subject.object c x.contacts n.contacts now)) [
      | inl before ↦ inl (ap (λ (r : Option Owed). has_contact c (owed_of r).contacts) (ap (slice_get owed) (sym same) ∙ at) ∙ before)
      | inr new ↦ (let parts = and_parts (has_contact c n.contacts) (hears inv n.subject.object c) new in
          inr (record { notice = n; in_them = (0, omega arith, refl); word_is = problem_word n.subject.word is; object_is = same; to = parts.0; hears = ap (λ (j : ℕ). hears inv j c) (sym same) ∙ parts.1 }))
    ]

    by_word : (b : Bool) → is_problem_word n.subject.word ≡ b → (d : Bool) → Has inv k c (if b && d then changed_at owed n.subject.object (owed_after inv n) else owed) → Has inv k c owed ⊎ IsTold inv k c (n ∷ ns)
    by_word true is true now = change_cases (λ x. has_contact c x.contacts ≡ true → Has inv k c owed ⊎ IsTold inv k c (n ∷ ns)) owed n.subject.object k (owed_after inv n)
        (λ at same was. inl was) (λ x at same was. of_notice x is at same was) (λ other was. inl was) now
    by_word true is false now = inl now
    by_word false is true now = inl now
    by_word false is false now = inl now

owes_one : (inv : Configuration) (k c : ℕ) (n : Notice) (owed : List Owed) → c < length inv.contacts → Has inv k c owed → Has inv k c (owes inv owed n)
owes_one inv k c n owed low h = by_word (is_problem_word n.subject.word) (one_hears inv n.subject.object n.contacts)
  where
    by_word : (b d : Bool) → Has inv k c (if b && d then changed_at owed n.subject.object (owed_after inv n) else owed)
    by_word true true = change_cases (λ x. has_contact c x.contacts ≡ true) owed n.subject.object k (owed_after inv n) (λ at same. h)
        (λ x at same. has_owed_with inv n.subject.object c x.contacts n.contacts low
        (ap (λ (b : Bool). b || (has_contact c n.contacts && hears inv n.subject.object c)) (ap (λ (r : Option Owed). has_contact c (owed_of r).contacts) (sym at ∙ ap (slice_get owed) same) ∙ h)))
        (λ other. h)
    by_word true false = h
    by_word false true = h
    by_word false false = h

pub owes_keeps : (inv : Configuration) (k c : ℕ) (ns : List Notice) (owed : List Owed) → c < length inv.contacts → Has inv k c owed → Has inv k c (fold (owes inv) owed ns)
owes_keeps inv k c [] owed low h = h
owes_keeps inv k c (n ∷ ns) owed low h = owes_keeps inv k c ns (owes inv owed n) low (owes_one inv k c n owed low h)

pub owes_long : (inv : Configuration) (ns : List Notice) (owed : List Owed) → length (fold (owes inv) owed ns) ≡ length owed
owes_long inv [] owed = refl
owes_long inv (n ∷ ns) owed = owes_long inv ns (owes inv owed n) ∙ by_word (is_problem_word n.subject.word) (one_hears inv n.subject.object n.contacts)
  where
    by_word : (b d : Bool) → length (if b && d then changed_at owed n.subject.object (owed_after inv n) else owed) ≡ length owed
    by_word true true = length-changed_at owed n.subject.object (owed_after inv n)
    by_word true false = refl
    by_word false true = refl
    by_word false false = refl

-- one of several passes a test
pub one_passes : (p : ℕ → Bool) (c : ℕ) (xs : List ℕ) → has_contact c xs ≡ true → p c ≡ true → list_any p xs ≡ true
one_passes p c [] h passes = h
one_passes p c (x ∷ xs) h passes = elim (or_cases (eqb x c) (has_contact c xs) h) [
  | inl here ↦ ap (λ (b : Bool). b || list_any p xs) (ap p (eqb-true x c here) ∙ passes)
  | inr later ↦ or_right (p x) (list_any p xs) (one_passes p c xs later passes)
]

owes_told : (inv : Configuration) (k c : ℕ) (n : Notice) (owed : List Owed) → n.subject.word ≡ words.Problem → n.subject.object ≡ k → has_contact c n.contacts ≡ true → hears inv k c ≡ true → k < length owed → Has inv k c (owes inv owed n)
owes_told inv k c n owed word same to hear there = ap (λ (b : Bool). has_contact c (owed_of (slice_get (if b then changed_at owed n.subject.object (owed_after inv n) else owed) k)).contacts) both
    ∙ change_cases (λ x. has_contact c x.contacts ≡ true) owed n.subject.object k (owed_after inv n) (λ at here. absurd (none at))
    (λ x at here. has_owed_with inv n.subject.object c x.contacts n.contacts (heard_of inv k c hear).1
    (or_right (has_contact c x.contacts) (has_contact c n.contacts && hears inv n.subject.object c) (ap (λ (b : Bool). b && hears inv n.subject.object c) to ∙ hears_it)))
    (λ other. absurd (other same))
  where
    hears_it : hears inv n.subject.object c ≡ true
    hears_it = ap (λ (j : ℕ). hears inv j c) same ∙ hear

    both : (is_problem_word n.subject.word && one_hears inv n.subject.object n.contacts) ≡ true
    both = ap (λ (x : Word). is_problem_word x && one_hears inv n.subject.object n.contacts) word ∙ one_passes (hears inv n.subject.object) c n.contacts to hears_it

    none : slice_get owed n.subject.object ≡ None → ⊥
    none at = elim (slice_get_cases owed k).1 [
      | inl x ↦ (let clash : None ≡ Some x.0 = sym at ∙ ap (slice_get owed) same ∙ x.2 in cc)
      | inr past ↦ (let far = past.0 in omega (arith, there, far))
    ]

pub owes_reaches : (inv : Configuration) (k c : ℕ) (ns : List Notice) (owed : List Owed) → IsTold inv k c ns → k < length owed → Has inv k c (fold (owes inv) owed ns)
owes_reaches inv k c ns owed told there = at_index ns owed told.in_them.0 told.in_them.1 told.in_them.2 there
  where
    at_index : (xs : List Notice) (ys : List Owed) (i : ℕ) → i < length xs → get_or xs i told.notice ≡ told.notice → k < length ys → Has inv k c (fold (owes inv) ys xs)
    at_index [] ys i low is within = absurd (omega (arith, low))
    at_index (x ∷ xs) ys zero low is within = owes_keeps inv k c xs (owes inv ys x) (heard_of inv k c told.hears).1
        (owes_told inv k c x ys (ap (λ (n : Notice). n.subject.word) is ∙ told.word_is) (ap (λ (n : Notice). n.subject.object) is ∙ told.object_is) (ap (λ (n : Notice). has_contact c n.contacts) is ∙ told.to) told.hears within)
    at_index (x ∷ xs) ys (suc i) low is within = at_index xs (owes inv ys x) i (omega (arith, low)) is (let long = owes_long inv (x ∷ []) ys in omega (arith, within, long))

-- ---- the number of the end

-- the ends that are told leave it
pub ends_number : (inv : Configuration) (w : World) (ks : List ℕ) (k : ℕ) → (owed_of (slice_get (fold (told_end inv) w ks).owed k)).number ≡ (owed_of (slice_get w.owed k)).number
ends_number inv w [] k = refl
ends_number inv w (j ∷ ks) k = ends_number inv (told_end inv w j) ks k
    ∙ end_cases (λ (u : World). (owed_of (slice_get u.owed k)).number ≡ (owed_of (slice_get w.owed k)).number) inv w j (λ idle. refl)
    (λ spec o known at due stale. changed_reads (λ (x : Option Owed). (owed_of x).number) w.owed j k (λ x. record x { contacts = [] }) (λ x. refl))
    (λ spec o known at due news. changed_reads (λ (x : Option Owed). (owed_of x).number) w.owed j k (λ x. record x { contacts = missed inv w.contacts j (owed_at w j).contacts }) (λ x. refl))

-- the last notice that begins a problem gives it
pub owes_number : (inv : Configuration) (k : ℕ) (ns : List Notice) (owed : List Owed) → k < length owed
    → (All (λ n. IsBeginning inv k n → ⊥) ns × ((owed_of (slice_get (fold (owes inv) owed ns) k)).number ≡ (owed_of (slice_get owed k)).number))
    ⊎ ((n : Notice) × Contains ns n × IsBeginning inv k n × ((owed_of (slice_get (fold (owes inv) owed ns) k)).number ≡ n.subject.number))
owes_number inv k [] owed low = inl (All-nil (λ n. IsBeginning inv k n → ⊥), refl)
owes_number inv k (n ∷ ns) owed low = elim (owes_number inv k ns (owes inv owed n) (let long = owes_long inv (n ∷ []) owed in omega (arith, low, long))) [
  | inr later ↦ inr (later.0, Contains-append_right (n ∷ []) ns later.0 later.1, later.2, later.3)
  | inl none ↦ by_word (is_problem_word n.subject.word) refl (one_hears inv n.subject.object n.contacts) refl none.0 none.1
]
  where
    after : ℕ
    after = (owed_of (slice_get (fold (owes inv) (owes inv owed n) ns) k)).number

    Result : Type 0
    Result = (All (λ m. IsBeginning inv k m → ⊥) (n ∷ ns) × (after ≡ (owed_of (slice_get owed k)).number)) ⊎ ((m : Notice) × Contains (n ∷ ns) m × IsBeginning inv k m × (after ≡ m.subject.number))

    -- the notice begins no problem of this object
    passes : (IsBeginning inv k n → ⊥) → All (λ m. IsBeginning inv k m → ⊥) ns → (owes inv owed n) ≡ owed → after ≡ (owed_of (slice_get (owes inv owed n) k)).number → Result
    passes not_it rest same is = inl (All-cons (λ m. IsBeginning inv k m → ⊥) n ns not_it rest, is ∙ ap (λ (xs : List Owed). (owed_of (slice_get xs k)).number) same)

    by_word : (b : Bool) → is_problem_word n.subject.word ≡ b → (d : Bool) → one_hears inv n.subject.object n.contacts ≡ d → All (λ m. IsBeginning inv k m → ⊥) ns → after ≡ (owed_of (slice_get (owes inv owed n) k)).number → Result
    by_word true word true hear rest is = by_place (eqb n.subject.object k) refl
      where
        changed : owes inv owed n ≡ changed_at owed n.subject.object (owed_after inv n)
        changed = ap (λ (b : Bool). if b && one_hears inv n.subject.object n.contacts then changed_at owed n.subject.object (owed_after inv n) else owed) word
            ∙ ap (λ (b : Bool). if b then changed_at owed n.subject.object (owed_after inv n) else owed) hear

        by_place : (b : Bool) → eqb n.subject.object k ≡ b → Result
        by_place false other = inl (
          All-cons (λ m. IsBeginning inv k m → ⊥) n ns (λ begins. eqb-false n.subject.object k other begins.object_is) rest,
          is ∙ ap (λ (xs : List Owed). (owed_of (slice_get xs k)).number) changed ∙ ap (λ (x : Option Owed). (owed_of x).number) (changed_other owed n.subject.object k (owed_after inv n) (eqb-false n.subject.object k other)),
        )
        by_place true here = elim (slice_get_cases owed k).1 [
          | inl x ↦ (let same = eqb-true n.subject.object k here in inr (
            n,
            (0, omega arith, refl),
            record { word_is = problem_word n.subject.word word; object_is = same; heard = ap (λ (j : ℕ). one_hears inv j n.contacts) (sym same) ∙ hear },
            is ∙ ap (λ (xs : List Owed). (owed_of (slice_get xs k)).number) changed
                ∙ ap (λ (x : Option Owed). (owed_of x).number) (ap (slice_get (changed_at owed n.subject.object (owed_after inv n))) (sym same) ∙ changed_here owed n.subject.object (owed_after inv n) x.0 (ap (slice_get owed) same ∙ x.2)),
          ))
          | inr past ↦ absurd (let far = past.0 in omega (arith, low, far))
        ]
    by_word true word false deaf rest is = passes (λ begins. true≢false (sym (ap (λ (j : ℕ). one_hears inv j n.contacts) begins.object_is ∙ begins.heard) ∙ deaf)) rest
        (ap (λ (b : Bool). if b && one_hears inv n.subject.object n.contacts then changed_at owed n.subject.object (owed_after inv n) else owed) word
        ∙ ap (λ (b : Bool). if b then changed_at owed n.subject.object (owed_after inv n) else owed) deaf) is
    by_word false word d hear rest is = passes (λ begins. true≢false (sym (ap is_problem_word begins.word_is) ∙ word)) rest
        (ap (λ (b : Bool). if b && one_hears inv n.subject.object n.contacts then changed_at owed n.subject.object (owed_after inv n) else owed) word) is

-- ---- how many

pub each_long : (inv : Configuration) (ks : List ℕ) (u : World) → length (fold (told_end inv) u ks).owed ≡ length u.owed
each_long inv [] u = refl
each_long inv (k ∷ ks) u = each_long inv ks (told_end inv u k)
    ∙ end_cases (λ (x : World). length x.owed ≡ length u.owed) inv u k (λ idle. refl) (λ spec o known at due stale. length-changed_at u.owed k (λ x. record x { contacts = [] }))
    (λ spec o known at due news. length-changed_at u.owed k (λ x. record x { contacts = missed inv u.contacts k (owed_at u k).contacts }))

pub recovery_word : (word : Word) → is_recovery_word word ≡ true → word ≡ words.Recovery
recovery_word words.Recovery is = refl
recovery_word word is = absurd (cc)
