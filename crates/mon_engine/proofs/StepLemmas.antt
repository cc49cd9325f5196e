-- An entry as a whole: what it does, what is told of what stands, and who is owed an end.
use Rattle.std.proofs.Common.{◌≡◌, ◌≢◌, inl, inr, ℕ, ◌+◌, ◌<◌, ◌≤◌, Bool, true, false, true≢false, ◌&&◌, List, [], ◌∷◌, ◌++◌, length, drop, fold, Option, Some, None, All, slice_get, if◌then◌else◌, max, refl, ap, sym, ◌∙◌, subst, append_assoc, arith, append-nil, length-append, get_or}
use Rattle.std.proofs.lemmas.Bool.{ne_eqb}
use Rattle.std.proofs.lemmas.List.Elements.{All-head, All-tail, All-weaker, All-filter, All-drop, All-nil}
use Rattle.cmd_types.specs.declared.limits.TheConstants.{GREATEST_NUMBER}
use Rattle.cmd_types.specs.declared.entry.Entry.{Entry}
use Rattle.mon_downtime.specs.Clock.{WhatIsDueHappens, NothingIsLeft}
use Rattle.mon_inventory.specs.Configuration.{Configuration, recovers_the_told}
use Rattle.mon_notify.specs.Ends.{one_hears, owed_with, is_owed_with}
use Rattle.mon_engine.specs.declared.ends.Owed.{Owed}
use Rattle.mon_engine.specs.declared.notice.Notice.{Notice}
use Rattle.mon_engine.specs.declared.notice.Word.TheVariants.{Problem}
use Rattle.mon_engine.specs.declared.notices.Occasion.TheVariants.{Clock}
use Rattle.mon_engine.specs.declared.object.Object.{Object}
use Rattle.mon_engine.specs.declared.outcome.Outcome.{Outcome}
use Rattle.mon_engine.specs.declared.withheld.Withheld.{Withheld}
use Rattle.mon_engine.specs.ByClock.{told_by_clock}
use Rattle.mon_engine.specs.ByClockLaws.{unless, ready_notice, ready_notice_of, NothingIsToldByTheClock, NobodyIsForgotten}
use Rattle.mon_engine.specs.Clock.{advanced}
use Rattle.mon_engine.specs.Ends.{owed_after, owes, owing, told_ends}
use Rattle.mon_engine.specs.Notices.{is_problem_word}
use Rattle.mon_engine.specs.NoticeLaws.{went_out}
use Rattle.mon_engine.specs.Places.{changed_at}
use Rattle.mon_engine.specs.Sound.{IsNoticeOf, IsOwing, IsWorldAt, IsWorld, ever, raised}
use Rattle.mon_engine.specs.Step.{acted, effect, step, stood}
use Rattle.mon_engine.specs.Wakes.{IsQuiet}
use Rattle.mon_engine.specs.Withheld.{next_problem, withheld, withheld_of}
use Rattle.mon_engine.specs.World.{World}
use Rattle.mon_engine.proofs.ByClockLemmas.{clock_cases, clock_more, clock_object, clock_off, none_is_ready, ready_at}
use Rattle.mon_engine.proofs.EndLemmas.{IsRecovery, ends_more, ends_off, ends_objects, owing_due, owing_leaves, step_leaves, step_notices, step_objects, IsOfOneThatStands}
use Rattle.mon_engine.proofs.ForgottenLemmas.{acted_grows}
use Rattle.mon_engine.proofs.ListLemmas.{All-changed_at, length-changed_at}
use Rattle.mon_engine.proofs.NewsLemmas.{More, more_after, more_weaker}
use Rattle.mon_engine.proofs.OnceLemmas.{problem_word}
use Rattle.mon_engine.proofs.PartLemmas.{later, with_owed_all}
use Rattle.mon_engine.proofs.RepeatLemmas.{IsSentWith, all_sent_with}
use Rattle.mon_engine.proofs.SoundLemmas.{stood_sound}
use Rattle.mon_engine.proofs.UnlessLemmas.{withheld_is}
use Rattle.std.proofs.lemmas.Option.{same_Some, slice_get_cases}
use Rattle.std.specs.List.{range_with_len}
use Rattle.std.proofs.lemmas.List.FromFn.{get_or-range_with_len, length-range_with_len}
use Rattle.mon_engine.specs.Objects.{after_told}

-- ---- without the options

pub nothing_is_told_by_the_clock : NothingIsToldByTheClock
unfolding step owing
nothing_is_told_by_the_clock inv w e by_clock by_end =
    let v = (acted inv w e).0 in
    let stands : stood inv v ≡ v = ap (told_by_clock inv) (ends_off inv v by_end) ∙ clock_off inv v by_clock in
    ap (λ (x : World). (x, (acted inv w e).1)) (ap (owing inv (length w.notices)) stands ∙ ap (λ (b : Bool). if b then record v { owed = fold (owes inv) v.owed (drop (length w.notices) v.notices) } else v) by_end)

-- ---- nobody is forgotten

owing_of : (inv : Configuration) (w : World) (e : Entry) → (step inv w e).0 ≡ record (told_by_clock inv (told_ends inv (acted inv w e).0)) { owed = (step inv w e).0.owed }
unfolding step
owing_of inv w e = owing_leaves inv (length w.notices) (told_by_clock inv (told_ends inv (acted inv w e).0))

pub nobody_is_forgotten : NobodyIsForgotten
unfolding withheld
nobody_is_forgotten inv w e k spec o on known at bad free =
    let m : World = told_ends inv (acted inv w e).0 in
    let v : World = told_by_clock inv m in
    let there : slice_get v.objects k ≡ Some o = ap (λ (os : List Object). slice_get os k) (sym (step_objects inv w e)) ∙ at in
    let quiet : ready_notice_of inv v k spec o ≡ None = sym (ready_at inv v k spec o known there) ∙ none_is_ready inv m k on in
    let same : withheld inv v Clock k ≡ withheld inv (step inv w e).0 Clock k = sym (ap (λ (x : World). withheld inv x Clock k) (owing_of inv w e)) in
    let passes : withheld_of inv v Clock k spec o ≡ None = sym (withheld_is inv v Clock k spec o known there) ∙ same ∙ free in
    let tells : Some (next_problem inv v k spec o) ≡ None = ap (λ (h : Option Withheld). unless h (next_problem inv v k spec o)) (sym passes) ∙ ap (λ (b : Bool). if b then None else unless (withheld_of inv v Clock k spec o) (next_problem inv v k spec o)) (sym (ne_eqb o.status.code 0 bad)) ∙ quiet in
    absurd cc

-- ---- what the code has done

-- d is what the entry does to w
pub acted_is : (inv : Configuration) (w a b d : World) (e : Entry) (o : Outcome) (t : ℕ) → t ≡ max w.clock e.stamped.time → a ≡ advanced inv w t → effect inv a e ≡ (b, o) → d ≡ advanced inv (record b { entries = b.entries + 1 }) t → acted inv w e ≡ (d, o)
unfolding acted
acted_is inv w a b d e o t at first done last =
    let now : ℕ = max w.clock e.stamped.time in
    let entered : (World × Outcome) = effect inv (advanced inv w now) e in
    let found : a ≡ advanced inv w now = first ∙ ap (advanced inv w) at in
    let left : entered ≡ (b, o) = ap (λ (x : World). effect inv x e) (sym found) ∙ done in
    ap (λ (p : World × Outcome). (advanced inv (record p.0 { entries = p.0.entries + 1 }) now, p.1)) left ∙ ap (λ (n : ℕ). (advanced inv (record b { entries = b.entries + 1 }) n, o)) (sym at) ∙ ap (λ (x : World). (x, o)) (sym last)

pub acted_left : (inv : Configuration) (w a b d : World) (e : Entry) (t : ℕ) → t ≡ max w.clock e.stamped.time → a ≡ advanced inv w t → (effect inv a e).0 ≡ b → d ≡ advanced inv (record b { entries = b.entries + 1 }) t → (acted inv w e).0 ≡ d
acted_left inv w a b d e t at first done last = ap (λ (p : World × Outcome). p.0) (acted_is inv w a b d e (effect inv a e).1 t at first (ap (λ (x : World). (x, (effect inv a e).1)) done) last)

-- what is left in the end is what the entry leaves
pub step_is : (inv : Configuration) (w d u v : World) (e : Entry) (n : ℕ) → (acted inv w e).0 ≡ d → u ≡ stood inv d → n ≡ length w.notices → v ≡ owing inv n u → v ≡ (step inv w e).0
unfolding step
step_is inv w d u v e n act stands many owes = owes ∙ ap (λ (k : ℕ). owing inv k u) many ∙ ap (owing inv (length w.notices)) (stands ∙ ap (stood inv) (sym act))

-- the notices so far stay
pub stood_grows : (inv : Configuration) (w : World) (e : Entry) → length w.notices ≤ length (stood inv (acted inv w e).0).notices
stood_grows inv w e = longer (went_out w (acted inv w e).0 ++ more.0) (stood inv (acted inv w e).0).notices (more.1 ∙ ap (λ (ns : List Notice). ns ++ more.0) (acted_grows inv w e) ∙ append_assoc w.notices (went_out w (acted inv w e).0) more.0)
  where
    Any : Notice → Type 0
    Any n = Unit {0}

    v : World
    v = (acted inv w e).0

    m : World
    m = told_ends inv v

    more : More Any v.notices (stood inv v).notices
    more = more_after Any v.notices m.notices (told_by_clock inv m).notices (more_weaker IsRecovery Any v.notices m.notices (λ n is. tt) (ends_more inv v))
        (clock_cases inv m (λ (u : World). More Any m.notices u.notices) (([], sym (append-nil m.notices), All-nil Any)) (λ u tells. clock_more inv m u Any tells (λ k n ready. tt)))

    longer : (new ns : List Notice) → ns ≡ w.notices ++ new → length w.notices ≤ length ns
    longer new ns is = (let all = ap (λ (xs : List Notice). length xs) is ∙ length-append w.notices new in omega (arith, all))

-- ---- each PROBLEM of an entry is of an object that stands in that problem, with its number

abbrev pub IsOfProblem : World → Notice → Type 0
IsOfProblem u n = n.subject.word ≡ Problem → (o : Object) → slice_get u.objects n.subject.object ≡ Some o → (o.status.code ≢ 0) × (n.subject.number ≤ o.number)

sent_stands : (inv : Configuration) (w : World) (e : Entry) (n : Notice) → IsSentWith inv w e n → (o : Object) → slice_get (step inv w e).0.objects n.subject.object ≡ Some o → (o.status.code ≢ 0) × (n.subject.number ≤ o.number)
sent_stands inv w e n (inl sent) o at =
    let v : World = (acted inv w e).0 in
    let m : World = told_ends inv v in
    let there : slice_get m.objects n.subject.object ≡ Some sent.left = ap (λ (os : List Object). slice_get os n.subject.object) (ends_objects inv v) ∙ sent.there in
    let now : slice_get (told_by_clock inv m).objects n.subject.object ≡ Some o = ap (λ (os : List Object). slice_get os n.subject.object) (sym (step_objects inv w e)) ∙ at in
    let number = sent.number in
    let next = sent.next in
    elim (clock_object inv m n.subject.object sent.left there) [
      | inl same ↦ (let is = same_Some o sent.left (sym now ∙ same) in
          (λ zero_is. sent.problem (sym sent.code ∙ ap (λ (x : Object). x.status.code) (sym is) ∙ zero_is), (let few = ap (λ (x : Object). x.number) is in omega (arith, few, number, next))))
      | inr told ↦ (let is = same_Some o (after_told m.clock sent.left) (sym now ∙ told.0) in
          (λ zero_is. sent.problem (sym sent.code ∙ ap (λ (x : Object). x.status.code) (sym is) ∙ zero_is), (let few = ap (λ (x : Object). x.number) is in omega (arith, few, number, next))))
    ]
sent_stands inv w e n (inr sent) o at =
    let is = same_Some o sent.left (sym at ∙ sent.there) in
    let number = sent.number in
    let next = sent.next in
    (λ zero_is. sent.problem (sym sent.code ∙ ap (λ (x : Object). x.status.code) (sym is) ∙ zero_is), (let few = ap (λ (x : Object). x.number) is in omega (arith, few, number, next)))

pub problems_stand : (each : WhatIsDueHappens) (done : NothingIsLeft) (inv : Configuration) (w : World) (e : Entry) → All (IsOfProblem (stood inv (acted inv w e).0)) (drop (length w.notices) (stood inv (acted inv w e).0).notices)
problems_stand each done inv w e =
    let u : World = stood inv (acted inv w e).0 in
    subst (λ (ns : List Notice). All (IsOfProblem u) (drop (length w.notices) ns)) (step_notices inv w e)
    (All-weaker (λ n. n.subject.word ≡ Problem → IsSentWith inv w e n) (IsOfProblem u) (λ n h word o at. sent_stands inv w e n (h word) o (ap (λ (os : List Object). slice_get os n.subject.object) (step_objects inv w e) ∙ at)) (went_out w (step inv w e).0) (all_sent_with each done inv w e))

-- ---- who is owed an end holds together

range_within : (n : ℕ) → All (λ c. c < n) (range_with_len 0 n)
range_within n k d lt =
    let here : k < n = omega (arith, length-range_with_len 0 n) in
    rw (get_or-range_with_len 0 n k d here) (omega arith)

owed_within : (inv : Configuration) (object : ℕ) (xs ys : List ℕ) → All (λ c. c < length inv.contacts) (owed_with inv object xs ys)
unfolding owed_with
owed_within inv object xs ys = All-filter (is_owed_with inv object xs ys) (λ c. c < length inv.contacts) (range_with_len 0 (length inv.contacts)) (range_within (length inv.contacts))

-- the number of a PROBLEM is bounded
abbrev IsFew : (raised : ℕ) → Notice → Type 0
IsFew m n = n.subject.word ≡ Problem → n.subject.number ≤ GREATEST_NUMBER + m

owes_sound : (inv : Configuration) (m : ℕ) (ns : List Notice) (owed : List Owed) → All (IsNoticeOf inv) ns → All (IsFew m) ns → IsOwing inv owed → All (λ x. x.number ≤ GREATEST_NUMBER + m) owed
    → IsOwing inv (fold (owes inv) owed ns) × All (λ x. x.number ≤ GREATEST_NUMBER + m) (fold (owes inv) owed ns)
owes_sound inv m [] owed known few h ends = (h, ends)
owes_sound inv m (n ∷ ns) owed known few h ends = (let next = by_word (is_problem_word n.subject.word) refl (one_hears inv n.subject.object n.contacts) in
    owes_sound inv m ns (owes inv owed n) (All-tail (IsNoticeOf inv) n ns known) (All-tail (IsFew m) n ns few) next.0 next.1)
  where
    Sound : List Owed → Type 0
    Sound xs = IsOwing inv xs × All (λ x. x.number ≤ GREATEST_NUMBER + m) xs

    by_word : (b : Bool) → is_problem_word n.subject.word ≡ b → (c : Bool) → Sound (if b && c then changed_at owed n.subject.object (owed_after inv n) else owed)
    by_word true is true = (
      record {
        as_many = length-changed_at owed n.subject.object (owed_after inv n) ∙ h.as_many;
        within = All-changed_at (λ x. All (λ c. c < length inv.contacts) x.contacts) owed n.subject.object (owed_after inv n) (λ x at was. owed_within inv n.subject.object x.contacts n.contacts) h.within;
      },
      All-changed_at (λ x. x.number ≤ GREATEST_NUMBER + m) owed n.subject.object (owed_after inv n) (λ x at was. All-head (IsFew m) n ns few (problem_word n.subject.word is)) ends,
    )
    by_word true is false = (h, ends)
    by_word false is true = (h, ends)
    by_word false is false = (h, ends)

object_there : (os : List Object) (k : ℕ) → k < length os → (o : Object) × (slice_get os k ≡ Some o)
object_there os k low = elim (slice_get_cases os k).1 [
  | inl there ↦ (there.0, there.2)
  | inr past ↦ absurd (let far = past.0 in omega (arith, low, far))
]

pub owing_sound : (each : WhatIsDueHappens) (done : NothingIsLeft) (inv : Configuration) (w : World) (e : Entry) (n m : ℕ) (u : World) → u ≡ stood inv (acted inv w e).0 → IsWorldAt inv n m u → IsWorldAt inv n m (owing inv (length w.notices) u)
unfolding owing
owing_sound each done inv w e n m u is h = by_option (recovers_the_told inv) refl
  where
    later_notices : List Notice
    later_notices = drop (length w.notices) u.notices

    known : All (IsNoticeOf inv) later_notices
    known = All-drop (IsNoticeOf inv) (length w.notices) u.notices h.notices

    stand : All (IsOfProblem u) later_notices
    stand = subst (λ (v : World). All (IsOfProblem v) (drop (length w.notices) v.notices)) (sym is) (problems_stand each done inv w e)

    of_one : (x : Notice) → IsNoticeOf inv x → IsOfProblem u x → IsFew m x
    of_one x of_inv stands word =
        let many = h.states.as_many in
        let low = of_inv.object in
        let there = object_there u.objects x.subject.object (omega (arith, many, low)) in
        let number = (stands word there.0 there.1).1 in
        let most = h.states.numbers x.subject.object there.0 there.1 in
        omega (arith, number, most)

    few : All (IsFew m) later_notices
    few = λ k d lt. of_one (get_or later_notices k d) (known k d lt) (stand k d lt)

    by_option : (b : Bool) → recovers_the_told inv ≡ b → IsWorldAt inv n m (if b then record u { owed = fold (owes inv) u.owed (drop (length w.notices) u.notices) } else u)
    by_option true on = (let sound = owes_sound inv m (drop (length w.notices) u.notices) u.owed known few h.owing h.ends in
        with_owed_all inv n m m u (fold (owes inv) u.owed (drop (length w.notices) u.notices)) (omega arith) h sound.0 sound.1 (λ off. absurd (true≢false (sym on ∙ off))))
    by_option false off = h

-- one entry, of which this is known of what it does
pub stepped : (each : WhatIsDueHappens) (done : NothingIsLeft) (inv : Configuration) (w : World) (e : Entry) → IsWorldAt inv (ever w + 1) (raised w + 1) (acted inv w e).0 × ((acted inv w e).0.entries ≡ w.entries + 1) × ((acted inv w e).0.before ≡ w.before)
    → IsWorld inv (step inv w e).0 × ((step inv w e).0.entries ≡ w.entries + 1)
unfolding step
stepped each done inv w e h =
    let v : World = (acted inv w e).0 in
    let u : World = (step inv w e).0 in
    let entries : u.entries ≡ w.entries + 1 = ap (λ (x : World). x.entries) (step_leaves inv w e) ∙ h.1 in
    let before : u.before ≡ w.before = ap (λ (x : World). x.before) (step_leaves inv w e) ∙ h.2 in
    let sound : IsWorldAt inv (ever w + 1) (raised w + 1 + 1) u = owing_sound each done inv w e (ever w + 1) (raised w + 1 + 1) (stood inv v) refl (stood_sound inv (ever w + 1) (raised w + 1) v (stood inv v) h.0 refl) in
    (later inv (ever w + 1) (raised w + 1 + 1) (ever u) (raised u) u (omega (arith, entries, before)) (omega (arith, entries, before)) sound, entries)

-- ---- what is quiet stays so

ready_owing : (inv : Configuration) (n : ℕ) (v : World) (k c : ℕ) → ready_notice inv (record (owing inv n v) { clock = c }) k ≡ ready_notice inv (record v { clock = c }) k
unfolding ready_notice
ready_owing inv n v k c = ap (λ (x : World). ready_notice inv (record x { clock = c }) k) (owing_leaves inv n v)

pub quiet_owing : (each : WhatIsDueHappens) (done : NothingIsLeft) (inv : Configuration) (w : World) (e : Entry) (u : World) (until : Option ℕ) → u ≡ stood inv (acted inv w e).0 → IsQuiet inv u until → IsQuiet inv (owing inv (length w.notices) u) until
quiet_owing each done inv w e u None is quiet = quiet
quiet_owing each done inv w e u (Some until) is quiet = λ k c from early.
    (let idle = quiet k c (let same = ap (λ (x : World). x.clock) (owing_leaves inv (length w.notices) u) in omega (arith, from, same)) early in
    record {
      problem = λ on. ready_owing inv (length w.notices) u k c ∙ idle.problem on;
      ending = λ on. owing_due inv (length w.notices) u k c (All-weaker (IsOfProblem u) (IsOfOneThatStands u) (λ n h word o at. (h word o at).0) (drop (length w.notices) u.notices)
          (subst (λ (v : World). All (IsOfProblem v) (drop (length w.notices) v.notices)) (sym is) (problems_stand each done inv w e))) ∙ idle.ending on;
    })
