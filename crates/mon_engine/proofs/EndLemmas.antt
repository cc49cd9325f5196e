-- Ends that are told: what they change, and what they leave alone.
use Rattle.std.proofs.Common.{◌≡◌, ◌≢◌, inl, inr, ℕ, zero, suc, ◌+◌, ◌<◌, ◌≤◌, Bool, true, false, not, ◌&&◌, ◌||◌, eqb, nat_lt, if◌then◌else◌, List, [], ◌∷◌, length, drop, filter, fold, Option, Some, None, All, slice_get, refl, ap, sym, ◌∙◌, subst, arith, get_or, slice_set}
use Rattle.std.specs.Prelude.{option_to_list}
use Rattle.std.specs.List.{list_any, range_with_len}
use Rattle.std.proofs.lemmas.Bool.{cases_lt, and_parts, eqb-true}
use Rattle.std.proofs.lemmas.List.Elements.{All-nil, All-cons, All-head, All-tail, All-weaker}
use Rattle.std.proofs.lemmas.List.Sums.{fold-append}
use Rattle.std.proofs.lemmas.Option.{slice_get_past, slice_get_read}
use Rattle.cmd_types.specs.declared.entry.Entry.{Entry}
use Rattle.mon_inventory.specs.declared.records.ObjectSpec.{ObjectSpec}
use Rattle.mon_inventory.specs.Configuration.{Configuration, recovers_the_told, tells_by_clock}
use Rattle.mon_notify.specs.Ends.{is_within_reach, missed, one_hears, reaches_one}
use Rattle.mon_engine.specs.declared.ends.Owed.{Owed}
use Rattle.mon_engine.specs.declared.notice.Notice.{Notice}
use Rattle.mon_engine.specs.declared.notice.Subject.{Subject}
use Rattle.mon_engine.specs.declared.notice.Word.TheVariants.{Problem, Recovery}
use Rattle.mon_engine.specs.declared.notices.Occasion.TheVariants.{Clock}
use Rattle.mon_engine.specs.declared.object.Object.{Object}
use Rattle.mon_engine.specs.ByClock.{told_among, told_by_clock}
use Rattle.mon_engine.specs.ByClockLaws.{ready_notice}
use Rattle.mon_engine.specs.Ends.{end_notice, is_end_due, is_end_due_of, is_news, may_end, owed_after, owed_at, owed_of, owes, owing, told_end, told_end_of, told_ends, told_ends_among, with_owed}
use Rattle.mon_engine.specs.Notices.{is_problem_word, of_object, subject_of, to_someone, told, told_problem, with_problem}
use Rattle.mon_engine.specs.Objects.{after_told}
use Rattle.mon_engine.specs.Places.{change_to, changed_at}
use Rattle.mon_engine.specs.Step.{acted, step, stood}
use Rattle.mon_engine.specs.World.{World}
use Rattle.mon_engine.proofs.ByClockLemmas.{cases_below, clock_leaves, range_more, told_problem_is}
use Rattle.mon_engine.proofs.ListLemmas.{changed_here, changed_other, changed_reads}
use Rattle.mon_engine.proofs.NewsLemmas.{More, more_same, more_on, more_after}
use Rattle.mon_engine.proofs.OnceLemmas.{problem_word}

-- ---- one object

pub due_at : (inv : Configuration) (w : World) (k : ℕ) (spec : ObjectSpec) (o : Object) → slice_get inv.objects k ≡ Some spec → slice_get w.objects k ≡ Some o → is_end_due inv w k ≡ is_end_due_of inv w k spec o
unfolding is_end_due
due_at inv w k spec o known at = ap (λ (s : Option ObjectSpec). of_object false (is_end_due_of inv w k) s (slice_get w.objects k)) known ∙ ap (of_object false (is_end_due_of inv w k) (Some spec)) at

-- the end is due and no news, or due and told, or nothing happens
pub end_cases : (P : World → Type 0) (inv : Configuration) (w : World) (k : ℕ) → (is_end_due inv w k ≡ false → P w)
    → ((spec : ObjectSpec) (o : Object) → slice_get inv.objects k ≡ Some spec → slice_get w.objects k ≡ Some o → is_end_due_of inv w k spec o ≡ true → is_news w.clock o ≡ false → P (with_owed w k []))
    → ((spec : ObjectSpec) (o : Object) → slice_get inv.objects k ≡ Some spec → slice_get w.objects k ≡ Some o → is_end_due_of inv w k spec o ≡ true → is_news w.clock o ≡ true
    → P (with_owed (told w (end_notice inv w k o (owed_at w k))) k (missed inv w.contacts k (owed_at w k).contacts)))
    → P (told_end inv w k)
unfolding told_end is_end_due
end_cases P inv w k same stale tells = by_object (slice_get inv.objects k) (slice_get w.objects k) refl refl same
  where
    by_news : (b : Bool) (spec : ObjectSpec) (o : Object) → is_news w.clock o ≡ b → slice_get inv.objects k ≡ Some spec → slice_get w.objects k ≡ Some o → is_end_due_of inv w k spec o ≡ true
        → P (if b then with_owed (told w (end_notice inv w k o (owed_at w k))) k (missed inv w.contacts k (owed_at w k).contacts) else with_owed w k [])
    by_news true spec o news known at due = tells spec o known at due news
    by_news false spec o news known at due = stale spec o known at due news

    by_due : (b : Bool) (spec : ObjectSpec) (o : Object) → is_end_due_of inv w k spec o ≡ b → slice_get inv.objects k ≡ Some spec → slice_get w.objects k ≡ Some o → (b ≡ false → P w)
        → P (if b then (if is_news w.clock o then with_owed (told w (end_notice inv w k o (owed_at w k))) k (missed inv w.contacts k (owed_at w k).contacts) else with_owed w k []) else w)
    by_due true spec o due known at idle = by_news (is_news w.clock o) spec o refl known at due
    by_due false spec o due known at idle = idle refl

    by_object : (s : Option ObjectSpec) (p : Option Object) → slice_get inv.objects k ≡ s → slice_get w.objects k ≡ p → (of_object false (is_end_due_of inv w k) s p ≡ false → P w) → P (of_object w (told_end_of inv w k) s p)
    by_object None p known at idle = idle refl
    by_object (Some spec) None known at idle = idle refl
    by_object (Some spec) (Some o) known at idle = by_due (is_end_due_of inv w k spec o) spec o refl known at idle

-- of an object that is known
pub end_at : (inv : Configuration) (w : World) (k : ℕ) (spec : ObjectSpec) (o : Object) → slice_get inv.objects k ≡ Some spec → slice_get w.objects k ≡ Some o → told_end inv w k ≡ told_end_of inv w k spec o
unfolding told_end
end_at inv w k spec o known at = ap (λ (s : Option ObjectSpec). of_object w (told_end_of inv w k) s (slice_get w.objects k)) known ∙ ap (of_object w (told_end_of inv w k) (Some spec)) at

-- where none is due, nothing is told
pub no_end : (inv : Configuration) (w : World) (k : ℕ) → is_end_due inv w k ≡ false → told_end inv w k ≡ w
unfolding told_end is_end_due
no_end inv w k idle = by_object (slice_get inv.objects k) (slice_get w.objects k) idle
  where
    by_object : (s : Option ObjectSpec) (p : Option Object) → of_object false (is_end_due_of inv w k) s p ≡ false → of_object w (told_end_of inv w k) s p ≡ w
    by_object None p e = refl
    by_object (Some spec) None e = refl
    by_object (Some spec) (Some o) e = ap (λ (b : Bool). if b then (if is_news w.clock o then with_owed (told w (end_notice inv w k o (owed_at w k))) k (missed inv w.contacts k (owed_at w k).contacts) else with_owed w k []) else w) e

pub end_idle : (inv : Configuration) (w : World) (k : ℕ) (spec : ObjectSpec) (o : Object) → slice_get inv.objects k ≡ Some spec → slice_get w.objects k ≡ Some o → is_end_due_of inv w k spec o ≡ false → w ≡ told_end inv w k
end_idle inv w k spec o known at idle = sym (no_end inv w k (due_at inv w k spec o known at ∙ idle))

pub end_stale : (inv : Configuration) (w : World) (k : ℕ) (spec : ObjectSpec) (o : Object) → slice_get inv.objects k ≡ Some spec → slice_get w.objects k ≡ Some o → is_end_due_of inv w k spec o ≡ true → is_news w.clock o ≡ false
    → told_end inv w k ≡ with_owed w k []
end_stale inv w k spec o known at due stale = end_at inv w k spec o known at
    ∙ ap (λ (b : Bool). if b then (if is_news w.clock o then with_owed (told w (end_notice inv w k o (owed_at w k))) k (missed inv w.contacts k (owed_at w k).contacts) else with_owed w k []) else w) due
    ∙ ap (λ (b : Bool). if b then with_owed (told w (end_notice inv w k o (owed_at w k))) k (missed inv w.contacts k (owed_at w k).contacts) else with_owed w k []) stale

pub end_is_told : (inv : Configuration) (w : World) (k : ℕ) (spec : ObjectSpec) (o : Object) → slice_get inv.objects k ≡ Some spec → slice_get w.objects k ≡ Some o → is_end_due_of inv w k spec o ≡ true → is_news w.clock o ≡ true
    → told_end inv w k ≡ with_owed (told w (end_notice inv w k o (owed_at w k))) k (missed inv w.contacts k (owed_at w k).contacts)
end_is_told inv w k spec o known at due news = end_at inv w k spec o known at
    ∙ ap (λ (b : Bool). if b then (if is_news w.clock o then with_owed (told w (end_notice inv w k o (owed_at w k))) k (missed inv w.contacts k (owed_at w k).contacts) else with_owed w k []) else w) due
    ∙ ap (λ (b : Bool). if b then with_owed (told w (end_notice inv w k o (owed_at w k))) k (missed inv w.contacts k (owed_at w k).contacts) else with_owed w k []) news

-- what is written in the place of who is owed the end of an object
pub owed_set : (w v : World) (k : ℕ) (x : Owed) (cs : List ℕ) → v ≡ w → k < length w.owed → x ≡ get_or v.owed k x → record v { owed = slice_set v.owed k (record x { contacts = cs }) } ≡ with_owed w k cs
owed_set w v k x cs same low here = ap (λ (u : World). record u { owed = slice_set u.owed k (record x { contacts = cs }) }) same
    ∙ ap (λ (o : Option Owed). record w { owed = change_to w.owed k (λ y. record y { contacts = cs }) o }) (sym (slice_get_read w.owed (length w.owed) k x refl low (here ∙ ap (λ (u : World). get_or u.owed k x) same)))

-- all but the notices and who is owed ends is left
abbrev pub IsLeft : (w v : World) → Type 0
IsLeft w v = v ≡ record w { notices = v.notices; owed = v.owed }

pub left_on : (w v u : World) → IsLeft w v → IsLeft v u → IsLeft w u
left_on w v u first next = next ∙ ap (λ (x : World). record x { notices = u.notices; owed = u.owed }) first

pub end_leaves : (inv : Configuration) (w : World) (k : ℕ) → IsLeft w (told_end inv w k)
end_leaves inv w k = end_cases (IsLeft w) inv w k (λ idle. refl) (λ spec o known at due stale. refl) (λ spec o known at due news. refl)

pub end_objects : (inv : Configuration) (w : World) (k : ℕ) → (told_end inv w k).objects ≡ w.objects
end_objects inv w k = ap (λ (x : World). x.objects) (end_leaves inv w k)

-- the notices of ends are RECOVERY alone
abbrev pub IsRecovery : Notice → Type 0
IsRecovery n = n.subject.word ≡ Recovery

someone_recovers : (s : Subject) (contacts : List ℕ) → s.word ≡ Recovery → All IsRecovery (option_to_list (to_someone s contacts))
someone_recovers s contacts is = by (nat_lt 0 (length contacts))
  where
    by : (b : Bool) → All IsRecovery (option_to_list (if b then Some (record { subject = s; contacts = contacts }) else None))
    by true = All-cons IsRecovery (record { subject = s; contacts = contacts }) [] is (All-nil IsRecovery)
    by false = All-nil IsRecovery

pub end_more : (inv : Configuration) (w : World) (k : ℕ) → More IsRecovery w.notices (told_end inv w k).notices
end_more inv w k = end_cases (λ (v : World). More IsRecovery w.notices v.notices) inv w k (λ idle. more_same IsRecovery w.notices) (λ spec o known at due stale. more_same IsRecovery w.notices)
    (λ spec o known at due news. more_on IsRecovery w.notices w.notices _ (more_same IsRecovery w.notices) (someone_recovers (subject_of w.clock Recovery k o (owed_at w k).number) _ refl))

-- ---- what is due afterwards

none_within : (p : ℕ → Bool) (xs : List ℕ) → list_any p (filter (λ x. not (p x)) xs) ≡ false
none_within p [] = refl
none_within p (x ∷ xs) = by (p x) refl (none_within p xs)
  where
    by : (b : Bool) → p x ≡ b → list_any p (filter (λ y. not (p y)) xs) ≡ false → list_any p (if not b then x ∷ filter (λ y. not (p y)) xs else filter (λ y. not (p y)) xs) ≡ false
    by true is rest = rest
    by false is rest = ap (λ (b : Bool). b || list_any p (filter (λ y. not (p y)) xs)) is ∙ rest

pub and_false : (a b : Bool) → b ≡ false → (a && b) ≡ false
and_false true b e = e
and_false false b e = refl

first_false : (a b : Bool) → a ≡ false → (a && b) ≡ false
first_false false b e = refl
first_false true b e = absurd (cc)

-- who is owed the end of this object, where others are owed it now
pub owed_here : (w : World) (k : ℕ) (x : Owed) (contacts : List ℕ) → slice_get w.owed k ≡ Some x → (owed_of (slice_get (changed_at w.owed k (λ y. record y { contacts = contacts })) k)).contacts ≡ contacts
owed_here w k x contacts at = ap (λ (y : Option Owed). (owed_of y).contacts) (changed_here w.owed k (λ y. record y { contacts = contacts }) x at)

-- an end that is due is owed to somebody, so that the object has its own
pub owed_there : (inv : Configuration) (w : World) (k : ℕ) (spec : ObjectSpec) (o : Object) → is_end_due_of inv w k spec o ≡ true → (x : Owed) × (slice_get w.owed k ≡ Some x)
owed_there inv w k spec o due = by (slice_get w.owed k) refl (and_parts (eqb o.status.code 0) (nat_lt 0 (length (owed_at w k).contacts)) (and_parts (eqb o.status.code 0 && nat_lt 0 (length (owed_at w k).contacts)) _ due).0).1
  where
    by : (y : Option Owed) → slice_get w.owed k ≡ y → nat_lt 0 (length (owed_of y).contacts) ≡ true → (x : Owed) × (slice_get w.owed k ≡ Some x)
    by None at some = absurd (cc)
    by (Some x) at some = (x, at)

-- what is due of an object, by its code, its contacts and whether its end is news
due_by : (code some stale may reaches : Bool) → Bool
due_by code some stale may reaches = code && some && (stale || (may && reaches))

-- the end of an object is not due any more once it was told
pub end_done : (inv : Configuration) (w : World) (k : ℕ) → is_end_due inv (told_end inv w k) k ≡ false
end_done inv w k = end_cases (λ (v : World). is_end_due inv v k ≡ false) inv w k (λ idle. idle)
    (λ spec o known at due stale. (let here = owed_there inv w k spec o due in
    due_at inv (with_owed w k []) k spec o known at
    ∙ first_false (eqb o.status.code 0 && nat_lt 0 (length (owed_at (with_owed w k []) k).contacts)) _ (and_false (eqb o.status.code 0) _ (ap (λ (cs : List ℕ). nat_lt 0 (length cs)) (owed_here w k here.0 [] here.1)))))
    (λ spec o known at due news. (let here = owed_there inv w k spec o due in
    let left = missed inv w.contacts k (owed_at w k).contacts in
    let v = with_owed (told w (end_notice inv w k o (owed_at w k))) k left in
    due_at inv v k spec o known at
    ∙ and_false (eqb o.status.code 0 && nat_lt 0 (length (owed_at v k).contacts)) _
    (ap (λ (b : Bool). not b || (may_end inv v k spec o && reaches_one inv w.contacts k (owed_at v k).contacts)) news
    ∙ and_false (may_end inv v k spec o) _ (ap (reaches_one inv w.contacts k) (owed_here w k here.0 left here.1) ∙ none_within (is_within_reach inv w.contacts k) (owed_at w k).contacts))))

-- what is due of an object rests on who is owed its own end, and not on notices
pub same_due_of : (inv : Configuration) (w : World) (ns : List Notice) (owed : List Owed) (k : ℕ) (spec : ObjectSpec) (o : Object) → slice_get owed k ≡ slice_get w.owed k → is_end_due_of inv (record w { notices = ns; owed = owed }) k spec o ≡ is_end_due_of inv w k spec o
same_due_of inv w ns owed k spec o same = ap due_with same
  where
    due_with : Option Owed → Bool
    due_with x = (eqb o.status.code 0) && nat_lt 0 (length (owed_of x).contacts) && (not (is_news w.clock o) || (may_end inv w k spec o && reaches_one inv w.contacts k (owed_of x).contacts))

pub same_due : (inv : Configuration) (w : World) (ns : List Notice) (owed : List Owed) (k : ℕ) → slice_get owed k ≡ slice_get w.owed k → is_end_due inv (record w { notices = ns; owed = owed }) k ≡ is_end_due inv w k
unfolding is_end_due
same_due inv w ns owed k same = by_object (slice_get inv.objects k) (slice_get w.objects k)
  where
    by_object : (s : Option ObjectSpec) (p : Option Object) → of_object false (is_end_due_of inv (record w { notices = ns; owed = owed }) k) s p ≡ of_object false (is_end_due_of inv w k) s p
    by_object None p = refl
    by_object (Some spec) None = refl
    by_object (Some spec) (Some o) = same_due_of inv w ns owed k spec o same

-- another object's end is as due as before, at any clock
pub end_other : (inv : Configuration) (w : World) (x k c : ℕ) → (k ≡ x → ⊥) → is_end_due inv (record (told_end inv w x) { clock = c }) k ≡ is_end_due inv (record w { clock = c }) k
end_other inv w x k c other = end_cases (λ (v : World). is_end_due inv (record v { clock = c }) k ≡ is_end_due inv (record w { clock = c }) k) inv w x (λ idle. refl)
    (λ spec o known at due stale. same_due inv (record w { clock = c }) w.notices (changed_at w.owed x (λ y. record y { contacts = [] })) k (changed_other w.owed x k _ (λ e. other (sym e))))
    (λ spec o known at due news. same_due inv (record w { clock = c }) _ (changed_at w.owed x (λ y. record y { contacts = missed inv w.contacts x (owed_at w x).contacts })) k (changed_other w.owed x k _ (λ e. other (sym e))))

pub owed_other : (inv : Configuration) (w : World) (x k : ℕ) → (k ≡ x → ⊥) → slice_get (told_end inv w x).owed k ≡ slice_get w.owed k
owed_other inv w x k other = end_cases (λ (v : World). slice_get v.owed k ≡ slice_get w.owed k) inv w x (λ idle. refl)
    (λ spec o known at due stale. changed_other w.owed x k _ (λ e. other (sym e))) (λ spec o known at due news. changed_other w.owed x k _ (λ e. other (sym e)))

pub end_clock : (inv : Configuration) (w : World) (k : ℕ) → (told_end inv w k).clock ≡ w.clock
end_clock inv w k = ap (λ (v : World). v.clock) (end_leaves inv w k)

-- ---- one object after another

pub ends_next : (inv : Configuration) (w : World) (n : ℕ) → told_ends_among inv w (n + 1) ≡ told_end inv (told_ends_among inv w n) n
ends_next inv w n = ap (fold (told_end inv) w) (range_more n) ∙ fold-append (told_end inv) w (range_with_len 0 n) (n ∷ [])

-- the ends of the first so many objects were told: v is the world after it
pub record AreEnded (inv : Configuration) (w : World) (count : ℕ) (v : World) : Type 0 where
  pub left : IsLeft w v
  pub more : More IsRecovery w.notices v.notices
  pub later : (k : ℕ) → count ≤ k → slice_get v.owed k ≡ slice_get w.owed k
  pub none : (k : ℕ) → k < count → is_end_due inv v k ≡ false

ended_next : (inv : Configuration) (w v : World) (n : ℕ) → AreEnded inv w n v → AreEnded inv w (n + 1) (told_end inv v n)
ended_next inv w v n h = record {
  left = left_on w v (told_end inv v n) h.left (end_leaves inv v n);
  more = more_after IsRecovery w.notices v.notices (told_end inv v n).notices h.more (end_more inv v n);
  later = λ k high. owed_other inv v n k (λ e. absurd (omega (arith, e, high))) ∙ h.later k (omega (arith, high));
  none = λ k low. elim (cases_below k n low) [
    | inl below ↦ ap (λ (c : ℕ). is_end_due inv (record (told_end inv v n) { clock = c }) k) (end_clock inv v n) ∙ end_other inv v n k v.clock (λ e. absurd (omega (arith, e, below))) ∙ h.none k below
    | inr here ↦ ap (is_end_due inv (told_end inv v n)) here ∙ end_done inv v n
  ];
}

pub are_ended : (inv : Configuration) (w : World) (count : ℕ) → AreEnded inv w count (told_ends_among inv w count)
are_ended inv w zero = record { left = refl; more = more_same IsRecovery w.notices; later = λ k high. refl; none = λ k low. absurd (omega (arith, low)) }
are_ended inv w (suc n) = (let next : n + 1 ≡ suc n = omega arith in
    subst (λ (k : ℕ). AreEnded inv w k (told_ends_among inv w k)) next (subst (AreEnded inv w (n + 1)) (sym (ends_next inv w n)) (ended_next inv w (told_ends_among inv w n) n (are_ended inv w n))))

-- ---- all objects

pub ends_on : (inv : Configuration) (w : World) → recovers_the_told inv ≡ true → told_ends inv w ≡ told_ends_among inv w (length inv.objects)
unfolding told_ends
ends_on inv w on = ap (λ (b : Bool). if b then told_ends_among inv w (length inv.objects) else w) on

pub ends_off : (inv : Configuration) (w : World) → recovers_the_told inv ≡ false → told_ends inv w ≡ w
unfolding told_ends
ends_off inv w off = ap (λ (b : Bool). if b then told_ends_among inv w (length inv.objects) else w) off

-- either no end is told, or each that is due
pub ends_cases : (inv : Configuration) (w : World) (P : World → Type 0) → (recovers_the_told inv ≡ false → P w) → ((v : World) → recovers_the_told inv ≡ true → AreEnded inv w (length inv.objects) v → P v) → P (told_ends inv w)
ends_cases inv w P same tells = by_option (recovers_the_told inv) refl
  where
    by_option : (b : Bool) → recovers_the_told inv ≡ b → P (told_ends inv w)
    by_option true on = subst P (sym (ends_on inv w on)) (tells (told_ends_among inv w (length inv.objects)) on (are_ended inv w (length inv.objects)))
    by_option false off = subst P (sym (ends_off inv w off)) (same off)

pub ends_leave : (inv : Configuration) (w : World) → IsLeft w (told_ends inv w)
ends_leave inv w = ends_cases inv w (IsLeft w) (λ off. refl) (λ v on h. h.left)

pub ends_more : (inv : Configuration) (w : World) → More IsRecovery w.notices (told_ends inv w).notices
ends_more inv w = ends_cases inv w (λ (v : World). More IsRecovery w.notices v.notices) (λ off. more_same IsRecovery w.notices) (λ v on h. h.more)

pub none_due_beyond : (inv : Configuration) (w : World) (k : ℕ) → length inv.objects ≤ k → is_end_due inv w k ≡ false
unfolding is_end_due
none_due_beyond inv w k high = ap (λ (s : Option ObjectSpec). of_object false (is_end_due_of inv w k) s (slice_get w.objects k)) (slice_get_past inv.objects k high)

-- after that none is due
pub none_is_due : (inv : Configuration) (w : World) (k : ℕ) → recovers_the_told inv ≡ true → is_end_due inv (told_ends inv w) k ≡ false
none_is_due inv w k on = elim (cases_lt k (length inv.objects)) [
  | inl low ↦ ap (λ (v : World). is_end_due inv v k) (ends_on inv w on) ∙ (are_ended inv w (length inv.objects)).none k low
  | inr high ↦ none_due_beyond inv (told_ends inv w) k high
]

-- ---- problems and ends leave one another alone

-- an end leaves what problems are ready
pub end_ready : (inv : Configuration) (w : World) (x k c : ℕ) → ready_notice inv (record (told_end inv w x) { clock = c }) k ≡ ready_notice inv (record w { clock = c }) k
unfolding ready_notice
end_ready inv w x k c = end_cases (λ (v : World). ready_notice inv (record v { clock = c }) k ≡ ready_notice inv (record w { clock = c }) k) inv w x (λ idle. refl) (λ spec o known at due stale. refl) (λ spec o known at due news. refl)

-- what is left of all but notices and ends is ready for the same
pub left_ready : (inv : Configuration) (w v : World) (k c : ℕ) → IsLeft w v → ready_notice inv (record v { clock = c }) k ≡ ready_notice inv (record w { clock = c }) k
unfolding ready_notice
left_ready inv w v k c is = ap (λ (x : World). ready_notice inv (record x { clock = c }) k) is

-- a problem leaves which ends are due
pub problem_due : (inv : Configuration) (w : World) (x k c : ℕ) → is_end_due inv (record (told_problem inv Clock w x) { clock = c }) k ≡ is_end_due inv (record w { clock = c }) k
unfolding is_end_due
problem_due inv w x k c = ap (λ (v : World). is_end_due inv (record v { clock = c }) k) (told_problem_is inv w x) ∙ by_notice (ready_notice inv w x)
  where
    by_notice : (r : Option Notice) → is_end_due inv (record (with_problem w x r) { clock = c }) k ≡ is_end_due inv (record w { clock = c }) k
    by_notice None = refl
    by_notice (Some m) = changed_reads (λ p. of_object false (is_end_due_of inv (record (with_problem w x (Some m)) { clock = c }) k) (slice_get inv.objects k) p) w.objects x k (after_told w.clock) (λ o. by_spec o (slice_get inv.objects k))
      where
        by_spec : (o : Object) (s : Option ObjectSpec) → of_object false (is_end_due_of inv (record (with_problem w x (Some m)) { clock = c }) k) s (Some (after_told w.clock o)) ≡ of_object false (is_end_due_of inv (record (with_problem w x (Some m)) { clock = c }) k) s (Some o)
        by_spec o None = refl
        by_spec o (Some spec) = refl

pub clock_due : (inv : Configuration) (w : World) (k c : ℕ) → is_end_due inv (record (told_by_clock inv w) { clock = c }) k ≡ is_end_due inv (record w { clock = c }) k
unfolding told_by_clock
clock_due inv w k c = by_option (tells_by_clock inv)
  where
    each : (v : World) (ks : List ℕ) → is_end_due inv (record (fold (told_problem inv Clock) v ks) { clock = c }) k ≡ is_end_due inv (record v { clock = c }) k
    each v [] = refl
    each v (x ∷ xs) = each (told_problem inv Clock v x) xs ∙ problem_due inv v x k c

    by_option : (b : Bool) → is_end_due inv (record (if b then told_among inv w (length inv.objects) else w) { clock = c }) k ≡ is_end_due inv (record w { clock = c }) k
    by_option true = each w (range_with_len 0 (length inv.objects))
    by_option false = refl

-- ---- who is owed an end after an entry

abbrev IsElsewhere : (object : ℕ) → Notice → Type 0
IsElsewhere k n = n.subject.word ≡ Problem → n.subject.object ≡ k → ⊥

abbrev pub IsOfOneThatStands : World → Notice → Type 0
IsOfOneThatStands w n = n.subject.word ≡ Problem → (o : Object) → slice_get w.objects n.subject.object ≡ Some o → o.status.code ≢ 0

-- one who was notified of another object is owed no end of this one
owed_same : (inv : Configuration) (k : ℕ) (ns : List Notice) (owed : List Owed) → All (IsElsewhere k) ns → slice_get (fold (owes inv) owed ns) k ≡ slice_get owed k
owed_same inv k [] owed h = refl
owed_same inv k (n ∷ ns) owed h = owed_same inv k ns (owes inv owed n) (All-tail (IsElsewhere k) n ns h) ∙ by_word (is_problem_word n.subject.word) refl (one_hears inv n.subject.object n.contacts)
  where
    by_word : (b : Bool) → is_problem_word n.subject.word ≡ b → (c : Bool) → slice_get (if b && c then changed_at owed n.subject.object (owed_after inv n) else owed) k ≡ slice_get owed k
    by_word true is true = changed_other owed n.subject.object k (owed_after inv n) (λ e. All-head (IsElsewhere k) n ns h (problem_word n.subject.word is) e)
    by_word true is false = refl
    by_word false is true = refl
    by_word false is false = refl

pub owing_leaves : (inv : Configuration) (before : ℕ) (w : World) → owing inv before w ≡ record w { owed = (owing inv before w).owed }
unfolding owing
owing_leaves inv before w = by_option (recovers_the_told inv)
  where
    owed : List Owed
    owed = fold (owes inv) w.owed (drop before w.notices)

    by_option : (b : Bool) → (if b then record w { owed = owed } else w) ≡ record w { owed = (if b then record w { owed = owed } else w).owed }
    by_option true = refl
    by_option false = refl

-- where each problem that was notified stands, no end is due that was not
pub owing_due : (inv : Configuration) (before : ℕ) (w : World) (k c : ℕ) → All (λ n. n.subject.word ≡ Problem → (o : Object) → slice_get w.objects n.subject.object ≡ Some o → o.status.code ≢ 0) (drop before w.notices)
    → is_end_due inv (record (owing inv before w) { clock = c }) k ≡ is_end_due inv (record w { clock = c }) k
unfolding owing is_end_due
owing_due inv before w k c stand = by_option (recovers_the_told inv)
  where
    v : World
    v = record w { owed = fold (owes inv) w.owed (drop before w.notices); clock = c }

    by_code : (b : Bool) (spec : ObjectSpec) (o : Object) → eqb o.status.code 0 ≡ b → slice_get w.objects k ≡ Some o → is_end_due_of inv v k spec o ≡ is_end_due_of inv (record w { clock = c }) k spec o
    by_code false spec o bad at = ap (λ (x : Bool). x && nat_lt 0 (length (owed_at v k).contacts) && (not (is_news c o) || (may_end inv w k spec o && reaches_one inv w.contacts k (owed_at v k).contacts))) bad
        ∙ sym (ap (λ (x : Bool). x && nat_lt 0 (length (owed_at w k).contacts) && (not (is_news c o) || (may_end inv w k spec o && reaches_one inv w.contacts k (owed_at w k).contacts))) bad)
    by_code true spec o good at = ap (λ (x : Option Owed). (eqb o.status.code 0) && nat_lt 0 (length (owed_of x).contacts) && (not (is_news c o) || (may_end inv w k spec o && reaches_one inv w.contacts k (owed_of x).contacts)))
        (owed_same inv k (drop before w.notices) w.owed (All-weaker (IsOfOneThatStands w) (IsElsewhere k) (λ n h word is. h word o (ap (λ (i : ℕ). slice_get w.objects i) is ∙ at) (eqb-true o.status.code 0 good)) (drop before w.notices) stand))

    by_object : (s : Option ObjectSpec) (p : Option Object) → slice_get w.objects k ≡ p → of_object false (is_end_due_of inv v k) s p ≡ of_object false (is_end_due_of inv (record w { clock = c }) k) s p
    by_object None p at = refl
    by_object (Some spec) None at = refl
    by_object (Some spec) (Some o) at = by_code (eqb o.status.code 0) spec o refl at

    by_option : (b : Bool) → is_end_due inv (record (if b then record w { owed = fold (owes inv) w.owed (drop before w.notices) } else w) { clock = c }) k ≡ is_end_due inv (record w { clock = c }) k
    by_option true = by_object (slice_get inv.objects k) (slice_get w.objects k) refl
    by_option false = refl

-- ---- an entry

pub stood_leaves : (inv : Configuration) (v : World) → stood inv v ≡ record v { objects = (stood inv v).objects; notices = (stood inv v).notices; owed = (stood inv v).owed }
stood_leaves inv v =
    let u = stood inv v in
    let told = clock_leaves inv (told_ends inv v) in
    told ∙ ap (λ (x : World). record x { objects = u.objects; notices = u.notices }) (ends_leave inv v) ∙ ap (λ (xs : List Owed). record v { objects = u.objects; notices = u.notices; owed = xs }) (sym (ap (λ (x : World). x.owed) told))

pub step_leaves : (inv : Configuration) (w : World) (e : Entry) → (step inv w e).0 ≡ record (acted inv w e).0 { objects = (step inv w e).0.objects; notices = (step inv w e).0.notices; owed = (step inv w e).0.owed }
unfolding step
step_leaves inv w e =
    let v = (acted inv w e).0 in
    let s = (step inv w e).0 in
    let owes = owing_leaves inv (length w.notices) (stood inv v) in
    owes ∙ ap (λ (x : World). record x { owed = s.owed }) (stood_leaves inv v)
    ∙ ap (λ (os : List Object). record v { objects = os; notices = (stood inv v).notices; owed = s.owed }) (sym (ap (λ (x : World). x.objects) owes))
    ∙ ap (λ (ns : List Notice). record v { objects = s.objects; notices = ns; owed = s.owed }) (sym (ap (λ (x : World). x.notices) owes))

-- the objects are those that the clock leaves
pub step_objects : (inv : Configuration) (w : World) (e : Entry) → (step inv w e).0.objects ≡ (told_by_clock inv (told_ends inv (acted inv w e).0)).objects
unfolding step
step_objects inv w e = ap (λ (x : World). x.objects) (owing_leaves inv (length w.notices) (stood inv (acted inv w e).0))

pub step_notices : (inv : Configuration) (w : World) (e : Entry) → (step inv w e).0.notices ≡ (told_by_clock inv (told_ends inv (acted inv w e).0)).notices
unfolding step
step_notices inv w e = ap (λ (x : World). x.notices) (owing_leaves inv (length w.notices) (stood inv (acted inv w e).0))

pub ends_objects : (inv : Configuration) (v : World) → (told_ends inv v).objects ≡ v.objects
ends_objects inv v = ap (λ (x : World). x.objects) (ends_leave inv v)

pub step_clock : (inv : Configuration) (w : World) (e : Entry) → (step inv w e).0.clock ≡ (acted inv w e).0.clock
step_clock inv w e = ap (λ (x : World). x.clock) (step_leaves inv w e)
