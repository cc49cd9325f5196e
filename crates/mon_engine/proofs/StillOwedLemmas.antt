-- Who is owed an end is owed it still under the same inventory: lists of contacts of the object who hear of its ends, in order.
use Rattle.std.proofs.Common.{◌≡◌, inl, inr, ℕ, zero, suc, ◌+◌, ◌<◌, Bool, true, false, true≢false, not, ◌&&◌, ◌||◌, eqb, cond, if◌then◌else◌, List, [], ◌∷◌, ◌++◌, length, drop, map, filter, fold, Option, Some, None, All, slice_get, refl, ap, sym, ◌∙◌, subst, arith}
use Rattle.std.specs.List.{range_with_len}
use Rattle.std.proofs.lemmas.Bool.{and_parts, eqb-true, eqb-false, or_cases, or_right}
use Rattle.std.proofs.lemmas.List.Elements.{All-append, All-head, All-tail, All-weaker, filter-append}
use Rattle.std.proofs.lemmas.List.Folds.{list_any-append}
use Rattle.std.proofs.lemmas.Option.{same_Some}
use Rattle.cmd_types.specs.declared.entry.Entry.{Entry}
use Rattle.mon_downtime.specs.Clock.{WhatIsDueHappens, NothingIsLeft}
use Rattle.mon_inventory.specs.declared.records.ObjectSpec.{ObjectSpec}
use Rattle.mon_inventory.specs.Configuration.{Configuration, recovers_the_told}
use Rattle.mon_notify.specs.Custom.{all_contacts, all_escalations}
use Rattle.mon_notify.specs.Ends.{hears, is_owed_with, is_still_owed, is_within_reach, missed, one_hears, owed_with, still_owed}
use Rattle.mon_notify.specs.Escalations.{contacts_of, has_contact}
use Rattle.mon_notify.specs.Objects.{own_contacts}
use Rattle.mon_engine.specs.declared.ends.Owed.{Owed}
use Rattle.mon_engine.specs.declared.notice.Notice.{Notice}
use Rattle.mon_engine.specs.declared.notice.Word.TheVariants as words
use Rattle.mon_engine.specs.ByClock.{told_by_clock}
use Rattle.mon_engine.specs.EndLaws.{OnlyItsContactsAreOwed}
use Rattle.mon_engine.specs.Ends.{owed_after, owed_at, owed_of, owes, owing, told_end, told_ends}
use Rattle.mon_engine.specs.NoticeLaws.{went_out, IsContactOf, IsReached, MayBeTold}
use Rattle.mon_engine.specs.Notices.{is_problem_word, subject_of}
use Rattle.mon_engine.specs.Owed.{initial_owed, nobody}
use Rattle.mon_engine.specs.Places.{change_to, changed_at}
use Rattle.mon_engine.specs.Step.{acted, meaning_from, step}
use Rattle.mon_engine.specs.World.{World, initial}
use Rattle.mon_engine.proofs.ByClockLemmas.{clock_leaves, range_more}
use Rattle.mon_engine.proofs.EndLemmas.{end_cases, ends_off, ends_on}
use Rattle.mon_engine.proofs.HeardLemmas.{clock_problems, heard, owed_now, went_is}
use Rattle.mon_engine.proofs.ListLemmas.{changed_here, changed_other}
use Rattle.mon_engine.proofs.NewsLemmas.{drop_front}
use Rattle.mon_engine.proofs.OnceLemmas.{problem_word}
use Rattle.mon_engine.proofs.OwedLemmas.{acted_owed, in_range, kept, IsEnd}
use Rattle.mon_engine.proofs.ReachedLemmas.{someone_is}
use Rattle.mon_engine.proofs.SentLemmas.{only_who_may_be_told_is_told, the_clock_tells_who_may_be_told}

-- ---- lists

-- two tests that agree on the numbers below n keep the same of them
filter_alike : (p q : ℕ → Bool) (n : ℕ) → ((c : ℕ) → c < n → p c ≡ q c) → filter p (range_with_len 0 n) ≡ filter q (range_with_len 0 n)
filter_alike p q zero same = refl
filter_alike p q (suc n) same =
    let next : n + 1 ≡ suc n = omega arith in
    let more = ap (range_with_len 0) (sym next) ∙ range_more n in
    ap (filter p) more ∙ filter-append p (range_with_len 0 n) (n ∷ [])
    ∙ ap (λ (xs : List ℕ). xs ++ filter p (n ∷ [])) (filter_alike p q n (λ c low. same c (omega (arith, low))))
    ∙ ap (λ (b : Bool). filter q (range_with_len 0 n) ++ cond b (n ∷ []) []) (same n (omega arith))
    ∙ sym (ap (filter q) more ∙ filter-append q (range_with_len 0 n) (n ∷ []))

filter_twice : (p q : ℕ → Bool) (xs : List ℕ) → filter p (filter q xs) ≡ filter (λ x. q x && p x) xs
filter_twice p q [] = refl
filter_twice p q (x ∷ xs) = by (filter_twice p q xs) (q x) (p x) refl
  where
    rest : List ℕ
    rest = filter (λ y. q y && p y) xs

    by : filter p (filter q xs) ≡ rest → (a b : Bool) → p x ≡ b → filter p (cond a (x ∷ filter q xs) (filter q xs)) ≡ cond (a && b) (x ∷ rest) rest
    by more true true passes = ap (λ (b : Bool). cond b (x ∷ filter p (filter q xs)) (filter p (filter q xs))) passes ∙ ap (λ (ys : List ℕ). x ∷ ys) more
    by more true false passes = ap (λ (b : Bool). cond b (x ∷ filter p (filter q xs)) (filter p (filter q xs))) passes ∙ more
    by more false true passes = more
    by more false false passes = more

filter_none : (xs : List ℕ) → filter (λ x. false) xs ≡ []
filter_none [] = refl
filter_none (x ∷ xs) = filter_none xs

-- ---- the contacts of one object

-- a change to the same inventory leaves these contacts
abbrev IsKept : Configuration → (object : ℕ) → List ℕ → Type 0
IsKept inv k xs = still_owed inv k xs ≡ xs

nobody_kept : (inv : Configuration) (k : ℕ) → IsKept inv k []
unfolding still_owed
nobody_kept inv k = filter_none (range_with_len 0 (length inv.contacts))

-- whoever is kept hears of ends, and is a contact of the object
kept_has : (inv : Configuration) (k c : ℕ) (xs : List ℕ) → IsKept inv k xs → has_contact c xs ≡ true → (hears inv k c && has_contact c (all_contacts inv k)) ≡ true
unfolding still_owed
kept_has inv k c xs is h = (and_parts (has_contact c xs) (hears inv k c && has_contact c (all_contacts inv k)) (and_parts (is_still_owed inv k xs c) (has_contact c (range_with_len 0 (length inv.contacts)))
    (sym (kept (is_still_owed inv k xs) c (range_with_len 0 (length inv.contacts))) ∙ ap (has_contact c) is ∙ h)).0).1

some_kept : (inv : Configuration) (k : ℕ) (p : ℕ → Bool) (xs : List ℕ) → IsKept inv k xs → IsKept inv k (filter p xs)
unfolding still_owed
some_kept inv k p xs is =
    filter_alike (is_still_owed inv k (filter p xs)) (λ c. is_still_owed inv k xs c && p c) (length inv.contacts) (λ c low. ap (λ (b : Bool). b && (hears inv k c && has_contact c (all_contacts inv k))) (kept p c xs) ∙ turned (p c) (has_contact c xs) (hears inv k c && has_contact c (all_contacts inv k)))
    ∙ sym (filter_twice p (is_still_owed inv k xs) (range_with_len 0 (length inv.contacts))) ∙ ap (filter p) is
  where
    turned : (a b d : Bool) → ((a && b) && d) ≡ ((b && d) && a)
    turned true true true = refl
    turned true true false = refl
    turned true false d = refl
    turned false true true = refl
    turned false true false = refl
    turned false false d = refl

-- the contacts of a PROBLEM are contacts of its object
abbrev OfObject : Configuration → (object : ℕ) → List ℕ → Type 0
OfObject inv k ns = (c : ℕ) → has_contact c ns ≡ true → has_contact c (all_contacts inv k) ≡ true

with_kept : (inv : Configuration) (k : ℕ) (xs ns : List ℕ) → IsKept inv k xs → OfObject inv k ns → IsKept inv k (owed_with inv k xs ns)
unfolding still_owed owed_with
with_kept inv k xs ns is own = filter_alike (is_still_owed inv k (filter (is_owed_with inv k xs ns) (range_with_len 0 (length inv.contacts)))) (is_owed_with inv k xs ns) (length inv.contacts)
    (λ c low. ap (λ (b : Bool). b && may c) (kept (is_owed_with inv k xs ns) c (range_with_len 0 (length inv.contacts)) ∙ ap (λ (b : Bool). is_owed_with inv k xs ns c && b) (in_range (length inv.contacts) c low)) ∙ by c (is_owed_with inv k xs ns c) refl)
  where
    may : ℕ → Bool
    may c = hears inv k c && has_contact c (all_contacts inv k)

    by : (c : ℕ) (b : Bool) → is_owed_with inv k xs ns c ≡ b → ((is_owed_with inv k xs ns c && true) && may c) ≡ is_owed_with inv k xs ns c
    by c false out = ap (λ (b : Bool). (b && true) && may c) out ∙ sym out
    by c true owed = ap (λ (b : Bool). (b && true) && may c) owed ∙ each c owed ∙ sym owed
      where
        each : (c : ℕ) → is_owed_with inv k xs ns c ≡ true → may c ≡ true
        each c owed = elim (or_cases (has_contact c xs) (has_contact c ns && hears inv k c) owed) [
          | inl was ↦ kept_has inv k c xs is was
          | inr new ↦ (let parts = and_parts (has_contact c ns) (hears inv k c) new in ap (λ (b : Bool). b && has_contact c (all_contacts inv k)) parts.1 ∙ own c parts.0)
        ]

-- ---- the contacts of each object

AreKept : Configuration → List Owed → Type 0
AreKept inv owed = (k : ℕ) (x : Owed) → slice_get owed k ≡ Some x → IsKept inv k x.contacts

-- with one changed
changed_kept : (inv : Configuration) (owed : List Owed) (j : ℕ) (f : Owed → Owed) → ((x : Owed) → slice_get owed j ≡ Some x → IsKept inv j (f x).contacts) → AreKept inv owed → AreKept inv (changed_at owed j f)
unfolding AreKept
changed_kept inv owed j f keeps all k y at = by_place (eqb j k) refl
  where
    by_owed : (r : Option Owed) → slice_get owed j ≡ r → j ≡ k → IsKept inv k y.contacts
    by_owed None none same = all k y (sym (ap (λ (xs : List Owed). slice_get xs k) (ap (change_to owed j f) none)) ∙ at)
    by_owed (Some x) there same = (let is : f x ≡ y = same_Some (f x) y (sym (changed_here owed j f x there) ∙ ap (slice_get (changed_at owed j f)) same ∙ at) in
        subst (λ (z : Owed). IsKept inv k z.contacts) is (subst (λ (i : ℕ). IsKept inv i (f x).contacts) same (keeps x there)))

    by_place : (b : Bool) → eqb j k ≡ b → IsKept inv k y.contacts
    by_place true here = by_owed (slice_get owed j) refl (eqb-true j k here)
    by_place false there = all k y (sym (changed_other owed j k f (eqb-false j k there)) ∙ at)

-- where the end of one object is told
end_kept : (inv : Configuration) (w : World) (j : ℕ) → AreKept inv w.owed → AreKept inv (told_end inv w j).owed
unfolding AreKept
end_kept inv w j all = end_cases (λ (u : World). AreKept inv u.owed) inv w j (λ idle. all)
    (λ spec o known at due stale. changed_kept inv w.owed j (λ x. record x { contacts = [] }) (λ x there. nobody_kept inv j) all)
    (λ spec o known at due news. changed_kept inv w.owed j (λ x. record x { contacts = missed inv w.contacts j (owed_at w j).contacts })
    (λ x there. subst (λ (r : Option Owed). IsKept inv j (missed inv w.contacts j (owed_of r).contacts)) (sym there) (some_kept inv j (λ c. not (is_within_reach inv w.contacts j c)) x.contacts (all j x there))) all)

ends_kept : (inv : Configuration) (w : World) (ks : List ℕ) → AreKept inv w.owed → AreKept inv (fold (told_end inv) w ks).owed
ends_kept inv w [] all = all
ends_kept inv w (j ∷ ks) all = ends_kept inv (told_end inv w j) ks (end_kept inv w j all)

-- where problems are noted
abbrev IsToItsContacts : Configuration → Notice → Type 0
IsToItsContacts inv n = n.subject.word ≡ words.Problem → OfObject inv n.subject.object n.contacts

owes_kept : (inv : Configuration) (ns : List Notice) (owed : List Owed) → All (IsToItsContacts inv) ns → AreKept inv owed → AreKept inv (fold (owes inv) owed ns)
unfolding AreKept
owes_kept inv [] owed own all = all
owes_kept inv (n ∷ ns) owed own all = owes_kept inv ns (owes inv owed n) (All-tail (IsToItsContacts inv) n ns own) (by_word (is_problem_word n.subject.word) refl (one_hears inv n.subject.object n.contacts))
  where
    by_word : (b : Bool) → is_problem_word n.subject.word ≡ b → (d : Bool) → AreKept inv (if b && d then changed_at owed n.subject.object (owed_after inv n) else owed)
    by_word true word true = changed_kept inv owed n.subject.object (owed_after inv n)
        (λ x there. with_kept inv n.subject.object x.contacts n.contacts (all n.subject.object x there) (All-head (IsToItsContacts inv) n ns own (problem_word n.subject.word word))) all
    by_word true word false = all
    by_word false word true = all
    by_word false word false = all

-- ---- an entry

-- a contact of the object is among all of them
of_contact : (inv : Configuration) (k c : ℕ) → IsContactOf inv k c → has_contact c (all_contacts inv k) ≡ true
of_contact inv k c is = list_any-append (λ n. eqb n c) (own_contacts (slice_get inv.objects k)) (contacts_of (all_escalations inv k)) ∙ by is
  where
    by : IsContactOf inv k c → (has_contact c (own_contacts (slice_get inv.objects k)) || has_contact c (contacts_of (all_escalations inv k))) ≡ true
    by (inl own) = ap (λ (b : Bool). b || has_contact c (contacts_of (all_escalations inv k))) own
    by (inr escalated) = or_right (has_contact c (own_contacts (slice_get inv.objects k))) (has_contact c (contacts_of (all_escalations inv k))) escalated

-- one of several contacts
one_of : (P : ℕ → Type 0) (c : ℕ) (xs : List ℕ) → All P xs → has_contact c xs ≡ true → P c
one_of P c [] all h = absurd (true≢false (sym h))
one_of P c (x ∷ xs) all h = elim (or_cases (eqb x c) (has_contact c xs) h) [
  | inl here ↦ subst P (eqb-true x c here) (All-head P x xs all)
  | inr later ↦ one_of P c xs (All-tail P x xs all) later
]

own_problems : (each : WhatIsDueHappens) (done : NothingIsLeft) (inv : Configuration) (w : World) (e : Entry) → recovers_the_told inv ≡ true → All (IsToItsContacts inv) (went_out w (step inv w e).0)
own_problems each done inv w e on = subst (All (IsToItsContacts inv)) (sym (went_is each done inv w e on)) (All-append (IsToItsContacts inv) (went_out w v) (ends ++ last) by_act (All-append (IsToItsContacts inv) ends last by_end by_clock))
  where
    v : World
    v = (acted inv w e).0

    m : World
    m = told_ends inv v

    ends : List Notice
    ends = (heard each done inv w e on).sent.0

    last : List Notice
    last = (clock_problems each done inv w e on).0

    by_act : All (IsToItsContacts inv) (went_out w v)
    by_act = All-weaker (λ n. All (MayBeTold inv w e (acted inv w e).1 n.subject) n.contacts) (IsToItsContacts inv)
        (λ n may word c h. of_contact inv n.subject.object c (one_of (MayBeTold inv w e (acted inv w e).1 n.subject) c n.contacts may h).contact) (went_out w v) (only_who_may_be_told_is_told each done inv w e)

    by_end : All (IsToItsContacts inv) ends
    by_end = All-weaker (λ n. IsEnd inv v n.subject.object n) (IsToItsContacts inv)
        (λ n end word. absurd (let is = someone_is (λ x. x.subject.word ≡ words.Recovery) (subject_of v.clock words.Recovery n.subject.object end.0.of (owed_at v n.subject.object).number) _ n end.2 refl in let same = sym word ∙ is in cc)) ends (heard each done inv w e on).sent.2

    by_clock : All (IsToItsContacts inv) last
    by_clock = subst (All (IsToItsContacts inv)) (ap (drop (length m.notices)) (clock_problems each done inv w e on).1 ∙ drop_front m.notices last)
        (All-weaker (λ n. All (IsReached inv m.contacts n.subject) n.contacts) (IsToItsContacts inv)
        (λ n may word c h. of_contact inv n.subject.object c (one_of (IsReached inv m.contacts n.subject) c n.contacts may h).contact) (went_out m (told_by_clock inv m)) (the_clock_tells_who_may_be_told inv m))

step_kept : (each : WhatIsDueHappens) (done : NothingIsLeft) (inv : Configuration) (w : World) (e : Entry) → AreKept inv w.owed → AreKept inv (step inv w e).0.owed
unfolding step owing
step_kept each done inv w e all = by_option (recovers_the_told inv) refl
  where
    v : World
    v = (acted inv w e).0

    u : World
    u = told_by_clock inv (told_ends inv v)

    by_option : (b : Bool) → recovers_the_told inv ≡ b → AreKept inv (step inv w e).0.owed
    by_option true on = subst (AreKept inv) (sym (owed_now each done inv w e on)) (owes_kept inv (went_out w (step inv w e).0) (told_ends inv v).owed (own_problems each done inv w e on)
        (subst (λ (x : World). AreKept inv x.owed) (sym (ends_on inv v on)) (ends_kept inv v (range_with_len 0 (length inv.objects)) (subst (AreKept inv) (sym (acted_owed inv w e)) all))))
    by_option false off = subst (AreKept inv) (sym (ap (λ (b : Bool). (if b then record u { owed = fold (owes inv) u.owed (drop (length w.notices) u.notices) } else u).owed) off
        ∙ ap (λ (x : World). x.owed) (clock_leaves inv (told_ends inv v)) ∙ ap (λ (x : World). x.owed) (ends_off inv v off) ∙ acted_owed inv w e)) all

-- ---- a journal

first_kept : (inv : Configuration) (specs : List ObjectSpec) (k : ℕ) (x : Owed) → slice_get (map initial_owed specs) k ≡ Some x → still_owed inv k x.contacts ≡ x.contacts
first_kept inv specs k x at = by specs k k at
  where
    by : (ss : List ObjectSpec) (i j : ℕ) → slice_get (map initial_owed ss) i ≡ Some x → IsKept inv j x.contacts
    by [] i j at = absurd (cc)
    by (s ∷ ss) zero j at = subst (λ (y : Owed). IsKept inv j y.contacts) (same_Some nobody x at) (nobody_kept inv j)
    by (s ∷ ss) (suc i) j at = by ss i j at

means_kept : (each : WhatIsDueHappens) (done : NothingIsLeft) (inv : Configuration) (w : World) (es : List Entry) → AreKept inv w.owed → AreKept inv (meaning_from inv w es).owed
unfolding meaning_from
means_kept each done inv w [] all = all
means_kept each done inv w (e ∷ es) all = means_kept each done inv (step inv w e).0 es (step_kept each done inv w e all)

pub only_its_contacts_are_owed : (each : WhatIsDueHappens) (done : NothingIsLeft) → OnlyItsContactsAreOwed
unfolding AreKept initial
only_its_contacts_are_owed each done inv journal = means_kept each done inv (initial inv) journal (first_kept inv inv.objects)
