-- Whom a notice reaches: contacts of the object or of its escalations, whose switch is on, and who have its letter.
use Rattle.std.proofs.Common.{◌≡◌, ◌⊎◌, inl, inr, ℕ, ◌+◌, Bool, true, false, ◌&&◌, ◌||◌, eqb, cond, if◌then◌else◌, nat_lt, List, [], ◌∷◌, ◌++◌, length, Option, Some, None, All, slice_get, refl, ap, sym, ◌∙◌, subst, not}
use Rattle.std.specs.List.{filter, range_with_len}
use Rattle.std.proofs.lemmas.Bool.{and_parts, eqb-true, not-true, or_cases, or_right}
use Rattle.std.proofs.lemmas.List.Elements.{All-weaker, filter_passes}
use Rattle.std.proofs.lemmas.List.Folds.{list_any-append}
use Rattle.std.proofs.lemmas.Option.{same_Some}
use Rattle.mon_inventory.specs.declared.records.ContactSpec.{ContactSpec}
use Rattle.mon_inventory.specs.declared.records.Escalation.{Escalation}
use Rattle.mon_inventory.specs.declared.records.ObjectSpec.{ObjectSpec}
use Rattle.mon_inventory.specs.Configuration.{Configuration, recovers_the_told}
use Rattle.mon_inventory.specs.Lookups.{is_escalation_of}
use Rattle.mon_notify.specs.declared.contacts.ContactSwitch.{ContactSwitch}
use Rattle.mon_notify.specs.declared.facts.Facts.{Facts}
use Rattle.mon_notify.specs.declared.letter.Letter.{Letter}
use Rattle.mon_notify.specs.declared.letter.Letter.TheVariants as letter
use Rattle.mon_notify.specs.Custom.{all_escalations, is_forced, is_on_at, is_broadcast, is_custom_told, custom_escalates, custom_candidates_by, custom_recipients, custom_viable}
use Rattle.mon_notify.specs.Escalations.{is_in_force, matching, contacts_of, has_contact}
use Rattle.mon_notify.specs.Letters.{letter_of}
use Rattle.mon_notify.specs.Objects as kinds
use Rattle.mon_notify.specs.Objects.{own_contacts}
use Rattle.mon_notify.specs.Recipients.{recipients, is_on, takes_at, is_told, escalates, candidates_by}
use Rattle.mon_notify.specs.Viable.{is_open, problem_viable, recovery_viable}
use Rattle.mon_engine.specs.declared.notices.Occasion.{Occasion}
use Rattle.mon_engine.specs.declared.notice.Notice.{Notice}
use Rattle.mon_engine.specs.declared.notice.Subject.{Subject}
use Rattle.mon_engine.specs.declared.notice.Word.{Word}
use Rattle.mon_engine.specs.declared.notice.Word.TheVariants as words
use Rattle.mon_engine.specs.declared.object.Object.{Object}
use Rattle.mon_engine.specs.Objects.{is_service}
use Rattle.mon_engine.specs.World.{World}
use Rattle.mon_engine.specs.Notices.{to_someone, addressed, both_on, of_object, facts, problem_facts, subject_of, downtime_notice, acknowledgement_notice, problem_notice, recovery_notice, custom_notice}
use Rattle.mon_engine.specs.NoticeLaws.{is_service_at, IsContactOf, IsReached, letter_asked, has_letter_at, notifies}
use Rattle.mon_engine.proofs.NoticeLemmas.{is_of_downtime}
use Rattle.mon_engine.proofs.ToldLemmas.{viable_open}

-- ---- contacts

or_again : (x y z : Bool) → (y ≡ true → z ≡ true) → (x || y) ≡ true → (x || z) ≡ true
or_again true y z h e = refl
or_again false y z h e = h e

-- a contact of some escalations that pass a further test
kept_contact : (p q : Escalation → Bool) (c : ℕ) (es : List Escalation) → has_contact c (contacts_of (filter (λ e. p e && q e) es)) ≡ true → has_contact c (contacts_of (filter p es)) ≡ true
kept_contact p q c [] h = h
kept_contact p q c (e ∷ es) h = by (p e) (q e) (kept_contact p q c es) h
  where
    by : (a b : Bool) → (has_contact c (contacts_of (filter (λ x. p x && q x) es)) ≡ true → has_contact c (contacts_of (filter p es)) ≡ true)
        → has_contact c (contacts_of (cond (a && b) (e ∷ filter (λ x. p x && q x) es) (filter (λ x. p x && q x) es))) ≡ true → has_contact c (contacts_of (cond a (e ∷ filter p es) (filter p es))) ≡ true
    by false b rest k = rest k
    by true false rest k = list_any-append (λ n. eqb n c) e.contacts (contacts_of (filter p es)) ∙ or_right (has_contact c e.contacts) _ (rest k)
    by true true rest k = list_any-append (λ n. eqb n c) e.contacts (contacts_of (filter p es)) ∙ or_again (has_contact c e.contacts) _ _ rest (sym (list_any-append (λ n. eqb n c) e.contacts _) ∙ k)

candidate_contact : (inv : Configuration) (object number : ℕ) (l : Letter) (escalated : Bool) (c : ℕ) → has_contact c (candidates_by inv object number l escalated) ≡ true → IsContactOf inv object c
unfolding matching
candidate_contact inv object number l true c h = inr (kept_contact (is_escalation_of object) (is_in_force number l) c inv.escalations h)
candidate_contact inv object number l false c h = inl h

custom_contact : (inv : Configuration) (object number code options : ℕ) (escalated : Bool) (c : ℕ) → has_contact c (custom_candidates_by inv object number code options escalated) ≡ true → IsContactOf inv object c
custom_contact inv object number code options escalated c h = by (is_broadcast options) h
  where
    all : List ℕ
    all = contacts_of (all_escalations inv object)

    by : (b : Bool) → has_contact c (if b then own_contacts (slice_get inv.objects object) ++ all else candidates_by inv object number (letter_of (is_service_at inv object) code) escalated) ≡ true → IsContactOf inv object c
    by true k = or_cases (has_contact c (own_contacts (slice_get inv.objects object))) (has_contact c all) (sym (list_any-append (λ n. eqb n c) (own_contacts (slice_get inv.objects object)) all) ∙ k)
    by false k = candidate_contact inv object number (letter_of (is_service_at inv object) code) escalated c k

-- ---- who is reached

takes_parts : (service : Bool) (l : Letter) (k : Option ContactSpec) (x : Option ContactSwitch) → takes_at service l k x ≡ true → (is_on_at service x ≡ true) × (has_letter_at service l k ≡ true)
takes_parts service l None x h = absurd (cc)
takes_parts service l (Some k) None h = absurd (cc)
takes_parts service l (Some k) (Some x) h = and_parts (is_on service x) (has_letter_at service l (Some k)) h

told_reached : (inv : Configuration) (switches : List ContactSwitch) (s : Subject) (l : Letter) (escalate : Bool) (c : ℕ) → letter_asked (is_service_at inv s.object) s.code s.word ≡ Some l
    → is_told inv switches s.object s.number l escalate c ≡ true → IsReached inv switches s c
told_reached inv switches s l escalate c asked h =
    let escalated = escalates inv s.object s.number l escalate in
    let service = is_service_at inv s.object in
    let parts = and_parts (takes_at service l (slice_get inv.contacts c) (slice_get switches c)) (has_contact c (candidates_by inv s.object s.number l escalated)) h in
    let takes = takes_parts service l (slice_get inv.contacts c) (slice_get switches c) parts.0 in
    record {
      contact = candidate_contact inv s.object s.number l escalated c parts.1;
      switch_on = takes.0;
      letter_on = λ m e. ap (λ (x : Letter). has_letter_at service x (slice_get inv.contacts c)) (same_Some m l (sym e ∙ asked)) ∙ takes.1;
    }

pub someone_is : (P : Notice → Type 0) (s : Subject) (contacts : List ℕ) (n : Notice) → to_someone s contacts ≡ Some n → P (record { subject = s; contacts = contacts }) → P n
someone_is P s contacts n e h = by (nat_lt 0 (length contacts)) e
  where
    by : (b : Bool) → (if b then Some (record { subject = s; contacts = contacts }) else None) ≡ Some n → P n
    by true k = subst P (same_Some _ n k) h
    by false k = absurd (cc)

-- ---- each kind of notice

-- in this world the switches let the notice out, and it reaches its contacts
pub record IsPlain (inv : Configuration) (u : World) (n : Notice) : Type 0 where
  pub program_on : u.program.notifications ≡ true
  pub object_on : notifies (slice_get u.objects n.subject.object) ≡ true
  pub reached : All (IsReached inv u.contacts n.subject) n.contacts

addressed_plain : (inv : Configuration) (u : World) (s : Subject) (l : Letter) (escalate : Bool) (n : Notice) → addressed inv u.contacts s l escalate ≡ Some n → letter_asked (is_service_at inv s.object) s.code s.word ≡ Some l
    → u.program.notifications ≡ true → notifies (slice_get u.objects s.object) ≡ true → IsPlain inv u n
unfolding addressed recipients
addressed_plain inv u s l escalate n e asked on notify = someone_is (IsPlain inv u) s _ n e (record {
  program_on = on;
  object_on = notify;
  reached = All-weaker (λ c. is_told inv u.contacts s.object s.number l escalate c ≡ true) (IsReached inv u.contacts s) (λ c h. told_reached inv u.contacts s l escalate c asked h) _
      (filter_passes (is_told inv u.contacts s.object s.number l escalate) (range_with_len 0 (length inv.contacts)));
})

pub passed : (b : Bool) (x : Option Notice) (n : Notice) → (if b then x else None) ≡ Some n → (b ≡ true) × (x ≡ Some n)
passed true x n e = (refl, e)
passed false x n e = absurd (cc)

-- what is said is said of an object that is there
there_is : (inv : Configuration) (os : List Object) (object : ℕ) (f : ObjectSpec → Object → Option Notice) (n : Notice) → of_object None f (slice_get inv.objects object) (slice_get os object) ≡ Some n
    → (spec : ObjectSpec) × (o : Object) × (slice_get inv.objects object ≡ Some spec) × (slice_get os object ≡ Some o) × (f spec o ≡ Some n)
there_is inv os object f n e = by (slice_get inv.objects object) (slice_get os object) refl refl e
  where
    by : (s : Option ObjectSpec) (o : Option Object) → slice_get inv.objects object ≡ s → slice_get os object ≡ o → of_object None f s o ≡ Some n
        → (spec : ObjectSpec) × (p : Object) × (slice_get inv.objects object ≡ Some spec) × (slice_get os object ≡ Some p) × (f spec p ≡ Some n)
    by None o known at k = absurd (cc)
    by (Some spec) None known at k = absurd (cc)
    by (Some spec) (Some o) known at k = (spec, o, known, at, k)

asks_s : (service : Bool) (code : ℕ) (word : Word) → is_of_downtime word ≡ true → letter_asked service code word ≡ Some letter.S
asks_s service code words.DowntimeStart e = refl
asks_s service code words.DowntimeEnd e = refl
asks_s service code words.DowntimeCancelled e = refl
asks_s service code word e = absurd (cc)

pub downtime_plain : (inv : Configuration) (u : World) (word : Word) (moment object : ℕ) (n : Notice) → is_of_downtime word ≡ true → downtime_notice inv u word moment object ≡ Some n → IsPlain inv u n
unfolding downtime_notice
downtime_plain inv u word moment object n is e =
    let t = there_is inv u.objects object (λ spec o. if both_on u o && spec.letters.s then addressed inv u.contacts (subject_of moment word object o o.number) letter.S false else None) n e in
    let may = passed (both_on u t.1 && t.0.letters.s) (addressed inv u.contacts (subject_of moment word object t.1 t.1.number) letter.S false) n t.4 in
    let on = and_parts u.program.notifications t.1.notify (and_parts (both_on u t.1) t.0.letters.s may.0).0 in
    addressed_plain inv u (subject_of moment word object t.1 t.1.number) letter.S false n may.1 (asks_s (is_service_at inv object) t.1.status.code word is) on.0 (ap notifies t.3 ∙ on.1)

-- the letter of the object's state
pub state_letter : (inv : Configuration) (object code : ℕ) (spec : ObjectSpec) → slice_get inv.objects object ≡ Some spec → letter_of (is_service_at inv object) code ≡ letter_of (is_service spec) code
state_letter inv object code spec known = ap (λ (s : Option ObjectSpec). letter_of (kinds.is_service s) code) known

pub acknowledgement_plain : (inv : Configuration) (u : World) (object : ℕ) (n : Notice) → acknowledgement_notice inv u object ≡ Some n → IsPlain inv u n
unfolding acknowledgement_notice
acknowledgement_plain inv u object n e =
    let said = λ (spec : ObjectSpec) (o : Object). addressed inv u.contacts (subject_of u.clock words.Acknowledgement object o o.number) (letter_of (is_service spec) o.status.code) true in
    let t = there_is inv u.objects object (λ spec o. if both_on u o then said spec o else None) n e in
    let may = passed (both_on u t.1) (said t.0 t.1) n t.4 in
    let on = and_parts u.program.notifications t.1.notify may.0 in
    addressed_plain inv u (subject_of u.clock words.Acknowledgement object t.1 t.1.number) (letter_of (is_service t.0) t.1.status.code) true n may.1
    (ap (λ (l : Letter). Some l) (state_letter inv object t.1.status.code t.0 t.2)) on.0 (ap notifies t.3 ∙ on.1)

pub problem_plain : (inv : Configuration) (u : World) (occasion : Occasion) (object : ℕ) (spec : ObjectSpec) (o : Object) (n : Notice) → slice_get inv.objects object ≡ Some spec → slice_get u.objects object ≡ Some o → problem_notice inv u occasion object spec o ≡ Some n → IsPlain inv u n
unfolding problem_notice
problem_plain inv u occasion object spec o n known at e =
    let l = letter_of (is_service spec) o.status.code in
    let s = subject_of u.clock words.Problem object o (o.number + 1) in
    let may = passed (problem_viable (problem_facts inv u occasion object spec o)) (addressed inv u.contacts s l true) n e in
    let on = viable_open (problem_facts inv u occasion object spec o) may.0 in
    addressed_plain inv u s l true n may.1 (ap (λ (x : Letter). Some x) (state_letter inv object o.status.code spec known)) on.program_on (ap notifies at ∙ on.object_on)

-- what the tests of any notice but a forced custom one say
pub record IsOpen (f : Facts) : Type 0 where
  pub program_on : f.program_on ≡ true
  pub object_on : f.object_on ≡ true
  pub depth : f.depth ≡ 0
  pub host_depth : f.host_depth ≡ 0

pub opened : (f : Facts) → is_open f ≡ true → IsOpen f
opened f h =
    let host = and_parts (f.program_on && f.object_on && eqb f.depth 0) (eqb f.host_depth 0) h in
    let own = and_parts (f.program_on && f.object_on) (eqb f.depth 0) host.0 in
    let switches = and_parts f.program_on f.object_on own.0 in
    record { program_on = switches.0; object_on = switches.1; depth = eqb-true f.depth 0 own.1; host_depth = eqb-true f.host_depth 0 host.1 }

pub recovery_open : (inv : Configuration) (u : World) (object : ℕ) (hard : Bool) (spec : ObjectSpec) (o : Object) (n : Notice) → recovery_notice inv u object hard spec o ≡ Some n → IsOpen (facts inv u object spec o letter.R)
unfolding recovery_notice
recovery_open inv u object hard spec o n e =
    let f = facts inv u object spec o letter.R in
    let may = passed (hard && not (recovers_the_told inv) && recovery_viable f) (addressed inv u.contacts (subject_of u.clock words.Recovery object o o.number) letter.R true) n e in
    opened f (and_parts (nat_lt 0 f.number) (is_open f) (and_parts (nat_lt 0 f.number && is_open f) f.letter_on (and_parts (hard && not (recovers_the_told inv)) (recovery_viable f) may.0).1).0).1

pub recovery_off : (inv : Configuration) (u : World) (object : ℕ) (hard : Bool) (spec : ObjectSpec) (o : Object) (n : Notice) → recovery_notice inv u object hard spec o ≡ Some n → recovers_the_told inv ≡ false
unfolding recovery_notice
recovery_off inv u object hard spec o n e =
    let f = facts inv u object spec o letter.R in
    let may = passed (hard && not (recovers_the_told inv) && recovery_viable f) (addressed inv u.contacts (subject_of u.clock words.Recovery object o o.number) letter.R true) n e in
    not-true (recovers_the_told inv) (and_parts hard (not (recovers_the_told inv)) (and_parts (hard && not (recovers_the_told inv)) (recovery_viable f) may.0).0).1

pub recovery_plain : (inv : Configuration) (u : World) (object : ℕ) (hard : Bool) (spec : ObjectSpec) (o : Object) (n : Notice) → slice_get u.objects object ≡ Some o → recovery_notice inv u object hard spec o ≡ Some n → IsPlain inv u n
unfolding recovery_notice
recovery_plain inv u object hard spec o n at e =
    let s = subject_of u.clock words.Recovery object o o.number in
    let may = passed (hard && not (recovers_the_told inv) && recovery_viable (facts inv u object spec o letter.R)) (addressed inv u.contacts s letter.R true) n e in
    let on = recovery_open inv u object hard spec o n e in
    addressed_plain inv u s letter.R true n may.1 refl on.program_on (ap notifies at ∙ on.object_on)

-- a custom notice of this object that is forced
pub record IsForcedTo (inv : Configuration) (object options : ℕ) (n : Notice) : Type 0 where
  pub word_is : n.subject.word ≡ words.Custom
  pub object_is : n.subject.object ≡ object
  pub forced : is_forced options ≡ true
  pub contacts : All (IsContactOf inv n.subject.object) n.contacts

custom_reached : (inv : Configuration) (switches : List ContactSwitch) (s : Subject) (options c : ℕ) → s.word ≡ words.Custom → is_forced options ≡ false → is_custom_told inv switches s.object s.number s.code options c ≡ true → IsReached inv switches s c
custom_reached inv switches s options c word quiet h =
    let escalated = custom_escalates inv s.object s.number s.code options in
    let on = is_on_at (is_service_at inv s.object) (slice_get switches c) in
    let parts = and_parts (is_forced options || on) (has_contact c (custom_candidates_by inv s.object s.number s.code options escalated)) h in
    record {
      contact = custom_contact inv s.object s.number s.code options escalated c parts.1;
      switch_on = ap (λ (b : Bool). b || on) (sym quiet) ∙ parts.0;
      letter_on = λ l e. (let none : letter_asked (is_service_at inv s.object) s.code words.Custom ≡ Some l = ap (letter_asked (is_service_at inv s.object) s.code) (sym word) ∙ e in absurd (cc));
    }

pub custom_plain : (inv : Configuration) (u : World) (object number options : ℕ) (spec : ObjectSpec) (o : Object) (n : Notice) → slice_get u.objects object ≡ Some o → custom_notice inv u object number options spec o ≡ Some n
    → IsPlain inv u n ⊎ IsForcedTo inv object options n
unfolding custom_notice custom_recipients
custom_plain inv u object number options spec o n at e = by (is_forced options) refl
  where
    f : Facts
    f = facts inv u object spec o (letter_of (is_service spec) o.status.code)

    s : Subject
    s = subject_of u.clock words.Custom object o number

    told : ℕ → Bool
    told c = is_custom_told inv u.contacts object number o.status.code options c

    may : (custom_viable f options ≡ true) × (to_someone s (filter told (range_with_len 0 (length inv.contacts))) ≡ Some n)
    may = passed (custom_viable f options) (to_someone s (filter told (range_with_len 0 (length inv.contacts)))) n e

    by : (b : Bool) → is_forced options ≡ b → IsPlain inv u n ⊎ IsForcedTo inv object options n
    by true forced = inr (someone_is (IsForcedTo inv object options) s _ n may.1 (record {
      word_is = refl;
      object_is = refl;
      forced = forced;
      contacts = All-weaker (λ c. told c ≡ true) (IsContactOf inv object) (λ c h. custom_contact inv object number o.status.code options (custom_escalates inv object number o.status.code options) c (and_parts (is_forced options || is_on_at (is_service_at inv object) (slice_get u.contacts c)) _ h).1) _
          (filter_passes told (range_with_len 0 (length inv.contacts)));
    }))
    by false quiet =
        let on = opened f (ap (λ (b : Bool). b || is_open f) (sym quiet) ∙ may.0) in
        inl (someone_is (IsPlain inv u) s _ n may.1 (record {
          program_on = on.program_on;
          object_on = ap notifies at ∙ on.object_on;
          reached = All-weaker (λ c. told c ≡ true) (IsReached inv u.contacts s) (λ c h. custom_reached inv u.contacts s options c refl quiet h) _ (filter_passes told (range_with_len 0 (length inv.contacts)));
        }))
