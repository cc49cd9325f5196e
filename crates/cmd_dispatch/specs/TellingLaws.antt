-- Proofs that a log that prints is a log, which its laws cite.
use Rattle.std.specs.Prelude.{◌≡◌, ◌<◌, ◌≤◌, ℕ, List, [], ◌∷◌, ◌++◌, length, Option, Some, None}
use Rattle.std.specs.List.{flat_map}
use Rattle.std.specs.Io.KnownBytes.{Appends}
use Rattle.std.proofs.Common.{eqb, inl, inr, arith, refl, sym, ap, ◌∙◌, subst, append_assoc, length-append, add-one}
use Rattle.std.proofs.Math.Nat.{lt_trans, lt-suc_self}
use Rattle.std.proofs.lemmas.Grind.{flat_map-append}
use Rattle.std.proofs.lemmas.List.Sums.{length-filter, count_by-le-length}
use Rattle.cmd_types.specs.declared.entry.Entry.{Entry}
use Rattle.cmd_types.specs.declared.entry.TheConstants.{MOST_SENDERS}
use Rattle.cmd_journal.specs.declared.journal.TheConstants.{GREATEST_LIMIT}
use Rattle.cmd_journal.specs.Journals.{of_sender, next_place}
use Rattle.cmd_journal.specs.Pasts.{IsNextOf}
use Rattle.mon_inventory.specs.Configuration.{Configuration}
use Rattle.cmd_ledger.specs.declared.ledger.Ledger.{Ledger}
use Rattle.mon_engine.specs.World.{World, initial}
use Rattle.mon_engine.specs.Step.{step}
use Rattle.mon_engine.specs.Telling.{told_text, tellings, telling_line, news_between, is_clock}
use Rattle.cmd_run.specs.declared.fault.RunCause.{RunCause}
use Rattle.cmd_run.specs.declared.fault.RunCause.TheVariants as cause
use Rattle.cmd_dispatch.specs.Delivered.{BeginsWith}
use Rattle.cmd_dispatch.specs.Dispatches.{IsOfLog}
use Rattle.cmd_dispatch.specs.Tellings.{IsTelling, IsToldBy, IsWithin, MayTell, TextAllowed}

-- ---- of private contracts alone

pub few_of_sender : (s : ℕ) (entries : List Entry) → length (of_sender s entries) ≤ length entries
few_of_sender s entries = omega (arith, length-filter (λ (e : Entry). eqb e.sender s) entries, count_by-le-length (λ (e : Entry). eqb e.sender s) entries)

-- the lines of some entries are a prefix of the lines of these and further entries
pub told_begins : (inv : Configuration) (clock : Option ℕ) (w : World) (es more : List Entry) → BeginsWith (told_text inv clock w (es ++ more)) (told_text inv clock w es)
unfolding tellings
told_begins inv clock w [] more = (told_text inv clock w more, refl)
told_begins inv clock w (x ∷ es) more =
    let u = (step inv w x).0 in
    let n = news_between (is_clock clock x.sender) w u in
    let f = telling_line inv in
    let r = told_begins inv clock u es more in (
      r.0,
      flat_map-append f n (tellings inv clock u (es ++ more)) ∙ ap (λ (l : List ℕ). flat_map f n ++ l) r.1 ∙ sym (append_assoc (flat_map f n) (told_text inv clock u es) r.0) ∙ ap (λ (l : List ℕ). l ++ r.0) (sym (flat_map-append f n (tellings inv clock u es))),
    )

pub begins_more : {A : Type 0} (xs ys written : List A) → BeginsWith ys xs → BeginsWith xs written → BeginsWith ys written
begins_more {A = A} xs ys written a b = (b.0 ++ a.0, a.1 ∙ ap (λ (l : List A). l ++ a.0) b.1 ∙ append_assoc written b.0 a.0)

-- a prefix of a list is a prefix of the list with one more entry
pub first_more : (taken gone : List Entry) (e : Entry) → BeginsWith taken gone → BeginsWith (taken ++ e ∷ []) gone
first_more taken gone e first = (first.0 ++ e ∷ [], ap (λ (l : List Entry). l ++ e ∷ []) first.1 ∙ append_assoc gone first.0 (e ∷ []))

-- more entries than the limit are more than the limit with one more entry
within_more : (limit : ℕ) (c : RunCause) (taken : List Entry) (e : Entry) → IsWithin limit (Some c) taken → IsWithin limit (Some c) (taken ++ e ∷ [])
within_more limit cause.BadOptions taken e within = tt
within_more limit cause.Memory taken e within = tt
within_more limit (cause.Spawn k) taken e within = tt
within_more limit cause.JournalFull taken e within = subst (λ (n : ℕ). limit < n) (sym (length-append taken (e ∷ []) ∙ add-one (length taken))) (lt_trans within (lt-suc_self (length taken)))
within_more limit cause.QueueLost taken e within = tt
within_more limit (cause.SenderStopped k) taken e within = tt
within_more limit cause.Output taken e within = tt

pub telling_more : (limit : ℕ) (inv : Configuration) (clock : Option ℕ) (before : Option (List ℕ)) (c : RunCause) (taken : List Entry) (e : Entry) (ledger : Ledger) (waiting : List ℕ) (now : Option (List ℕ)) → IsOfLog c → IsTelling limit inv clock before (Some c) taken ledger waiting now
    → IsTelling limit inv clock before (Some c) (taken ++ e ∷ []) ledger waiting now
telling_more limit inv clock before c taken e ledger waiting now of_log is =
    record { written = is.written; appended = is.appended; told = by_cause c of_log is.told; gone = is.gone; first = first_more taken is.gone e is.first; part = is.part; written_is = is.written_is; part_is = is.part_is; within = within_more limit c taken e is.within }
  where
    by_cause : (d : RunCause) → IsOfLog d → IsToldBy (Some d) inv clock taken ledger waiting is.written → IsToldBy (Some d) inv clock (taken ++ e ∷ []) ledger waiting is.written
    by_cause cause.BadOptions of h = absurd of
    by_cause cause.Memory of h = begins_more (told_text inv clock (initial inv) taken) (told_text inv clock (initial inv) (taken ++ e ∷ [])) is.written (told_begins inv clock (initial inv) taken (e ∷ [])) h
    by_cause (cause.Spawn k) of h = absurd of
    by_cause cause.JournalFull of h = begins_more (told_text inv clock (initial inv) taken) (told_text inv clock (initial inv) (taken ++ e ∷ [])) is.written (told_begins inv clock (initial inv) taken (e ∷ [])) h
    by_cause cause.QueueLost of h = absurd of
    by_cause (cause.SenderStopped k) of h = absurd of
    by_cause cause.Output of h = begins_more (told_text inv clock (initial inv) taken) (told_text inv clock (initial inv) (taken ++ e ∷ [])) is.written (told_begins inv clock (initial inv) taken (e ∷ [])) h

pub telling_lost : (limit : ℕ) (inv : Configuration) (clock : Option ℕ) (before : Option (List ℕ)) (taken : List Entry) (ledger : Ledger) (waiting : List ℕ) (now : Option (List ℕ)) → IsTelling limit inv clock before None taken ledger waiting now → IsTelling limit inv clock before (Some cause.QueueLost) taken ledger waiting now
telling_lost limit inv clock before taken ledger waiting now is = record { written = is.written; appended = is.appended; told = is.told; gone = is.gone; first = is.first; part = is.part; written_is = is.written_is; part_is = is.part_is; within = tt }

-- the next entry of a sender has the place that the ledger's counts give it
pub telling_next : (limit now_limit : ℕ) (inv : Configuration) (clock : Option ℕ) (before : Option (List ℕ)) (taken : List Entry) (e : Entry) (ledger : Ledger) (waiting : List ℕ) (now : Option (List ℕ)) → now_limit ≡ limit → now_limit ≤ GREATEST_LIMIT
    → IsTelling limit inv clock before None taken ledger waiting now → e.sender < MOST_SENDERS → e.place ≡ next_place e.sender taken → IsNextOf ledger.past e
telling_next limit now_limit inv clock before taken e ledger waiting now same small is known placed =
    let own = is.told.stands.places e.sender in
    let few = few_of_sender e.sender taken in
    let within = is.within in
    record { sender = known; place = omega (arith, placed, own); small = omega (arith, placed, few, within, same, small) }

-- the text that waits may be printed
pub telling_ends : (limit : ℕ) (inv : Configuration) (clock : Option ℕ) (before : Option (List ℕ)) (taken : List Entry) (ledger : Ledger) (waiting : List ℕ) (now : Option (List ℕ)) (allows : List ℕ → Type 0) (of_feeds : List Entry → Type 0) → IsTelling limit inv clock before None taken ledger waiting now → of_feeds taken → MayTell allows of_feeds inv clock before → TextAllowed allows now waiting
telling_ends limit inv clock before taken ledger waiting now allows of_feeds is sent (inl all) = λ had part known begins. all (had ++ part)
telling_ends limit inv clock before taken ledger waiting now allows of_feeds is sent (inr run) = λ had part known begins.
    (let appended : had ≡ run.before ++ is.written = subst (λ (p : Option (List ℕ) × Option (List ℕ)). Appends p.0 p.1 is.written) (λ i. (run.known i, known i)) is.appended in
    subst allows (sym (ap (λ (l : List ℕ). l ++ part) appended ∙ append_assoc run.before is.written part))
    (run.text taken (is.written ++ part) sent is.told.stands.sound (begins.0, sym is.told.told ∙ ap (λ (l : List ℕ). is.written ++ l) begins.1 ∙ sym (append_assoc is.written part begins.0))))
