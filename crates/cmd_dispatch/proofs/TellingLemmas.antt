-- A log that prints, entry by entry.
use Rattle.std.proofs.Common.{◌≡◌, ◌≢◌, ◌<◌, ◌≤◌, inl, inr, IfOk, IfErr, OnOk, OnErr, ◌↔◌, ℕ, List, [], ◌∷◌, ◌++◌, length, map, get_or, Option, Some, None, Result, Ok, Err, refl, sym, ap, ◌∙◌, subst, arith, append_assoc, append-nil, length-append}
use Rattle.std.proofs.KnownBytes.{Appends-nil, Appends-trans}
use Rattle.std.proofs.lemmas.List.{length-map, get_or-map}
use Rattle.std.specs.Io.KnownBytes.{Appends}
use Rattle.cmd_types.specs.declared.entry.Entry.{Entry}
use Rattle.cmd_journal.specs.Pasts.{StandsFor}
use Rattle.mon_inventory.specs.Configuration.{Configuration}
use Rattle.mon_engine.specs.Held.{Held}
use Rattle.mon_engine.specs.World.{World, initial}
use Rattle.mon_engine.specs.Step.{meaning_from}
use Rattle.mon_engine.specs.Telling.{told_text, tellings}
use Rattle.cmd_ledger.specs.declared.ledger.Ledger.{Ledger}
use Rattle.cmd_ledger.specs.Ledgers.{AreLastsOf, HasApplied, HasToldFrom}
use Rattle.cmd_run.specs.declared.fault.RunCause.{RunCause}
use Rattle.cmd_run.specs.declared.fault.RunCause.TheVariants as cause
use Rattle.cmd_dispatch.specs.Delivered.{BeginsWith, HaveTakenNothing}
use Rattle.cmd_dispatch.specs.Dispatches.{IsOfLog}
use Rattle.cmd_dispatch.specs.Logs.{fault_in}
use Rattle.cmd_dispatch.proofs.JournalingLemmas.{IsNewMonitor}
use Rattle.cmd_dispatch.specs.Tellings.{IsTelling, IsToldBy, IsPart, IsWithin, HasToldPart, AppendsBeginning}
use Rattle.cmd_dispatch.specs.TellingLaws.{told_begins, first_more}
use Rattle.cmd_queue.specs.Lists.{entries}
use Rattle.cmd_queue.specs.Sides.{Settlement}
use Rattle.cmd_lines.specs.declared.fault.LineFault.{LineFault}
use Rattle.cmd_dispatch.specs.declared.following.FollowedFeed.{FollowedFeed}
use Rattle.cmd_dispatch.specs.declared.following.Followed.{Followed}
use Rattle.cmd_dispatch.specs.declared.following.FollowFault.{FollowFault}
use Rattle.cmd_dispatch.specs.RunCalls.{RunCall}
use Rattle.cmd_dispatch.specs.Runs.{HasEnded, IsEndedBy, fault_known}
use Rattle.cmd_dispatch.specs.Follows.{HasFollowed, HasStopped, IsFollowedAs, ListNothing, attended_at, followed_outcome}

-- whatever the fault, nothing may follow the lines of whole entries
part_as : (fault : Option RunCause) (part : List ℕ) → part ≡ [] → IsPart fault part
part_as None part none = none
part_as (Some cause.BadOptions) part none = none
part_as (Some cause.Memory) part none = none
part_as (Some (cause.Spawn k)) part none = none
part_as (Some cause.JournalFull) part none = none
part_as (Some cause.QueueLost) part none = none
part_as (Some (cause.SenderStopped k)) part none = none
part_as (Some cause.Output) part none = tt

-- there is no room for one more entry
pub no_room : (limit : ℕ) (inv : Configuration) (clock : Option ℕ) (before : Option (List ℕ)) (taken : List Entry) (e : Entry) (ledger : Ledger) (waiting : List ℕ) (now : Option (List ℕ)) → limit ≤ ledger.monitor.applied → IsTelling limit inv clock before None taken ledger waiting now → limit < length (taken ++ e ∷ [])
no_room limit inv clock before taken e ledger waiting now full is = (let n = is.told.has_told.applied in omega (arith, full, length-append taken (e ∷ [])))

module _ (limit : ℕ) (inv : Configuration) (clock : Option ℕ) (before : Option (List ℕ)) where
  -- the contents of the log after a fault of an entry: nothing more was printed
  pub telling_failed : (c : RunCause) (taken : List Entry) (e : Entry) (ledger ledger' : Ledger) (waiting waiting' : List ℕ) (now : Option (List ℕ)) → IsOfLog c → IsTelling limit inv clock before None taken ledger waiting now → IsWithin limit (Some c) (taken ++ e ∷ []) → IsTelling limit inv clock before (Some c) (taken ++ e ∷ []) ledger' waiting' now
  telling_failed c taken e ledger ledger' waiting waiting' now of_log is within =
      let more = told_begins inv clock (initial inv) taken (e ∷ []) in
      let begins : BeginsWith (told_text inv clock (initial inv) (taken ++ e ∷ [])) is.written =
      (waiting ++ more.0, more.1 ∙ ap (λ (l : List ℕ). l ++ more.0) (sym is.told.told) ∙ append_assoc is.written waiting more.0) in
      record { written = is.written; appended = is.appended; told = by_cause c of_log begins; gone = is.gone; first = first_more taken is.gone e is.first; part = is.part; written_is = is.written_is; part_is = part_as (Some c) is.part is.part_is; within = within }
    where
      by_cause : (d : RunCause) → IsOfLog d → BeginsWith (told_text inv clock (initial inv) (taken ++ e ∷ [])) is.written → IsToldBy (Some d) inv clock (taken ++ e ∷ []) ledger' waiting' is.written
      by_cause cause.BadOptions of h = absurd of
      by_cause cause.Memory of h = h
      by_cause (cause.Spawn k) of h = absurd of
      by_cause cause.JournalFull of h = h
      by_cause cause.QueueLost of h = absurd of
      by_cause (cause.SenderStopped k) of h = absurd of
      by_cause cause.Output of h = h

  -- one more entry was applied, and its lines wait
  pub telling_noted : (taken : List Entry) (e : Entry) (ledger ledger' : Ledger) (waiting waiting' : List ℕ) (now : Option (List ℕ)) → IsTelling limit inv clock before None taken ledger waiting now → ledger.monitor.applied < limit
      → ((inv : Configuration) (clock : Option ℕ) (w : World) (earlier applied : List Entry) (printed : List ℕ) → HasApplied inv clock w earlier applied printed waiting ledger → HasApplied inv clock w earlier (applied ++ e ∷ []) printed waiting' ledger')
      → IsTelling limit inv clock before None (taken ++ e ∷ []) ledger' waiting' now
  telling_noted taken e ledger ledger' waiting waiting' now is room applies = record {
    written = is.written;
    appended = is.appended;
    told = applies inv clock (initial inv) [] taken is.written is.told;
    gone = is.gone;
    first = first_more taken is.gone e is.first;
    part = is.part;
    written_is = is.written_is;
    part_is = is.part_is;
    within = (let n = is.told.has_told.applied in omega (arith, room, n, length-append taken (e ∷ [])));
  }

-- the waiting text was printed
pub telling_passed : (limit : ℕ) (inv : Configuration) (clock : Option ℕ) (before : Option (List ℕ)) (taken : List Entry) (ledger : Ledger) (waiting waiting' : List ℕ) (now now' : Option (List ℕ)) → IsTelling limit inv clock before None taken ledger waiting now → Appends now now' waiting → waiting' ≡ []
    → IsTelling limit inv clock before None taken ledger waiting' now'
telling_passed limit inv clock before taken ledger waiting waiting' now now' is passed none = record {
  written = is.written ++ waiting;
  appended = Appends-trans before now now' is.written waiting is.appended passed;
  told = record {
    has_told = is.told.has_told;
    stands = is.told.stands;
    same_clock = is.told.same_clock;
    lasts = is.told.lasts;
    told = ap (λ (l : List ℕ). (is.written ++ waiting) ++ l) none ∙ append-nil (is.written ++ waiting) ∙ is.told.told;
  };
  gone = taken;
  first = ([], sym (append-nil taken));
  part = [];
  written_is = is.told.told ∙ sym (append-nil (told_text inv clock (initial inv) taken));
  part_is = refl;
  within = is.within;
}

-- the output took only a prefix of the waiting text, or nothing
pub telling_stopped : (limit : ℕ) (inv : Configuration) (clock : Option ℕ) (before : Option (List ℕ)) (taken : List Entry) (ledger : Ledger) (waiting waiting' : List ℕ) (now now' : Option (List ℕ)) → IsTelling limit inv clock before None taken ledger waiting now → AppendsBeginning now now' waiting
    → IsTelling limit inv clock before (Some cause.Output) taken ledger waiting' now'
telling_stopped limit inv clock before taken ledger waiting waiting' now now' is part = record {
  written = is.written ++ part.part;
  appended = Appends-trans before now now' is.written part.part is.appended part.appended;
  told = (part.begins.0, sym is.told.told ∙ ap (λ (l : List ℕ). is.written ++ l) part.begins.1 ∙ sym (append_assoc is.written part.part part.begins.0));
  gone = is.gone;
  first = is.first;
  part = part.part;
  written_is = ap (λ (l : List ℕ). l ++ part.part) (is.written_is ∙ ap (λ (l : List ℕ). told_text inv clock (initial inv) is.gone ++ l) is.part_is ∙ append-nil (told_text inv clock (initial inv) is.gone));
  part_is = tt;
  within = tt;
}

-- the waiting text was printed or not, by the result of the call
pub telling_ended : {A : Type 0} → (limit : ℕ) (inv : Configuration) (clock : Option ℕ) (before : Option (List ℕ)) (taken : List Entry) (ledger ledger' : Ledger) (waiting waiting' : List ℕ) (now now' : Option (List ℕ)) (r : Result A RunCause) → ledger' ≡ ledger → IsTelling limit inv clock before None taken ledger waiting now
    → OnOk r ((waiting' ≡ []) × Appends now now' waiting) → OnErr r (AppendsBeginning now now' waiting) → IfErr r (λ c. c ≡ cause.Output) → IsTelling limit inv clock before (fault_in r) taken ledger' waiting' now'
telling_ended limit inv clock before taken ledger ledger' waiting waiting' now now' (Ok x) same is passed stopped by =
    subst (λ (y : Ledger). IsTelling limit inv clock before None taken y waiting' now') (sym same) (telling_passed limit inv clock before taken ledger waiting waiting' now now' is passed.1 passed.0)
telling_ended limit inv clock before taken ledger ledger' waiting waiting' now now' (Err c) same is passed stopped by =
    subst (λ (y : Ledger × RunCause). IsTelling limit inv clock before (Some y.1) taken y.0 waiting' now') (λ i. (sym same i, sym by i)) (telling_stopped limit inv clock before taken ledger waiting waiting' now now' is stopped)

-- nothing was taken yet
pub telling_nothing : (limit : ℕ) (now : Option (List ℕ)) (ledger : Ledger) (waiting : List ℕ) → IsNewMonitor ledger.monitor → StandsFor ledger.past [] → AreLastsOf [] ledger.lasts → waiting ≡ [] → IsTelling limit ledger.monitor.inventory ledger.clock now None [] ledger waiting now
unfolding tellings meaning_from initial
telling_nothing limit now ledger waiting new counts lasts none = record {
  written = [];
  appended = Appends-nil now;
  told = record { has_told = record { inventory = refl; world = new.world; applied = new.nothing; whole = new.whole }; stands = counts; same_clock = refl; lasts = lasts; told = none };
  gone = [];
  first = ([], refl);
  part = [];
  written_is = refl;
  part_is = refl;
  within = omega arith;
}

-- ---- the result of a run that prints

-- the lines of a prefix of the entries were printed, by the cause of the run's end
told_first : (limit : ℕ) (inv : Configuration) (clock : Option ℕ) (before : Option (List ℕ)) (c : RunCause) (taken : List Entry) (ledger : Ledger) (waiting : List ℕ) (now : Option (List ℕ)) → IsTelling limit inv clock before (fault_known (Some c)) taken ledger waiting now → HasToldPart inv clock taken c before now
told_first limit inv clock before c taken ledger waiting now is = record {
  told = is.gone;
  first = is.first;
  part = is.part;
  whole = λ other. none_behind c other is.part_is;
  begins = subst (BeginsWith (told_text inv clock (initial inv) taken)) is.written_is (by_cause c is.told);
  appended = subst (Appends before now) is.written_is is.appended;
}
  where
    by_cause : (d : RunCause) → IsToldBy (fault_known (Some d)) inv clock taken ledger waiting is.written → BeginsWith (told_text inv clock (initial inv) taken) is.written
    by_cause cause.BadOptions h = h
    by_cause cause.Memory h = h
    by_cause (cause.Spawn k) h = (waiting, sym h.told)
    by_cause cause.JournalFull h = h
    by_cause cause.QueueLost h = (waiting, sym h.told)
    by_cause (cause.SenderStopped k) h = (waiting, sym h.told)
    by_cause cause.Output h = h

    none_behind : (d : RunCause) → (d ≡ cause.Output → ⊥) → IsPart (fault_known (Some d)) is.part → is.part ≡ []
    none_behind cause.BadOptions other h = h
    none_behind cause.Memory other h = h
    none_behind (cause.Spawn k) other h = h
    none_behind cause.JournalFull other h = h
    none_behind cause.QueueLost other h = h
    none_behind (cause.SenderStopped k) other h = h
    none_behind cause.Output other h = absurd (other refl)

-- a run whose journal is full was passed more entries than its limit
over_limit : (limit : ℕ) (c : RunCause) (taken : List Entry) → c ≡ cause.JournalFull → IsWithin limit (fault_known (Some c)) taken → limit < length taken
over_limit limit c taken full within = subst (λ (x : RunCause). IsWithin limit (fault_known (Some x)) taken) full within

module _ {A : Type 0} (call : RunCall) (clock : Option ℕ) (B C : Type 0) (W : Option RunCause → List Entry → Type 0) (has_taken : A → List (ℕ × LineFault) → Type 0) (start : Option (List ℕ)) (waiting : List ℕ) (before now : Option (List ℕ)) (followed : Followed A) (gone : Ledger) (of_log : followed.monitor ≡ gone.monitor) where
  abbrev inv : Configuration
  inv = call.inventory

  abbrev settled : Settlement
  settled = followed.settled

  abbrev holds : Option RunCause → List Entry → Type 0
  holds fault taken = B × C × IsTelling call.limit inv clock start fault taken gone waiting before × W fault taken

  abbrev Ended : Option RunCause → Type 0
  Ended why = HasEnded call.sources holds why (map (λ f. f.report) followed.feeds.items) (attended_at has_taken followed.feeds.items) settled

  abbrev HasCome : Result (Followed A) (FollowFault A) → Type 0
  HasCome run = IfOk run (λ r. HasFollowed call clock start now (followed_outcome r) (attended_at has_taken r.feeds.items))

  followed_ok : (why : Option RunCause) (run : Result (Followed A) (FollowFault A)) → Ended why → IsFollowedAs why followed before waiting now run → HasCome run
  followed_ok None (Ok r) ended made =
      let is = ended.held.2 in
      let text : is.written ++ waiting ≡ told_text inv clock (initial inv) (entries settled.list) = is.told.told ∙ ap (told_text inv clock (initial inv)) ended.ran.0 in
      subst (λ (x : Followed A). HasCome (Ok x)) (sym made.0) (record {
        fed = ended.ran.1;
        told = subst (Appends start now) text (Appends-trans start before now is.written waiting is.appended made.1);
        stands = subst (λ (p : List Entry × Held). HasToldFrom inv (initial inv) p.0 p.1) (λ i. (ended.ran.0 i, sym of_log i)) is.told.has_told;
        within = subst (λ (es : List Entry). length es ≤ call.limit) ended.ran.0 is.within;
      })
  followed_ok None (Err e) ended made = tt
  followed_ok (Some c) run ended made = subst HasCome (sym made.0) tt

  abbrev HasFaulted : Result (Followed A) (FollowFault A) → Type 0
  HasFaulted run = IfErr run (λ e. HasStopped call clock start now e.cause (map (λ f. f.report) e.feeds.items) (attended_at has_taken e.feeds.items))

  followed_err : (why : Option RunCause) (run : Result (Followed A) (FollowFault A)) → Ended why → IsFollowedAs why followed before waiting now run → HasFaulted run
  followed_err None (Ok r) ended made = tt
  followed_err None (Err e) ended made =
      let is = ended.held.2 in
      let stopped = telling_stopped call.limit inv clock start ended.logged gone waiting waiting before now is made.1 in
      let part : HasToldPart inv clock (entries settled.list) cause.Output start now = subst (λ (es : List Entry). HasToldPart inv clock es cause.Output start now) ended.ran.0 (told_first call.limit inv clock start cause.Output ended.logged gone waiting now stopped) in
      subst (λ (x : FollowFault A). HasFaulted (Err x)) (sym made.0) (inr (inr (settled, refl, ended.ran.1, subst (λ (es : List Entry). length es ≤ call.limit) ended.ran.0 is.within, part)))
  followed_err (Some c) run ended made =
      subst HasFaulted (sym made.0) (inl (record {
        logged = ended.logged;
        settled = settled;
        fed = ended.ran;
        told = subst (HasToldPart inv clock ended.logged c start) (sym made.1) (told_first call.limit inv clock start c ended.logged gone waiting before ended.held.2);
        full = λ is. over_limit call.limit c ended.logged is ended.held.2.within;
      }))

  abbrev IsInRange : Result (Followed A) (FollowFault A) → Type 0
  IsInRange run = IfErr run (λ e. e.cause ≢ cause.BadOptions)

  followed_bad : (why : Option RunCause) (run : Result (Followed A) (FollowFault A)) → Ended why → IsFollowedAs why followed before waiting now run → IsInRange run
  followed_bad None (Ok r) ended made = tt
  followed_bad None (Err e) ended made = λ bad. (let is : cause.Output ≡ cause.BadOptions = sym (ap (λ (x : FollowFault A). x.cause) made.0) ∙ bad in cc)
  followed_bad (Some c) run ended made =
      subst IsInRange (sym made.0) (λ bad. subst (λ (x : RunCause). IsEndedBy (length call.sources) x ended.logged (map (λ f. f.report) followed.feeds.items)) bad ended.ran.ended)

  pub followed_all : (why : Option RunCause) (run : Result (Followed A) (FollowFault A)) → Ended why → IsFollowedAs why followed before waiting now run → HasCome run × HasFaulted run × IsInRange run
  followed_all why run ended made = (followed_ok why run ended made, followed_err why run ended made, followed_bad why run ended made)

-- where the options are in their ranges and the cause is not `BadOptions`, the cause agrees with the options
pub never_bad : {R A : Type 0} → (range : Type 0) → range → (run : Result R (FollowFault A)) → IfErr run (λ e. e.cause ≢ cause.BadOptions) → IfErr run (λ e. (e.cause ≡ cause.BadOptions) ↔ (range → ⊥))
never_bad range in_range (Ok r) other = tt
never_bad range in_range (Err e) other = (λ bad. absurd (other bad), λ not. absurd (not in_range))

-- a property that always holds also holds where the result is `Ok`
pub always_ok : {R E : Type 0} (r : Result R E) (holds : Type 0) → holds → OnOk r holds
always_ok (Ok x) holds is = is
always_ok (Err e) holds is = tt

-- feeds with attendants that have taken nothing
pub attended_nothing : {A : Type 0} (has_taken : A → List (ℕ × LineFault) → Type 0) (feeds : List (FollowedFeed A)) (attendants : List A) (n : ℕ) → map (λ f. f.attendant) feeds ≡ attendants → ListNothing feeds → HaveTakenNothing has_taken attendants n
    → HaveTakenNothing (λ (f : FollowedFeed A) refused. has_taken f.attendant refused × (f.report.refused.items ≡ [])) feeds n
attended_nothing has_taken feeds attendants n is unlisted are =
    let many : length feeds ≡ n = sym (length-map feeds (λ (f : FollowedFeed _). f.attendant)) ∙ ap length is ∙ are.0 in (
      many,
      λ k f low. (
        subst (λ a. has_taken a []) (ap (λ l. get_or l k f.attendant) (sym is) ∙ get_or-map (λ (x : FollowedFeed _). x.attendant) feeds k f f.attendant (omega (arith, low, many))) (are.1 k f.attendant low),
        sym (get_or-map (λ (x : FollowedFeed _). x.report.refused.items) feeds k f [] (omega (arith, low, many))) ∙ ap (λ l. get_or l k []) unlisted ∙ get_or-map (λ (x : FollowedFeed _). []) feeds k f [] (omega (arith, low, many)),
      ),
    )
