-- A run of the program's feeds is a run of readers of which nothing is known.
use Rattle.std.proofs.Common.{◌≡◌, inl, inr, ℕ, zero, suc, ◌+◌, ◌<◌, Bool, true, false, List, [], ◌∷◌, length, map, get_or, Option, Some, None, refl, Result, Ok, Err, IfErr, OnErr, ap, sym, ◌∙◌, subst, arith}
use Rattle.std.proofs.lemmas.List.{append-nil, length-map, length-replicate, get_or-map}
use Rattle.std.proofs.lemmas.Simd.{splat_is_map}
use Rattle.std.specs.Io.KnownBytes.{Appends}
use Rattle.cmd_types.specs.declared.entry.Entry.{Entry}
use Rattle.cmd_lines.specs.declared.fault.LineFault.{LineFault}
use Rattle.cmd_queue.specs.Sides.{Settlement}
use Rattle.cmd_run.specs.declared.ending.SenderReport.{SenderReport}
use Rattle.cmd_run.specs.declared.fault.RunCause.{RunCause}
use Rattle.cmd_run.specs.declared.fault.RunCause.TheVariants.{Memory}
use Rattle.cmd_answer.specs.Printed.{refuses_none}
use Rattle.cmd_dispatch.specs.declared.following.FollowedFeed.{FollowedFeed}
use Rattle.cmd_dispatch.specs.RunCalls.{Source, RunCall, run_call}
use Rattle.cmd_dispatch.specs.Runs.{taken_outcome, IsReportedBy, IsBegunBy, HasFed, HasPartFed}
use Rattle.cmd_dispatch.specs.Follows.{HasFollowed, HasStopped, attended_at}
use Rattle.cmd_options.specs.declared.mode.FollowCall.{FollowCall}
use Rattle.mon_engine.specs.Held.{Held}
use Rattle.mon_inventory.specs.Configuration.{Configuration}
use Rattle.cmd_live.specs.Runs.{count_with}
use Rattle.gateway.specs.Followed.{all_feeds, given_feeds, with_clock, clock_after, are_clean, followed_status, run_stop, run_of, HasFollowedCall, HasFailedCall, lines_due}
use Rattle.gateway.proofs.EndLemmas.{due_of_given}

-- the reader at this index
one_of : {F : Type 0} (readers : List F) (k : ℕ) → k < length readers → F
one_of [] k h = absurd (omega (arith, h))
one_of (f ∷ readers) k h = f

-- the refused lines of a feed may be stated by another property that follows
reported_so : (source : Source) (k : ℕ) (journal : List Entry) (report : SenderReport) (P Q : List (ℕ × LineFault) → Type 0) → ((refused : List (ℕ × LineFault)) → P refused → Q refused) → IsReportedBy source k journal report P → IsReportedBy source k journal report Q
reported_so source k journal report P Q says t = record {
  text = t.text;
  delivered = t.delivered;
  ended = t.ended;
  journaled = t.journaled;
  accepted = t.accepted;
  refused = says _ t.refused;
}

begun_so : (source : Source) (cause : RunCause) (k : ℕ) (journal : List Entry) (report : SenderReport) (P Q : List (ℕ × LineFault) → Type 0) → ((refused : List (ℕ × LineFault)) → P refused → Q refused) → IsBegunBy source cause k journal report P → IsBegunBy source cause k journal report Q
begun_so source cause k journal report P Q says b = record {
  text = b.text;
  delivered = b.delivered;
  accepted = b.accepted;
  unfinished = b.unfinished;
  journaled = b.journaled;
  all_journaled = b.all_journaled;
  refused = (b.refused.0, says _ b.refused.1, b.refused.2);
  ended = b.ended;
  all_accepted = b.all_accepted;
  all_refused = λ whole. says _ (b.all_refused whole);
}

module _ (sources : List Source) (reports : List SenderReport) (P Q : ℕ → List (ℕ × LineFault) → Type 0) (says : (k : ℕ) (refused : List (ℕ × LineFault)) → k < length reports → P k refused → Q k refused) where
  fed_so : (settled : Settlement) → HasFed sources reports P settled → HasFed sources reports Q settled
  fed_so settled f = record {
    settled_of = f.settled_of;
    closed = f.closed;
    alone = f.alone;
    known = f.known;
    one_each = f.one_each;
    reported_are = λ k s r h. reported_so _ k _ _ (P k) (Q k) (λ refused p. says k refused (omega (arith, h, f.one_each)) p) (f.reported_are k s r h);
  }

  part_fed_so : (cause : RunCause) (logged : List Entry) (settled : Settlement) → HasPartFed sources cause logged reports P settled → HasPartFed sources cause logged reports Q settled
  part_fed_so cause logged settled f = record {
    few = f.few;
    known = f.known;
    ended = f.ended;
    begun = λ k s r h. begun_so _ cause k _ _ (P k) (Q k) (λ refused p. says k refused h p) (f.begun k s r h);
    taken = f.taken;
  }

stopped_so : (call : RunCall) (clock : Option ℕ) (before now : Option (List ℕ)) (cause : RunCause) (reports : List SenderReport) (P Q : ℕ → List (ℕ × LineFault) → Type 0) → ((k : ℕ) (refused : List (ℕ × LineFault)) → k < length reports → P k refused → Q k refused)
    → HasStopped call clock before now cause reports P → HasStopped call clock before now cause reports Q
stopped_so call clock before now cause reports P Q says (inl part) =
    inl (record { logged = part.logged; settled = part.settled; fed = part_fed_so call.sources reports P Q says cause part.logged part.settled part.fed; told = part.told; full = part.full })
stopped_so call clock before now cause reports P Q says (inr (inl none)) = inr (inl none)
stopped_so call clock before now cause reports P Q says (inr (inr all)) = inr (inr (all.0, all.1, fed_so call.sources reports P Q says all.0 all.2, all.3, all.4))

-- readers of which nothing is known are those of a call, where their number is right
as_asked : {F : Type 0} (call : FollowCall) (inv : Configuration) (readers : List F) → length readers ≡ all_feeds call → run_call (λ (_ : F). None) (λ _. true) (λ _. false) call.run readers inv ≡ run_of call inv
as_asked call inv readers each =
    let unknown : Source = record { remaining = None; fails = true; fills = false; piece = call.run.piece; reads = call.run.reads } in
    λ i. record { sources = sym (splat_is_map readers (all_feeds call) unknown each) i; limit = call.run.limit; inventory = inv }

-- there are as many reports as feeds
report_count : {A : Type 0} (feeds : List (FollowedFeed A)) → length (map (λ (f : FollowedFeed A). f.report) feeds) ≡ length feeds
report_count {A = A} feeds = length-map feeds (λ (f : FollowedFeed A). f.report)

module _ {A : Type 0} (clean : A → Bool) (has_taken : A → List (ℕ × LineFault) → Type 0) (says : (a : A) (refused : List (ℕ × LineFault)) → has_taken a refused → clean a ≡ refuses_none refused) where
  -- the attendant of a feed knows whether any line of the feed was refused
  clean_at : (feeds : List (FollowedFeed A)) (k : ℕ) (refused : List (ℕ × LineFault)) → k < length (map (λ (f : FollowedFeed A). f.report) feeds) → attended_at has_taken feeds k refused → are_clean (map (λ (f : FollowedFeed A). clean f.attendant) feeds) k refused
  clean_at feeds k refused h told = λ c.
      (let within : k < length feeds = omega (arith, h, report_count feeds) in
      let feed = one_of feeds k within in
      get_or-map (λ (f : FollowedFeed A). clean f.attendant) feeds k feed c within ∙ says (get_or feeds k feed).attendant refused (told feed).0)

  -- a run that came to its end
  pub call_followed : {F : Type 0} (call : FollowCall) (inv : Configuration) (clock : Option ℕ) (before told : Option (List ℕ)) (readers : List F) (monitor : Held) (feeds : List (FollowedFeed A)) (settled : Settlement) (lines : List ℕ) (status : ℕ)
      → length readers ≡ all_feeds call → clock ≡ clock_after call.following.clock (given_feeds call)
      → HasFollowed (run_call (λ (_ : F). None) (λ _. true) (λ _. false) call.run readers inv) clock before told (taken_outcome monitor (map (λ (f : FollowedFeed A). f.report) feeds) settled) (attended_at has_taken feeds)
      → (listed : List (FollowedFeed A)) → listed ≡ feeds → lines ≡ lines_due call.following.drain clock (map (λ (f : FollowedFeed A). f.report) listed)
      → status ≡ followed_status (map (λ (f : FollowedFeed A). f.report) listed) (map (λ (f : FollowedFeed A). clean f.attendant) listed)
      → HasFollowedCall call inv before told lines status
  call_followed call inv clock before told readers monitor feeds settled lines status each is f listed same_feeds lines_are status_is =
      let reports = map (λ (f : FollowedFeed A). f.report) feeds in
      let same = as_asked call inv readers each in
      let was = subst (λ (y : RunCall × Option ℕ). HasFollowed y.0 y.1 before told (taken_outcome monitor reports settled) (attended_at has_taken feeds)) (λ i. (same i, is i)) f in
      record {
        monitor = monitor;
        reports = reports;
        clean = map (λ (f : FollowedFeed A). clean f.attendant) feeds;
        clean_each = length-map feeds (λ (f : FollowedFeed A). clean f.attendant) ∙ sym (report_count feeds) ∙ was.fed.one_each ∙ length-replicate (all_feeds call) _;
        settled = settled;
        followed = record { fed = fed_so (run_of call inv).sources reports (attended_at has_taken feeds) _ (clean_at feeds) settled was.fed; told = was.told; stands = was.stands; within = was.within };
        lines_are = lines_are ∙ ap (λ (fs : List (FollowedFeed A)). lines_due call.following.drain clock (map (λ (f : FollowedFeed A). f.report) fs)) same_feeds ∙ due_of_given call clock reports is (was.fed.one_each ∙ length-replicate (all_feeds call) _);
        status_is = status_is ∙ ap (λ (fs : List (FollowedFeed A)). followed_status (map (λ (f : FollowedFeed A). f.report) fs) (map (λ (f : FollowedFeed A). clean f.attendant) fs)) same_feeds;
      }

  -- a run that failed
  pub call_failed : {F : Type 0} (call : FollowCall) (inv : Configuration) (clock : Option ℕ) (before now : Option (List ℕ)) (readers : List F) (cause : RunCause) (feeds : List (FollowedFeed A))
      → length readers ≡ all_feeds call → clock ≡ clock_after call.following.clock (given_feeds call)
      → HasStopped (run_call (λ (_ : F). None) (λ _. true) (λ _. false) call.run readers inv) clock before now cause (map (λ (f : FollowedFeed A). f.report) feeds) (attended_at has_taken feeds)
      → HasFailedCall call inv before now (run_stop cause)
  call_failed {F = F} call inv clock before now readers cause feeds each is f =
      let reports = map (λ (f : FollowedFeed A). f.report) feeds in
      let same = as_asked call inv readers each in
      record {
        cause = cause;
        reports = reports;
        clean = map (λ (f : FollowedFeed A). clean f.attendant) feeds;
        stopped = stopped_so (run_of call inv) (clock_after call.following.clock (given_feeds call)) before now cause reports (attended_at has_taken feeds) _ (clean_at feeds)
            (subst (λ (y : RunCall × Option ℕ). HasStopped y.0 y.1 before now cause reports (attended_at has_taken feeds)) (λ i. (same i, is i)) f);
        stop_is = refl;
      }

-- a run that was not started, because memory ran out
pub call_unstarted : (call : FollowCall) (inv : Configuration) (known : Option (List ℕ)) → HasFailedCall call inv known known (run_stop Memory)
call_unstarted call inv known = record {
  cause = Memory;
  reports = [];
  clean = [];
  stopped = inr (inl (inr refl, refl, refl));
  stop_is = refl;
}

-- ---- the clock

-- the clock feed is one more feed than those that the call names
pub count_is : (seconds given n : ℕ) (clock : Option ℕ) → clock ≡ clock_after seconds given → n ≡ given → count_with clock n ≡ with_clock seconds given
count_is zero given n clock is same = ap (λ (c : Option ℕ). count_with c n) is ∙ same
count_is (suc seconds) given n clock is same = ap (λ (c : Option ℕ). count_with c n) is ∙ ap (λ (m : ℕ). m + 1) same

-- ---- streams

-- where nothing was printed, nothing was appended
pub none_taken : {S : Type 0} (contents : S → Option (List ℕ)) (first now : S) → first ≡ now → Appends (contents first) (contents now) []
none_taken contents first now is = subst (λ s. Appends (contents first) (contents s) []) is (appends_none (contents first))
  where
    appends_none : (known : Option (List ℕ)) → Appends known known []
    appends_none None = tt
    appends_none (Some text) = sym (append-nil text)

-- the reason for which lines were not taken
pub cut_so : {X S : Type 0} (r : Result X S) (s : S) (P : Type 0) (Q : S → Type 0) → IfErr r (λ e. e ≡ s) → OnErr r P → (P → Q s) → IfErr r Q
cut_so (Ok x) s P Q is p f = tt
cut_so (Err e) s P Q is p f = subst Q (sym is) (f p)
