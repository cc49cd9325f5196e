-- The facts on a run that follow from joining the threads and settling the queue, whatever the log.
use Rattle.std.proofs.Common.{◌≡◌, ◌<◌, ◌≤◌, ◌+◌, ℕ, zero, suc, Bool, true, false, List, [], ◌∷◌, length, get_or, refl, sym, ap, ◌∙◌, subst, arith, Option, None, Some}
use Rattle.std.specs.List.{All, sum_by}
use Rattle.std.proofs.lemmas.List.{length-map, get_or-map}
use Rattle.std.specs.declared.thread.PromisedHandle.{PromisedHandle}
use Rattle.cmd_types.specs.declared.entry.Entry.{Entry}
use Rattle.cmd_lines.specs.declared.fault.LineFault.{LineFault}
use Rattle.cmd_queue.specs.declared.taken.Taken.{Taken}
use Rattle.cmd_queue.specs.Lists.{entries}
use Rattle.cmd_queue.specs.Queue.{IsNewQueue}
use Rattle.cmd_queue.specs.Sides.{Sent, Ended, Taking, Settlement, IsSettled, new_side}
use Rattle.cmd_journal.specs.Journals.{of_sender}
use Rattle.cmd_run.specs.declared.ending.SenderReport.{SenderReport}
use Rattle.cmd_run.specs.declared.fault.RunCause.{RunCause}
use Rattle.cmd_run.specs.declared.fault.RunCause.TheVariants as cause
use Rattle.cmd_dispatch.specs.declared.reading.Reading.{Reading}
use Rattle.cmd_dispatch.specs.declared.threads.Promised.{Promised}
use Rattle.cmd_dispatch.specs.Sends.{HasSent}
use Rattle.cmd_dispatch.specs.Threads.{HaveStarted, HaveEnded}
use Rattle.cmd_run.specs.Senders.{AreOf}
use Rattle.cmd_dispatch.specs.Dispatches.{AreTakenOf, MayFail, Stands, logged, known_fault, HasTaken}
use Rattle.cmd_dispatch.specs.Runs.{IsBegunBy, HasFed, HasEnded, IsEndedBy, fault_known, IsPartSettled, AreComplete, IsSpawned, IsCause}
use Rattle.cmd_dispatch.proofs.DispatchLemmas.{entries_are_of}
use Rattle.cmd_dispatch.proofs.CountLemmas.{all_counted, from_first}
use Rattle.cmd_dispatch.specs.RunCalls.{Source, sources, read_as}
use Rattle.cmd_options.specs.declared.options.RunOptions.{RunOptions}
use Rattle.cmd_dispatch.proofs.CauseLemmas.{lost_first, no_fault, none_at_first, none_before, free_if_stopped, spawn_some, may_fail_known, logged_begins, logged_all, of_failure, of_stopped}
use Rattle.cmd_dispatch.proofs.SenderLemmas.{SentFrom, one_closed, one_told, not_refused, one_begun, few_taken, all_counted_of, of_one}

-- a list has an element at each of its indices
there : {A : Type 0} (l : List A) (k : ℕ) → k < length l → A
there [] k low = absurd (omega arith)
there (x ∷ xs) zero low = x
there (x ∷ xs) (suc k) low = there xs k (omega arith)

module _ {F P : Type 0} (remaining : F → Option (List ℕ)) (fails fills : F → Bool) (options : RunOptions) (sides : List Sent) (readers : List F) (reading : Reading) (before after : Taking) (handles : List (PromisedHandle (Ended × P × F) (Promised F))) (all : Bool)
    (ends : List Ended) (reports : List SenderReport) (refused : ℕ → List (ℕ × LineFault) → Type 0)
    (new : IsNewQueue (length readers) sides before) (started : HaveStarted sides readers reading handles all) (joined : HaveEnded remaining fails fills handles ends reports refused)
    (piece_is : reading.piece ≡ options.piece) (reads_is : reading.reads ≡ options.reads) where
  abbrev fed : List Source
  fed = sources remaining fails fills options readers

  many : length fed ≡ length readers
  many = length-map readers (read_as remaining fails fills options)

  -- the messages that each thread has sent
  kept_at : (k : ℕ) (s : Source) (e : Ended) (r : SenderReport) → k < length handles → SentFrom (get_or fed k s) before.queue k (get_or ends k e) (get_or reports k r) (refused k)
  kept_at k s e r low =
      let h = there handles k low in
      let few = started.few in
      let f = there readers k (omega arith) in
      let side : Sent = new_side before.queue k in
      let p = started.promised k h side f low in
      let side_is : (get_or handles k h).promise.side.value ≡ side = p.0 ∙ new.numbered k side (omega arith) in
      let room_is : (get_or handles k h).promise.reading.piece ≡ options.piece = ap (λ (x : Reading). x.piece) p.2 ∙ piece_is in
      let most_is : (get_or handles k h).promise.reading.reads ≡ options.reads = ap (λ (x : Reading). x.reads) p.2 ∙ reads_is in
      subst (λ (x : Source). SentFrom x before.queue k (get_or ends k e) (get_or reports k r) (refused k)) (sym (get_or-map (read_as remaining fails fills options) readers k f s (omega arith)))
      (subst (λ (y : Sent × F × ℕ × ℕ). (left : Option (List ℕ)) × HasSent (remaining y.1) left (fails y.1) (fills y.1) y.2 y.3 y.0.queue y.0.sender (get_or ends k e) (get_or reports k r) (refused k)) (λ i. (side_is i, p.1 i, room_is i, most_is i)) (joined.kept k h e r low))

  -- the ends are of the dispatcher's queue
  pub same_queue : after.queue ≡ before.queue → All (λ (e : Ended). e.queue ≡ after.queue) ends
  same_queue same k e low =
      let ends_are = joined.ends_are in
      let reports_are = joined.reports_are in
      let few = started.few in
      let low' : k < length handles = omega arith in
      (kept_at k (there fed k (omega (arith, many))) e (there reports k (omega arith)) low').1.queue_is ∙ sym same

  module _ (holds : Option RunCause → List Entry → Type 0) (count : ℕ) (first fault : Option RunCause) (spawned : IsSpawned all count first) (is_count : count ≡ length handles)
      (taken : HasTaken holds count before after first fault) (settled : All (λ (e : Ended). IsSettled after e) ends) where
    abbrev es : List Entry
    es = entries after.list

    -- the entries that were passed to the log
    abbrev noted : List Entry
    noted = logged first es

    -- a run without a fault
    whole : (list : Settlement) → list.list ≡ after.list → list.senders ≡ after.senders → (fault ≡ None) × AreComplete reports → HasFed fed reports refused list
    whole list list_is list_of free =
        let taking = taken.taking in
        let every : all ≡ true = none_at_first all count first spawned (none_before first fault taking.stands free.0) in
        let all_are : length handles ≡ length readers = started.all_are every in
        let reports_are = joined.reports_are in
        let ends_are = joined.ends_are in
        let taken_of : AreTakenOf (length fed) after.list = subst (λ (n : ℕ). AreTakenOf n after.list) (taking.same_senders ∙ new.known ∙ sym many) taking.known in
        let known : AreOf (length fed) es = entries_are_of (length fed) after.list taken_of in
        subst (λ (l : List Taken). HasFed fed reports refused (record { queue = list.queue; senders = list.senders; list = l })) (sym list_is) (record {
          settled_of = list_of ∙ taking.same_senders ∙ new.known ∙ sym many;
          closed = record {
            of_each = λ k r low.
                let low' : k < length handles = omega (arith, many) in
                let low'' : k < length ends = omega arith in
                let s = there fed k low in
                let e = there ends k low'' in
                one_closed (get_or fed k s) before.queue k (get_or ends k e) (get_or reports k r) (refused k) after (kept_at k s e r low') (settled k e low'') (taken.closed free.0 k (omega arith)) (free.1 k r (omega arith));
            of_no_other = taken_of;
          };
          alone = λ one. of_one es (subst (λ (n : ℕ). AreOf n es) one known);
          known = known;
          one_each = reports_are ∙ all_are ∙ sym many;
          reported_are = λ k s r low.
              let low' : k < length handles = omega (arith, many) in
              let low'' : k < length ends = omega arith in
              let e = there ends k low'' in
              one_told (get_or fed k s) before.queue k (get_or ends k e) (get_or reports k r) (refused k) after (kept_at k s e r low') (settled k e low'') (taken.closed free.0 k (omega arith)) (free.1 k r (omega arith));
        })

    -- where the only fault is a sender that stopped, all entries were passed to the log
    all_logged : (c : RunCause) (j : ℕ) → IsCause fault reports (Some c) → c ≡ cause.SenderStopped j → (fault ≡ None) × (noted ≡ es)
    all_logged c j is stopped =
        let taking = taken.taking in
        let free = free_if_stopped all count j first fault reports spawned taking.stands (subst (λ (x : RunCause). IsCause fault reports (Some x)) stopped is) in
        (free, logged_all first es (none_before first fault taking.stands free))

    -- `IsBegunBy` holds for each sender that was started
    begun_are : (c : RunCause) → IsCause fault reports (Some c) → (k : ℕ) (s : Source) (r : SenderReport) → k < length reports → IsBegunBy (get_or fed k s) c k noted (get_or reports k r) (refused k)
    begun_are c is k s r low =
        let reports_are = joined.reports_are in
        let ends_are = joined.ends_are in
        let low' : k < length handles = omega arith in
        let low'' : k < length ends = omega arith in
        let e = there ends k low'' in
        one_begun (get_or fed k s) before.queue k (get_or ends k e) (get_or reports k r) (refused k) after (kept_at k s e r low') (settled k e low'') noted c (logged_begins first es)
        (λ j stopped. let free = all_logged c j is stopped in (free.1, taken.closed free.0 k (omega arith)))

    -- the messages that were taken in a run with a fault
    part_settled : (list : Settlement) → list.list ≡ after.list → list.senders ≡ after.senders → (c : RunCause) → IsCause fault reports (Some c) → IsPartSettled (length fed) c noted reports list
    part_settled list list_is list_of c is =
        let taking = taken.taking in
        let reports_are = joined.reports_are in
        let ends_are = joined.ends_are in
        subst (λ (l : List Taken). IsPartSettled (length fed) c noted reports (record { queue = list.queue; senders = list.senders; list = l })) (sym list_is) (record {
          of_queue = list_of ∙ taking.same_senders ∙ new.known ∙ sym many;
          journaled = logged_begins first es;
          all_journaled = λ j stopped. sym (all_logged c j is stopped).1;
          lost_journaled = λ lost.
              let first_is = lost_first all count first fault reports spawned taking.stands (subst (λ (x : RunCause). IsCause fault reports (Some x)) lost is) in
              sym (logged_all first es first_is.0);
          all_closed = λ j stopped k low.
              let none = (all_logged c j is stopped).0 in
              let every = started.all_are (none_at_first all count first spawned (none_before first fault taking.stands none)) in
              taken.closed none k (omega (arith, many));
          counted = λ k r low closed.
              let low' : k < length handles = omega arith in
              let low'' : k < length ends = omega arith in
              let few = started.few in
              let s = there fed k (omega (arith, many)) in
              let e = there ends k low'' in
              all_counted_of (get_or fed k s) before.queue k (get_or ends k e) (get_or reports k r) (refused k) after (kept_at k s e r low') (settled k e low'') closed;
          still_open = λ lost closed.
              let first_is = lost_first all count first fault reports spawned taking.stands (subst (λ (x : RunCause). IsCause fault reports (Some x)) lost is) in
              let every = started.all_are (none_at_first all count first spawned first_is.0) in
              taken.lost first_is.0 first_is.1 (λ k low. closed k (omega (arith, many)));
        })

    -- at most as many entries were taken as the senders have accepted
    few_are_taken : length reports ≡ length fed → length es ≤ sum_by (λ (r : SenderReport). r.accepted) reports
    few_are_taken every =
        let taking = taken.taking in
        let ends_are = joined.ends_are in
        let reports_are = joined.reports_are in
        let known : AreOf (0 + length reports) es = subst (λ (n : ℕ). AreOf n es) (taking.same_senders ∙ new.known ∙ sym many ∙ sym every ∙ (omega arith)) (entries_are_of after.senders after.list taking.known) in
        all_counted 0 es reports (λ k r low.
        let low' : k < length handles = omega arith in
        let low'' : k < length ends = omega arith in
        let s = there fed k (omega arith) in
        let e = there ends k low'' in
        subst (λ (m : ℕ). length (of_sender m es) ≤ (get_or reports k r).accepted) (omega arith)
        (few_taken (get_or fed k s) before.queue k (get_or ends k e) (get_or reports k r) (refused k) after (kept_at k s e r low') (settled k e low'')))
        known (from_first es)

    -- how a run with a fault ended
    ended : (c : RunCause) → IsCause fault reports (Some c) → (AreOf (length reports) noted) × IsEndedBy (length fed) c noted reports
    ended c is = by_all all refl
      where
        by_fault : (f : Option RunCause) → fault ≡ f → first ≡ None → length reports ≡ length fed → IsEndedBy (length fed) c es reports
        by_fault None is_none none every = of_stopped (length fed) c es reports every (λ k r low.
            let ends_are = joined.ends_are in
            let reports_are = joined.reports_are in
            let low' : k < length handles = omega arith in
            let low'' : k < length ends = omega arith in
            let s = there fed k (omega arith) in
            let e = there ends k low'' in
            not_refused (get_or fed k s) before.queue k (get_or ends k e) (get_or reports k r) (refused k) after (kept_at k s e r low') (settled k e low'') (taken.closed is_none k (omega arith)))
            (subst (λ (y : Option RunCause). IsCause y reports (Some c)) is_none is)
        by_fault (Some d) is_some none every =
            let same : Some c ≡ Some d = subst (λ (y : Option RunCause). IsCause y reports (Some c)) is_some is in
            let may : MayFail (Some c) = subst MayFail (is_some ∙ sym same) (subst (λ (y : Option RunCause). Stands y fault) none taken.taking.stands) in
            of_failure (length fed) c es reports every (few_are_taken every) may

        by_all : (a : Bool) → all ≡ a → (AreOf (length reports) noted) × IsEndedBy (length fed) c noted reports
        by_all true is_all =
            let none : first ≡ None = subst (λ (b : Bool). IsSpawned b count first) is_all spawned in
            let every : length reports ≡ length fed = joined.reports_are ∙ started.all_are is_all ∙ sym many in
            let taking = taken.taking in
            subst (λ (l : List Entry). (AreOf (length reports) l) × IsEndedBy (length fed) c l reports) (sym (logged_all first es none))
            (subst (λ (n : ℕ). AreOf n es) (taking.same_senders ∙ new.known ∙ sym many ∙ sym every) (entries_are_of after.senders after.list taking.known), by_fault fault refl none every)
        by_all false is_all =
            let some : first ≡ Some (cause.Spawn count) = subst (λ (b : Bool). IsSpawned b count first) is_all spawned in
            let stands = subst (λ (y : Option RunCause). Stands y fault) some taken.taking.stands in
            let same : Some c ≡ Some (cause.Spawn count) = subst (λ (y : Option RunCause). IsCause y reports (Some c)) stands is in
            let c_is : c ≡ cause.Spawn count = cc in
            let reports_are = joined.reports_are in
            let n : length reports ≡ count = omega arith in
            let fewer = started.not_all is_all in
            let nothing : noted ≡ [] = ap (λ (y : Option RunCause). logged y es) some in
            subst (λ (l : List Entry). (AreOf (length reports) l) × IsEndedBy (length fed) c l reports) (sym nothing)
            (tt, subst (λ (d : RunCause). IsEndedBy (length fed) d [] reports) (sym c_is) (refl, n, omega (arith, many)))

    -- the fault of which the log knows, by the cause for which the run has no report
    log_knows : (c : Option RunCause) → IsCause fault reports c → known_fault first fault ≡ fault_known c
    log_knows c is = by first fault spawned taken.taking.stands c is
      where
        by : (f g : Option RunCause) → IsSpawned all count f → Stands f g → (c : Option RunCause) → IsCause g reports c → known_fault f g ≡ fault_known c
        by None None spawned stands None is = refl
        by None None spawned stands (Some cause.BadOptions) is = absurd is
        by None None spawned stands (Some cause.Memory) is = absurd is
        by None None spawned stands (Some (cause.Spawn k)) is = absurd is
        by None None spawned stands (Some cause.JournalFull) is = absurd is
        by None None spawned stands (Some cause.QueueLost) is = absurd is
        by None None spawned stands (Some cause.Output) is = absurd is
        by None None spawned stands (Some (cause.SenderStopped k)) is = refl
        by None (Some d) spawned stands c is = sym (ap fault_known is ∙ may_fail_known d stands)
        by (Some d) None spawned stands c is = absurd (let h : None ≡ Some d = stands in cc)
        by (Some d) (Some e) spawned stands c is = sym (ap fault_known (is ∙ stands ∙ spawn_some all count d spawned))

    pub run_ended : (list : Settlement) → list.list ≡ after.list → list.senders ≡ after.senders → (c : Option RunCause) → IsCause fault reports c → HasEnded fed holds c reports refused list
    run_ended list list_is list_of None is =
        let free = no_fault fault reports is in
        let first_is = none_before first fault taken.taking.stands free.0 in
        record {
          logged = noted;
          held = subst (λ (f : Option RunCause). holds f noted) (log_knows None is) taken.taking.held;
          ran = (logged_all first es first_is ∙ ap entries (sym list_is), whole list list_is list_of free);
        }
    run_ended list list_is list_of (Some c) is =
        let by = ended c is in
        let reports_are = joined.reports_are in
        let few = started.few in
        record {
          logged = noted;
          held = subst (λ (f : Option RunCause). holds f noted) (log_knows (Some c) is) taken.taking.held;
          ran = record { few = omega (arith, many); known = by.0; ended = by.1; begun = begun_are c is; taken = part_settled list list_is list_of c is };
        }
