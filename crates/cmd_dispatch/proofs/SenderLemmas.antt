-- The messages that one sender has sent, and the facts on the sender after a run.
use Rattle.std.proofs.Common.{◌≡◌, ◌≢◌, ◌==◌, ◌≤◌, ◌⊎◌, inl, inr, ℕ, true, false, true≢false, List, [], ◌∷◌, ◌++◌, length, length-append, refl, sym, ap, ◌∙◌, subst, arith, append-nil, append_assoc, take, Option}
use Rattle.std.proofs.lemmas.List.{length-map}
use Rattle.cmd_types.specs.declared.entry.Entry.{Entry}
use Rattle.cmd_types.specs.Entries.{entries_of}
use Rattle.cmd_types.specs.Spelling.{Timed}
use Rattle.cmd_lines.specs.declared.fault.LineFault.{LineFault}
use Rattle.cmd_lines.specs.declared.item.Item.{Item}
use Rattle.cmd_lines.specs.Items.{commands, refusals, items, items_so_far}
use Rattle.cmd_queue.specs.declared.taken.Taken.{Taken}
use Rattle.cmd_queue.specs.declared.taken.Taken.TheVariants.{Command, Closed}
use Rattle.cmd_queue.specs.Lists.{all_sent, entry_in, entries, has_mark, is_closed}
use Rattle.cmd_queue.specs.Lists as lists
use Rattle.cmd_queue.specs.Sides.{QueueId, Ended, Taking, IsSettled}
use Rattle.cmd_journal.specs.Journals.{of_sender}
use Rattle.cmd_run.specs.declared.ending.Ending.{Ending}
use Rattle.cmd_run.specs.declared.ending.Ending.TheVariants as ending
use Rattle.cmd_run.specs.declared.ending.SenderReport.{SenderReport}
use Rattle.cmd_run.specs.declared.fault.RunCause.{RunCause}
use Rattle.cmd_run.specs.declared.fault.RunCause.TheVariants as cause
use Rattle.cmd_run.specs.Endings.{is_complete}
use Rattle.cmd_dispatch.specs.Delivered.{items_by, BeginsWith, IsAll, IsEnded}
use Rattle.cmd_dispatch.specs.Sends.{in_all, AreGiven, ArePut, HasSent}
use Rattle.cmd_run.specs.Senders.{AreOf}
use Rattle.cmd_dispatch.specs.RunCalls.{Source}
use Rattle.cmd_dispatch.specs.Runs.{IsReportedBy, IsBegunBy}
use Rattle.std.proofs.lemmas.List.Elements.{filter-append, filter_map-append}
use Rattle.cmd_dispatch.proofs.CutLemmas.{begins_twice, first_commands, first_refusals, unfinished_last, take_begins}
use Rattle.cmd_dispatch.proofs.DispatchLemmas.{of_sender-entries}
use Rattle.cmd_dispatch.proofs.SendLemmas.{length-sent}
use Rattle.cmd_dispatch.proofs.ToldLemmas.{delivered}

-- the messages that the thread of this feed has sent
abbrev pub SentFrom : Source → QueueId → (k : ℕ) → Ended → SenderReport → (List (ℕ × LineFault) → Type 0) → Type 0
SentFrom source queue k e r refused = (after : Option (List ℕ)) × HasSent source.remaining after source.fails source.fills source.piece source.reads queue k e r refused

entries_sent : (es : List Entry) (l : List Taken) → entries (all_sent es ++ l) ≡ es ++ entries l
entries_sent [] l = refl
entries_sent (e ∷ es) l = ap (λ (r : List Entry). e ∷ r) (entries_sent es l)

-- the entries of all messages that a sender has sent
entries_in_all : (how : Ending) (s : ℕ) (es : List Entry) → entries (in_all how s (all_sent es)) ≡ es
entries_in_all ending.Whole s es = entries_sent es (Closed s (length (all_sent es)) ∷ []) ∙ append-nil es
entries_in_all ending.ReadFailed s es = entries_sent es (Closed s (length (all_sent es)) ∷ []) ∙ append-nil es
entries_in_all ending.TooManyReads s es = entries_sent es (Closed s (length (all_sent es)) ∷ []) ∙ append-nil es
entries_in_all ending.Memory s es = entries_sent es (Closed s (length (all_sent es)) ∷ []) ∙ append-nil es
entries_in_all ending.QueueRefused s es = ap entries (sym (append-nil (all_sent es))) ∙ entries_sent es [] ∙ append-nil es

-- with a complete ending all items of the text were passed on
given_complete : (source : Source) (text : List ℕ) (how : Ending) (given : List Item) → is_complete how ≡ true → AreGiven source.remaining source.fails source.fills source.piece source.reads text how given
    → (given ≡ items_by how text) × IsEnded source.remaining source.fails source.fills source.piece source.reads text how
given_complete source text ending.Whole given whole are = are
given_complete source text ending.ReadFailed given whole are = are
given_complete source text ending.TooManyReads given whole are = are
given_complete source text ending.Memory given whole are = absurd (true≢false (sym whole))
given_complete source text ending.QueueRefused given whole are = absurd (true≢false (sym whole))

-- with a complete ending all commands of these items were put into the queue
put_complete : (how : Ending) (cs put : List Timed) → is_complete how ≡ true → ArePut how cs put → put ≡ cs
put_complete ending.Whole cs put whole are = are
put_complete ending.ReadFailed cs put whole are = are
put_complete ending.TooManyReads cs put whole are = are
put_complete ending.Memory cs put whole are = are
put_complete ending.QueueRefused cs put whole are = absurd (true≢false (sym whole))

put_first : (how : Ending) (cs put : List Timed) → ArePut how cs put → BeginsWith cs put
put_first ending.Whole cs put are = ([], sym are ∙ sym (append-nil put))
put_first ending.ReadFailed cs put are = ([], sym are ∙ sym (append-nil put))
put_first ending.TooManyReads cs put are = ([], sym are ∙ sym (append-nil put))
put_first ending.Memory cs put are = ([], sym are ∙ sym (append-nil put))
put_first ending.QueueRefused cs put are = are

-- the last message of a sender that read its text to its end is its close mark
marked : (how : Ending) (s : ℕ) (sent : List Taken) → is_complete how ≡ true → in_all how s sent ≡ sent ++ Closed s (length sent) ∷ []
marked ending.Whole s sent whole = refl
marked ending.ReadFailed s sent whole = refl
marked ending.TooManyReads s sent whole = refl
marked ending.Memory s sent whole = refl
marked ending.QueueRefused s sent whole = absurd (true≢false (sym whole))

no_mark : (es : List Entry) → has_mark (all_sent es) ≡ false
no_mark [] = refl
no_mark (e ∷ es) = no_mark es

-- where the ending is not complete, and the queue did not refuse, memory ran out
pub stopped_for_memory : (how : Ending) → is_complete how ≡ false → how ≢ ending.QueueRefused → how ≡ ending.Memory
stopped_for_memory ending.Whole stopped other = absurd (true≢false stopped)
stopped_for_memory ending.ReadFailed stopped other = absurd (true≢false stopped)
stopped_for_memory ending.TooManyReads stopped other = absurd (true≢false stopped)
stopped_for_memory ending.Memory stopped other = refl
stopped_for_memory ending.QueueRefused stopped other = absurd (other refl)

-- a journal of entries of one sender is that sender's list of entries
pub of_one : (journal : List Entry) → AreOf 1 journal → of_sender 0 journal ≡ journal
of_one [] are = refl
of_one (e ∷ journal) are =
    let first : (e.sender == 0) ≡ true = grind arith in
    rw first (ap (λ (l : List Entry). e ∷ l) (of_one journal are.1))

module _ (source : Source) (queue : QueueId) (k : ℕ) (e : Ended) (r : SenderReport) (refused : List (ℕ × LineFault) → Type 0) (d : Taking) (is : SentFrom source queue k e r refused) (settled : IsSettled d e) where
  abbrev after : Option (List ℕ)
  after = is.0

  abbrev sent : HasSent source.remaining is.0 source.fails source.fills source.piece source.reads queue k e r refused
  sent = is.1

  abbrev es : List Entry
  es = entries d.list

  -- where its mark was taken, all messages that it sent were taken, and all its entries are in the list
  one_taken : is_closed k d.list ≡ true → (lists.of_sender k d.list ≡ e.list) × (of_sender k es ≡ entries_of k sent.put)
  one_taken closed =
      let all : lists.of_sender k d.list ≡ e.list = ap (λ s. lists.of_sender s d.list) (sym sent.sender_is) ∙ settled.whole (ap (λ s. is_closed s d.list) sent.sender_is ∙ closed) in
      (all, of_sender-entries k d.list ∙ ap entries (all ∙ sent.sent) ∙ entries_in_all r.ending k (entries_of k sent.put))

  -- with a complete ending all items of its text were passed on, and all their commands put into the queue
  items_given : is_complete r.ending ≡ true → (sent.given ≡ items_by r.ending sent.text) × IsEnded source.remaining source.fails source.fills source.piece source.reads sent.text r.ending
  items_given complete = given_complete source sent.text r.ending sent.given complete sent.items

  commands_put : is_complete r.ending ≡ true → sent.put ≡ commands (items_by r.ending sent.text)
  commands_put complete = put_complete r.ending (commands sent.given) sent.put complete sent.put_are ∙ ap commands (items_given complete).0

  -- the messages taken of a sender that read its text to its end: its entries in the journal, and its mark with their
  -- number
  pub one_closed : is_closed k d.list ≡ true → is_complete r.ending ≡ true → lists.of_sender k d.list ≡ all_sent (of_sender k es) ++ Closed k r.accepted ∷ []
  one_closed closed complete =
      let taken = one_taken closed in
      let put = all_sent (entries_of k sent.put) in
      let count : length put ≡ r.accepted = length-sent k sent.put ∙ sym sent.accepted in
      taken.0 ∙ sent.sent ∙ marked r.ending k put complete ∙ ap (λ (n : ℕ). put ++ Closed k n ∷ []) count ∙ ap (λ (l : List Entry). all_sent l ++ Closed k r.accepted ∷ []) (sym taken.1)

  -- all its entries were taken
  pub one_told : is_closed k d.list ≡ true → is_complete r.ending ≡ true → IsReportedBy source k es r refused
  one_told closed complete = record {
    text = sent.text;
    delivered = delivered source.remaining after source.piece source.reads sent.text sent.consumed sent.bound;
    ended = (items_given complete).1;
    journaled = (one_taken closed).1 ∙ ap (entries_of k) (commands_put complete);
    accepted = sent.accepted ∙ ap length (commands_put complete);
    refused = subst refused (ap refusals (items_given complete).0) sent.told;
  }

  -- a sender whose mark was taken was not refused by the queue
  pub not_refused : is_closed k d.list ≡ true → r.ending ≢ ending.QueueRefused
  not_refused closed was_refused =
      let put = entries_of k sent.put in
      true≢false (sym closed ∙ ap has_mark ((one_taken closed).0 ∙ sent.sent ∙ ap (λ (how : Ending). in_all how k (all_sent put)) was_refused) ∙ no_mark put)

  -- the commands put into the queue are the messages sent in all, without the mark
  put_is : entries e.list ≡ entries_of k sent.put
  put_is = ap entries sent.sent ∙ entries_in_all r.ending k (entries_of k sent.put)

  -- the messages that were taken are a prefix of those that were sent
  begun_is : e.list ≡ lists.of_sender k d.list ++ settled.begins.0
  begun_is = settled.begins.1 ∙ ap (λ s. lists.of_sender s d.list ++ settled.begins.0) sent.sender_is

  -- of the lines that a text spells those are accepted that were put into the queue
  so_far : IsAll source.remaining sent.text ⊎ BeginsWith (commands (items_so_far sent.text)) (commands sent.given) → IsAll source.remaining sent.text ⊎ (r.accepted ≤ length (commands (items_so_far sent.text)))
  so_far (inl all) = inl all
  so_far (inr begins) = inr (let lines = commands (items_so_far sent.text) in (take_begins lines sent.put r.accepted (begins_twice lines (commands sent.given) sent.put begins (put_first r.ending (commands sent.given) sent.put sent.put_are)) sent.accepted).0)

  -- the facts on the sender after a fault
  pub one_begun : (journal : List Entry) (c : RunCause) → BeginsWith es journal → ((j : ℕ) → c ≡ cause.SenderStopped j → (journal ≡ es) × (is_closed k d.list ≡ true)) → IsBegunBy source c k journal r refused
  one_begun journal c more all =
      let cs = commands (items sent.text) in
      let begins = begins_twice cs (commands sent.given) sent.put (first_commands source.remaining source.fails source.fills source.piece source.reads sent.text r.ending sent.given sent.items) (put_first r.ending (commands sent.given) sent.put sent.put_are) in
      let first = take_begins cs sent.put r.accepted begins sent.accepted in
      let whole : entries_of k (take r.accepted cs) ≡ entries e.list = ap (entries_of k) first.1 ∙ sym put_is in
      let rest = settled.begins.0 in
      let front : entries (lists.of_sender k d.list) ≡ of_sender k journal ++ of_sender k more.0 = sym (of_sender-entries k d.list) ∙ ap (of_sender k) more.1 ∙ filter-append (λ (x : Entry). x.sender == k) journal more.0 in
      record {
        text = sent.text;
        delivered = delivered source.remaining after source.piece source.reads sent.text sent.consumed sent.bound;
        accepted = first.0;
        unfinished = so_far (unfinished_last source.remaining source.fails source.fills source.piece source.reads sent.text r.ending sent.given sent.items);
        journaled = (of_sender k more.0 ++ entries rest, whole ∙ ap entries begun_is ∙ filter_map-append entry_in (lists.of_sender k d.list) rest ∙ ap (λ (l : List Entry). l ++ entries rest) front ∙ append_assoc (of_sender k journal) (of_sender k more.0) (entries rest));
        all_journaled = λ j stopped.
            let free = all j stopped in
            ap (of_sender k) free.0 ∙ of_sender-entries k d.list ∙ ap entries (one_taken free.1).0 ∙ sym whole;
        refused = (refusals sent.given, sent.told, first_refusals source.remaining source.fails source.fills source.piece source.reads sent.text r.ending sent.given sent.items);
        ended = λ complete. (items_given complete).1;
        all_accepted = λ complete. sent.accepted ∙ ap length (commands_put complete);
        all_refused = λ complete. subst refused (ap refusals (items_given complete).0) sent.told;
      }

  -- at most as many of its entries were taken as it has accepted
  pub few_taken : length (of_sender k es) ≤ r.accepted
  few_taken =
      let put = entries_of k sent.put in
      let front = lists.of_sender k d.list in
      let rest = settled.begins.0 in
      let parts : entries front ++ entries rest ≡ put = sym (filter_map-append entry_in front rest) ∙ ap entries (sym begun_is) ∙ put_is in
      let count : length put ≡ r.accepted = sym (length-map put Command) ∙ length-sent k sent.put ∙ sym sent.accepted in
      let same : length (of_sender k es) ≡ length (entries front) = ap length (of_sender-entries k d.list) in
      omega (arith, ap length parts, length-append (entries front) (entries rest))

  -- where its mark was taken, as many of its entries were taken as it has accepted
  pub all_counted_of : is_closed k d.list ≡ true → length (of_sender k es) ≡ r.accepted
  all_counted_of closed = ap length (one_taken closed).1 ∙ sym (length-map (entries_of k sent.put) Command) ∙ length-sent k sent.put ∙ sym sent.accepted
