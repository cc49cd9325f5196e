-- A run over memory reports the commands that the texts of its feeds spell; and the text that is printed for a run.
use Rattle.std.proofs.Common.{◌≡◌, ◌↔◌, inl, inr, ⊎_elim, ℕ, zero, suc, ◌+◌, ◌*◌, ◌<◌, ◌≤◌, Bool, true, false, ◌&&◌, List, [], ◌∷◌, ◌++◌, length, map, get_or, Option, Some, None, Result, Ok, Err, slice_get, if◌then◌else◌, refl, ap, sym, ◌∙◌, subst, arith, length-append}
use Rattle.std.specs.List.{list_all}
use Rattle.std.specs.Prelude.{IfOk, IfErr}
use Rattle.std.proofs.lemmas.List.{length-map, get_or-map}
use Rattle.std.proofs.lemmas.Simd.{map-map}
use Rattle.std.proofs.lemmas.Option.{get_or_from_slice_get, slice_get_within}
use Rattle.cmd_types.specs.declared.entry.Entry.{Entry}
use Rattle.cmd_types.specs.Entries.{entries_of, IsSenderCount}
use Rattle.cmd_lines.specs.declared.item.Item.{Item}
use Rattle.cmd_lines.specs.Items.{items, commands, refusals}
use Rattle.cmd_journal.specs.Journals.{of_sender}
use Rattle.mon_inventory.specs.Configuration.{Configuration}
use Rattle.mon_engine.specs.Held.{Held}
use Rattle.mon_engine.specs.declared.figures.Figures.{Figures}
use Rattle.mon_engine.specs.Report.{report}
use Rattle.mon_engine.specs.Step.{meaning}
use Rattle.cmd_run.specs.declared.ending.Ending.{Ending}
use Rattle.cmd_run.specs.declared.ending.Ending.TheVariants.{Whole, ReadFailed, TooManyReads, Memory, QueueRefused}
use Rattle.cmd_run.specs.declared.ending.SenderReport.{SenderReport}
use Rattle.cmd_run.specs.declared.fault.RunCause.{RunCause}
use Rattle.cmd_run.specs.declared.fault.RunCause.TheVariants.{BadOptions}
use Rattle.cmd_run.specs.declared.fault.RunFault.{RunFault}
use Rattle.cmd_dispatch.specs.declared.report.RunReport.{RunReport}
use Rattle.cmd_run.specs.Causes.{cause_number, cause_sender}
use Rattle.cmd_run.specs.Senders.{AreOf}
use Rattle.cmd_dispatch.specs.Dispatches.{Means}
use Rattle.cmd_options.specs.Options.{MayRun}
use Rattle.cmd_options.specs.declared.options.RunOptions.{RunOptions}
use Rattle.cmd_dispatch.specs.RunCalls.{Source, RunCall, read_as, sources}
use Rattle.cmd_dispatch.specs.Runs.{outcome, IsReported, HasRun, HasFailed}
use Rattle.cmd_dispatch.specs.Delivered.{items_by, IsDelivered, IsEnded}
use Rattle.cmd_answer.specs.Printed.{commands_of, refusals_of, fault_line, feed_lines, sender_lines, all_feed_lines, is_clean, refuses_none, sender_status, figures_part, journal_part, run_text, IsPrinted, figures_of}
use Rattle.gateway.specs.Answers.{IsRunPrinted, HasReport, AnswersFeeds, AreShort, Answers, AnswersFiles}
use Rattle.gateway.specs.Watched.{IsWatched, figures_in}
use Rattle.cmd_options.specs.declared.mode.Options.{Options}
use Rattle.cmd_options.specs.declared.mode.TheConstants.{MOST_READS}
use Rattle.gateway.specs.declared.watching.Watched.{Watched}
use Rattle.cmd_answer.specs.Bundles.{IsBundle}
use Rattle.cmd_answer.specs.Files.{IsInFile}
use Rattle.gateway.proofs.WatchedLemmas.{published_of, behind_itself}

-- a reader over a short feed can have only one ending
whole_feed : (piece : ℕ) (feed text : List ℕ) (e : Ending) → IsDelivered (Some feed) piece MOST_READS text → length feed + piece ≤ MOST_READS * piece → IsEnded (Some feed) false true piece MOST_READS text e → (e ≡ Whole) × (text ≡ feed)
whole_feed piece feed text Whole d short h = (refl, h)
whole_feed piece feed text ReadFailed d short h = absurd (cc)
whole_feed piece feed text TooManyReads d short h =
    let front = d.1 in
    let is : length feed ≡ length (text ++ front.0) = ap length front.1 in
    absurd (⊎_elim
    (λ (full : MOST_READS * piece ≤ length text). omega (arith, length-append text front.0, is, h.0, full, short))
    (λ (all : (text ≡ feed) × (MOST_READS * piece < length text + piece)). omega (arith, ap length all.0, all.1, short)) (h.1 refl))
whole_feed piece feed text Memory d short h = absurd h
whole_feed piece feed text QueueRefused d short h = absurd h

-- the report of such a feed
record IsReportOf (k : ℕ) (feed : List ℕ) (journal : List Entry) (r : SenderReport) : Type 0 where
  ending : r.ending ≡ Whole
  accepted : r.accepted ≡ length (commands_of feed)
  refused : r.refused.items ≡ refusals_of feed
  journaled : of_sender k journal ≡ entries_of k (commands_of feed)

-- a feed over memory
abbrev in_memory : (piece : ℕ) → List ℕ → Source
in_memory piece feed = record { remaining = Some feed; fails = false; fills = true; piece = piece; reads = MOST_READS }

reported_feed : (piece k : ℕ) (feed : List ℕ) (journal : List Entry) (r : SenderReport) → length feed + piece ≤ MOST_READS * piece → IsReported (in_memory piece feed) k journal r → IsReportOf k feed journal r
reported_feed piece k feed journal r short t =
    let whole = whole_feed piece feed t.text r.ending t.delivered short t.ended in
    let same : items_by r.ending t.text ≡ items feed = ap (λ (e : Ending). items_by e t.text) whole.0 ∙ ap items whole.1 in
    record {
      ending = whole.0;
      accepted = t.accepted ∙ ap (λ (is : List Item). length (commands is)) same;
      refused = t.refused ∙ ap refusals same;
      journaled = t.journaled ∙ ap (λ (is : List Item). entries_of k (commands is)) same;
    }

-- the same for each of these feeds, the first of which is feed n
abbrev pub AreReportsFrom : (piece : ℕ) → ℕ → List (List ℕ) → List Entry → List SenderReport → Type 0
AreReportsFrom piece n feeds journal reports =
    (k : ℕ) (f : List ℕ) (r : SenderReport) → k < length feeds → IsReported (in_memory piece (get_or feeds k f)) (n + k) journal (get_or reports k r)

rest_reported : (piece n : ℕ) (feed : List ℕ) (feeds : List (List ℕ)) (journal : List Entry) (r : SenderReport) (reports : List SenderReport) → AreReportsFrom piece n (feed ∷ feeds) journal (r ∷ reports) → AreReportsFrom piece (n + 1) feeds journal reports
rest_reported piece n feed feeds journal r reports t = λ k f s h.
    (let next : n + suc k ≡ n + 1 + k = omega arith in
    subst (λ (m : ℕ). IsReported (in_memory piece (get_or feeds k f)) m journal (get_or reports k s)) next (t (suc k) f s (omega arith)))

lines_same : (piece n : ℕ) (feeds : List (List ℕ)) (journal : List Entry) (reports : List SenderReport) → AreShort piece feeds → length reports ≡ length feeds → AreReportsFrom piece n feeds journal reports → sender_lines n reports ≡ all_feed_lines n feeds
unfolding sender_lines all_feed_lines
lines_same piece n [] journal [] short many t = refl
lines_same piece n [] journal (r ∷ reports) short many t = absurd (omega arith)
lines_same piece n (feed ∷ feeds) journal [] short many t = absurd (omega arith)
lines_same piece n (feed ∷ feeds) journal (r ∷ reports) short many t =
    let head = reported_feed piece (n + 0) feed journal r short.0 (t 0 feed r (omega arith)) in
    let first : feed_lines n r.accepted r.ending r.refused.items ≡ feed_lines n (length (commands_of feed)) Whole (refusals_of feed) =
    ap (λ (a : ℕ). feed_lines n a r.ending r.refused.items) head.accepted
    ∙ ap (λ (e : Ending). feed_lines n (length (commands_of feed)) e r.refused.items) head.ending
    ∙ ap (feed_lines n (length (commands_of feed)) Whole) head.refused in
    ap (λ (xs : List ℕ). xs ++ sender_lines (n + 1) reports) first
    ∙ ap (λ (xs : List ℕ). feed_lines n (length (commands_of feed)) Whole (refusals_of feed) ++ xs) (lines_same piece (n + 1) feeds journal reports short.1 (omega arith) (rest_reported piece n feed feeds journal r reports t))

clean_same : (piece n : ℕ) (feeds : List (List ℕ)) (journal : List Entry) (reports : List SenderReport) → AreShort piece feeds → length reports ≡ length feeds → AreReportsFrom piece n feeds journal reports
    → list_all is_clean reports ≡ list_all (λ feed. refuses_none (refusals_of feed)) feeds
clean_same piece n [] journal [] short many t = refl
clean_same piece n [] journal (r ∷ reports) short many t = absurd (omega arith)
clean_same piece n (feed ∷ feeds) journal [] short many t = absurd (omega arith)
clean_same piece n (feed ∷ feeds) journal (r ∷ reports) short many t =
    let head = reported_feed piece (n + 0) feed journal r short.0 (t 0 feed r (omega arith)) in
    let first : is_clean r ≡ refuses_none (refusals_of feed) = clean_one r.ending head.ending ∙ ap refuses_none head.refused in
    ap (λ (b : Bool). b && list_all is_clean reports) first
    ∙ ap (λ (b : Bool). refuses_none (refusals_of feed) && b) (clean_same piece (n + 1) feeds journal reports short.1 (omega arith) (rest_reported piece n feed feeds journal r reports t))
  where
    clean_one : (e : Ending) → e ≡ Whole → is_clean (record r { ending = e }) ≡ refuses_none r.refused.items
    clean_one Whole h = refl
    clean_one ReadFailed h = absurd (cc)
    clean_one TooManyReads h = absurd (cc)
    clean_one Memory h = absurd (cc)
    clean_one QueueRefused h = absurd (cc)

short_at : (piece : ℕ) (feeds : List (List ℕ)) (k : ℕ) (feed : List ℕ) → AreShort piece feeds → slice_get feeds k ≡ Some feed → length feed + piece ≤ MOST_READS * piece
short_at piece [] k feed short e = absurd (cc)
short_at piece (x ∷ feeds) zero feed short e = let same : x ≡ feed = cc in subst (λ (f : List ℕ). length f + piece ≤ MOST_READS * piece) same short.0
short_at piece (x ∷ feeds) (suc k) feed short e = short_at piece feeds k feed short.1 e

each_reported : (piece : ℕ) (feeds : List (List ℕ)) (journal : List Entry) (reports : List SenderReport) → AreShort piece feeds → length reports ≡ length feeds → AreReportsFrom piece 0 feeds journal reports
    → (k : ℕ) (feed : List ℕ) → slice_get feeds k ≡ Some feed → of_sender k journal ≡ entries_of k (commands_of feed)
each_reported piece feeds journal [] short many t k feed e = absurd (omega (arith, slice_get_within feeds k feed e))
each_reported piece feeds journal (r ∷ reports) short many t k feed e =
    let is : get_or feeds k feed ≡ feed = get_or_from_slice_get feeds k feed feed e in
    let first : 0 + k ≡ k = omega arith in
    let here : IsReported (in_memory piece (get_or feeds k feed)) k journal (get_or (r ∷ reports) k r) =
    subst (λ (m : ℕ). IsReported (in_memory piece (get_or feeds k feed)) m journal (get_or (r ∷ reports) k r)) first (t k feed r (slice_get_within feeds k feed e)) in
    (reported_feed piece k feed journal (get_or (r ∷ reports) k r) (short_at piece feeds k feed short e) (subst (λ (f : List ℕ). IsReported (in_memory piece f) k journal (get_or (r ∷ reports) k r)) is here)).journaled

-- the journal of a single feed is the feed's list of commands
alone_is : (feeds : List (List ℕ)) (journal : List Entry) → (length feeds ≡ 1 → of_sender 0 journal ≡ journal)
    → ((k : ℕ) (feed : List ℕ) → slice_get feeds k ≡ Some feed → of_sender k journal ≡ entries_of k (commands_of feed))
    → (feed : List ℕ) → feeds ≡ feed ∷ [] → journal ≡ entries_of 0 (commands_of feed)
alone_is feeds journal one each feed is = sym (one (ap length is)) ∙ each 0 feed (ap (λ (fs : List (List ℕ)). slice_get fs 0) is)

-- where each feed is short, the text printed for a run over them is the text for the feeds
pub printed_feeds : (options : Options) (inv : Configuration) (feeds : List (List ℕ)) (text : List ℕ) (status : ℕ) → options.run.reads ≡ MOST_READS
    → HasReport (sources Some (λ _. false) (λ _. true) options.run feeds) options inv text status → AreShort options.run.piece feeds → IsPrinted options.asked options.run.limit inv feeds text status
printed_feeds options inv feeds text status most r short =
    let many : length (sources Some (λ _. false) (λ _. true) options.run feeds) ≡ length feeds = length-map feeds (read_as Some (λ _. false) (λ _. true) options.run) in
    let one_each : length r.reports ≡ length feeds = r.one_each ∙ many in
    let remaining : AreReportsFrom options.run.piece 0 feeds r.entries r.reports = λ k f s h.
    (let first : k ≡ 0 + k = omega arith in
    let source : Source = in_memory options.run.piece f in
    let here : get_or (sources Some (λ _. false) (λ _. true) options.run feeds) k source ≡ in_memory options.run.piece (get_or feeds k f) =
    get_or-map (read_as Some (λ _. false) (λ _. true) options.run) feeds k f source h ∙ (λ i. record { remaining = Some (get_or feeds k f); fails = false; fills = true; piece = options.run.piece; reads = most i }) in
    subst (λ (y : Source × ℕ). IsReported y.0 y.1 r.entries (get_or r.reports k s)) (λ i. (here i, first i)) (r.reported_are k source s (omega (arith, many, h)))) in
    let each = each_reported options.run.piece feeds r.entries r.reports short one_each remaining in
    let shown = figures_of options.asked.figures inv r.entries in
    record {
      entries = r.entries;
      interleaved = record { known = subst (λ (n : ℕ). AreOf n r.entries) many r.known; each = each; alone = alone_is feeds r.entries (λ one. r.alone (many ∙ one)) each };
      within = r.within;
      text_is = r.text_is ∙ ap (λ (ls : List ℕ). report inv (meaning inv r.entries) ++ ls ++ figures_part shown ++ journal_part options.asked.journal r.entries) (lines_same options.run.piece 0 feeds r.entries r.reports short one_each remaining);
      status_is = r.status_is ∙ ap (λ (b : Bool). if b then 0 else 1) (clean_same options.run.piece 0 feeds r.entries r.reports short one_each remaining);
    }

-- ---- the text and the status for feeds that were run

-- the text printed for a run whose monitor holds what its journal means
held_text : (journal_asked : Bool) (inv : Configuration) (journal : List Entry) (monitor : Held) (reports : List SenderReport) (seen shown : Option Figures) → Means inv journal monitor → seen ≡ shown
    → run_text (report monitor.inventory monitor.world) journal_asked reports seen journal ≡ run_text (report inv (meaning inv journal)) journal_asked reports shown journal
held_text journal_asked inv journal monitor reports seen shown means same =
    ap (λ (first : List ℕ). run_text first journal_asked reports seen journal) (ap (λ (i : Configuration). report i monitor.world) means.inventory ∙ ap (report inv) means.world)
    ∙ ap (λ (x : Option Figures). run_text (report inv (meaning inv journal)) journal_asked reports x journal) same

-- the text printed for a run is a text for its feeds
pub answered : (fed : List Source) (feeds : ℕ) (options : Options) (inv : Configuration) (run : Result RunReport RunFault) (watched : Option Watched) (text : List ℕ) (status : ℕ) → length fed ≡ feeds
    → IfOk run (λ r. HasRun (record { sources = fed; limit = options.run.limit; inventory = inv }) (outcome r))
    → IfErr run (λ e. (e.cause ≡ BadOptions) ↔ (MayRun feeds options.run → ⊥))
    → IfErr run (λ e. HasFailed (record { sources = fed; limit = options.run.limit; inventory = inv }) e.cause e.journal.entries e.senders.items)
    → IsWatched options.asked.figures inv run watched
    → IsRunPrinted options.asked.journal run (figures_in watched) text status
    → AnswersFeeds fed options inv text status
answered fed feeds options inv (Ok r) watched text status many ran bad failed is printed =
    let list = published_of options.asked.figures inv (Ok r) watched is in
    let seen : figures_in watched ≡ figures_of options.asked.figures inv r.journal.entries = list.2 ∙ ap (figures_of options.asked.figures inv) list.1 in
    inl (record {
      entries = r.journal.entries;
      reports = r.senders.items;
      one_each = ran.one_each;
      reported_are = ran.reported_are;
      known = ran.known;
      alone = ran.alone;
      within = ran.within;
      text_is = printed.0 ∙ held_text options.asked.journal inv r.journal.entries r.monitor r.senders.items (figures_in watched) (figures_of options.asked.figures inv r.journal.entries) ran.means seen;
      status_is = printed.1;
    })
answered fed feeds options inv (Err e) watched text status many ran bad failed is printed =
    let list = published_of options.asked.figures inv (Err e) watched is in
    inr (
      printed.1,
      record {
        cause = e.cause;
        entries = e.journal.entries;
        reports = e.senders.items;
        failed = failed;
        in_range = subst (λ (n : ℕ). (e.cause ≡ BadOptions) ↔ (MayRun n options.run → ⊥)) (sym many) bad;
        published = list.0;
        behind = list.1;
        text_is = printed.0 ∙ ap (λ (x : Option Figures). run_text (fault_line (cause_number e.cause) (cause_sender e.cause)) options.asked.journal e.senders.items x e.journal.entries) list.2;
      },
    )

-- ---- a run that keeps no entry

module _ (fed : List Source) (options : Options) (inv : Configuration) (es none : List Entry) where
  abbrev call : RunCall
  call = record { sources = fed; limit = options.run.limit; inventory = inv }

  pub unkept_report : (m : Held) (reports : List SenderReport) (settled : _) (text : List ℕ) (status : ℕ) → options.asked.figures ≡ false → options.asked.journal ≡ false
      → HasRun call (record { journal = es; monitor = m; reports = reports; settled = settled })
      → text ≡ run_text (report m.inventory m.world) false reports None none → status ≡ sender_status reports → AnswersFeeds fed options inv text status
  unkept_report m reports settled text status no_figures no_journal ran printed by =
      inl (record {
        entries = es;
        reports = reports;
        one_each = ran.one_each;
        reported_are = ran.reported_are;
        known = ran.known;
        alone = ran.alone;
        within = ran.within;
        text_is = printed ∙ held_text false inv es m reports None None ran.means refl ∙ (λ i. run_text (report inv (meaning inv es)) (sym no_journal i) reports (figures_of (sym no_figures i) inv es) es);
        status_is = by;
      })

  pub unkept_fault : (c : RunCause) (reports : List SenderReport) (feeds : ℕ) (text : List ℕ) (status : ℕ) → length fed ≡ feeds → options.asked.figures ≡ false → options.asked.journal ≡ false
      → ((c ≡ BadOptions) ↔ (MayRun feeds options.run → ⊥)) → HasFailed call c es reports
      → text ≡ run_text (fault_line (cause_number c) (cause_sender c)) false reports None none → status ≡ 3 → AnswersFeeds fed options inv text status
  unkept_fault c reports feeds text status many no_figures no_journal bad failed printed by =
      inr (
        by,
        record {
          cause = c;
          entries = es;
          reports = reports;
          failed = failed;
          in_range = subst (λ (n : ℕ). (c ≡ BadOptions) ↔ (MayRun n options.run → ⊥)) (sym many) bad;
          published = es;
          behind = behind_itself c es;
          text_is = printed ∙ (λ i. run_text (fault_line (cause_number c) (cause_sender c)) (sym no_journal i) reports (figures_of (sym no_figures i) inv es) es);
        },
      )

-- ---- from the readers to the bytes that they deliver

-- readers whose facts come from the values `h` of them are read as these values are
sources_as : {F G : Type 0} (h : F → G) (remaining : G → Option (List ℕ)) (fails fills : G → Bool) (options : RunOptions) (readers : List F)
    → sources (λ f. remaining (h f)) (λ f. fails (h f)) (λ f. fills (h f)) options readers ≡ sources remaining fails fills options (map h readers)
sources_as h remaining fails fills options readers = sym (map-map (read_as remaining fails fills options) h readers)

-- so the text and the status for the readers are those for these values
pub answers_as : {F G : Type 0} (h : F → G) (remaining : G → Option (List ℕ)) (fails fills : G → Bool) (readers : List F) (options : Options) (inv : Configuration) (text : List ℕ) (status : ℕ)
    → AnswersFeeds (sources (λ f. remaining (h f)) (λ f. fails (h f)) (λ f. fills (h f)) options.run readers) options inv text status → AnswersFeeds (sources remaining fails fills options.run (map h readers)) options inv text status
answers_as h remaining fails fills readers options inv text status = subst (λ (ss : List Source). AnswersFeeds ss options inv text status) (sources_as h remaining fails fills options.run readers)

-- ---- the text and the status for a bundle

-- the text and the status for its feeds are those for the bundle
pub answered_bundle : (options : Options) (input : List ℕ) (feeds : List (List ℕ)) (inv : Configuration) (text : List ℕ) (status : ℕ)
    → options.run.reads ≡ MOST_READS → IsBundle input inv feeds → AnswersFeeds (sources Some (λ _. false) (λ _. true) options.run feeds) options inv text status → Answers options input text status
answered_bundle options input feeds inv text status most is ran =
    record { configuration = inv; feeds = feeds; bundle = is; ran = ran; printed = λ low. printed_so ran low }
  where
    printed_so : AnswersFeeds (sources Some (λ _. false) (λ _. true) options.run feeds) options inv text status → status ≤ 1 → AreShort options.run.piece feeds → IsPrinted options.asked options.run.limit inv feeds text status
    printed_so (inl r) low = printed_feeds options inv feeds text status most r
    printed_so (inr r) low = absurd (omega (arith, r.0, low))

-- ---- the text and the status for feeds in files

pub answered_files : {F G : Type 0} (file : F → G) (remaining : G → Option (List ℕ)) (readers : List F) (options : Options) (feeds : ℕ) (inv : Configuration) (text : List ℕ) (status : ℕ)
    → IsInFile remaining inv → length (map file readers) ≡ feeds → IsSenderCount feeds
    → AnswersFeeds (sources (λ r. remaining (file r)) (λ _. true) (λ _. false) options.run readers) options inv text status → AnswersFiles remaining options feeds text status
answered_files file remaining readers options feeds inv text status is many count ran =
    record {
      configuration = inv;
      inventory_is = is;
      files = map file readers;
      one_each = many;
      count = count;
      ran = answers_as file remaining (λ _. true) (λ _. false) readers options inv text status ran;
    }
