-- The threads of the senders.
use Rattle.std.specs.Prelude.{◌≡◌, ◌<◌, ◌≤◌, ℕ, Bool, true, false, List, [], ◌++◌, length, slice_index_or, Option}
use Rattle.std.specs.declared.thread.PromisedHandle.{PromisedHandle}
use Rattle.cmd_queue.specs.Sides.{Sent, Ended}
use Rattle.cmd_lines.specs.declared.fault.LineFault.{LineFault}
use Rattle.cmd_run.specs.declared.ending.SenderReport.{SenderReport}
use Rattle.cmd_dispatch.specs.declared.reading.Reading.{Reading}
use Rattle.cmd_dispatch.specs.declared.threads.Promised.{Promised}
use Rattle.cmd_dispatch.specs.Planned.{IsPlannedBy}
use Rattle.cmd_dispatch.specs.Sends.{HasSent}

-- ---- of private contracts alone

-- the sides of n senders that have sent nothing
abbrev pub AreNew : List Sent → ℕ → Type 0
AreNew sides n = (length sides ≡ n) × ((k : ℕ) (s : Sent) → k < n → (slice_index_or sides k s).list ≡ [])

module _ {F : Type 0} where
  -- each side is planned by the feed at its place
  abbrev pub ArePlannedBy : (remaining : F → Option (List ℕ)) → List Sent → List F → Type 0
  ArePlannedBy remaining sides feeds = (k : ℕ) (s : Sent) (f : F) → k < length feeds → IsPlannedBy (remaining (slice_index_or feeds k f)) (slice_index_or sides k s)

module _ {F P : Type 0} where
  -- the promise of a thread is that of this side and this feed, read with these limits
  abbrev pub HasPromised : Reading → PromisedHandle (Ended × P × F) (Promised F) → Sent → F → Type 0
  HasPromised reading h side feed = (h.promise.side.value ≡ side) × (h.promise.feed.value ≡ feed) × (h.promise.reading ≡ reading)

  -- each thread's promise is that of the side and the feed at its place
  abbrev pub HavePromised : List Sent → List F → Reading → List (PromisedHandle (Ended × P × F) (Promised F)) → Type 0
  HavePromised sides feeds reading handles =
      (k : ℕ) (h : PromisedHandle (Ended × P × F) (Promised F)) (s : Sent) (f : F) → k < length handles
      → HasPromised reading (slice_index_or handles k h) (slice_index_or sides k s) (slice_index_or feeds k f)

  -- threads were started in order, for all feeds where `all` is true
  pub record HaveStarted (sides : List Sent) (feeds : List F) (reading : Reading) (handles : List (PromisedHandle (Ended × P × F) (Promised F))) (all : Bool) : Type 0 where
    pub few : length handles ≤ length feeds
    pub all_are : all ≡ true → length handles ≡ length feeds
    pub not_all : all ≡ false → length handles < length feeds
    pub promised : HavePromised sides feeds reading handles

  -- while threads are started: the threads of a prefix of the sides, feeds and reports were started
  pub record AreStarting (sides : List Sent) (feeds : List F) (reports : List P) (reading : Reading) (left_sides : List Sent) (left_feeds : List F) (left_reports : List P) (handles : List (PromisedHandle (Ended × P × F) (Promised F))) : Type 0 where
    pub gone : List Sent
    pub done : List F
    pub told : List P
    pub sides_are : gone ++ left_sides ≡ sides
    pub feeds_are : done ++ left_feeds ≡ feeds
    pub reports_are : told ++ left_reports ≡ reports
    pub sides_gone : length gone ≡ length handles
    pub feeds_done : length done ≡ length handles
    pub reports_told : length told ≡ length handles
    pub promised : HavePromised sides feeds reading handles

  -- the thread of this handle kept its promise
  abbrev pub HasKeptIt : (remaining : F → Option (List ℕ)) → (fails fills : F → Bool) → PromisedHandle (Ended × P × F) (Promised F) → Ended → SenderReport → (refused : List (ℕ × LineFault) → Type 0) → Type 0
  HasKeptIt remaining fails fills h end report refused =
      (after : Option (List ℕ))
      × HasSent (remaining h.promise.feed.value) after (fails h.promise.feed.value) (fills h.promise.feed.value) h.promise.reading.piece h.promise.reading.reads h.promise.side.value.queue h.promise.side.value.sender end report refused

  -- each thread kept its promise
  pub record HaveEnded (remaining : F → Option (List ℕ)) (fails fills : F → Bool) (handles : List (PromisedHandle (Ended × P × F) (Promised F))) (ends : List Ended) (reports : List SenderReport) (refused : ℕ → List (ℕ × LineFault) → Type 0) : Type 0 where
    pub ends_are : length ends ≡ length handles
    pub reports_are : length reports ≡ length handles
    pub kept : (k : ℕ) (h : PromisedHandle (Ended × P × F) (Promised F)) (e : Ended) (r : SenderReport) → k < length handles
        → HasKeptIt remaining fails fills (slice_index_or handles k h) (slice_index_or ends k e) (slice_index_or reports k r) (refused k)
