-- The items of its feed that a sender passes on, and the promise of its thread.
use Rattle.std.specs.Prelude.{◌≡◌, ◌⊎◌, ℕ, ◌+◌, ◌*◌, ◌<◌, ◌≤◌, Bool, true, List, [], ◌∷◌, ◌++◌, length, Option, vec_capacity}
use Rattle.std.specs.Io.KnownBytes.{Consumes}
use Rattle.cmd_types.specs.Entries.{entries_of}
use Rattle.cmd_types.specs.Spelling.{Timed}
use Rattle.cmd_lines.specs.declared.fault.LineFault.{LineFault}
use Rattle.cmd_lines.specs.declared.item.Item.{Item}
use Rattle.cmd_lines.specs.declared.lines.TheConstants.{MOST_FED}
use Rattle.cmd_lines.specs.Items.{commands, refusals, items_so_far, known}
use Rattle.cmd_lines.specs.declared.phase.Phase.{Phase}
use Rattle.cmd_lines.specs.Reader.{Waiting, Stands}
use Rattle.cmd_lines.specs.Skips.{AreWhole}
use Rattle.cmd_queue.specs.declared.taken.Taken.{Taken}
use Rattle.cmd_queue.specs.declared.taken.Taken.TheVariants.{Closed}
use Rattle.cmd_queue.specs.Lists.{all_sent}
use Rattle.cmd_queue.specs.Plans.{planned_of, ComeFirst}
use Rattle.cmd_queue.specs.declared.make.TheConstants.{MOST_TOGETHER}
use Rattle.cmd_queue.specs.Sides.{QueueId, Sent, Ended, with_commands}
use Rattle.cmd_run.specs.declared.ending.Ending.{Ending}
use Rattle.cmd_run.specs.declared.ending.Ending.TheVariants as ending
use Rattle.cmd_run.specs.declared.ending.SenderReport.{SenderReport}
use Rattle.cmd_dispatch.specs.declared.feed.TheConstants.{LONGEST_MADE}
use Rattle.cmd_dispatch.specs.declared.sender.Sending.{Sending}
use Rattle.cmd_dispatch.specs.Planned.{IsOfPlan}
use Rattle.cmd_dispatch.specs.Delivered.{items_by, BeginsWith, FillsPieces, IsEnded, AreFirst}

-- ---- of private contracts alone

-- ---- the promise of a sender's thread

-- all that a sender has sent, by its ending: its commands and then the close mark with their number, unless the queue
-- refused
abbrev pub in_all : Ending → (sender : ℕ) → List Taken → List Taken
in_all ending.QueueRefused sender sent = sent
in_all how sender sent = sent ++ Closed sender (length sent) ∷ []

-- the items of a text that were passed on, by the sender's ending: all of them, or a prefix where the sender stopped
abbrev pub AreGiven : (remaining : Option (List ℕ)) → (fails fills : Bool) → (piece reads : ℕ) → (text : List ℕ) → Ending → List Item → Type 0
AreGiven remaining fails fills piece reads text ending.Memory given = AreFirst remaining fails reads text given
AreGiven remaining fails fills piece reads text ending.QueueRefused given = AreFirst remaining fails reads text given
AreGiven remaining fails fills piece reads text how given = (given ≡ items_by how text) × IsEnded remaining fails fills piece reads text how

-- the commands that were put into the queue: all of them, or a prefix where the queue refused
abbrev pub ArePut : Ending → (commands put : List Timed) → Type 0
ArePut ending.QueueRefused commands put = BeginsWith commands put
ArePut how commands put = put ≡ commands

-- A sender of this queue, whose feed had the bytes `before` left at first and has `after` left now. The text is all
-- bytes that its reads gave. Of the items of the text it sent the commands, reports their number, and passed the
-- refused lines to its attendant.
pub record HasSent (before after : Option (List ℕ)) (fails fills : Bool) (piece reads : ℕ) (queue : QueueId) (sender : ℕ) (end : Ended) (report : SenderReport) (refused : List (ℕ × LineFault) → Type 0) : Type 0 where
  pub queue_is : end.queue ≡ queue
  pub sender_is : end.sender ≡ sender
  pub text : List ℕ
  pub consumed : Consumes before after text
  pub bound : length text ≤ reads * piece
  pub given : List Item
  pub items : AreGiven before fails fills piece reads text report.ending given
  pub put : List Timed
  pub put_are : ArePut report.ending (commands given) put
  pub accepted : report.accepted ≡ length put
  pub told : refused (refusals given)
  pub sent : end.list ≡ in_all report.ending sender (all_sent (entries_of sender put))

-- ---- while it reads

-- the refused lines that were taken stay taken
abbrev pub HasKept : (before now : List (ℕ × LineFault) → Type 0) → Type 0
HasKept before now = (refused : List (ℕ × LineFault)) → before refused → now refused

module _ {P : Type 0} where
  -- the side of a sender once it has sent the gathered commands
  abbrev pub ahead : Sending P → Sent
  ahead sending = with_commands sending.side sending.gathered.items

  -- the gathered commands fit into a message and come next in the plan, and all places fit into 64 bits
  abbrev pub IsWithin : Sending P → Type 0
  IsWithin sending = (length sending.gathered.items ≤ MOST_TOGETHER) × (length (ahead sending).list ≤ MOST_FED) × IsOfPlan (ahead sending)

  -- there is room for one more command
  abbrev pub HasRoom : Sending P → Type 0
  HasRoom sending = (length sending.gathered.items < MOST_TOGETHER) × (length sending.gathered.items < vec_capacity sending.gathered)

  -- nothing has changed, except that gathered commands may have been sent
  abbrev pub IsSame : (has_taken : P → List (ℕ × LineFault) → Type 0) → (old new : Sending P) → Type 0
  IsSame has_taken old new = (ahead new ≡ ahead old) × (new.lines ≡ old.lines) × HasKept (has_taken old.report) (has_taken new.report)

-- the commands of these items were sent, in order, and the attendant has taken their refused lines
pub record HasPassedOn (given : List Item) (side : Sent) (refused : List (ℕ × LineFault) → Type 0) : Type 0 where
  pub sent : side.list ≡ all_sent (entries_of side.sender (commands given))
  pub told : refused (refusals given)

-- the text was fed to the reader of lines, and all items that it determines so far were passed on
pub record IsReading (text : List ℕ) (lines : Waiting) (side : Sent) (refused : List (ℕ × LineFault) → Type 0) : Type 0 where
  pub stands : Stands lines text (items_so_far text)
  pub passed : HasPassedOn (items_so_far text) side refused

-- a prefix of these items was passed on
pub record HasBegun (all : List Item) (side : Sent) (refused : List (ℕ × LineFault) → Type 0) : Type 0 where
  pub given : List Item
  pub first : BeginsWith all given
  pub passed : HasPassedOn given side refused

-- the reader of lines was fed the text and gave these items, which were passed on
pub record IsGiving (text : List ℕ) (lines : Waiting) (side : Sent) (refused : List (ℕ × LineFault) → Type 0) : Type 0 where
  pub given : List Item
  pub stands : Stands lines text given
  pub passed : HasPassedOn given side refused

-- these items are next in the plan: their commands are the first of those that the sender may still send
abbrev pub HasInPlan : Sent → List Item → Type 0
HasInPlan side all = ComeFirst (planned_of side.queue.plan side.sender) (commands all)

-- the items of a text are passed on, and all items that it determines so far are in the plan
abbrev pub KeepsPlan : (lines : Waiting) (side : Sent) (refused : List (ℕ × LineFault) → Type 0) → Type 0
KeepsPlan lines side refused = (text : List ℕ) × IsGiving text lines side refused × HasInPlan side (known lines.phase text)

-- a text is read, of which these items are in the plan
abbrev pub ReadsInPlan : (all : List ℕ → List Item) → (lines : Waiting) (side : Sent) (refused : List (ℕ × LineFault) → Type 0) → Type 0
ReadsInPlan all lines side refused = (text : List ℕ) × IsReading text lines side refused × HasInPlan side (all text)

-- A feed had the bytes `before` left at first and has `now` left. `reads` reads delivered a text: each read at least a
-- byte and at most a piece, and, where the feed fills each piece, a whole piece before the end. All items that the text
-- determines so far were passed on.
pub record IsFeeding (before now : Option (List ℕ)) (fills : Bool) (piece reads : ℕ) (lines : Waiting) (side : Sent) (refused : List (ℕ × LineFault) → Type 0) : Type 0 where
  pub text : List ℕ
  pub consumed : Consumes before now text
  pub many : reads ≤ length text
  pub bound : length text ≤ reads * piece
  pub filled : fills ≡ true → FillsPieces before piece reads text
  pub reading : IsReading text lines side refused

-- each command that was sent took bytes that were fed
abbrev pub IsCovered : Waiting → Sent → Type 0
IsCovered lines side = length side.list + length lines.pending ≤ lines.fed

-- A feed had the bytes `before` left at first and has `now` left. It made at most `many` commands, whose lines are a
-- text, and all items of the text were passed on, however it ends.
pub record IsMaking (before now : Option (List ℕ)) (many : ℕ) (side : Sent) (refused : List (ℕ × LineFault) → Type 0) : Type 0 where
  pub text : List ℕ
  pub consumed : Consumes before now text
  pub whole : AreWhole text
  pub bound : length text ≤ many * LONGEST_MADE
  pub few : length side.list ≤ many
  pub passed : (p : Phase) → HasPassedOn (known p text) side refused

-- ---- what the steps of a thread have done

-- The bytes that the reads of a feed gave, by what the feed had left before and has left after them, are a text with
-- the ending `how`; and all items that the text determines while it may continue were passed on
pub record HasReadText (before after : Option (List ℕ)) (fails fills : Bool) (piece reads : ℕ) (how : Ending) (lines : Waiting) (side : Sent) (refused : List (ℕ × LineFault) → Type 0) : Type 0 where
  pub text : List ℕ
  pub consumed : Consumes before after text
  pub bound : length text ≤ reads * piece
  pub ended : IsEnded before fails fills piece reads text how
  pub reading : IsReading text lines side refused

-- All items were passed on of the text with the ending `how` that the reads gave
pub record HasRead (before after : Option (List ℕ)) (fails fills : Bool) (piece reads : ℕ) (how : Ending) (side : Sent) (refused : List (ℕ × LineFault) → Type 0) : Type 0 where
  pub text : List ℕ
  pub consumed : Consumes before after text
  pub bound : length text ≤ reads * piece
  pub ended : IsEnded before fails fills piece reads text how
  pub passed : HasPassedOn (items_by how text) side refused

-- A prefix of the items was passed on of the text that the reads gave
pub record IsPartRead (before after : Option (List ℕ)) (fails : Bool) (piece reads : ℕ) (side : Sent) (refused : List (ℕ × LineFault) → Type 0) : Type 0 where
  pub text : List ℕ
  pub consumed : Consumes before after text
  pub bound : length text ≤ reads * piece
  pub given : List Item
  pub first : AreFirst before fails reads text given
  pub passed : HasPassedOn given side refused

-- The end and the report of a sender with the ending `how`, which put the commands `put` into the queue and sent `sent`
-- in all
pub record IsEndOf (side : Sent) (refused : List (ℕ × LineFault) → Type 0) (how : Ending) (put sent : List Taken) (end : Ended) (report : SenderReport) (told : List (ℕ × LineFault) → Type 0) : Type 0 where
  pub queue_is : end.queue ≡ side.queue
  pub sender_is : end.sender ≡ side.sender
  pub sent_is : end.list ≡ sent
  pub ending_is : report.ending ≡ how
  pub accepted : report.accepted ≡ length put
  pub kept : HasKept refused told

-- the sender left without a close mark, and perhaps without the last of its commands
abbrev pub HasLeft : Sent → (refused : List (ℕ × LineFault) → Type 0) → Ended → SenderReport → (told : List (ℕ × LineFault) → Type 0) → Type 0
HasLeft side refused end report told = (put : List Taken) × BeginsWith side.list put × IsEndOf side refused ending.QueueRefused put put end report told

-- the sender sent its close mark and ended as `how` says, or the queue refused and it left
abbrev pub HasClosed : Sent → (refused : List (ℕ × LineFault) → Type 0) → Ending → Ended → SenderReport → (told : List (ℕ × LineFault) → Type 0) → Type 0
HasClosed side refused how end report told = IsEndOf side refused how side.list (side.list ++ Closed side.sender (length side.list) ∷ []) end report told ⊎ HasLeft side refused end report told
