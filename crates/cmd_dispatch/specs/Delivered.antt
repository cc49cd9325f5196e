-- The text that a reader delivered, and the items of a text by its ending.
use Rattle.std.specs.Prelude.{◌≡◌, ◌<◌, ◌≤◌, ◌+◌, ◌*◌, ◌⊎◌, ℕ, Bool, true, List, [], ◌++◌, length, slice_index_or, Option, IfSome}
use Rattle.cmd_lines.specs.declared.fault.LineFault.{LineFault}
use Rattle.cmd_lines.specs.declared.item.Item.{Item}
use Rattle.cmd_lines.specs.Items.{items, items_so_far, items_cut}
use Rattle.cmd_run.specs.declared.ending.Ending.{Ending}
use Rattle.cmd_run.specs.declared.ending.Ending.TheVariants as ending

-- The items of a text by its ending. If the text broke off, an unfinished last line is refused. A sender that stopped
-- has taken a part of the items of the text that it had read.
abbrev pub items_by : Ending → (text : List ℕ) → List Item
items_by ending.Whole text = items text
items_by ending.ReadFailed text = items_cut text
items_by ending.TooManyReads text = items_cut text
items_by ending.Memory text = items text
items_by ending.QueueRefused text = items text

-- the list begins with this one
abbrev pub BeginsWith : {A : Type 0} → List A → List A → Type 0
BeginsWith {A = A} list start = (rest : List A) × (list ≡ start ++ rest)

-- the text is at most as long as `reads` pieces, and, where the bytes of the reader are known, a prefix of them
abbrev pub IsDelivered : (remaining : Option (List ℕ)) → (piece reads : ℕ) → (text : List ℕ) → Type 0
IsDelivered remaining piece reads text = (length text ≤ reads * piece) × IfSome remaining (λ bytes. BeginsWith bytes text)

-- the text is all bytes of the reader, where these are known
abbrev pub IsAll : (remaining : Option (List ℕ)) → (text : List ℕ) → Type 0
IsAll remaining text = IfSome remaining (λ bytes. text ≡ bytes)

-- the text fills `reads` pieces; or it is all bytes of the reader, where these are known, and ends in the last of the
-- pieces
abbrev pub FillsPieces : (remaining : Option (List ℕ)) → (piece reads : ℕ) → (text : List ℕ) → Type 0
FillsPieces remaining piece reads text = (reads * piece ≤ length text) ⊎ IfSome remaining (λ bytes. (text ≡ bytes) × (reads * piece < length text + piece))

-- When a text may have this ending. `Whole`: it is all bytes of the reader. `ReadFailed`: a read of the reader may
-- fail. `TooManyReads`: the text has at least one byte for each of the `reads` reads; and if the reader fills each
-- piece, the text fills the pieces as above.
abbrev pub IsEnded : (remaining : Option (List ℕ)) → (fails fills : Bool) → (piece reads : ℕ) → (text : List ℕ) → Ending → Type 0
IsEnded remaining fails fills piece reads text ending.Whole = IsAll remaining text
IsEnded remaining fails fills piece reads text ending.ReadFailed = fails ≡ true
IsEnded remaining fails fills piece reads text ending.TooManyReads = (reads ≤ length text) × (fills ≡ true → FillsPieces remaining piece reads text)
IsEnded remaining fails fills piece reads text ending.Memory = ⊥
IsEnded remaining fails fills piece reads text ending.QueueRefused = ⊥

-- when a text may have broken off: a read of the reader may fail, or the text has at least one byte for each of the
-- `reads` reads
abbrev pub MayBreakOff : (fails : Bool) → (reads : ℕ) → (text : List ℕ) → Type 0
MayBreakOff fails reads text = (fails ≡ true) ⊎ (reads ≤ length text)

module _ {P : Type 0} where
  -- there are as many reporters as this number, and none has taken a refused line
  abbrev pub HaveTakenNothing : (has_taken : P → List (ℕ × LineFault) → Type 0) → List P → ℕ → Type 0
  HaveTakenNothing has_taken all n = (length all ≡ n) × ((k : ℕ) (p : P) → k < n → has_taken (slice_index_or all k p) [])

-- ---- of private contracts alone

module _ {P : Type 0} where
  -- the refused lines that were reported for the sender at each place
  abbrev pub taken_at : (has_taken : P → List (ℕ × LineFault) → Type 0) → List P → ℕ → List (ℕ × LineFault) → Type 0
  taken_at has_taken all k refused = (p : P) → has_taken (slice_index_or all k p) refused

-- these are the first items of the lines of the text; or of the whole text, where it is all bytes of the reader; or of
-- the text that broke off, where it may have done so
abbrev pub AreFirst : (remaining : Option (List ℕ)) → (fails : Bool) → (reads : ℕ) → (text : List ℕ) → List Item → Type 0
AreFirst remaining fails reads text given = BeginsWith (items_so_far text) given ⊎ ((IsAll remaining text × BeginsWith (items text) given) ⊎ (MayBreakOff fails reads text × BeginsWith (items_cut text) given))
