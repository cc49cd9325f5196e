-- Reading a line from left to right. That what fails is the first fault of the line is proved of it.
use Rattle.std.specs.Prelude.{◌≡◌, ℕ, ◌+◌, Bool, not, List, [], ◌∷◌, length, Option, Some, None, Result, Ok, Err, nat_lt, nat_le, ◌==◌, if◌then◌else◌}
use Rattle.cmd_types.specs.declared.command.Command.{Command}
use Rattle.cmd_types.specs.declared.command_name.CommandName.{CommandName}
use Rattle.cmd_types.specs.Bytes.{without_returns}
use Rattle.cmd_types.specs.Cuts.{before}
use Rattle.cmd_types.specs.Digits.{number_of}
use Rattle.cmd_types.specs.Kinds.{Argument, Name, Author, Rest, Flag, Number, Code, Kind, AName, AnAuthor, ARest, AFlag, ANumber, ACode}
use Rattle.cmd_types.specs.Names.{name_from}
use Rattle.cmd_types.specs.Table.{Apart, apart, name_of, arguments_of, kinds}
use Rattle.cmd_types.specs.Spelling.{Timed, IsWellFormed}
use Rattle.cmd_types.specs.declared.limits.TheConstants.{LONGEST_LINE}
use Rattle.cmd_lines.specs.declared.fault.LineFault.{LineFault}
use Rattle.cmd_lines.specs.declared.fault.LineFault.TheVariants.{TooLong, NoBracket, BadTime, NoSpace, UnknownCommand, Missing, EmptyName, BadNumber, Memory}

infixl 10 ◌>>=◌
abbrev pub ◌>>=◌ : {A B : Type 0} → Result A LineFault → (A → Result B LineFault) → Result B LineFault
(Ok x) >>= f = f x
(Err e) >>= f = Err e

-- ---- parts of lists

-- the bytes from the first b on, or none
abbrev pub from : ℕ → List ℕ → List ℕ
from b [] = []
from b (x ∷ xs) = if x == b then x ∷ xs else from b xs

abbrev pub without_spaces : List ℕ → List ℕ
without_spaces [] = []
without_spaces (x ∷ xs) = if x == 32 then without_spaces xs else x ∷ xs

-- ---- arguments

-- the bytes after the semicolon that opens argument n
unfoldable pub opened : ℕ → List ℕ → Result (List ℕ) LineFault
opened n [] = Err (Missing n)
opened n (x ∷ bytes) = if x == 59 then Ok bytes else Err (Missing n)

-- the bytes of argument n, and what follows it
unfoldable pub field : ℕ → List ℕ → Result (List ℕ × List ℕ) LineFault
field n bytes = do
  text ← opened n bytes
  Ok (before 59 text, from 59 text)

abbrev pub some_or : {A : Type 0} → LineFault → Option A → Result A LineFault
some_or e None = Err e
some_or e (Some x) = Ok x

unfoldable pub number_at : ℕ → List ℕ → Result (ℕ × List ℕ) LineFault
number_at n bytes = do
  f ← field n bytes
  x ← some_or (BadNumber n) (number_of f.0)
  Ok (x, f.1)

unfoldable pub name_at : ℕ → List ℕ → Result (List ℕ × List ℕ) LineFault
name_at n bytes = do
  f ← field n bytes
  if length (without_returns f.0) == 0 then Err (EmptyName n) else Ok (without_returns f.0, f.1)

unfoldable pub rest_at : ℕ → List ℕ → Result (List ℕ × List ℕ) LineFault
rest_at n bytes = do
  text ← opened n bytes
  Ok (text, [])

unfoldable pub flag_at : ℕ → List ℕ → Result (Bool × List ℕ) LineFault
flag_at n bytes = do
  x ← number_at n bytes
  Ok (not (x.0 == 0), x.1)

unfoldable pub code_at : ℕ → ℕ → List ℕ → Result (ℕ × List ℕ) LineFault
code_at greatest n bytes = do
  x ← number_at n bytes
  if nat_le x.0 greatest then Ok x else Err (BadNumber n)

-- argument n by its kind
abbrev pub argument_at : Kind → ℕ → List ℕ → Result (Argument × List ℕ) LineFault
argument_at (AName of) n bytes = name_at n bytes >>= λ x. Ok (Name of x.0, x.1)
argument_at AnAuthor n bytes = field n bytes >>= λ x. Ok (Author x.0, x.1)
argument_at ARest n bytes = rest_at n bytes >>= λ x. Ok (Rest x.0, x.1)
argument_at AFlag n bytes = flag_at n bytes >>= λ x. Ok (Flag x.0, x.1)
argument_at ANumber n bytes = number_at n bytes >>= λ x. Ok (Number x.0, x.1)
argument_at (ACode greatest) n bytes = code_at greatest n bytes >>= λ x. Ok (Code greatest x.0, x.1)

-- the arguments from n on
abbrev pub arguments_at : List Kind → ℕ → List ℕ → Result (List Argument) LineFault
arguments_at [] n bytes = Ok []
arguments_at (k ∷ ks) n bytes = do
  x ← argument_at k n bytes
  others ← arguments_at ks (n + 1) x.1
  Ok (x.0 ∷ others)

-- ---- lines

-- the number that text spells, and the bytes after the bracket that closes it
unfoldable pub closed : List ℕ → List ℕ → Result (ℕ × List ℕ) LineFault
closed text [] = Err BadTime
closed text (bracket ∷ after) = do
  n ← some_or BadTime (number_of text)
  Ok (n, after)

-- the time, and the bytes after its closing bracket
unfoldable pub time_at : List ℕ → Result (ℕ × List ℕ) LineFault
time_at [] = Err NoBracket
time_at (x ∷ bytes) = if x == 91 then closed (before 93 bytes) (from 93 bytes) else Err NoBracket

-- the bytes after the spaces, of which there is at least one
unfoldable pub spaced : List ℕ → Result (List ℕ) LineFault
spaced [] = Err NoSpace
spaced (x ∷ after) = if x == 32 then Ok (without_spaces after) else Err NoSpace

-- a time, a name and arguments
pub record Parts : Type 0 where
  pub time : ℕ
  pub name : CommandName
  pub arguments : List Argument

unfoldable pub reading : List ℕ → Result Parts LineFault
reading line = if nat_lt LONGEST_LINE (length line) then Err TooLong else do
  t ← time_at line
  bytes ← spaced t.1
  n ← some_or UnknownCommand (name_from (before 59 bytes))
  xs ← arguments_at (kinds n) 1 (from 59 bytes)
  Ok (record { time = t.0; name = n; arguments = xs })

-- ---- of private contracts alone

-- The time of a line that is not too long, and the bytes after it.
unfoldable pub stamp_at : List ℕ → Result (ℕ × List ℕ) LineFault
stamp_at line = if nat_lt LONGEST_LINE (length line) then Err TooLong else time_at line

-- The name after a time, and the bytes from its semicolon on.
unfoldable pub named_at : List ℕ → Result (CommandName × List ℕ) LineFault
named_at after = do
  bytes ← spaced after
  n ← some_or UnknownCommand (name_from (before 59 bytes))
  Ok (n, from 59 bytes)

-- The name and the arguments after a time.
unfoldable pub behind : List ℕ → Result Apart LineFault
behind after = do
  n ← named_at after
  xs ← arguments_at (kinds n.0) 1 n.1
  Ok (record { name = n.0; arguments = xs })

-- A command that is read there is well formed with the time.
abbrev pub FitsBehind : ℕ → List ℕ → Type 0
FitsBehind time after = (c : Command) → behind after ≡ Ok (apart c) → IsWellFormed (record { time = time; command = c })

-- The result of a function, seen by view, is the result of the reading.
abbrev pub Gives : {X Y : Type 0} → (X → Y) → Result X LineFault → Result Y LineFault → Type 0
Gives view (Ok x) read = read ≡ Ok (view x)
Gives view (Err e) read = read ≡ Err e

-- The reason of an Err: the fault that is read, or want of memory where a value is read.
abbrev pub IsWhy : {Y : Type 0} → LineFault → Result Y LineFault → Type 0
IsWhy e (Ok y) = e ≡ Memory
IsWhy e (Err f) = e ≡ f

-- The result of a function that copies the bytes it reads: that of reading, or want of memory where a value is read.
abbrev pub Copies : {X Y : Type 0} → (X → Y) → Result X LineFault → Result Y LineFault → Type 0
Copies view (Ok x) read = read ≡ Ok (view x)
Copies view (Err e) read = IsWhy e read

abbrev pub parts : Timed → Parts
parts t = record { time = t.time; name = name_of t.command; arguments = arguments_of t.command }
