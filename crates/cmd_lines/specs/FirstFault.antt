-- The first test that a line fails, said of the parts of the line.
use Rattle.std.specs.Prelude.{◌≡◌, ◌≢◌, ℕ, ◌+◌, ◌<◌, ◌≤◌, ◌⊎◌, List, [], ◌∷◌, ◌++◌, length, replicate}
use Rattle.cmd_types.specs.declared.command_name.CommandName.{CommandName}
use Rattle.cmd_types.specs.Bytes.{Lacks, without_returns, IsNumber}
use Rattle.cmd_types.specs.Kinds.{Kind, AName, AnAuthor, ARest, AFlag, ANumber, ACode}
use Rattle.cmd_types.specs.Table.{name_text, kinds}
use Rattle.cmd_types.specs.declared.limits.TheConstants.{LONGEST_LINE}
use Rattle.cmd_lines.specs.declared.fault.LineFault.{LineFault}
use Rattle.cmd_lines.specs.declared.fault.LineFault.TheVariants.{TooLong, NoBracket, BadTime, NoSpace, UnknownCommand, Missing, EmptyName, BadNumber}

-- ---- parts of a line

-- the first byte is not b, or there is none
abbrev pub NotFirst : ℕ → List ℕ → Type 0
NotFirst b [] = Unit {0}
NotFirst b (x ∷ xs) = x ≢ b

-- nothing, or b and more
abbrev pub Opens : ℕ → List ℕ → Type 0
Opens b xs = (xs ≡ []) ⊎ ((more : List ℕ) × (xs ≡ b ∷ more))

-- the line is a number in brackets, and then what comes after it
pub record HasTime (line after : List ℕ) : Type 0 where
  pub text : List ℕ
  pub time : ℕ
  pub parts : line ≡ 91 ∷ (text ++ (93 ∷ after))
  pub number : IsNumber text time

-- after the time and all spaces come the word, up to a semicolon or the end, and its tail
pub record HasWord (line word tail : List ℕ) : Type 0 where
  pub spaces : ℕ
  pub time : HasTime line (32 ∷ (replicate spaces 32 ++ (word ++ tail)))
  pub no_space : NotFirst 32 (word ++ tail)
  pub no_semicolon : Lacks 59 word
  pub opens : Opens 59 tail

-- the bytes are a semicolon, the text up to the next one or the end, and what comes after it
pub record Takes (bytes text after : List ℕ) : Type 0 where
  pub parts : bytes ≡ 59 ∷ text ++ after
  pub lacks : Lacks 59 text
  pub opens : Opens 59 after

-- ---- arguments

-- the text is an argument of the kind
abbrev pub IsOfKind : Kind → List ℕ → Type 0
IsOfKind (AName of) text = 0 < length (without_returns text)
IsOfKind AnAuthor text = Unit {0}
IsOfKind ARest text = Unit {0}
IsOfKind AFlag text = (x : ℕ) × IsNumber text x
IsOfKind ANumber text = (x : ℕ) × IsNumber text x
IsOfKind (ACode greatest) text = (x : ℕ) × IsNumber text x × (x ≤ greatest)

-- where a text of the kind ends: a rest goes to the end of the line
abbrev pub TakesKind : Kind → List ℕ → List ℕ → List ℕ → Type 0
TakesKind ARest bytes text after = (bytes ≡ 59 ∷ text) × (after ≡ [])
TakesKind _ bytes text after = Takes bytes text after

-- the fault of argument n, where its text is none of its kind
abbrev pub fault_of : Kind → ℕ → LineFault
fault_of (AName of) n = EmptyName n
fault_of _ n = BadNumber n

-- f is the first fault of the arguments from n on
abbrev pub ArgumentsFail : List Kind → ℕ → List ℕ → LineFault → Type 0
ArgumentsFail [] n bytes f = ⊥
ArgumentsFail (k ∷ ks) n bytes f =
    ((f ≡ Missing n) × NotFirst 59 bytes)
    ⊎ ((text : List ℕ) × (after : List ℕ) × TakesKind k bytes text after
    × (((f ≡ fault_of k n) × (IsOfKind k text → ⊥)) ⊎ (IsOfKind k text × ArgumentsFail ks (n + 1) after f)))

-- ---- lines

-- f is the first fault of a line that is not too long: the tests in order
abbrev pub Fails : List ℕ → LineFault → Type 0
Fails line f =
    ((f ≡ NoBracket) × NotFirst 91 line)
    ⊎ (((f ≡ BadTime) × (rest : List ℕ) × (line ≡ 91 ∷ rest) × ((after : List ℕ) → HasTime line after → ⊥))
    ⊎ (((f ≡ NoSpace) × (after : List ℕ) × HasTime line after × NotFirst 32 after)
    ⊎ (((f ≡ UnknownCommand) × (word : List ℕ) × (tail : List ℕ) × HasWord line word tail × ((n : CommandName) → name_text n ≢ word))
    ⊎ ((n : CommandName) × (tail : List ℕ) × HasWord line (name_text n) tail × ArgumentsFail (kinds n) 1 tail f))))

-- f is the first fault of the line
abbrev pub IsFirstFault : List ℕ → LineFault → Type 0
IsFirstFault line f = ((f ≡ TooLong) × (LONGEST_LINE < length line)) ⊎ ((length line ≤ LONGEST_LINE) × Fails line f)
