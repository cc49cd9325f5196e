-- Laws of the definitions of bytes, numbers, lines and commands. All are proved, and crates above use them.
use Rattle.std.specs.Prelude.{◌≡◌, ◌≢◌, ℕ, ◌≤◌, Bool, true, false, not, ◌&&◌, List, [], ◌∷◌, ◌++◌, length, replicate, Some, nat_eq, nat_le}
use Rattle.std.specs.List.{list_any}
use Rattle.std.specs.Char.{is_ascii_digit}
use Rattle.std.specs.Fmt.{decimal}
use Rattle.cmd_types.specs.declared.command.Command.{Command}
use Rattle.cmd_types.specs.declared.command_name.CommandName.{CommandName}
use Rattle.cmd_types.specs.declared.limits.TheConstants.{GREATEST_NUMBER}
use Rattle.cmd_types.specs.declared.argument.NameRole.TheVariants.{Host, Service, Contact}
use Rattle.cmd_types.specs.declared.names.Target.{Target}
use Rattle.cmd_types.specs.declared.names.Target.TheVariants as targets
use Rattle.cmd_types.specs.Bytes.{Lacks, without_returns, IsNumber}
use Rattle.cmd_types.specs.Cuts.{before}
use Rattle.cmd_types.specs.Digits.{number_of}
use Rattle.cmd_types.specs.Kinds.{Argument, Kind, AName, AnAuthor, ARest, AFlag, ANumber, ACode}
use Rattle.cmd_types.specs.Names.{name_from}
use Rattle.cmd_types.specs.Table.{Values, listed, name_text, target, kinds, build, name_of, arguments_of}
use Rattle.cmd_types.specs.Build.{command_from}
use Rattle.cmd_types.specs.TextLines.{split_lines, joined, AreParts}

-- ---- bytes

-- a list lacks a byte where a search finds none; two lists do where their join does; so do the bytes before the first one, and a list without its last returns
pub record LackingLaws : Type 0 where
  pub tested : (b : ℕ) (xs : List ℕ) → not (list_any (λ x. nat_eq x b) xs) ≡ true → Lacks b xs
  pub join : (b : ℕ) (xs ys : List ℕ) → Lacks b xs → Lacks b ys → Lacks b (xs ++ ys)
  pub front : (b : ℕ) (xs ys : List ℕ) → Lacks b (xs ++ ys) → Lacks b xs
  pub back : (b : ℕ) (xs ys : List ℕ) → Lacks b (xs ++ ys) → Lacks b ys
  pub up_to : (b : ℕ) (xs : List ℕ) → Lacks b (before b xs)
  pub trimmed : (b : ℕ) (xs : List ℕ) → Lacks b xs → Lacks b (without_returns xs)

-- without_returns drops all returns at the end, and nothing else
pub record ReturnLaws : Type 0 where
  pub dropped : (xs : List ℕ) (k : ℕ) → without_returns (xs ++ replicate k 13) ≡ without_returns xs
  pub kept : (xs : List ℕ) (y : ℕ) → y ≢ 13 → without_returns (xs ++ y ∷ []) ≡ xs ++ y ∷ []
  pub split : (xs : List ℕ) → (n : ℕ) × (xs ≡ without_returns xs ++ replicate n 13)
  pub twice : (xs : List ℕ) → without_returns (without_returns xs) ≡ without_returns xs
  pub back : (xs ys : List ℕ) → without_returns (xs ++ ys) ≡ xs ++ ys → without_returns ys ≡ ys

-- ---- numbers

-- a text that spells a number is read as that number, and no other text is; the decimal text is the shortest such text
pub record NumberLaws : Type 0 where
  pub read : (text : List ℕ) (n : ℕ) → IsNumber text n → number_of text ≡ Some n
  pub spelled : (text : List ℕ) (n : ℕ) → number_of text ≡ Some n → IsNumber text n
  pub digits_alone : (b : ℕ) (text : List ℕ) (n : ℕ) → is_ascii_digit b ≡ false → IsNumber text n → Lacks b text
  pub by_decimal : (n : ℕ) → n ≤ GREATEST_NUMBER → IsNumber (decimal n) n
  pub shortest : (text : List ℕ) (n : ℕ) → IsNumber text n → length (decimal n) ≤ length text

-- ---- lines

-- the lines are the only parts without a line feed that, joined by line feeds, are the text, and come one by one
pub record LineLaws : Type 0 where
  pub parts : (text : List ℕ) → AreParts (split_lines text) × (joined (split_lines text) ≡ text)
  pub only : (ps : List (List ℕ)) → AreParts ps → split_lines (joined ps) ≡ ps
  pub ended : (line rest : List ℕ) → Lacks 10 line → split_lines (line ++ 10 ∷ rest) ≡ line ∷ split_lines rest
  pub last : (line : List ℕ) → Lacks 10 line → split_lines line ≡ line ∷ []

-- ---- commands

-- a rest is the last of a command's kinds, and its codes are digits
abbrev pub is_row : List Kind → Bool
is_row [] = true
is_row (AName _ ∷ ks) = is_row ks
is_row (AnAuthor ∷ ks) = is_row ks
is_row (ARest ∷ ks) = nat_eq (length ks) 0
is_row (AFlag ∷ ks) = is_row ks
is_row (ANumber ∷ ks) = is_row ks
is_row (ACode greatest ∷ ks) = nat_le greatest 9 && is_row ks

-- the kinds of the names, which come before all other arguments
abbrev pub name_kinds : List Kind → List Kind
name_kinds (AName of ∷ ks) = AName of ∷ name_kinds ks
name_kinds _ = []

-- the names by which a target is named: the services of a host by that of the host
abbrev pub names_for : Target → List Kind
names_for targets.Nothing = []
names_for targets.Contact = AName Contact ∷ []
names_for targets.Host = AName Host ∷ []
names_for targets.Service = AName Host ∷ AName Service ∷ []
names_for targets.Services = AName Host ∷ []

-- values of the kinds, of which these are the arguments
pub record AreValues (ks : List Kind) (as' : List Argument) : Type 0 where
  pub xs : Values ks
  pub are : as' ≡ listed ks xs

-- a name is found by the bytes that spell it and by no others, so no two are spelled alike; these bytes have no semicolon and begin with no space
pub record NameLaws : Type 0 where
  pub found : (n : CommandName) → name_from (name_text n) ≡ Some n
  pub spelled : (bytes : List ℕ) (n : CommandName) → name_from bytes ≡ Some n → name_text n ≡ bytes
  pub no_semicolon : (n : CommandName) → Lacks 59 (name_text n)
  pub first : (n : CommandName) → (x : ℕ) × (xs : List ℕ) × (name_text n ≡ x ∷ xs) × (nat_eq x 32 ≡ false)

-- a command is its name and the values of its kinds, and these give it back; its first arguments name what it is of
pub record CommandLaws : Type 0 where
  pub again : (c : Command) → command_from (name_of c) (arguments_of c) ≡ Some c
  pub values : (c : Command) → AreValues (kinds (name_of c)) (arguments_of c)
  pub name : (n : CommandName) (xs : Values (kinds n)) → name_of (build n xs) ≡ n
  pub arguments : (n : CommandName) (xs : Values (kinds n)) → arguments_of (build n xs) ≡ listed (kinds n) xs
  pub row : (n : CommandName) → is_row (kinds n) ≡ true
  pub target : (n : CommandName) → name_kinds (kinds n) ≡ names_for (target n)

-- ---- all of them

pub record Laws : Type 0 where
  pub lacking : LackingLaws
  pub returns : ReturnLaws
  pub numbers : NumberLaws
  pub lines : LineLaws
  pub names : NameLaws
  pub commands : CommandLaws
