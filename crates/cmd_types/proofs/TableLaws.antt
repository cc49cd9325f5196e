-- A command is its name and its values, and these give it back.
use Rattle.std.proofs.Common.{◌≡◌, ℕ, ◌≤◌, Bool, true, false, not, cond, eqb, leb, inl, inr, ◌⊎◌, Option, List, [], ◌∷◌, length, map, Some, refl, ap, subst, ◌∙◌}
use Rattle.std.specs.List.{list_any, find}
use Rattle.std.specs.Str.{bytes_eq}
use Rattle.std.proofs.lemmas.Bool.{leb-true}
use Rattle.std.proofs.lemmas.Slice.Eq.{bytes_eq-Decides}
use Rattle.cmd_types.specs.declared.command_name.TheConstants.{ALL_NAMES}
use Rattle.cmd_types.specs.declared.command.Command.{Command}
use Rattle.cmd_types.specs.declared.command.Command.TheVariants as commands
use Rattle.cmd_types.specs.declared.command_name.CommandName.{CommandName}
use Rattle.cmd_types.specs.declared.command_name.CommandName.TheVariants as names
use Rattle.cmd_types.specs.Bytes.{Lacks}
use Rattle.cmd_types.specs.Kinds.{Argument, Name, Author, Rest, Flag, Number, Code, Kind, AName, AnAuthor, ARest, AFlag, ANumber, ACode, Value, argument}
use Rattle.cmd_types.specs.Names.{name_from}
use Rattle.cmd_types.specs.Table.{Values, listed, name_text, target, kinds, build, name_of, arguments_of}
use Rattle.cmd_types.specs.Build.{command_from}
use Rattle.cmd_types.specs.Laws.{is_row, name_kinds, names_for, AreValues, NameLaws, CommandLaws}
use Rattle.cmd_types.proofs.ByteLists.{Decides-lacks}

-- ---- arguments that are values of their kinds

abbrev pub kind_of : Argument → Kind
kind_of (Name of _) = AName of
kind_of (Author _) = AnAuthor
kind_of (Rest _) = ARest
kind_of (Flag _) = AFlag
kind_of (Number _) = ANumber
kind_of (Code greatest _) = ACode greatest

value_of : (a : Argument) → (x : Value (kind_of a)) × (a ≡ argument (kind_of a) x)
value_of (Name of x) = (x, refl)
value_of (Author x) = (x, refl)
value_of (Rest x) = (x, refl)
value_of (Flag x) = (x, refl)
value_of (Number x) = (x, refl)
value_of (Code greatest x) = (x, refl)

are_values : (as' : List Argument) → AreValues (map kind_of as') as'
are_values [] = record { xs = tt; are = refl }
are_values (a ∷ as') =
    let v = value_of a in
    let vs = are_values as' in
    record { xs = (v.0, vs.xs); are = ap (λ (x : Argument). x ∷ as') v.1 ∙ ap (λ (rest : List Argument). argument (kind_of a) v.0 ∷ rest) vs.are }

kinds_are : (c : Command) → map kind_of (arguments_of c) ≡ kinds (name_of c)
kinds_are (commands.AddHostComment _ _ _ _) = refl
kinds_are _ = refl

-- the arguments of a command are values of the kinds of its name
pub command_values : (c : Command) → AreValues (kinds (name_of c)) (arguments_of c)
command_values c = subst (λ (ks : List Kind). AreValues ks (arguments_of c)) (kinds_are c) (are_values (arguments_of c))

-- ---- a command, its name and its arguments

pub build_again : (c : Command) → command_from (name_of c) (arguments_of c) ≡ Some c
unfolding command_from
build_again (commands.AddHostComment _ _ _ _) = refl
build_again _ = refl

pub name_build : (n : CommandName) (xs : Values (kinds n)) → name_of (build n xs) ≡ n
name_build names.AddHostComment xs = refl
name_build _ xs = refl

pub arguments_build : (n : CommandName) (xs : Values (kinds n)) → arguments_of (build n xs) ≡ listed (kinds n) xs
arguments_build names.AddHostComment xs = refl
arguments_build _ xs = refl

-- the name is found by its text, has no semicolon, and does not begin with a space
found : (n : CommandName) → name_from (name_text n) ≡ Some n
found names.AddHostComment = refl
found _ = refl

-- what is found spells the bytes
found_first : (p : CommandName → Bool) (m n : CommandName) (b : Bool) (later : Option CommandName) → p m ≡ b → cond b (Some m) later ≡ Some n → (p n ≡ true) ⊎ (later ≡ Some n)
found_first p m n true later q e = inl (let same : m ≡ n = cc in rw (← same) q)
found_first p m n false later q e = inr e

found_passes : (p : CommandName → Bool) (ns : List CommandName) (n : CommandName) → find p ns ≡ Some n → p n ≡ true
found_passes p [] n e = absurd cc
found_passes p (m ∷ ns) n e = elim (found_first p m n (p m) (find p ns) refl e) [ inl h ↦ h | inr h ↦ found_passes p ns n h ]

name_from_is : (bytes : List ℕ) (n : CommandName) → name_from bytes ≡ Some n → name_text n ≡ bytes
name_from_is bytes n e = (bytes_eq-Decides (name_text n) bytes).0 (found_passes (λ m. bytes_eq (name_text m) bytes) ALL_NAMES.now n e)

no_semicolon_test : (n : CommandName) → not (list_any (λ y. eqb y 59) (name_text n)) ≡ true
no_semicolon_test names.AddHostComment = refl
no_semicolon_test _ = refl

pub no_semicolon : (n : CommandName) → Lacks 59 (name_text n)
no_semicolon n = (Decides-lacks 59 (name_text n)).0 (no_semicolon_test n)

-- a byte that is no space, and others
pub first_byte : (n : CommandName) → (x : ℕ) × (xs : List ℕ) × (name_text n ≡ x ∷ xs) × (eqb x 32 ≡ false)
first_byte names.AddHostComment = (_, _, refl, refl)
first_byte _ = (_, _, refl, refl)

-- no name is long
short_test : (n : CommandName) → leb (length (name_text n)) 100 ≡ true
short_test names.AddHostComment = refl
short_test _ = refl

pub name_short : (n : CommandName) → length (name_text n) ≤ 100
name_short n = leb-true _ _ (short_test n)

pub row_of : (n : CommandName) → is_row (kinds n) ≡ true
row_of names.AddHostComment = refl
row_of _ = refl

-- the first arguments name what the command names
target_of : (n : CommandName) → name_kinds (kinds n) ≡ names_for (target n)
target_of names.AddHostComment = refl
target_of _ = refl

-- ---- all of it

pub name_laws : NameLaws
name_laws = record { found = found; spelled = name_from_is; no_semicolon = no_semicolon; first = first_byte }

pub command_laws : CommandLaws
command_laws = record { again = build_again; values = command_values; name = name_build; arguments = arguments_build; row = row_of; target = target_of }
