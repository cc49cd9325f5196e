-- The command of a name and a list of arguments, where the arguments are of the kinds of that name.
use Rattle.std.specs.Prelude.{List, [], ◌∷◌, Option, Some, None}
use Rattle.cmd_types.specs.declared.command.Command.{Command}
use Rattle.cmd_types.specs.declared.command_name.CommandName.{CommandName}
use Rattle.cmd_types.specs.Kinds.{Argument, Name, Author, Rest, Flag, Number, Code, Kind, AName, AnAuthor, ARest, AFlag, ANumber, ACode, Value}
use Rattle.cmd_types.specs.Table.{Values, kinds, build}

abbrev pub value_from : (k : Kind) → Argument → Option (Value k)
value_from (AName _) (Name _ x) = Some x
value_from AnAuthor (Author x) = Some x
value_from ARest (Rest x) = Some x
value_from AFlag (Flag x) = Some x
value_from ANumber (Number x) = Some x
value_from (ACode _) (Code _ x) = Some x
value_from _ _ = None

abbrev pub both : {A B : Type 0} → Option A → Option B → Option (A × B)
both (Some x) (Some y) = Some (x, y)
both _ _ = None

abbrev pub values_from : (ks : List Kind) → List Argument → Option (Values ks)
values_from [] xs = Some tt
values_from (k ∷ ks) [] = None
values_from (k ∷ ks) (x ∷ xs) = both (value_from k x) (values_from ks xs)

abbrev pub built : (n : CommandName) → Option (Values (kinds n)) → Option Command
built n None = None
built n (Some xs) = Some (build n xs)

unfoldable pub command_from : CommandName → List Argument → Option Command
command_from n xs = built n (values_from (kinds n) xs)
