-- The name that bytes spell, and the names of objects and contacts that a command has.
use Rattle.std.specs.Prelude.{ℕ, List, ◌∷◌, Option, find}
use Rattle.std.specs.Str.{bytes_eq}
use Rattle.cmd_types.specs.declared.argument.NameRole.TheVariants.{Host, Service, Contact}
use Rattle.cmd_types.specs.declared.command.Command.{Command}
use Rattle.cmd_types.specs.declared.command_name.CommandName.{CommandName}
use Rattle.cmd_types.specs.declared.command_name.TheConstants.{ALL_NAMES}
use Rattle.cmd_types.specs.Kinds.{Argument, Name}
use Rattle.cmd_types.specs.Table.{name_text, arguments_of}

-- ---- the name that bytes spell

-- the first of the code's list of all names that is spelled so; that each name is found is a law
abbrev pub name_from : List ℕ → Option CommandName
name_from bytes = find (λ n. bytes_eq (name_text n) bytes) ALL_NAMES.now

-- ---- the names that a command has

-- none, that of a contact, of a host, or of a service with its host
pub data Names : Type 0 where
  NoName : Names
  ContactName : (contact : List ℕ) → Names
  HostName : (host : List ℕ) → Names
  ServiceName : (host service : List ℕ) → Names

-- names come before all other arguments
abbrev pub names_in : List Argument → Names
names_in (Name Contact contact ∷ _) = ContactName contact
names_in (Name Host host ∷ (Name Service service ∷ _)) = ServiceName host service
names_in (Name Host host ∷ _) = HostName host
names_in _ = NoName

abbrev pub names_of : Command → Names
names_of c = names_in (arguments_of c)
