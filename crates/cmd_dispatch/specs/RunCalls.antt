-- The arguments of a run: the feeds and how they are read, the limit of its journal, and the inventory.
use Rattle.std.specs.Prelude.{ℕ, Bool, List, map, Option}
use Rattle.cmd_options.specs.declared.options.RunOptions.{RunOptions}
use Rattle.mon_inventory.specs.Configuration.{Configuration}

-- A feed as a run reads it: the bytes that its reads give, where they are known; whether a read may fail; whether each
-- read fills its buffer while enough bytes are left; the size of each read, in bytes; and the most reads
pub record Source : Type 0 where
  pub remaining : Option (List ℕ)
  pub fails : Bool
  pub fills : Bool
  pub piece : ℕ
  pub reads : ℕ

-- the arguments of a run: its feeds, the most entries of its journal, and the inventory of its monitor
pub record RunCall : Type 0 where
  pub sources : List Source
  pub limit : ℕ
  pub inventory : Configuration

module _ {F : Type 0} where
  -- a reader of a call as a source: its known properties, and the limits in the options
  abbrev pub read_as : (remaining : F → Option (List ℕ)) → (fails fills : F → Bool) → RunOptions → F → Source
  read_as remaining fails fills options reader = record { remaining = remaining reader; fails = fails reader; fills = fills reader; piece = options.piece; reads = options.reads }

  abbrev pub sources : (remaining : F → Option (List ℕ)) → (fails fills : F → Bool) → RunOptions → (readers : List F) → List Source
  sources remaining fails fills options readers = map (read_as remaining fails fills options) readers

  -- the arguments of a call
  abbrev pub run_call : (remaining : F → Option (List ℕ)) → (fails fills : F → Bool) → RunOptions → (readers : List F) → Configuration → RunCall
  run_call remaining fails fills options readers inv = record { sources = sources remaining fails fills options readers; limit = options.limit; inventory = inv }
