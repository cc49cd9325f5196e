-- The fields that the code writes, without where they lie in memory.
use Rattle.std.specs.Prelude.{ℕ, List, [], ◌∷◌}
use Rattle.std.specs.Fmt.{decimal}
use Rattle.mon_engine.specs.declared.lines.Field.{Field}
use Rattle.mon_engine.specs.declared.lines.Field.TheVariants as code
use Rattle.mon_engine.specs.Report.{flag}

-- the text of a field
abbrev pub shown : Field → List ℕ
shown (code.Bytes bytes) = bytes.now
shown (code.Number n) = decimal n
shown (code.Flag on) = flag on

-- the texts of fields
abbrev pub texts : List Field → List (List ℕ)
texts [] = []
texts (f ∷ fs) = shown f ∷ texts fs
