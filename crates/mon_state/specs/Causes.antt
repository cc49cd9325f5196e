-- The numbers by which the program prints why a line of a state is faulty.
use Rattle.std.specs.Prelude.{ℕ}
use Rattle.mon_state.specs.declared.fault.StateCause.{StateCause}
use Rattle.mon_state.specs.declared.fault.StateCause.TheVariants.{BadLine, BadValue, NotAsWritten, Memory, UnknownVersion}

-- the number of each cause
abbrev pub cause_number : StateCause → ℕ
cause_number BadLine = 1
cause_number BadValue = 2
cause_number NotAsWritten = 3
cause_number Memory = 4
cause_number UnknownVersion = 5
