-- The numbers by which faults are reported.
use Rattle.std.specs.Prelude.{ℕ}
use Rattle.cmd_lines.specs.declared.fault.LineFault.{LineFault}
use Rattle.cmd_lines.specs.declared.fault.LineFault.TheVariants.{TooLong, Torn, NoBracket, BadTime, NoSpace, UnknownCommand, Missing, EmptyName, BadNumber, Memory}

-- the place of a fault in the order of the tests
abbrev pub fault_number : LineFault → ℕ
fault_number TooLong = 1
fault_number Torn = 2
fault_number NoBracket = 3
fault_number BadTime = 4
fault_number NoSpace = 5
fault_number UnknownCommand = 6
fault_number (Missing _) = 7
fault_number (EmptyName _) = 8
fault_number (BadNumber _) = 9
fault_number Memory = 10

-- the argument that is at fault, or 0
abbrev pub fault_argument : LineFault → ℕ
fault_argument (Missing n) = n
fault_argument (EmptyName n) = n
fault_argument (BadNumber n) = n
fault_argument _ = 0
