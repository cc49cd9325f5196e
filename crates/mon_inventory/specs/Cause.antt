-- The causes of a fault, numbered in the order of the tests.
use Rattle.std.specs.Prelude.{ℕ}
use Rattle.mon_inventory.specs.declared.fault.Cause.{Cause}
use Rattle.mon_inventory.specs.declared.fault.Cause.TheVariants.{BadForm, BadNumber, BadOption, Duplicate, UnknownHost, UnknownService, UnknownContact, TooMany, Memory}

-- the number of a cause, from 1
abbrev pub cause_number : Cause → ℕ
cause_number BadForm = 1
cause_number BadNumber = 2
cause_number BadOption = 3
cause_number Duplicate = 4
cause_number UnknownHost = 5
cause_number UnknownService = 6
cause_number UnknownContact = 7
cause_number TooMany = 8
cause_number Memory = 9
