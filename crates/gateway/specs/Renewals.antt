-- What follows each run of a call that keeps the commands that it takes.
use Rattle.std.specs.Prelude.{◌≤◌, ℕ, List, Option}
use Rattle.cmd_answer.specs.declared.ended.Ended.{Ended}
use Rattle.gateway.specs.declared.keeping.RunEnd.{RunEnd}
use Rattle.gateway.specs.declared.keeping.RunEnd.TheVariants.{Over, Renewed}
use Rattle.gateway.specs.declared.keeping.Onward.{Onward}
use Rattle.gateway.specs.declared.keeping.Onward.TheVariants as onward
use Rattle.gateway.specs.Modes.{ServesKept}

-- ---- of private contracts alone

-- where the program ends, its status is 0 or 1
abbrev pub IsLow : RunEnd → Type 0
IsLow (Over status) = status ≤ 1
IsLow Renewed = Unit {0}

-- where the program ends, it has served the call
abbrev pub GoesOn : {F : Type 0} → Onward F → (told : Option (List ℕ)) → Type 0
GoesOn (onward.Ended e) told = ServesKept e told
GoesOn (onward.Renewed carried) told = Unit {0}
