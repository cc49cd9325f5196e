-- Faults of the system that may pass by themselves.
use Rattle.std.specs.declared.io.ErrorKind.{ErrorKind}
use Rattle.std.specs.declared.io.ErrorKind.TheVariants.{Interrupted, OutOfMemory, Uncategorized}

-- the call was interrupted, there was no memory, or the fault has no kind of its own, such as a lack of descriptors or
-- a fault of the device
abbrev pub MayPass : ErrorKind → Type 0
MayPass Interrupted = Unit {0}
MayPass OutOfMemory = Unit {0}
MayPass Uncategorized = Unit {0}
MayPass _ = ⊥
