-- The fault that a reader returns is the first of the text.
use Rattle.std.proofs.Common.{◌≡◌, ◌⊎◌, inl, inr, ℕ, List, Result, Ok, Err, refl, ap, sym, ◌∙◌}
use Rattle.mon_inventory.specs.Configuration.{Configuration}
use Rattle.mon_state.specs.declared.fault.StateCause.{StateCause}
use Rattle.mon_state.specs.declared.fault.StateCause.TheVariants.{BadLine, BadValue, NotAsWritten, UnknownVersion, Memory}
use Rattle.mon_state.specs.declared.fault.StateFault.{StateFault}
use Rattle.mon_state.specs.declared.version.StateVersion.{StateVersion}
use Rattle.mon_state.specs.Reading.{Stuck, version_at, world_at}
use Rattle.mon_state.specs.FileReading.{feeds_at}
use Rattle.mon_state.specs.Cursors.{Fails}
use Rattle.mon_state.specs.Faults.{line_of_rest, IsStateFault, IsFeedsFault}

-- ---- a reading that fails

-- the code's fault is that of the definition, unless memory runs out
stuck_is : {A : Type 0} (e : StateCause) (last : List ℕ) (read : Result A Stuck) → Fails e last read → (e ≡ Memory) ⊎ (read ≡ Err (e, last))
stuck_is BadLine last read fails = inr fails
stuck_is BadValue last read fails = inr fails
stuck_is NotAsWritten last read fails = inr fails
stuck_is UnknownVersion last read fails = absurd fails
stuck_is Memory last read fails = inl refl

pub field_fault : (version : StateVersion) (inv : Configuration) (text behind read last : List ℕ) (f : StateFault) → version_at text ≡ Ok (version, behind) → read ≡ behind → Fails f.cause last (world_at version inv read) → f.line ≡ line_of_rest text last → IsStateFault inv text f
field_fault version inv text behind read last f heading same fails line = elim (stuck_is f.cause last (world_at version inv read) fails) [
  | inl memory ↦ inl ((version, behind, heading), memory)
  | inr stuck ↦ inr (inr (inl (version, behind, last, heading, ap (world_at version inv) (sym same) ∙ stuck, line)))
]

pub feeds_fault : (text read last : List ℕ) (f : StateFault) → read ≡ text → Fails f.cause last (feeds_at read) → f.line ≡ line_of_rest text last → IsFeedsFault text f
feeds_fault text read last f same fails line = elim (stuck_is f.cause last (feeds_at read) fails) [
  | inl memory ↦ inl memory
  | inr stuck ↦ inr (inl (last, ap feeds_at (sym same) ∙ stuck, line))
]
