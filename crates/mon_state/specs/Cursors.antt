-- The reader's place in a text, and the results of its steps.
use Rattle.std.specs.Prelude.{◌≡◌, ℕ, List, Result, Ok, Err}
use Rattle.mon_state.specs.declared.fault.StateCause.{StateCause}
use Rattle.mon_state.specs.declared.fault.StateCause.TheVariants.{BadLine, BadValue, NotAsWritten, UnknownVersion, Memory}
use Rattle.mon_state.specs.Reading.{Stuck}

-- ---- of private contracts alone

-- the place of a cursor: the unread bytes, and the text from the last field that was read or tried
pub record Place : Type 0 where
  pub rest : List ℕ
  pub last : List ℕ

-- the code's fault is that of the definition, at the field where the cursor is, unless memory runs out; no field after
-- the heading has the fault of an unknown version
abbrev pub Fails : {Y : Type 0} → StateCause → (last : List ℕ) → Result Y Stuck → Type 0
Fails BadLine last read = read ≡ Err (BadLine, last)
Fails BadValue last read = read ≡ Err (BadValue, last)
Fails NotAsWritten last read = read ≡ Err (NotAsWritten, last)
Fails UnknownVersion last read = ⊥
Fails Memory last read = Unit {0}

-- the code's result, under `view`, is that of the definition, unless memory runs out
abbrev pub Gives : {X Y : Type 0} → (X → Y) → (last : List ℕ) → Result X StateCause → Result Y Stuck → Type 0
Gives view last (Ok x) read = read ≡ Ok (view x)
Gives view last (Err e) read = Fails e last read

-- the same for code that takes no memory and has no cursor
abbrev pub GivesAlways : {X Y : Type 0} → (X → Y) → Result X StateCause → Result Y Stuck → Type 0
GivesAlways view (Ok x) read = read ≡ Ok (view x)
GivesAlways view (Err e) read = (last : List ℕ) × (read ≡ Err (e, last))
