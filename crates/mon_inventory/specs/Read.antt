-- The answer for a text.
use Rattle.std.specs.Prelude.{◌≡◌, ◌≢◌, ℕ, ◌+◌, ◌<◌, List, ◌∷◌, ◌++◌, length, Some, None, Result, Ok, Err}
use Rattle.cmd_types.specs.Bytes.{without_returns}
use Rattle.mon_inventory.specs.declared.fault.Cause.{Cause}
use Rattle.mon_inventory.specs.declared.fault.Cause.TheVariants.{Memory}
use Rattle.mon_inventory.specs.declared.fault.InventoryFault.{InventoryFault}
use Rattle.mon_inventory.specs.Configuration.{Configuration, cause_of, with_line, inventory_of}

-- what came of a text, seen by view, is what its lines say; a fault other than Memory is their first
abbrev pub Reads : {X : Type 0} → (X → Configuration) → Result X InventoryFault → Result Configuration (ℕ × Cause) → Type 0
Reads view (Ok x) read = read ≡ Ok (view x)
Reads view (Err f) read = f.cause ≢ Memory → read ≡ Err (f.line, f.cause)

-- the line of this number, counted from 1, and what the lines before it, which have no fault, made
pub record IsReached (lines : List (List ℕ)) (number : ℕ) (line : List ℕ) (so_far : Configuration) : Type 0 where
  pub earlier : List (List ℕ)
  pub later : List (List ℕ)
  pub parts : lines ≡ earlier ++ line ∷ later
  pub place : number ≡ length earlier + 1
  pub fine : inventory_of earlier ≡ Ok so_far

-- the line of this number is the first with a fault, and this is the first cause by what the lines before it made
pub record IsFirstFault (lines : List (List ℕ)) (number : ℕ) (cause : Cause) : Type 0 where
  pub line : List ℕ
  pub so_far : Configuration
  pub reached : IsReached lines number line so_far
  pub fails : cause_of so_far line ≡ Some cause

-- the line of this number is there and not empty, and neither it nor one before it has a fault
pub record HasNoFault (lines : List (List ℕ)) (number : ℕ) : Type 0 where
  pub line : List ℕ
  pub so_far : Configuration
  pub reached : IsReached lines number line so_far
  pub some : 0 < length (without_returns line)
  pub none : cause_of so_far line ≡ None

-- ---- of private contracts alone

-- the answer for one more line: what it adds, the first of its faults, or want of memory where it has none
abbrev pub Adds : {X : Type 0} → Configuration → List ℕ → Configuration → Result X Cause → Type 0
Adds k line j (Ok x) = (cause_of k line ≡ None) × (j ≡ with_line k line)
Adds k line j (Err e) = (e ≢ Memory → cause_of k line ≡ Some e) × (e ≡ Memory → (0 < length (without_returns line)) × (cause_of k line ≡ None))
