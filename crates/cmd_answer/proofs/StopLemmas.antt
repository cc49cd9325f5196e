-- Why there is no inventory in a file.
use Rattle.std.proofs.Common.{◌≡◌, ◌≢◌, ◌⊎◌, ⊎_elim, ℕ, List, Option, Err, Bor, refl, sym, subst}
use Rattle.std.specs.Prelude.{Contains, IfSome}
use Rattle.mon_inventory.specs.Configuration.{inventory}
use Rattle.mon_inventory.specs.declared.fault.Cause.{Cause}
use Rattle.mon_inventory.specs.declared.fault.Cause.TheVariants as in_inventory
use Rattle.cmd_answer.specs.Stops.{inventory_stop, IsInventoryFault, StopsInventory, StopsOpening}
use Rattle.cmd_answer.specs.declared.stop.FilesStop.{FilesStop}
use Rattle.cmd_answer.specs.declared.stop.FilesStop.TheVariants.{Open, OpenPassing, Other}
use Rattle.cmd_answer.specs.declared.stop.Stop.{Stop}
use Rattle.cmd_answer.specs.declared.stop.Stop.TheVariants as stop

-- a faulty line of the inventory is a reason for which there is none
pub fault_stops : (text : List ℕ) (line : ℕ) (cause : Cause) → (cause ≢ in_inventory.Memory → inventory text ≡ Err (line, cause))
    → (Q : Stop → Type 0) → Q stop.Memory → ((number : ℕ) → IsInventoryFault text line number → Q (stop.Inventory line number)) → Q (inventory_stop line cause)
fault_stops text line in_inventory.Memory is Q memory fault = memory
fault_stops text line in_inventory.BadForm is Q memory fault = fault _ (in_inventory.BadForm, is (λ e. absurd (cc)), refl)
fault_stops text line in_inventory.BadNumber is Q memory fault = fault _ (in_inventory.BadNumber, is (λ e. absurd (cc)), refl)
fault_stops text line in_inventory.BadOption is Q memory fault = fault _ (in_inventory.BadOption, is (λ e. absurd (cc)), refl)
fault_stops text line in_inventory.Duplicate is Q memory fault = fault _ (in_inventory.Duplicate, is (λ e. absurd (cc)), refl)
fault_stops text line in_inventory.UnknownHost is Q memory fault = fault _ (in_inventory.UnknownHost, is (λ e. absurd (cc)), refl)
fault_stops text line in_inventory.UnknownService is Q memory fault = fault _ (in_inventory.UnknownService, is (λ e. absurd (cc)), refl)
fault_stops text line in_inventory.UnknownContact is Q memory fault = fault _ (in_inventory.UnknownContact, is (λ e. absurd (cc)), refl)
fault_stops text line in_inventory.TooMany is Q memory fault = fault _ (in_inventory.TooMany, is (λ e. absurd (cc)), refl)

-- a file that was not opened is a reason for which not all are
module _ (path : Bor (List ℕ)) (P Q : Type 0) (s : FilesStop) (is : (P × (s ≡ OpenPassing path)) ⊎ (Q × (s ≡ Open path))) where
  pub unopened_stops : (paths : List (List ℕ)) → Contains paths path.now → StopsOpening paths s
  unopened_stops paths h = ⊎_elim (λ w. subst (StopsOpening paths) (sym w.1) h) (λ w. subst (StopsOpening paths) (sym w.1) h) is

-- each is a reason for which there is no inventory in a file
pub stopped_inventory : {F : Type 0} (remaining : F → Option (List ℕ)) (path : List ℕ) (file : F) (text : List ℕ) (line : ℕ) (cause : Cause)
    → IfSome (remaining file) (λ told. text ≡ told) → (cause ≢ in_inventory.Memory → inventory text ≡ Err (line, cause)) → StopsInventory remaining path (Other (inventory_stop line cause))
stopped_inventory remaining path file text line cause told is =
    fault_stops text line cause is (λ s. StopsInventory remaining path (Other s)) tt (λ number why. (text, (file, told), why))
