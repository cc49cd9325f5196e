-- The conditions that hold of each world that entries of a journal lead to, for one inventory.
use Rattle.std.specs.Prelude.{◌≡◌, ℕ, false, ◌+◌, ◌*◌, ◌<◌, ◌≤◌, List, length, Some, is_some, slice_get, All}
use Rattle.cmd_types.specs.declared.limits.TheConstants.{GREATEST_NUMBER}
use Rattle.mon_checks.specs.States.{IsWithin}
use Rattle.cmd_journal.specs.declared.journal.TheConstants.{GREATEST_LIMIT}
use Rattle.mon_inventory.specs.declared.limits.TheConstants.{MOST_OBJECTS}
use Rattle.mon_inventory.specs.declared.records.ObjectSpec.{ObjectSpec}
use Rattle.mon_inventory.specs.Configuration.{Configuration, recovers_the_told}
use Rattle.mon_engine.specs.declared.ends.Owed.{Owed}
use Rattle.mon_engine.specs.declared.object.Object.{Object}
use Rattle.mon_engine.specs.declared.notice.Notice.{Notice}
use Rattle.mon_engine.specs.declared.state.TheConstants.{GREATEST_BEFORE}
use Rattle.mon_engine.specs.Objects.{is_service, is_of_hard_problem}
use Rattle.mon_engine.specs.Owed.{nobody}
use Rattle.mon_engine.specs.World.{World}

-- the state of an object with this line of the inventory
pub record IsObjectState (spec : ObjectSpec) (o : Object) : Type 0 where
  pub within : IsWithin spec.max o.status
  pub kind : o.status.service ≡ is_service spec
  -- the beginning of its hard problem is known, where it is in one
  pub since : is_some o.moments.since ≡ is_of_hard_problem o.status

-- the states of the inventory's objects, of which a notification number was raised n times at most
pub record AreObjectStates (n : ℕ) (specs : List ObjectSpec) (os : List Object) : Type 0 where
  pub as_many : length os ≡ length specs
  pub each : (k : ℕ) (spec : ObjectSpec) (o : Object) → slice_get specs k ≡ Some spec → slice_get os k ≡ Some o → IsObjectState spec o
  -- so that the next notification number is in range
  pub numbers : (k : ℕ) (o : Object) → slice_get os k ≡ Some o → o.number ≤ GREATEST_NUMBER + n

-- the notice's object and its contacts are in the inventory
pub record IsNoticeOf (inv : Configuration) (notice : Notice) : Type 0 where
  pub object : notice.subject.object < length inv.objects
  pub contacts : All (λ c. c < length inv.contacts) notice.contacts

-- each object has its own who are owed its end, and they are in the inventory
pub record IsOwing (inv : Configuration) (owed : List Owed) : Type 0 where
  pub as_many : length owed ≡ length inv.objects
  pub within : All (λ x. All (λ c. c < length inv.contacts) x.contacts) owed

-- what holds of a world after n entries, those before it went on included, that raised a notification number m times at
-- most; each bound that grows goes by these
pub record IsWorldAt (inv : Configuration) (n m : ℕ) (w : World) : Type 0 where
  pub clock : w.clock ≤ GREATEST_NUMBER
  pub states : AreObjectStates m inv.objects w.objects
  pub contacts : length w.contacts ≡ length inv.contacts
  pub owing : IsOwing inv w.owed
  pub ends : All (λ x. x.number ≤ GREATEST_NUMBER + m) w.owed
  pub without : recovers_the_told inv ≡ false → All (λ x. x ≡ nobody) w.owed
  pub comments : w.notes.last_id ≤ n
  pub noted : All (λ c. c.object < length inv.objects) w.notes.comments
  pub downtimes : length w.downtimes ≤ MOST_OBJECTS * n
  pub known : All (λ d. d.object < length inv.objects) w.downtimes
  pub notices : All (IsNoticeOf inv) w.notices
  pub limit : w.entries ≤ GREATEST_LIMIT
  pub earlier : w.before ≤ GREATEST_BEFORE

-- how many entries there ever were
abbrev pub ever : World → ℕ
ever w = w.before + w.entries

-- how often a notification number was raised at most: by each entry once by its act, and once by the clock
abbrev pub raised : World → ℕ
raised w = 2 * ever w

-- a world after all its entries
abbrev pub IsWorld : Configuration → World → Type 0
IsWorld inv w = IsWorldAt inv (ever w) (raised w) w

-- ---- of private contracts alone

-- a world whose objects and contacts are those of its inventory
pub record IsTellable (inv : Configuration) (w : World) : Type 0 where
  pub objects : length w.objects ≡ length inv.objects
  pub contacts : length w.contacts ≡ length inv.contacts

-- IsTellable, and each downtime is of an object of the inventory
pub record IsTimely (inv : Configuration) (w : World) : Type 0 where
  pub tellable : IsTellable inv w
  pub known : All (λ d. d.object < length inv.objects) w.downtimes

-- what an effect makes of a world, before its entry is counted
pub record Follows (inv : Configuration) (w w' : World) : Type 0 where
  pub world : IsWorldAt inv (ever w + 1) (raised w + 1) w'
  pub entries : w'.entries ≡ w.entries
  pub before : w'.before ≡ w.before
