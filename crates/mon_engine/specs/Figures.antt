-- The figures of a world: counts over all its objects, each counted afresh.
use Rattle.std.specs.Prelude.{◌≡◌, ℕ, ◌==◌, not, Bool, List, length, count_by}
use Rattle.mon_downtime.specs.Depths.{objects_in_downtime}
use Rattle.mon_engine.specs.declared.object.Object.{Object}
use Rattle.mon_engine.specs.declared.figures.Figures.{Figures}
use Rattle.mon_engine.specs.Objects.{is_acknowledged}
use Rattle.mon_inventory.specs.Configuration.{Configuration}
use Rattle.mon_engine.specs.World.{World, initial}

-- the object's code is not 0
abbrev pub is_problem : Object → Bool
is_problem o = not (o.status.code == 0)

-- the object is acknowledged
abbrev pub has_acknowledgement : Object → Bool
has_acknowledgement o = is_acknowledged o.acknowledgement

-- the entries so far, and three counts over all objects
unfoldable pub figures : World → Figures
figures w = record {
  entries = w.entries;
  problems = count_by is_problem w.objects;
  acknowledged = count_by has_acknowledgement w.objects;
  in_downtime = objects_in_downtime w.downtimes (length w.objects);
}

-- before the first entry they are all 0
abbrev pub NothingIsCountedAtFirst : Type 0
NothingIsCountedAtFirst = (inv : Configuration) → figures (initial inv) ≡ record { entries = 0; problems = 0; acknowledged = 0; in_downtime = 0 }

-- ---- of private contracts alone

-- the counts of these objects
pub record AreCounted (os : List Object) (problems acknowledged : ℕ) : Type 0 where
  pub in_problem : problems ≡ count_by is_problem os
  pub acked : acknowledged ≡ count_by has_acknowledgement os
