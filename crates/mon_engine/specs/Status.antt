-- The status: the report, with a line on the moments of each host and service after its line.
use Rattle.std.specs.Prelude.{ℕ, ◌==◌, if◌then◌else◌, List, [], ◌∷◌, ◌++◌, length, Option, None, codes, slice_get}
use Rattle.std.specs.List.{flat_map}
use Rattle.std.specs.Fmt.{decimal}
use Rattle.mon_inventory.specs.declared.records.ObjectSpec.{ObjectSpec}
use Rattle.mon_inventory.specs.Configuration.{Configuration}
use Rattle.mon_engine.specs.declared.notices.Occasion.TheVariants.{Clock}
use Rattle.mon_engine.specs.declared.object.Object.{Object}
use Rattle.mon_engine.specs.declared.withheld.Withheld.{Withheld}
use Rattle.mon_engine.specs.Notices.{of_object}
use Rattle.mon_engine.specs.Report.{line, optional, clock_line, program_line, object_line, contact_line, comment_line, downtime_line, rejected_line, notice_line, each_index}
use Rattle.mon_engine.specs.Withheld.{withheld}
use Rattle.mon_engine.specs.Words.{withheld_text}
use Rattle.mon_engine.specs.World.{World}

-- what holds the PROBLEM of the object back; an object of code 0 has no problem
abbrev pub withheld_now : Configuration → World → (object : ℕ) → Object → Option Withheld
withheld_now inv w object o = if o.status.code == 0 then None else withheld inv w Clock object

-- CHECKED;CHANGED;SINCE;LAST;WITHHELD
abbrev pub times_line_of : Configuration → World → (object : ℕ) → ObjectSpec → Object → List ℕ
times_line_of inv w object spec o =
    line (codes "times") (optional o.moments.checked ∷ decimal o.moments.changed ∷ optional o.moments.since ∷ optional o.last ∷ withheld_text (withheld_now inv w object o) ∷ [])

-- the line on the moments of the object of this index
unfoldable pub times_line : Configuration → World → (object : ℕ) → List ℕ
times_line inv w object = of_object [] (times_line_of inv w object) (slice_get inv.objects object) (slice_get w.objects object)

-- the two lines of the object of this index
abbrev pub object_lines : Configuration → World → (object : ℕ) → List ℕ
object_lines inv w object = object_line inv.objects w.objects w.downtimes object ++ times_line inv w object

-- as the report, with two lines of each object
unfoldable pub status : Configuration → World → List ℕ
status inv w =
    clock_line w.clock
    ++ program_line w.program
    ++ each_index (object_lines inv w) (length inv.objects)
    ++ each_index (contact_line inv.contacts w.contacts) (length inv.contacts)
    ++ flat_map (comment_line inv.objects) w.notes.comments
    ++ flat_map (downtime_line inv.objects) w.downtimes
    ++ flat_map rejected_line w.rejections
    ++ flat_map (notice_line inv) w.notices
