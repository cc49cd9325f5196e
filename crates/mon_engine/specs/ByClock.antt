-- Problems that are told by the clock: with any entry, as soon as nothing holds their notices back.
use Rattle.std.specs.Prelude.{ℕ, if◌then◌else◌, length}
use Rattle.std.specs.List.{fold, range_with_len}
use Rattle.mon_inventory.specs.Configuration.{Configuration, tells_by_clock}
use Rattle.mon_engine.specs.declared.notices.Occasion.TheVariants.{Clock}
use Rattle.mon_engine.specs.Notices.{told_problem}
use Rattle.mon_engine.specs.World.{World}

-- the problems of the first so many objects are told where they may be, one after another
abbrev pub told_among : Configuration → World → (count : ℕ) → World
told_among inv w count = fold (told_problem inv Clock) w (range_with_len 0 count)

-- with the option `tell_by_clock` each problem is told that may be, in order of the objects; else none
unfoldable pub told_by_clock : Configuration → World → World
told_by_clock inv w = if tells_by_clock inv then told_among inv w (length inv.objects) else w
