-- The figures of a run that was watched on a board.
use Rattle.std.specs.Prelude.{◌≡◌, Bool, true, false, List, Option, Some, None, Result, MatchResult}
use Rattle.cmd_types.specs.declared.entry.Entry.{Entry}
use Rattle.mon_inventory.specs.Configuration.{Configuration}
use Rattle.mon_engine.specs.declared.figures.Figures.{Figures}
use Rattle.mon_engine.specs.Figures.{figures}
use Rattle.mon_engine.specs.Step.{meaning}
use Rattle.cmd_run.specs.declared.fault.RunFault.{RunFault}
use Rattle.cmd_dispatch.specs.declared.report.RunReport.{RunReport}
use Rattle.cmd_dispatch.specs.Watching.{IsBehind}
use Rattle.gateway.specs.declared.watching.Watched.{Watched}

-- the list that a run has published: its journal, also after a fault; where memory ran out, the last entry of the
-- journal may be missing
abbrev pub IsPublished : Result RunReport RunFault → List Entry → Type 0
IsPublished run published = MatchResult run (λ r. published ≡ r.journal.entries) (λ f. IsBehind f.cause f.journal.entries published)

-- Where figures are asked for, there is a board of this inventory on which the run was published, with the figures of
-- the published list; else there is no board
abbrev pub IsWatched : (asked : Bool) → Configuration → Result RunReport RunFault → Option Watched → Type 0
IsWatched true inv run (Some w) = (w.board.inventory ≡ inv) × IsPublished run w.board.published × (w.figures ≡ figures (meaning inv w.board.published))
IsWatched true inv run None = ⊥
IsWatched false inv run (Some w) = ⊥
IsWatched false inv run None = Unit {0}

abbrev pub figures_in : Option Watched → Option Figures
figures_in None = None
figures_in (Some w) = Some w.figures
