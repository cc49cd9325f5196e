use Rattle.cmd_dispatch.specs.Planned.{plan_of}
use Rattle.cmd_dispatch.proofs.logged.run_logged.Given as goal

abbrev pub ghosts-queue_of : goal.ghosts-queue_of
ghosts-queue_of g a = record { plan = plan_of g.F.Feed.remaining a.readers.now }
