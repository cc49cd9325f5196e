use Rattle.cmd_live.proofs.ClockLemmas.{tick_made}
use Rattle.cmd_live.proofs.live.ticking.command_at.Goals as goal

pub returns : goal.returns
returns c = tick_made c.in-Ok.command c.args.now c.in-Ok.ensures.ok c.in-Ok.ensures.fits
