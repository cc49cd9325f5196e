-- A check result of a service whose arguments were read at once.
use Rattle.cmd_types.specs.declared.command.Command.TheVariants as commands
use Rattle.cmd_types.specs.Table.{Apart, apart}
use Rattle.cmd_lines.specs.declared.plain.Plain.{Plain}

-- ---- of private contracts alone

-- its name and its arguments
abbrev pub shown : Plain → Apart
shown p = apart (commands.ProcessServiceCheckResult p.host.now p.service.now p.code p.output.now)
