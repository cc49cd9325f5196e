-- What a command asks for is there, and its numbers are in range: its target is there, and its arguments fit.
use Rattle.std.proofs.Common.{◌≡◌, ℕ, ◌<◌, length, true, false, Ok, is_some, ap, arith, subst, sym}
use Rattle.cmd_types.specs.declared.command.Command.{Command}
use Rattle.cmd_types.specs.declared.command.Command.TheVariants as commands
use Rattle.cmd_types.specs.Names.{Names, NoName, ContactName, HostName, ServiceName, names_of}
use Rattle.cmd_types.specs.Spelling.{AllFit}
use Rattle.cmd_types.specs.Table.{arguments_of}
use Rattle.mon_inventory.specs.Configuration.{Configuration}
use Rattle.mon_inventory.specs.Facts.{IsInventory}
use Rattle.mon_inventory.specs.Lookups.{IsHostNamed, IsServiceNamed}
use Rattle.mon_engine.specs.Effects.{Act, asked, named, IsFit, Stands}
use Rattle.mon_engine.specs.Names.{IsTarget}
use Rattle.mon_engine.proofs.TargetLemmas.{code_stands, named_asks, IsAskedOf}

-- what is named is there
abbrev IsThere : Configuration → Names → ℕ → Type 0
IsThere inv NoName target = Unit {0}
IsThere inv (ContactName contact) target = target < length inv.contacts
IsThere inv (HostName host) target = target < length inv.objects
IsThere inv (ServiceName host service) target = target < length inv.objects

is_there : (inv : Configuration) (names : Names) (target : ℕ) → IsTarget inv names target → IsThere inv names target
is_there inv NoName target there = tt
is_there inv (ContactName contact) target there = there.within
is_there inv (HostName host) target there = there.within
is_there inv (ServiceName host service) target there = there.within

asked_stands : (inv : Configuration) (c : Command) (target : ℕ) → IsThere inv (names_of c) target → Stands inv (asked c target)
asked_stands inv commands.RestartProgram target there = tt
asked_stands inv c target there = there

asked_fit : (inv : Configuration) (c : Command) (target : ℕ) → IsTarget inv (names_of c) target → AllFit (arguments_of c) → IsFit inv (asked c target)
asked_fit inv (commands.ProcessHostCheckResult host code output) target there fit =
    let most = fit.1.0 in code_stands (IsHostNamed host) inv target code false (λ spec h. ap is_some h.0) there (omega (arith, most))
asked_fit inv (commands.ProcessServiceCheckResult host service code output) target there fit =
    let most = fit.1.1.0 in code_stands (IsServiceNamed host service) inv target code true (λ spec h. ap is_some h.0) there (omega (arith, most))
asked_fit inv (commands.ScheduleHostDowntime _ _ _ _ _ _ _ _) target there fit = (fit.1.0, fit.1.1.0, fit.1.1.1.1.1.0)
asked_fit inv (commands.ScheduleSvcDowntime _ _ _ _ _ _ _ _ _) target there fit = (fit.1.1.0, fit.1.1.1.0, fit.1.1.1.1.1.1.0)
asked_fit inv (commands.ScheduleHostSvcDowntime _ _ _ _ _ _ _ _) target there fit = (fit.1.0, fit.1.1.0, fit.1.1.1.1.1.0)
asked_fit inv (commands.SetHostNotificationNumber _ _) target there fit = fit.1.0
asked_fit inv (commands.SetSvcNotificationNumber _ _ _) target there fit = fit.1.1.0
asked_fit inv c target there fit = tt

-- the act that a command asks for
module _ (inv : Configuration) (c : Command) (a : Act) (sound : IsInventory inv) (is : named inv c ≡ Ok a) where
  asks : IsAskedOf inv c a
  asks = named_asks inv c a sound is

  pub named_stands : Stands inv a
  named_stands = subst (Stands inv) (sym asks.asks) (asked_stands inv c asks.target (is_there inv (names_of c) asks.target asks.there))

  pub named_fit : AllFit (arguments_of c) → IsFit inv a
  named_fit fit = subst (IsFit inv) (sym asks.asks) (asked_fit inv c asks.target asks.there fit)
