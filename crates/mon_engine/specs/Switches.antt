-- The switches of the program and of the contacts.
use Rattle.std.specs.Prelude.{Bool}
use Rattle.mon_notify.specs.declared.contacts.ContactSwitch.{ContactSwitch}
use Rattle.mon_engine.specs.declared.object.Kind.{Kind}
use Rattle.mon_engine.specs.declared.object.Kind.TheVariants.{Host, Service}
use Rattle.mon_engine.specs.declared.switches.Program.{Program}

-- the program takes passive results of that kind of object
abbrev pub accepts : Program → Kind → Bool
accepts program Host = program.passive_host
accepts program Service = program.passive_service

-- the program, taking passive results of that kind of object or not
abbrev pub with_accepting : Kind → (on : Bool) → Program → Program
with_accepting Host on p = record p { passive_host = on }
with_accepting Service on p = record p { passive_service = on }

-- the program with its notifications on or off
abbrev pub with_notifications : (on : Bool) → Program → Program
with_notifications on p = record p { notifications = on }

-- a contact, notified of that kind of object or not
abbrev pub with_switch : Kind → (on : Bool) → ContactSwitch → ContactSwitch
with_switch Host on c = record c { host = on }
with_switch Service on c = record c { service = on }
