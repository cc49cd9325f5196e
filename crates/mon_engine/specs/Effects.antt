-- The act that each command asks for, and the world after the act at the world's clock, or the reason of its rejection.
-- One line for each command, one line for each act; the rules of a family are in its own file.
use Rattle.std.specs.Prelude.{ℕ, ◌<◌, ◌≤◌, Bool, true, false, List, Result, Ok, Err, length}
use Rattle.cmd_types.specs.declared.command.Command.{Command}
use Rattle.cmd_types.specs.declared.command.Command.TheVariants as commands
use Rattle.cmd_types.specs.declared.limits.TheConstants.{GREATEST_NUMBER}
use Rattle.cmd_types.specs.Names.{names_of}
use Rattle.mon_notes.specs.Comments.{without_object, without_transient}
use Rattle.mon_downtime.specs.declared.plan.Plan.{Plan}
use Rattle.mon_downtime.specs.Schedule.{IsSmallPlan}
use Rattle.mon_inventory.specs.Configuration.{Configuration}
use Rattle.mon_inventory.specs.Lookups.{services_of}
use Rattle.mon_engine.specs.declared.act.Act.TheVariants as declared
use Rattle.mon_engine.specs.declared.object.Kind.{Kind}
use Rattle.mon_engine.specs.declared.object.Kind.TheVariants.{Host, Service}
use Rattle.mon_engine.specs.declared.objects.Setting.{Setting}
use Rattle.mon_engine.specs.declared.objects.Setting.TheVariants as settings
use Rattle.mon_engine.specs.declared.outcome.Reason.{Reason}
use Rattle.mon_engine.specs.Places.{changed_at, changed_each}
use Rattle.mon_engine.specs.Objects.{with_setting}
use Rattle.mon_engine.specs.World.{World}
use Rattle.mon_engine.specs.Names.{target_of}
use Rattle.mon_engine.specs.Switches.{with_accepting, with_notifications, with_switch}
use Rattle.mon_engine.specs.Notices.{after_custom}
use Rattle.mon_engine.specs.Results.{after_check_result, IsCodeAt}
use Rattle.mon_engine.specs.Downtimes.{plan_of, planned, after_schedule, after_schedule_services, after_del_downtime}
use Rattle.mon_engine.specs.Acknowledgements.{commented, after_acknowledge, after_unacknowledge, after_del_comment}

-- the acts, with the indices of the objects and contacts to which they are done
pub data Act : Type 0 where
  AddComment : (object : ℕ) → (persistent : Bool) → (author text : List ℕ) → Act
  DelComment : (kind : Kind) → (id : ℕ) → Act
  DelAllComments : (object : ℕ) → Act
  Acknowledge : (object sticky : ℕ) → (notify persistent : Bool) → (author text : List ℕ) → Act
  RemoveAcknowledgement : (object : ℕ) → Act
  CheckResult : (object code : ℕ) → (output : List ℕ) → Act
  Set : (object : ℕ) → (setting : Setting) → Act
  SetServices : (host : ℕ) → (setting : Setting) → Act
  SetAccepting : (kind : Kind) → (on : Bool) → Act
  Schedule : (object : ℕ) → (plan : Plan) → Act
  ScheduleServices : (host : ℕ) → (plan : Plan) → Act
  DelDowntime : (kind : Kind) → (id : ℕ) → Act
  SetNotifications : (on : Bool) → Act
  SetContact : (contact : ℕ) → (kind : Kind) → (on : Bool) → Act
  SendCustom : (object options : ℕ) → Act
  Restart : Act

-- ---- commands

-- what a command asks for; `target` is the index of the object or contact that it names, 0 where it names none
abbrev pub asked : Command → (target : ℕ) → Act
asked (commands.AddHostComment _ persistent author comment) target = AddComment target persistent author comment
asked (commands.AddSvcComment _ _ persistent author comment) target = AddComment target persistent author comment
asked (commands.DelHostComment id) target = DelComment Host id
asked (commands.DelSvcComment id) target = DelComment Service id
asked (commands.DelAllHostComments _) target = DelAllComments target
asked (commands.DelAllSvcComments _ _) target = DelAllComments target
asked (commands.AcknowledgeHostProblem _ sticky notify persistent author comment) target = Acknowledge target sticky notify persistent author comment
asked (commands.AcknowledgeSvcProblem _ _ sticky notify persistent author comment) target = Acknowledge target sticky notify persistent author comment
asked (commands.RemoveHostAcknowledgement _) target = RemoveAcknowledgement target
asked (commands.RemoveSvcAcknowledgement _ _) target = RemoveAcknowledgement target
asked (commands.ScheduleHostDowntime _ start_time end_time fixed trigger_id duration author comment) target = Schedule target (plan_of start_time end_time fixed trigger_id duration author comment)
asked (commands.ScheduleHostSvcDowntime _ start_time end_time fixed trigger_id duration author comment) target = ScheduleServices target (plan_of start_time end_time fixed trigger_id duration author comment)
asked (commands.ScheduleSvcDowntime _ _ start_time end_time fixed trigger_id duration author comment) target = Schedule target (plan_of start_time end_time fixed trigger_id duration author comment)
asked (commands.DelHostDowntime id) target = DelDowntime Host id
asked (commands.DelSvcDowntime id) target = DelDowntime Service id
asked (commands.ProcessHostCheckResult _ code output) target = CheckResult target code output
asked (commands.ProcessServiceCheckResult _ _ code output) target = CheckResult target code output
asked commands.EnableNotifications target = SetNotifications true
asked (commands.EnableHostNotifications _) target = Set target (settings.Notify true)
asked (commands.EnableHostSvcNotifications _) target = SetServices target (settings.Notify true)
asked (commands.EnablePassiveHostChecks _) target = Set target (settings.Passive true)
asked (commands.EnableSvcNotifications _ _) target = Set target (settings.Notify true)
asked (commands.EnablePassiveSvcChecks _ _) target = Set target (settings.Passive true)
asked (commands.EnableContactHostNotifications _) target = SetContact target Host true
asked (commands.EnableContactSvcNotifications _) target = SetContact target Service true
asked commands.DisableNotifications target = SetNotifications false
asked (commands.DisableHostNotifications _) target = Set target (settings.Notify false)
asked (commands.DisableHostSvcNotifications _) target = SetServices target (settings.Notify false)
asked (commands.DisablePassiveHostChecks _) target = Set target (settings.Passive false)
asked (commands.DisableSvcNotifications _ _) target = Set target (settings.Notify false)
asked (commands.DisablePassiveSvcChecks _ _) target = Set target (settings.Passive false)
asked (commands.DisableContactHostNotifications _) target = SetContact target Host false
asked (commands.DisableContactSvcNotifications _) target = SetContact target Service false
asked commands.StartAcceptingPassiveHostChecks target = SetAccepting Host true
asked commands.StartAcceptingPassiveSvcChecks target = SetAccepting Service true
asked commands.StopAcceptingPassiveHostChecks target = SetAccepting Host false
asked commands.StopAcceptingPassiveSvcChecks target = SetAccepting Service false
asked (commands.DelayHostNotification _ time) target = Set target (settings.Delay time)
asked (commands.DelaySvcNotification _ _ time) target = Set target (settings.Delay time)
asked (commands.SetHostNotificationNumber _ number) target = Set target (settings.Number number)
asked (commands.SetSvcNotificationNumber _ _ number) target = Set target (settings.Number number)
asked (commands.SendCustomHostNotification _ options _ _) target = SendCustom target options
asked (commands.SendCustomSvcNotification _ _ options _ _) target = SendCustom target options
asked commands.RestartProgram target = Restart

-- what the command asks for, or why the look-up of its names failed
abbrev pub asked_of : Command → Result ℕ Reason → Result Act Reason
asked_of command (Err why) = Err why
asked_of command (Ok target) = Ok (asked command target)

-- the command's names are looked up: what it asks for, or the reason of the first name that is not there
abbrev pub named : Configuration → Command → Result Act Reason
named inv command = asked_of command (target_of inv (names_of command))

-- ---- acts

-- what an act does to the world, or why it is rejected
unfoldable pub act : Configuration → World → Act → Result World Reason
act inv w (AddComment object persistent author text) = Ok (commented w object false persistent author text)
act inv w (DelComment kind id) = after_del_comment inv w kind id
act inv w (DelAllComments object) = Ok (record w { notes = without_object object w.notes })
act inv w (Acknowledge object sticky notify persistent author text) = after_acknowledge inv w object sticky notify persistent author text
act inv w (RemoveAcknowledgement object) = Ok (after_unacknowledge w object)
act inv w (CheckResult object code output) = after_check_result inv w object code output
act inv w (Set object setting) = Ok (record w { objects = changed_at w.objects object (with_setting setting) })
act inv w (SetServices host setting) = Ok (record w { objects = changed_each w.objects (services_of inv.objects host) (with_setting setting) })
act inv w (SetAccepting kind on) = Ok (record w { program = with_accepting kind on w.program })
act inv w (Schedule object plan) = after_schedule w object plan
act inv w (ScheduleServices host plan) = after_schedule_services inv w host plan
act inv w (DelDowntime kind id) = after_del_downtime inv w kind id
act inv w (SetNotifications on) = Ok (record w { program = with_notifications on w.program })
act inv w (SetContact contact kind on) = Ok (record w { contacts = changed_at w.contacts contact (with_switch kind on) })
act inv w (SendCustom object options) = Ok (after_custom inv w object options)
act inv w Restart = Ok (record w { notes = without_transient w.notes })

-- ---- of private contracts alone

-- the act that the code's act stands for
abbrev pub shown : declared.the_data → Act
shown (declared.AddComment object remark) = AddComment object remark.persistent remark.author.now remark.text.now
shown (declared.DelComment kind id) = DelComment kind id
shown (declared.DelAllComments object) = DelAllComments object
shown (declared.Acknowledge object asked) = Acknowledge object asked.sticky asked.notify asked.remark.persistent asked.remark.author.now asked.remark.text.now
shown (declared.RemoveAcknowledgement object) = RemoveAcknowledgement object
shown (declared.CheckResult object code output) = CheckResult object code output.now
shown (declared.Set object setting) = Set object setting
shown (declared.SetServices host setting) = SetServices host setting
shown (declared.SetAccepting kind on) = SetAccepting kind on
shown (declared.Schedule object asked) = Schedule object (planned asked.times asked.author.now asked.text.now)
shown (declared.ScheduleServices host asked) = ScheduleServices host (planned asked.times asked.author.now asked.text.now)
shown (declared.DelDowntime kind id) = DelDowntime kind id
shown (declared.SetNotifications on) = SetNotifications on
shown (declared.SetContact contact kind on) = SetContact contact kind on
shown (declared.SendCustom object options) = SendCustom object options
shown declared.Restart = Restart

-- the object or contact to which the act is done is in the inventory
abbrev pub Stands : Configuration → Act → Type 0
Stands inv (AddComment object persistent author text) = object < length inv.objects
Stands inv (DelAllComments object) = object < length inv.objects
Stands inv (Acknowledge object sticky notify persistent author text) = object < length inv.objects
Stands inv (RemoveAcknowledgement object) = object < length inv.objects
Stands inv (CheckResult object code output) = object < length inv.objects
Stands inv (Set object setting) = object < length inv.objects
Stands inv (SetServices host setting) = host < length inv.objects
Stands inv (Schedule object plan) = object < length inv.objects
Stands inv (ScheduleServices host plan) = host < length inv.objects
Stands inv (SetContact contact kind on) = contact < length inv.contacts
Stands inv (SendCustom object options) = object < length inv.objects
Stands inv _ = Unit {0}

-- a number is one that a line can have
abbrev pub IsInRange : Setting → Type 0
IsInRange (settings.Number n) = n ≤ GREATEST_NUMBER
IsInRange _ = Unit {0}

-- its numbers are in range
abbrev pub IsFit : Configuration → Act → Type 0
IsFit inv (CheckResult object code output) = IsCodeAt inv object code
IsFit inv (Set object setting) = IsInRange setting
IsFit inv (SetServices host setting) = IsInRange setting
IsFit inv (Schedule object plan) = IsSmallPlan plan
IsFit inv (ScheduleServices host plan) = IsSmallPlan plan
IsFit inv _ = Unit {0}
