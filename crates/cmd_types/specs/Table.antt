-- The table of the commands: for each name its text in a line, what its command names, the kinds of the arguments,
-- and the command of values of these kinds.
use Rattle.std.specs.Prelude.{ℕ, List, [], ◌∷◌, codes}
use Rattle.cmd_types.specs.declared.argument.NameRole.TheVariants.{Host, Service, Contact}
use Rattle.cmd_types.specs.declared.command.Command.{Command}
use Rattle.cmd_types.specs.declared.command.Command.TheVariants as commands
use Rattle.cmd_types.specs.declared.command_name.CommandName.{CommandName}
use Rattle.cmd_types.specs.declared.command_name.CommandName.TheVariants as names
use Rattle.cmd_types.specs.declared.names.Target.{Target}
use Rattle.cmd_types.specs.declared.names.Target.TheVariants as targets
use Rattle.cmd_types.specs.Kinds.{Argument, Kind, AName, AnAuthor, ARest, AFlag, ANumber, ACode, Value, argument}

-- a value for each kind of a list
abbrev pub Values : List Kind → Type 0
Values [] = Unit {0}
Values (k ∷ ks) = Value k × Values ks

-- a function that makes a command of a value for each kind
abbrev pub Maker : List Kind → Type 0
Maker [] = Command
Maker (k ∷ ks) = Value k → Maker ks

-- the text of a name, what its command names, the kinds of its arguments, and its command
pub record Row : Type 0 where
  pub text : List ℕ
  pub target : Target
  pub kinds : List Kind
  pub make : Maker kinds

abbrev has : (text : List ℕ) (target : Target) (kinds : List Kind) → Maker kinds → Row
has text target kinds make = record { text = text; target = target; kinds = kinds; make = make }

-- the command that a maker makes of these values
abbrev pub made : (ks : List Kind) → Maker ks → Values ks → Command
made [] make xs = make
made (k ∷ ks) make xs = made ks (make xs.0) xs.1

-- ---- the table

abbrev pub row : CommandName → Row
row names.ProcessServiceCheckResult = has (codes "PROCESS_SERVICE_CHECK_RESULT") targets.Service (AName Host ∷ AName Service ∷ ACode 3 ∷ ARest ∷ []) commands.ProcessServiceCheckResult
row names.ProcessHostCheckResult = has (codes "PROCESS_HOST_CHECK_RESULT") targets.Host (AName Host ∷ ACode 2 ∷ ARest ∷ []) commands.ProcessHostCheckResult
row names.AddHostComment = has (codes "ADD_HOST_COMMENT") targets.Host (AName Host ∷ AFlag ∷ AnAuthor ∷ ARest ∷ []) commands.AddHostComment
row names.AddSvcComment = has (codes "ADD_SVC_COMMENT") targets.Service (AName Host ∷ AName Service ∷ AFlag ∷ AnAuthor ∷ ARest ∷ []) commands.AddSvcComment
row names.DelHostComment = has (codes "DEL_HOST_COMMENT") targets.Nothing (ANumber ∷ []) commands.DelHostComment
row names.DelSvcComment = has (codes "DEL_SVC_COMMENT") targets.Nothing (ANumber ∷ []) commands.DelSvcComment
row names.DelAllHostComments = has (codes "DEL_ALL_HOST_COMMENTS") targets.Host (AName Host ∷ []) commands.DelAllHostComments
row names.DelAllSvcComments = has (codes "DEL_ALL_SVC_COMMENTS") targets.Service (AName Host ∷ AName Service ∷ []) commands.DelAllSvcComments
row names.AcknowledgeHostProblem = has (codes "ACKNOWLEDGE_HOST_PROBLEM") targets.Host (AName Host ∷ ANumber ∷ AFlag ∷ AFlag ∷ AnAuthor ∷ ARest ∷ []) commands.AcknowledgeHostProblem
row names.AcknowledgeSvcProblem = has (codes "ACKNOWLEDGE_SVC_PROBLEM") targets.Service (AName Host ∷ AName Service ∷ ANumber ∷ AFlag ∷ AFlag ∷ AnAuthor ∷ ARest ∷ []) commands.AcknowledgeSvcProblem
row names.RemoveHostAcknowledgement = has (codes "REMOVE_HOST_ACKNOWLEDGEMENT") targets.Host (AName Host ∷ []) commands.RemoveHostAcknowledgement
row names.RemoveSvcAcknowledgement = has (codes "REMOVE_SVC_ACKNOWLEDGEMENT") targets.Service (AName Host ∷ AName Service ∷ []) commands.RemoveSvcAcknowledgement
row names.ScheduleHostDowntime = has (codes "SCHEDULE_HOST_DOWNTIME") targets.Host (AName Host ∷ ANumber ∷ ANumber ∷ AFlag ∷ ANumber ∷ ANumber ∷ AnAuthor ∷ ARest ∷ []) commands.ScheduleHostDowntime
row names.ScheduleHostSvcDowntime = has (codes "SCHEDULE_HOST_SVC_DOWNTIME") targets.Services (AName Host ∷ ANumber ∷ ANumber ∷ AFlag ∷ ANumber ∷ ANumber ∷ AnAuthor ∷ ARest ∷ []) commands.ScheduleHostSvcDowntime
row names.ScheduleSvcDowntime = has (codes "SCHEDULE_SVC_DOWNTIME") targets.Service (AName Host ∷ AName Service ∷ ANumber ∷ ANumber ∷ AFlag ∷ ANumber ∷ ANumber ∷ AnAuthor ∷ ARest ∷ []) commands.ScheduleSvcDowntime
row names.DelHostDowntime = has (codes "DEL_HOST_DOWNTIME") targets.Nothing (ANumber ∷ []) commands.DelHostDowntime
row names.DelSvcDowntime = has (codes "DEL_SVC_DOWNTIME") targets.Nothing (ANumber ∷ []) commands.DelSvcDowntime
row names.EnableNotifications = has (codes "ENABLE_NOTIFICATIONS") targets.Nothing [] commands.EnableNotifications
row names.EnableHostNotifications = has (codes "ENABLE_HOST_NOTIFICATIONS") targets.Host (AName Host ∷ []) commands.EnableHostNotifications
row names.EnableHostSvcNotifications = has (codes "ENABLE_HOST_SVC_NOTIFICATIONS") targets.Services (AName Host ∷ []) commands.EnableHostSvcNotifications
row names.EnablePassiveHostChecks = has (codes "ENABLE_PASSIVE_HOST_CHECKS") targets.Host (AName Host ∷ []) commands.EnablePassiveHostChecks
row names.EnableSvcNotifications = has (codes "ENABLE_SVC_NOTIFICATIONS") targets.Service (AName Host ∷ AName Service ∷ []) commands.EnableSvcNotifications
row names.EnablePassiveSvcChecks = has (codes "ENABLE_PASSIVE_SVC_CHECKS") targets.Service (AName Host ∷ AName Service ∷ []) commands.EnablePassiveSvcChecks
row names.EnableContactHostNotifications = has (codes "ENABLE_CONTACT_HOST_NOTIFICATIONS") targets.Contact (AName Contact ∷ []) commands.EnableContactHostNotifications
row names.EnableContactSvcNotifications = has (codes "ENABLE_CONTACT_SVC_NOTIFICATIONS") targets.Contact (AName Contact ∷ []) commands.EnableContactSvcNotifications
row names.DisableNotifications = has (codes "DISABLE_NOTIFICATIONS") targets.Nothing [] commands.DisableNotifications
row names.DisableHostNotifications = has (codes "DISABLE_HOST_NOTIFICATIONS") targets.Host (AName Host ∷ []) commands.DisableHostNotifications
row names.DisableHostSvcNotifications = has (codes "DISABLE_HOST_SVC_NOTIFICATIONS") targets.Services (AName Host ∷ []) commands.DisableHostSvcNotifications
row names.DisablePassiveHostChecks = has (codes "DISABLE_PASSIVE_HOST_CHECKS") targets.Host (AName Host ∷ []) commands.DisablePassiveHostChecks
row names.DisableSvcNotifications = has (codes "DISABLE_SVC_NOTIFICATIONS") targets.Service (AName Host ∷ AName Service ∷ []) commands.DisableSvcNotifications
row names.DisablePassiveSvcChecks = has (codes "DISABLE_PASSIVE_SVC_CHECKS") targets.Service (AName Host ∷ AName Service ∷ []) commands.DisablePassiveSvcChecks
row names.DisableContactHostNotifications = has (codes "DISABLE_CONTACT_HOST_NOTIFICATIONS") targets.Contact (AName Contact ∷ []) commands.DisableContactHostNotifications
row names.DisableContactSvcNotifications = has (codes "DISABLE_CONTACT_SVC_NOTIFICATIONS") targets.Contact (AName Contact ∷ []) commands.DisableContactSvcNotifications
row names.StartAcceptingPassiveHostChecks = has (codes "START_ACCEPTING_PASSIVE_HOST_CHECKS") targets.Nothing [] commands.StartAcceptingPassiveHostChecks
row names.StartAcceptingPassiveSvcChecks = has (codes "START_ACCEPTING_PASSIVE_SVC_CHECKS") targets.Nothing [] commands.StartAcceptingPassiveSvcChecks
row names.StopAcceptingPassiveHostChecks = has (codes "STOP_ACCEPTING_PASSIVE_HOST_CHECKS") targets.Nothing [] commands.StopAcceptingPassiveHostChecks
row names.StopAcceptingPassiveSvcChecks = has (codes "STOP_ACCEPTING_PASSIVE_SVC_CHECKS") targets.Nothing [] commands.StopAcceptingPassiveSvcChecks
row names.DelayHostNotification = has (codes "DELAY_HOST_NOTIFICATION") targets.Host (AName Host ∷ ANumber ∷ []) commands.DelayHostNotification
row names.DelaySvcNotification = has (codes "DELAY_SVC_NOTIFICATION") targets.Service (AName Host ∷ AName Service ∷ ANumber ∷ []) commands.DelaySvcNotification
row names.SetHostNotificationNumber = has (codes "SET_HOST_NOTIFICATION_NUMBER") targets.Host (AName Host ∷ ANumber ∷ []) commands.SetHostNotificationNumber
row names.SetSvcNotificationNumber = has (codes "SET_SVC_NOTIFICATION_NUMBER") targets.Service (AName Host ∷ AName Service ∷ ANumber ∷ []) commands.SetSvcNotificationNumber
row names.SendCustomHostNotification = has (codes "SEND_CUSTOM_HOST_NOTIFICATION") targets.Host (AName Host ∷ ANumber ∷ AnAuthor ∷ ARest ∷ []) commands.SendCustomHostNotification
row names.SendCustomSvcNotification = has (codes "SEND_CUSTOM_SVC_NOTIFICATION") targets.Service (AName Host ∷ AName Service ∷ ANumber ∷ AnAuthor ∷ ARest ∷ []) commands.SendCustomSvcNotification
row names.RestartProgram = has (codes "RESTART_PROGRAM") targets.Nothing [] commands.RestartProgram

-- ---- what a row says

-- the bytes that spell a name
abbrev pub name_text : CommandName → List ℕ
name_text n = (row n).text

-- what a command of it names
abbrev pub target : CommandName → Target
target n = (row n).target

-- the kinds of its arguments, in order
abbrev pub kinds : CommandName → List Kind
kinds n = (row n).kinds

-- ---- commands taken apart

-- a command taken apart: its name, and its arguments in order
pub record Apart : Type 0 where
  pub name : CommandName
  pub arguments : List Argument

-- a function that takes a value for each kind of a list, and gives a command taken apart
abbrev Taker : List Kind → Type 0
Taker [] = Apart
Taker (k ∷ ks) = Value k → Taker ks

abbrev taking : (ks : List Kind) → (List Argument → Apart) → Taker ks
taking [] from = from []
taking (k ∷ ks) from = λ x. taking ks (λ others. from (argument k x ∷ others))

abbrev taken : (n : CommandName) → Taker (kinds n)
taken n = taking (kinds n) (λ arguments. record { name = n; arguments = arguments })

-- of each command its name, and its fields as arguments of the kinds of its row, since a command is taken apart by cases alone. That the row makes the command of them is a law
abbrev pub apart : Command → Apart
apart (commands.ProcessServiceCheckResult host service code output) = taken names.ProcessServiceCheckResult host service code output
apart (commands.ProcessHostCheckResult host code output) = taken names.ProcessHostCheckResult host code output
apart (commands.AddHostComment host persistent author comment) = taken names.AddHostComment host persistent author comment
apart (commands.AddSvcComment host service persistent author comment) = taken names.AddSvcComment host service persistent author comment
apart (commands.DelHostComment id) = taken names.DelHostComment id
apart (commands.DelSvcComment id) = taken names.DelSvcComment id
apart (commands.DelAllHostComments host) = taken names.DelAllHostComments host
apart (commands.DelAllSvcComments host service) = taken names.DelAllSvcComments host service
apart (commands.AcknowledgeHostProblem host sticky notify persistent author comment) = taken names.AcknowledgeHostProblem host sticky notify persistent author comment
apart (commands.AcknowledgeSvcProblem host service sticky notify persistent author comment) = taken names.AcknowledgeSvcProblem host service sticky notify persistent author comment
apart (commands.RemoveHostAcknowledgement host) = taken names.RemoveHostAcknowledgement host
apart (commands.RemoveSvcAcknowledgement host service) = taken names.RemoveSvcAcknowledgement host service
apart (commands.ScheduleHostDowntime host start_time end_time fixed trigger_id duration author comment) = taken names.ScheduleHostDowntime host start_time end_time fixed trigger_id duration author comment
apart (commands.ScheduleHostSvcDowntime host start_time end_time fixed trigger_id duration author comment) = taken names.ScheduleHostSvcDowntime host start_time end_time fixed trigger_id duration author comment
apart (commands.ScheduleSvcDowntime host service start_time end_time fixed trigger_id duration author comment) = taken names.ScheduleSvcDowntime host service start_time end_time fixed trigger_id duration author comment
apart (commands.DelHostDowntime id) = taken names.DelHostDowntime id
apart (commands.DelSvcDowntime id) = taken names.DelSvcDowntime id
apart commands.EnableNotifications = taken names.EnableNotifications
apart (commands.EnableHostNotifications host) = taken names.EnableHostNotifications host
apart (commands.EnableHostSvcNotifications host) = taken names.EnableHostSvcNotifications host
apart (commands.EnablePassiveHostChecks host) = taken names.EnablePassiveHostChecks host
apart (commands.EnableSvcNotifications host service) = taken names.EnableSvcNotifications host service
apart (commands.EnablePassiveSvcChecks host service) = taken names.EnablePassiveSvcChecks host service
apart (commands.EnableContactHostNotifications contact) = taken names.EnableContactHostNotifications contact
apart (commands.EnableContactSvcNotifications contact) = taken names.EnableContactSvcNotifications contact
apart commands.DisableNotifications = taken names.DisableNotifications
apart (commands.DisableHostNotifications host) = taken names.DisableHostNotifications host
apart (commands.DisableHostSvcNotifications host) = taken names.DisableHostSvcNotifications host
apart (commands.DisablePassiveHostChecks host) = taken names.DisablePassiveHostChecks host
apart (commands.DisableSvcNotifications host service) = taken names.DisableSvcNotifications host service
apart (commands.DisablePassiveSvcChecks host service) = taken names.DisablePassiveSvcChecks host service
apart (commands.DisableContactHostNotifications contact) = taken names.DisableContactHostNotifications contact
apart (commands.DisableContactSvcNotifications contact) = taken names.DisableContactSvcNotifications contact
apart commands.StartAcceptingPassiveHostChecks = taken names.StartAcceptingPassiveHostChecks
apart commands.StartAcceptingPassiveSvcChecks = taken names.StartAcceptingPassiveSvcChecks
apart commands.StopAcceptingPassiveHostChecks = taken names.StopAcceptingPassiveHostChecks
apart commands.StopAcceptingPassiveSvcChecks = taken names.StopAcceptingPassiveSvcChecks
apart (commands.DelayHostNotification host time) = taken names.DelayHostNotification host time
apart (commands.DelaySvcNotification host service time) = taken names.DelaySvcNotification host service time
apart (commands.SetHostNotificationNumber host number) = taken names.SetHostNotificationNumber host number
apart (commands.SetSvcNotificationNumber host service number) = taken names.SetSvcNotificationNumber host service number
apart (commands.SendCustomHostNotification host options author comment) = taken names.SendCustomHostNotification host options author comment
apart (commands.SendCustomSvcNotification host service options author comment) = taken names.SendCustomSvcNotification host service options author comment
apart commands.RestartProgram = taken names.RestartProgram

-- ---- a command and its row

-- the command of a name with these values
abbrev pub build : (n : CommandName) → Values (kinds n) → Command
build n xs = made (kinds n) (row n).make xs

-- the name of a command
abbrev pub name_of : Command → CommandName
name_of c = (apart c).name

-- its arguments, in order
abbrev pub arguments_of : Command → List Argument
arguments_of c = (apart c).arguments

-- the values with their kinds
abbrev pub listed : (ks : List Kind) → Values ks → List Argument
listed [] xs = []
listed (k ∷ ks) xs = argument k xs.0 ∷ listed ks xs.1
