-- What a command asks for is there under its names, and says what a line can say.
use Rattle.std.proofs.Common.{◌≡◌, ℕ, suc, ◌+◌, ◌≤◌, Bool, true, false, cond, eqb, List, [], ◌∷◌, slice_get, Option, Some, None, Result, Ok, Err, is_some, if◌then◌else◌, refl, ap, sym, ◌∙◌, subst, arith}
use Rattle.std.specs.List.{position_from}
use Rattle.std.specs.Str.{bytes_eq}
use Rattle.std.proofs.lemmas.Bool.{and_parts, eqb-true}
use Rattle.std.proofs.lemmas.Option.{same_Some}
use Rattle.std.proofs.lemmas.Slice.Eq.{bytes_eq-Decides}
use Rattle.cmd_types.specs.declared.command.Command.{Command}
use Rattle.cmd_types.specs.declared.command.Command.TheVariants as commands
use Rattle.cmd_types.specs.declared.limits.TheConstants.{GREATEST_NUMBER}
use Rattle.cmd_types.specs.Bytes.{Lacks, without_returns}
use Rattle.cmd_types.specs.Names.{Names, NoName, ContactName, HostName, ServiceName, names_of}
use Rattle.cmd_types.specs.Spelling.{AllFit}
use Rattle.cmd_types.specs.Table.{arguments_of}
use Rattle.mon_checks.specs.States.{IsCodeOf}
use Rattle.mon_downtime.specs.declared.plan.Plan.{Plan}
use Rattle.mon_downtime.specs.Schedule.{IsSmallPlan}
use Rattle.mon_inventory.specs.declared.records.ContactSpec.{ContactSpec}
use Rattle.mon_inventory.specs.declared.records.ObjectSpec.{ObjectSpec}
use Rattle.mon_inventory.specs.Configuration.{Configuration}
use Rattle.mon_inventory.specs.Facts.{IsInventory}
use Rattle.mon_inventory.specs.Lists.{StandsAt, index_where}
use Rattle.mon_inventory.specs.Lookups.{IsContactNamed, IsHostNamed, IsServiceNamed, is_contact, is_host, is_named, is_service, contact_of, host_of, service_at, service_by, service_of}
use Rattle.mon_engine.specs.declared.objects.Setting.{Setting}
use Rattle.mon_engine.specs.declared.objects.Setting.TheVariants as settings
use Rattle.mon_engine.specs.declared.outcome.Reason.{Reason}
use Rattle.mon_engine.specs.declared.outcome.Reason.TheVariants.{UnknownHost, UnknownService, UnknownContact}
use Rattle.mon_engine.specs.Objects as objects
use Rattle.mon_engine.specs.Results.{IsCodeAt}
use Rattle.mon_engine.specs.Effects as acts
use Rattle.mon_engine.specs.Effects.{Act, asked, asked_of, named}
use Rattle.mon_engine.specs.Names.{known, host_index, service_behind, target_of, IsTarget}
use Rattle.mon_engine.specs.Saved.{IsSaid}

-- ---- names

-- what passes a test first stands there; places are counted from i
stands_from : {X : Type 0} (test : X → Bool) (P : X → Type 0) → ((x : X) → test x ≡ true → P x) → (i : ℕ) (xs : List X) (n : ℕ) → position_from test i xs ≡ Some n → (m : ℕ) × (n ≡ i + m) × StandsAt P xs m
stands_from test P means i [] n e = absurd (cc)
stands_from {X = X} test P means i (x ∷ xs) n e = by_test (stands_from test P means (i + 1) xs n) (test x) refl e
  where
    Found : ℕ → List X → Type 0
    Found k ys = (m : ℕ) × (n ≡ k + m) × StandsAt P ys m

    by_test : (position_from test (i + 1) xs ≡ Some n → Found (i + 1) xs) → (b : Bool) → test x ≡ b → cond b (Some i) (position_from test (i + 1) xs) ≡ Some n → Found i (x ∷ xs)
    by_test later true t e = (0, (let same = same_Some i n e in omega (arith, same)), record { element = x; within = omega arith; is = refl; holds = means x t })
    by_test later false t e =
        let r = later e in
        let place = r.1 in
        let there = r.2 in
        let within = there.within in
        (suc r.0, omega (arith, place), record { element = there.element; within = omega (arith, within); is = there.is; holds = there.holds })

stands : {X : Type 0} (test : X → Bool) (P : X → Type 0) → ((x : X) → test x ≡ true → P x) → (xs : List X) (n : ℕ) → index_where test xs ≡ Some n → StandsAt P xs n
stands test P means xs n e =
    let r = stands_from test P means 0 xs n e in
    let place = r.1 in
    subst (StandsAt P xs) (omega (arith, place)) r.2

contact_stands : (cs : List ContactSpec) (name : List ℕ) (n : ℕ) → contact_of cs name ≡ Some n → StandsAt (IsContactNamed name) cs n
unfolding contact_of
contact_stands cs name n e = stands (is_contact name) (IsContactNamed name) (λ c h. sym ((bytes_eq-Decides name c.name).0 h)) cs n e

host_named : (name : List ℕ) (o : ObjectSpec) → is_host name o ≡ true → IsHostNamed name o
host_named name o h = by_service o.service h
  where
    by_service : (s : Option (List ℕ)) → (if is_some s then false else bytes_eq name o.host) ≡ true → (s ≡ None) × (o.host ≡ name)
    by_service None e = (refl, sym ((bytes_eq-Decides name o.host).0 e))
    by_service (Some service) e = absurd (cc)

host_stands : (os : List ObjectSpec) (name : List ℕ) (n : ℕ) → host_of os name ≡ Some n → StandsAt (IsHostNamed name) os n
unfolding host_of
host_stands os name n e = stands (is_host name) (IsHostNamed name) (host_named name) os n e

-- a service of the host of this index
abbrev IsServiceAt : ℕ → List ℕ → ObjectSpec → Type 0
IsServiceAt host name o = (o.service ≡ Some name) × (o.host_object ≡ host)

service_named : (host : ℕ) (name : List ℕ) (o : ObjectSpec) → is_service host name o ≡ true → IsServiceAt host name o
service_named host name o h = by_service o.service h
  where
    by_service : (s : Option (List ℕ)) → is_named host name o.host_object s ≡ true → (s ≡ Some name) × (o.host_object ≡ host)
    by_service None e = absurd (cc)
    by_service (Some service) e =
        let both = and_parts (eqb o.host_object host) (bytes_eq name service) e in
        (ap (λ (x : List ℕ). Some x) (sym ((bytes_eq-Decides name service).0 both.1)), eqb-true o.host_object host both.0)

-- objects that stand at one place are one
same_host : (os : List ObjectSpec) (a b : List ℕ) (n m : ℕ) → StandsAt (IsHostNamed a) os n → StandsAt (IsHostNamed b) os m → n ≡ m → a ≡ b
same_host os a b n m s t same =
    let one = same_Some s.element t.element (sym s.is ∙ ap (slice_get os) same ∙ t.is) in
    sym s.holds.1 ∙ ap (λ (o : ObjectSpec). o.host) one ∙ t.holds.1

service_stands : (inv : Configuration) (host name : List ℕ) (n : ℕ) → IsInventory inv → service_of inv.objects host name ≡ Some n → StandsAt (IsServiceNamed host name) inv.objects n
unfolding service_at
service_stands inv host name n sound e = by_host (host_of inv.objects host) refl e
  where
    by_host : (h : Option ℕ) → host_of inv.objects host ≡ h → service_by inv.objects h name ≡ Some n → StandsAt (IsServiceNamed host name) inv.objects n
    by_host None f e = absurd (cc)
    by_host (Some h) f e =
        let there = stands (is_service h name) (IsServiceAt h name) (service_named h name) inv.objects n e in
        let its = (sound.objects n there.element there.is).host_stands in
        record { element = there.element; within = there.within; is = there.is; holds = (there.holds.0, same_host inv.objects there.element.host host there.element.host_object h its (host_stands inv.objects host h f) there.holds.1) }

known_is : (why : Reason) (o : Option ℕ) (n : ℕ) → known why o ≡ Ok n → o ≡ Some n
known_is why None n e = absurd (cc)
known_is why (Some m) n e = (let same : m ≡ n = cc in ap (λ (k : ℕ). Some k) same)

behind_is : (inv : Configuration) (host service : List ℕ) (r : Result ℕ Reason) (n : ℕ) → service_behind inv host service r ≡ Ok n → service_of inv.objects host service ≡ Some n
behind_is inv host service (Err why) n e = absurd (cc)
behind_is inv host service (Ok h) n e = known_is UnknownService (service_of inv.objects host service) n e

-- what is found is there under its names
target_stands : (inv : Configuration) (names : Names) (target : ℕ) → IsInventory inv → target_of inv names ≡ Ok target → IsTarget inv names target
target_stands inv NoName target sound e = tt
target_stands inv (ContactName contact) target sound e = contact_stands inv.contacts contact target (known_is UnknownContact (contact_of inv.contacts contact) target e)
target_stands inv (HostName host) target sound e = host_stands inv.objects host target (known_is UnknownHost (host_of inv.objects host) target e)
target_stands inv (ServiceName host service) target sound e = service_stands inv host service target sound (behind_is inv host service (host_index inv host) target e)

-- an act that is asked for is asked of its target
pub record IsAskedOf (inv : Configuration) (c : Command) (a : Act) : Type 0 where
  pub target : ℕ
  pub there : IsTarget inv (names_of c) target
  pub asks : a ≡ asked c target

pub named_asks : (inv : Configuration) (c : Command) (a : Act) → IsInventory inv → named inv c ≡ Ok a → IsAskedOf inv c a
named_asks inv c a sound e = by_target (target_of inv (names_of c)) refl e
  where
    by_target : (r : Result ℕ Reason) → target_of inv (names_of c) ≡ r → asked_of c r ≡ Ok a → IsAskedOf inv c a
    by_target (Err why) t e = absurd (cc)
    by_target (Ok target) t e = (let same : asked c target ≡ a = cc in record { target = target; there = target_stands inv (names_of c) target sound t; asks = sym same })

-- ---- what is said

-- a moment is one that a line can have
abbrev pub IsSaidSetting : Setting → Type 0
IsSaidSetting (settings.Delay moment) = moment ≤ GREATEST_NUMBER
IsSaidSetting _ = Unit {0}

abbrev pub IsSaidPlan : Plan → Type 0
IsSaidPlan plan = IsSmallPlan plan × IsSaid plan.author plan.text

-- what an act says is such as commands say
abbrev pub IsSaidAct : Configuration → Act → Type 0
IsSaidAct inv (acts.AddComment object persistent author text) = IsSaid author text
IsSaidAct inv (acts.Acknowledge object sticky notify persistent author text) = IsSaid author text
IsSaidAct inv (acts.CheckResult object code output) = IsCodeAt inv object code × Lacks 10 output
IsSaidAct inv (acts.Set object setting) = IsSaidSetting setting
IsSaidAct inv (acts.SetServices host setting) = IsSaidSetting setting
IsSaidAct inv (acts.Schedule object plan) = IsSaidPlan plan
IsSaidAct inv (acts.ScheduleServices host plan) = IsSaidPlan plan
IsSaidAct inv _ = Unit {0}

said : (author text : List ℕ) → Lacks 59 author × Lacks 10 author → Lacks 10 text × (without_returns text ≡ text) → IsSaid author text
said author text a t = record { no_semicolon = a.0; author_line = a.1; text_line = t.0 }

-- a code of its kind is one of the object that stands there
pub code_stands : (P : ObjectSpec → Type 0) (inv : Configuration) (object code : ℕ) (service : Bool) → ((spec : ObjectSpec) → P spec → objects.is_service spec ≡ service) → StandsAt P inv.objects object → IsCodeOf service code → IsCodeAt inv object code
code_stands P inv object code service kind there h spec at =
    let same : there.element ≡ spec = same_Some there.element spec (sym there.is ∙ at) in
    let is : objects.is_service spec ≡ service = ap objects.is_service (sym same) ∙ kind there.element there.holds in
    subst (λ (b : Bool). IsCodeOf b code) (sym is) h

pub asked_said : (inv : Configuration) (c : Command) (target : ℕ) → IsTarget inv (names_of c) target → AllFit (arguments_of c) → IsSaidAct inv (asked c target)
asked_said inv (commands.AddHostComment host persistent author comment) target there fit = said author comment fit.1.1.0 fit.1.1.1.0
asked_said inv (commands.AddSvcComment host service persistent author comment) target there fit = said author comment fit.1.1.1.0 fit.1.1.1.1.0
asked_said inv (commands.AcknowledgeHostProblem host sticky notify persistent author comment) target there fit = said author comment fit.1.1.1.1.0 fit.1.1.1.1.1.0
asked_said inv (commands.AcknowledgeSvcProblem host service sticky notify persistent author comment) target there fit = said author comment fit.1.1.1.1.1.0 fit.1.1.1.1.1.1.0
asked_said inv (commands.ScheduleHostDowntime host start_time end_time fixed trigger_id duration author comment) target there fit =
    ((fit.1.0, fit.1.1.0, fit.1.1.1.1.1.0), said author comment fit.1.1.1.1.1.1.0 fit.1.1.1.1.1.1.1.0)
asked_said inv (commands.ScheduleHostSvcDowntime host start_time end_time fixed trigger_id duration author comment) target there fit =
    ((fit.1.0, fit.1.1.0, fit.1.1.1.1.1.0), said author comment fit.1.1.1.1.1.1.0 fit.1.1.1.1.1.1.1.0)
asked_said inv (commands.ScheduleSvcDowntime host service start_time end_time fixed trigger_id duration author comment) target there fit =
    ((fit.1.1.0, fit.1.1.1.0, fit.1.1.1.1.1.1.0), said author comment fit.1.1.1.1.1.1.1.0 fit.1.1.1.1.1.1.1.1.0)
asked_said inv (commands.ProcessHostCheckResult host code output) target there fit =
    (let most = fit.1.0 in (code_stands (IsHostNamed host) inv target code false (λ spec h. ap is_some h.0) there (omega (arith, most)), fit.1.1.0.0))
asked_said inv (commands.ProcessServiceCheckResult host service code output) target there fit =
    (let most = fit.1.1.0 in (code_stands (IsServiceNamed host service) inv target code true (λ spec h. ap is_some h.0) there (omega (arith, most)), fit.1.1.1.0.0))
asked_said inv (commands.DelayHostNotification host time) target there fit = fit.1.0
asked_said inv (commands.DelaySvcNotification host service time) target there fit = fit.1.1.0
asked_said inv c target there fit = tt
