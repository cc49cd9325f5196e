-- Everything that the monitor knows, apart from its inventory, and the world before the first entry.
use Rattle.std.specs.Prelude.{ℕ, true, List, [], map}
use Rattle.mon_notes.specs.Comments.{CommentList}
use Rattle.mon_downtime.specs.declared.downtime.Downtime.{Downtime}
use Rattle.mon_inventory.specs.declared.records.ContactSpec.{ContactSpec}
use Rattle.mon_inventory.specs.Configuration.{Configuration}
use Rattle.mon_engine.specs.declared.object.Object.{Object}
use Rattle.mon_engine.specs.declared.switches.Program.{Program}
use Rattle.mon_notify.specs.declared.contacts.ContactSwitch.{ContactSwitch}
use Rattle.mon_engine.specs.declared.ends.Owed.{Owed}
use Rattle.mon_engine.specs.declared.outcome.Rejection.{Rejection}
use Rattle.mon_engine.specs.declared.notice.Notice.{Notice}
use Rattle.mon_engine.specs.Objects.{initial_object}
use Rattle.mon_engine.specs.Owed.{initial_owed}

pub record World : Type 0 where
  -- the greatest time of the entries so far, 0 at first
  pub clock : ℕ
  pub notes : CommentList
  -- all ever scheduled, each with its fate
  pub downtimes : List Downtime
  -- each at its index in the inventory
  pub objects : List Object
  pub program : Program
  pub contacts : List ContactSwitch
  -- of each object who is owed the end of its problem
  pub owed : List Owed
  -- in order of happening
  pub rejections : List Rejection
  -- in order of happening
  pub notices : List Notice
  -- how many entries there were, rejected ones included
  pub entries : ℕ
  -- how many there were before these: those of which the world was written and read back
  pub before : ℕ

-- the switches of a contact before the first entry: both are on
abbrev pub initial_contact : ContactSpec → ContactSwitch
initial_contact c = record { host = true; service = true }

-- the world before the first entry: all switches are on
unfoldable pub initial : Configuration → World
initial inv = record {
  clock = 0;
  notes = record { comments = []; last_id = 0 };
  downtimes = [];
  objects = map initial_object inv.objects;
  program = record { notifications = true; passive_host = true; passive_service = true };
  contacts = map initial_contact inv.contacts;
  owed = map initial_owed inv.objects;
  rejections = [];
  notices = [];
  entries = 0;
  before = 0;
}
