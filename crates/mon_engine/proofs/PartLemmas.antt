-- A world that holds together holds together with one part of it changed.
use Rattle.std.proofs.Common.{◌≡◌, ℕ, false, ◌+◌, ◌<◌, ◌≤◌, ◌*◌, List, ◌++◌, length, All, arith}
use Rattle.std.proofs.lemmas.List.Elements.{All-append, All-weaker}
use Rattle.cmd_types.specs.declared.limits.TheConstants.{GREATEST_NUMBER}
use Rattle.cmd_journal.specs.declared.journal.TheConstants.{GREATEST_LIMIT}
use Rattle.mon_inventory.specs.declared.limits.TheConstants.{MOST_OBJECTS}
use Rattle.mon_downtime.specs.declared.downtime.Downtime.{Downtime}
use Rattle.mon_notes.specs.Comments.{CommentList}
use Rattle.mon_notify.specs.declared.contacts.ContactSwitch.{ContactSwitch}
use Rattle.mon_inventory.specs.Configuration.{Configuration, recovers_the_told}
use Rattle.mon_engine.specs.declared.ends.Owed.{Owed}
use Rattle.mon_engine.specs.declared.notice.Notice.{Notice}
use Rattle.mon_engine.specs.declared.object.Object.{Object}
use Rattle.mon_engine.specs.declared.outcome.Rejection.{Rejection}
use Rattle.mon_engine.specs.declared.switches.Program.{Program}
use Rattle.mon_engine.specs.Owed.{nobody}
use Rattle.mon_engine.specs.World.{World}
use Rattle.mon_engine.specs.Sound.{IsNoticeOf, IsOwing, AreObjectStates, IsWorldAt, IsWorld, IsTellable, IsTimely, ever, raised}
use Rattle.mon_engine.proofs.StateLemmas.{later_states}

-- ---- worlds with one part changed

-- later all bounds are greater
pub later : (inv : Configuration) (n m k l : ℕ) (w : World) → n ≤ k → m ≤ l → IsWorldAt inv n m w → IsWorldAt inv k l w
later inv n m k l w more up h =
    let comments = h.comments in
    let downtimes = h.downtimes in
    record {
      clock = h.clock;
      states = later_states m l inv.objects w.objects up h.states;
      contacts = h.contacts;
      owing = h.owing;
      ends = All-weaker (λ x. x.number ≤ GREATEST_NUMBER + m) (λ x. x.number ≤ GREATEST_NUMBER + l) (λ x few. omega (arith, few, up)) w.owed h.ends;
      without = h.without;
      comments = omega (arith, more, comments);
      noted = h.noted;
      downtimes = omega (arith, more, downtimes);
      known = h.known;
      notices = h.notices;
      limit = h.limit;
      earlier = h.earlier;
    }

pub next_world : (inv : Configuration) (w : World) → IsWorld inv w → IsWorldAt inv (ever w + 1) (raised w + 1) w
next_world inv w h = later inv (ever w) (raised w) (ever w + 1) (raised w + 1) w (omega arith) (omega arith) h

pub with_states : (inv : Configuration) (n m l : ℕ) (w : World) (os : List Object) → m ≤ l → IsWorldAt inv n m w → AreObjectStates l inv.objects os → IsWorldAt inv n l (record w { objects = os })
with_states inv n m l w os up h states = record {
  clock = h.clock;
  states = states;
  contacts = h.contacts;
  owing = h.owing;
  ends = All-weaker (λ x. x.number ≤ GREATEST_NUMBER + m) (λ x. x.number ≤ GREATEST_NUMBER + l) (λ x few. omega (arith, few, up)) w.owed h.ends;
  without = h.without;
  comments = h.comments;
  noted = h.noted;
  downtimes = h.downtimes;
  known = h.known;
  notices = h.notices;
  limit = h.limit;
  earlier = h.earlier;
}

pub with_notes : (inv : Configuration) (n m : ℕ) (w : World) (notes : CommentList) → IsWorldAt inv n m w → notes.last_id ≤ n → All (λ c. c.object < length inv.objects) notes.comments
    → IsWorldAt inv n m (record w { notes = notes })
with_notes inv n m w notes h few noted = record {
  clock = h.clock;
  states = h.states;
  contacts = h.contacts;
  owing = h.owing;
  ends = h.ends;
  without = h.without;
  comments = few;
  noted = noted;
  downtimes = h.downtimes;
  known = h.known;
  notices = h.notices;
  limit = h.limit;
  earlier = h.earlier;
}

-- the parts that nothing else is measured by
pub with_others : (inv : Configuration) (n m : ℕ) (w : World) (clock : ℕ) (program : Program) (rejections : List Rejection) (entries : ℕ) → clock ≤ GREATEST_NUMBER → entries ≤ GREATEST_LIMIT → IsWorldAt inv n m w
    → IsWorldAt inv n m (record w { clock = clock; program = program; rejections = rejections; entries = entries })
with_others inv n m w clock program rejections entries small few h = record {
  clock = small;
  states = h.states;
  contacts = h.contacts;
  owing = h.owing;
  ends = h.ends;
  without = h.without;
  comments = h.comments;
  noted = h.noted;
  downtimes = h.downtimes;
  known = h.known;
  notices = h.notices;
  limit = few;
  earlier = h.earlier;
}

pub with_contacts : (inv : Configuration) (n m : ℕ) (w : World) (cs : List ContactSwitch) → IsWorldAt inv n m w → length cs ≡ length inv.contacts → IsWorldAt inv n m (record w { contacts = cs })
with_contacts inv n m w cs h many = record {
  clock = h.clock;
  states = h.states;
  contacts = many;
  owing = h.owing;
  ends = h.ends;
  without = h.without;
  comments = h.comments;
  noted = h.noted;
  downtimes = h.downtimes;
  known = h.known;
  notices = h.notices;
  limit = h.limit;
  earlier = h.earlier;
}

-- downtimes that hold together after so many entries
pub record AreDowntimesAt (inv : Configuration) (n : ℕ) (ds : List Downtime) : Type 0 where
  pub few : length ds ≤ MOST_OBJECTS * n
  pub known : All (λ d. d.object < length inv.objects) ds

pub with_downtimes : (inv : Configuration) (n m : ℕ) (w : World) (ds : List Downtime) → IsWorldAt inv n m w → AreDowntimesAt inv n ds → IsWorldAt inv n m (record w { downtimes = ds })
with_downtimes inv n m w ds h downtimes = record {
  clock = h.clock;
  states = h.states;
  contacts = h.contacts;
  owing = h.owing;
  ends = h.ends;
  without = h.without;
  comments = h.comments;
  noted = h.noted;
  downtimes = downtimes.few;
  known = downtimes.known;
  notices = h.notices;
  limit = h.limit;
  earlier = h.earlier;
}

pub with_more_notices : (inv : Configuration) (n m : ℕ) (w : World) (ns : List Notice) → IsWorldAt inv n m w → All (IsNoticeOf inv) ns → IsWorldAt inv n m (record w { notices = w.notices ++ ns })
with_more_notices inv n m w ns h sound = record {
  clock = h.clock;
  states = h.states;
  contacts = h.contacts;
  owing = h.owing;
  ends = h.ends;
  without = h.without;
  comments = h.comments;
  noted = h.noted;
  downtimes = h.downtimes;
  known = h.known;
  notices = All-append (IsNoticeOf inv) w.notices ns h.notices sound;
  limit = h.limit;
  earlier = h.earlier;
}

-- who is owed the end of each object
pub with_owed_all : (inv : Configuration) (n m l : ℕ) (w : World) (owed : List Owed) → m ≤ l → IsWorldAt inv n m w → IsOwing inv owed → All (λ x. x.number ≤ GREATEST_NUMBER + l) owed → (recovers_the_told inv ≡ false → All (λ x. x ≡ nobody) owed) → IsWorldAt inv n l (record w { owed = owed })
with_owed_all inv n m l w owed up h owing ends without = (let more = later inv n m n l w (omega arith) up h in record {
  clock = more.clock;
  states = more.states;
  contacts = more.contacts;
  owing = owing;
  ends = ends;
  without = without;
  comments = more.comments;
  noted = more.noted;
  downtimes = more.downtimes;
  known = more.known;
  notices = more.notices;
  limit = more.limit;
  earlier = more.earlier;
})

pub tellable : (inv : Configuration) (n m : ℕ) (w : World) → IsWorldAt inv n m w → IsTellable inv w
tellable inv n m w h = record { objects = h.states.as_many; contacts = h.contacts }

pub timely : (inv : Configuration) (n m : ℕ) (w : World) → IsWorldAt inv n m w → IsTimely inv w
timely inv n m w h = record { tellable = tellable inv n m w h; known = h.known }

-- a world that another one of the same entries leads to
pub record Reaches (inv : Configuration) (n m : ℕ) (w w' : World) : Type 0 where
  pub world : IsWorldAt inv n m w'
  pub entries : w'.entries ≡ w.entries
  pub before : w'.before ≡ w.before
