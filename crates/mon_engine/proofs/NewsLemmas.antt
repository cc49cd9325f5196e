-- The notices that an entry adds, by where each comes from: what is due before it, its act, and what is due then.
use Rattle.std.proofs.Common.{◌≡◌, ◌⊎◌, inl, inr, ℕ, true, List, [], ◌∷◌, ◌++◌, length, drop, Option, Some, None, Ok, Err, All, refl, ap, sym, ◌∙◌, subst, append_assoc, append-nil}
use Rattle.std.proofs.lemmas.List.Elements.{All-nil, All-cons, All-head, All-append, All-weaker}
use Rattle.cmd_types.specs.declared.entry.Entry.{Entry}
use Rattle.mon_downtime.specs.declared.downtime.Downtime.{Downtime}
use Rattle.mon_downtime.specs.declared.event.Event.{Event}
use Rattle.mon_downtime.specs.Events.{due}
use Rattle.mon_downtime.specs.Clock.{WhatIsDueHappens, NothingIsLeft}
use Rattle.mon_inventory.specs.Configuration.{Configuration}
use Rattle.mon_engine.specs.declared.notice.Notice.{Notice}
use Rattle.mon_engine.specs.declared.notice.Word.{Word}
use Rattle.mon_engine.specs.declared.outcome.Outcome.{Outcome}
use Rattle.mon_engine.specs.declared.outcome.Outcome.TheVariants.{Applied, Rejected}
use Rattle.mon_engine.specs.World.{World}
use Rattle.mon_engine.specs.Notices.{downtime_notice}
use Rattle.mon_engine.specs.Effects.{Act, act, named}
use Rattle.mon_engine.specs.Clock.{due_in, fired, with_event, advanced}
use Rattle.mon_engine.specs.Step.{settled, closed_at, counted, acted}
use Rattle.mon_engine.specs.Laws.{moment_of}
use Rattle.mon_engine.specs.NoticeLaws.{went_out}
use Rattle.mon_engine.proofs.ClockLemmas.{drained_keeps, nothing_is_left}
use Rattle.mon_engine.proofs.EntryLemmas.{IsTimed, fired_timed, found, advanced_idle, entry_cases}
use Rattle.mon_engine.proofs.NoticeLemmas.{IfAny, IsAs, is_of_downtime, downtime_notice_as, event_notice_as}

-- ---- more notices

-- the first notices, and behind them others of which each is so
abbrev pub More : (Notice → Type 0) → (before after : List Notice) → Type 0
More P before after = (new : List Notice) × (after ≡ before ++ new) × All P new

pub more_same : (P : Notice → Type 0) (before : List Notice) → More P before before
more_same P before = ([], sym (append-nil before), All-nil P)

pub more_on : (P : Notice → Type 0) (before after new : List Notice) → More P before after → All P new → More P before (after ++ new)
more_on P before after new m h = (m.0 ++ new, ap (λ (x : List Notice). x ++ new) m.1 ∙ append_assoc before m.0 new, All-append P m.0 new m.2 h)

pub more_after : (P : Notice → Type 0) (a b c : List Notice) → More P a b → More P b c → More P a c
more_after P a b c m k = subst (More P a) (sym k.1) (more_on P a b k.0 m k.2)

pub drop_front : (xs ys : List Notice) → drop (length xs) (xs ++ ys) ≡ ys
drop_front [] ys = refl
drop_front (x ∷ xs) ys = drop_front xs ys

pub more_went : (P : Notice → Type 0) (w v : World) → More P w.notices v.notices → All P (went_out w v)
more_went P w v m = subst (All P) (sym (ap (drop (length w.notices)) m.1 ∙ drop_front w.notices m.0)) m.2

pub if_some : (P : Notice → Type 0) (o : Option Notice) → ((n : Notice) → o ≡ Some n → P n) → IfAny P o
if_some P None h = All-nil P
if_some P (Some n) h = All-cons P n [] (h n refl) (All-nil P)

-- ---- notices of downtimes

-- in this world a downtime is told of so
pub record TellsOfDowntime (inv : Configuration) (w : World) (n : Notice) : Type 0 where
  pub word : Word
  pub moment : ℕ
  pub object : ℕ
  pub of_downtime : is_of_downtime word ≡ true
  pub is : downtime_notice inv w word moment object ≡ Some n

-- they depend on the objects, the program and the contacts alone
pub told_alike : (inv : Configuration) (w v : World) (n : Notice) → v ≡ record v { objects = w.objects; program = w.program; contacts = w.contacts } → TellsOfDowntime inv v n → TellsOfDowntime inv w n
unfolding downtime_notice
told_alike inv w v n same t = record {
  word = t.word;
  moment = t.moment;
  object = t.object;
  of_downtime = t.of_downtime;
  is = sym (ap (λ (x : World). downtime_notice inv x t.word t.moment t.object) same) ∙ t.is;
}

timed_alike : (w v : World) → IsTimed w v → v ≡ record v { objects = w.objects; program = w.program; contacts = w.contacts }
timed_alike w v h = h ∙ ap (λ (x : World). record x { objects = w.objects; program = w.program; contacts = w.contacts }) (sym h)

fired_more : (inv : Configuration) (w v : World) (e : Event) (P : Notice → Type 0) → IsTimed w v → ((n : Notice) → TellsOfDowntime inv w n → P n) → More P w.notices v.notices → More P w.notices (fired inv v e).notices
unfolding fired
fired_more inv w v e P timed h m = more_on P w.notices v.notices _ m (event_notice_as P inv (with_event v e) e.kind e.moment _
    (λ word object is. if_some P _ (λ n at. h n (told_alike inv w (with_event v e) n (ap (λ (x : World). with_event x e) (timed_alike w v timed)) (record { word = word; moment = e.moment; object = object; of_downtime = is; is = at })))))

-- what time adds
pub advanced_more : (inv : Configuration) (w : World) (t : ℕ) (P : Notice → Type 0) → ((n : Notice) → TellsOfDowntime inv w n → P n) → More P w.notices (advanced inv w t).notices
unfolding advanced
advanced_more inv w t P h =
    (drained_keeps inv (λ (v : World). IsTimed w v × More P w.notices v.notices) t (λ v e g d. (fired_timed inv w v e g.0, fired_more inv w v e P g.0 h g.1)) w (refl, more_same P w.notices)).1

-- ---- an entry

-- nothing more is due where the downtimes are those that the entry found
behind_none : (each : WhatIsDueHappens) (done : NothingIsLeft) (inv : Configuration) (w b : World) (e : Entry) (P : Notice → Type 0) → b.downtimes ≡ (found inv w e).downtimes → More P b.notices (advanced inv (counted b) (moment_of w e)).notices
behind_none each done inv w b e P same =
    let t = moment_of w e in
    let idle : due_in (counted b) t ≡ None = ap (λ (ds : List Downtime). due ds t) same ∙ nothing_is_left done inv w t in
    subst (More P b.notices) (sym (ap (λ (x : World). x.notices) (advanced_idle each inv (counted b) t idle))) (more_same P b.notices)

behind_more : (inv : Configuration) (b : World) (t : ℕ) (P : Notice → Type 0) → ((n : Notice) → TellsOfDowntime inv b n → P n) → More P b.notices (advanced inv (counted b) t).notices
behind_more inv b t P h = advanced_more inv (counted b) t P (λ n d. h n (told_alike inv b (counted b) n refl d))

-- what holds of the notices of what is due before, of those of the act, and of what is due then where the act changed the downtimes, holds of each new one
pub news_are : (each : WhatIsDueHappens) (done : NothingIsLeft) (inv : Configuration) (w : World) (e : Entry) (P : World × Outcome → Notice → Type 0)
    → ((p : World × Outcome) (n : Notice) → TellsOfDowntime inv w n → P p n)
    → ((a : Act) (b : World) → named inv e.stamped.command ≡ Ok a → act inv (found inv w e) a ≡ Ok b
    → More (P (closed_at inv (moment_of w e) (b, Applied))) (found inv w e).notices b.notices
    × ((b.downtimes ≡ (found inv w e).downtimes) ⊎ ((n : Notice) → TellsOfDowntime inv b n → P (closed_at inv (moment_of w e) (b, Applied)) n)))
    → All (P (acted inv w e)) (went_out w (acted inv w e).0)
news_are each done inv w e P timely acted = entry_cases inv w e (λ p. All (P p) (went_out w p.0))
    (λ why. refused (settled (found inv w e) e.sender e.place (Err why)).0 (Rejected why) refl refl)
    (λ a b n h. more_went (P (closed b Applied)) w (closed b Applied).0 (more_after (P (closed b Applied)) w.notices b.notices (closed b Applied).0.notices
    (more_after (P (closed b Applied)) w.notices (found inv w e).notices b.notices (before (closed b Applied)) (acted a b n h).0) (behind b (acted a b n h).1)))
  where
    closed : World → Outcome → World × Outcome
    closed b r = closed_at inv (moment_of w e) (b, r)

    before : (p : World × Outcome) → More (P p) w.notices (found inv w e).notices
    before p = advanced_more inv w (moment_of w e) (P p) (timely p)

    refused : (b : World) (r : Outcome) → b.notices ≡ (found inv w e).notices → b.downtimes ≡ (found inv w e).downtimes → All (P (closed b r)) (went_out w (closed b r).0)
    refused b r notices same = more_went (P (closed b r)) w (closed b r).0
        (more_after (P (closed b r)) w.notices b.notices (closed b r).0.notices (subst (More (P (closed b r)) w.notices) (sym notices) (before (closed b r))) (behind_none each done inv w b e (P (closed b r)) same))

    behind : (b : World) → (b.downtimes ≡ (found inv w e).downtimes) ⊎ ((n : Notice) → TellsOfDowntime inv b n → P (closed b Applied) n) → More (P (closed b Applied)) b.notices (closed b Applied).0.notices
    behind b (inl same) = behind_none each done inv w b e (P (closed b Applied)) same
    behind b (inr told) = behind_more inv b (moment_of w e) (P (closed b Applied)) told

pub more_weaker : (P Q : Notice → Type 0) (before after : List Notice) → ((n : Notice) → P n → Q n) → More P before after → More Q before after
more_weaker P Q before after h m = (m.0, m.1, All-weaker P Q h m.0 m.2)

-- the word of a downtime's notice
pub downtime_word : (inv : Configuration) (u : World) (n : Notice) → TellsOfDowntime inv u n → is_of_downtime n.subject.word ≡ true
downtime_word inv u n t =
    ap is_of_downtime (All-head (IsAs inv t.word t.object) n [] (subst (IfAny (IsAs inv t.word t.object)) t.is (downtime_notice_as inv u t.word t.moment t.object))).word_is ∙ t.of_downtime
