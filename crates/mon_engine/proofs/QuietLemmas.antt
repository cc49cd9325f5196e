-- What tells of no problem: notices that are no PROBLEM, and worlds with more of these alone.
use Rattle.std.proofs.Common.{◌≡◌, ◌≢◌, ℕ, List, [], ◌++◌, Option, All, true, true≢false, ap, sym, ◌∙◌, subst, append_assoc}
use Rattle.std.specs.Prelude.{option_to_list}
use Rattle.std.proofs.lemmas.List.{append-nil}
use Rattle.std.proofs.lemmas.List.Elements.{All-nil, All-append, All-weaker}
use Rattle.std.proofs.lemmas.Option.{slice_get_within}
use Rattle.mon_downtime.specs.declared.event.Event.{Event}
use Rattle.mon_downtime.specs.Cancel.{active_dependants}
use Rattle.mon_inventory.specs.Configuration.{Configuration}
use Rattle.mon_engine.specs.declared.notice.Notice.{Notice}
use Rattle.mon_engine.specs.declared.notice.Word.{Word}
use Rattle.mon_engine.specs.declared.notice.Word.TheVariants.{Problem, DowntimeCancelled}
use Rattle.mon_engine.specs.Objects.{custom_number}
use Rattle.mon_engine.specs.World.{World}
use Rattle.mon_engine.specs.Notices.{downtime_notice, acknowledgement_notice, after_custom}
use Rattle.mon_engine.specs.Downtimes.{after_cancel, told_cancelled}
use Rattle.mon_engine.specs.Clock.{fired, advanced}
use Rattle.mon_engine.proofs.ActLemmas.{custom_cases}
use Rattle.mon_engine.proofs.ClockLemmas.{drained_keeps}
use Rattle.mon_engine.proofs.ListLemmas.{All-each}
use Rattle.mon_engine.proofs.NoticeLemmas.{IfAny, IsAs, is_of_downtime, downtime_notice_as, acknowledgement_notice_as, custom_notice_as, event_notice_as, cancel_notice_as}

abbrev pub IsOther : Notice → Type 0
IsOther n = n.subject.word ≢ Problem

-- a notice of another word
pub other_as : {inv : Configuration} {word : Word} {object : ℕ} (n : Option Notice) → word ≢ Problem → IfAny (IsAs inv word object) n → IfAny IsOther n
other_as {inv = inv} {word = word} {object = object} n other h = All-weaker (IsAs inv word object) IsOther (λ x is same. other (sym is.word_is ∙ same)) (option_to_list n) h

pub downtime_other : (inv : Configuration) (w : World) (word : Word) (moment object : ℕ) → word ≢ Problem → IfAny IsOther (downtime_notice inv w word moment object)
downtime_other inv w word moment object other = other_as _ other (downtime_notice_as inv w word moment object)

pub acknowledgement_other : (inv : Configuration) (w : World) (object : ℕ) → IfAny IsOther (acknowledgement_notice inv w object)
acknowledgement_other inv w object = other_as _ (λ e. absurd (cc)) (acknowledgement_notice_as inv w object)

-- ---- worlds

-- the notices of v, and behind them others than PROBLEM
abbrev pub Quiet : (v b : List Notice) → Type 0
Quiet v b = (new : List Notice) × (b ≡ v ++ new) × All IsOther new

pub quiet_same : (v : List Notice) → Quiet v v
quiet_same v = ([], sym (append-nil v), All-nil IsOther)

pub quiet_more : (v b new : List Notice) → All IsOther new → Quiet v b → Quiet v (b ++ new)
quiet_more v b new h q = (q.0 ++ new, ap (λ (x : List Notice). x ++ new) q.1 ∙ append_assoc v q.0 new, All-append IsOther q.0 new q.2 h)

pub no_problem : (word : Word) → is_of_downtime word ≡ true → word ≢ Problem
no_problem word is same = absurd (true≢false (sym is ∙ ap is_of_downtime same))

fired_quiet : (inv : Configuration) (w : World) (v : List Notice) (e : Event) → Quiet v w.notices → Quiet v (fired inv w e).notices
unfolding fired
fired_quiet inv w v e q = quiet_more v w.notices _ (event_notice_as IsOther inv _ e.kind e.moment _ (λ word object is. downtime_other inv _ word e.moment object (no_problem word is))) q

pub advanced_quiet : (inv : Configuration) (w : World) (t : ℕ) → Quiet w.notices (advanced inv w t).notices
unfolding advanced
advanced_quiet inv w t = drained_keeps inv (λ (v : World). Quiet w.notices v.notices) t (λ v e q d. fired_quiet inv v w.notices e q) w (quiet_same w.notices)

pub cancel_quiet : (inv : Configuration) (v : World) (id : ℕ) → Quiet v.notices (after_cancel inv v id).notices
unfolding after_cancel told_cancelled
cancel_quiet inv v id = quiet_more v.notices v.notices _
    (All-each IsOther _ (λ x. cancel_notice_as IsOther inv _ x (λ object. downtime_other inv _ DowntimeCancelled _ object (λ e. absurd (cc)))) (active_dependants v.downtimes id)) (quiet_same v.notices)

pub custom_quiet : (inv : Configuration) (v : World) (object options : ℕ) → Quiet v.notices (after_custom inv v object options).notices
custom_quiet inv v object options = custom_cases (λ (w : World). Quiet v.notices w.notices) inv v object options (quiet_same v.notices)
    (λ spec o known at n e. (let is = custom_notice_as inv v object (custom_number options o) options spec o (slice_get_within inv.objects object spec known) in
    quiet_more v.notices v.notices _ (subst (IfAny IsOther) e (other_as _ (λ k. absurd (cc)) is)) (quiet_same v.notices)))
