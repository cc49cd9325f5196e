-- What is told of entries is what they add to the lists; so all of these is told.
use Rattle.std.proofs.Common.{◌≡◌, ℕ, Bool, true, false, not, if◌then◌else◌, List, [], ◌∷◌, ◌++◌, length, drop, map, Option, Ok, Err, refl, ap, sym, ◌∙◌, subst, append_assoc, append-nil}
use Rattle.std.proofs.Math.Seq.{drop-append_seam}
use Rattle.std.specs.List.{filter, flat_map}
use Rattle.std.proofs.lemmas.Grind.{flat_map-append}
use Rattle.std.proofs.lemmas.List.Elements.{filter-append}
use Rattle.cmd_types.specs.declared.entry.Entry.{Entry}
use Rattle.mon_inventory.specs.Configuration.{Configuration}
use Rattle.mon_engine.specs.declared.notice.Notice.{Notice}
use Rattle.mon_engine.specs.declared.outcome.Outcome.TheVariants.{Applied}
use Rattle.mon_engine.specs.declared.outcome.Reason.{Reason}
use Rattle.mon_engine.specs.declared.outcome.Rejection.{Rejection}
use Rattle.mon_engine.specs.World.{World, initial}
use Rattle.mon_engine.specs.Effects as acts
use Rattle.mon_engine.specs.Effects.{Act, act, named}
use Rattle.mon_engine.specs.Laws.{moment_of}
use Rattle.mon_engine.specs.Results.{with_result, with_started, after_check_result}
use Rattle.mon_checks.specs.States.{change_by}
use Rattle.mon_engine.specs.Step.{settled, closed_at, counted, step, meaning_from}
use Rattle.mon_engine.specs.Report.{rejected_line, notice_line}
use Rattle.mon_engine.specs.Telling.{Telling, telling_line, told_text, entry_text, told_on, TellingGoesOn, OfRejection, OfNotice, is_clock, news, news_between, tellings, forgotten, notices_of, rejections_of, ForgettingTellsTheSame, EachNoticeIsTold, EachRejectionIsTold}
use Rattle.mon_engine.proofs.ActLemmas.{act_leaves, check_result_cases, noticed_leaves, started_leaves}
use Rattle.mon_engine.proofs.EntryLemmas.{entry_cases, found, advanced_leaves}
use Rattle.mon_engine.proofs.ForgottenLemmas.{the_lists_are_not_read}
use Rattle.mon_engine.proofs.EndLemmas.{step_leaves}

-- ---- what an entry adds

-- what an entry adds to the lists stands alone in those of a world that had none
abbrev alone : Configuration → World → Entry → World
alone inv w e = (step inv (forgotten w) e).0

rejections_grow : (inv : Configuration) (w : World) (e : Entry) → (step inv w e).0.rejections ≡ w.rejections ++ (alone inv w e).rejections
rejections_grow inv w e = ap (λ p. p.0.rejections) (the_lists_are_not_read inv w e)

notices_grow : (inv : Configuration) (w : World) (e : Entry) → (step inv w e).0.notices ≡ w.notices ++ (alone inv w e).notices
notices_grow inv w e = ap (λ p. p.0.notices) (the_lists_are_not_read inv w e)

news_alone : (quiet : Bool) (inv : Configuration) (w : World) (e : Entry) → news_between quiet w (step inv w e).0 ≡ news quiet (alone inv w e).rejections (alone inv w e).notices
news_alone quiet inv w e =
    ap (λ (rs : List Rejection). news quiet rs (drop (length w.notices) (step inv w e).0.notices)) (ap (drop (length w.rejections)) (rejections_grow inv w e) ∙ drop-append_seam w.rejections (alone inv w e).rejections)
    ∙ ap (news quiet (alone inv w e).rejections) (ap (drop (length w.notices)) (notices_grow inv w e) ∙ drop-append_seam w.notices (alone inv w e).notices)

-- ---- a monitor that has told

pub forgetting_tells_the_same : ForgettingTellsTheSame
unfolding tellings
forgetting_tells_the_same inv clock w [] = refl
forgetting_tells_the_same inv clock w (e ∷ es) =
    ap (λ (n : List Telling). n ++ tellings inv clock (alone inv w e) es) (sym (news_alone (is_clock clock e.sender) inv w e))
    ∙ ap (λ (t : List Telling). news_between (is_clock clock e.sender) w (step inv w e).0 ++ t)
    (sym (forgetting_tells_the_same inv clock (alone inv w e) es) ∙ ap (λ (v : World). tellings inv clock (forgotten v) es) (sym (ap (λ p. p.0) (the_lists_are_not_read inv w e))) ∙ forgetting_tells_the_same inv clock (step inv w e).0 es)

-- ---- one entry more

listed_text : (inv : Configuration) (ns : List Notice) → flat_map (telling_line inv) (map OfNotice ns) ≡ flat_map (notice_line inv) ns
listed_text inv [] = refl
listed_text inv (n ∷ ns) = ap (λ (x : List ℕ). notice_line inv n ++ x) (listed_text inv ns)

refused_text : (inv : Configuration) (rs : List Rejection) (ns : List Notice) → flat_map (telling_line inv) (map OfRejection rs ++ map OfNotice ns) ≡ flat_map rejected_line rs ++ flat_map (notice_line inv) ns
refused_text inv [] ns = listed_text inv ns
refused_text inv (r ∷ rs) ns = ap (λ (x : List ℕ). rejected_line r ++ x) (refused_text inv rs ns) ∙ sym (append_assoc (rejected_line r) (flat_map rejected_line rs) (flat_map (notice_line inv) ns))

news_text : (inv : Configuration) (quiet : Bool) (w : World) → flat_map (telling_line inv) (news quiet w.rejections w.notices) ≡ entry_text inv quiet w
news_text inv true w = listed_text inv w.notices
news_text inv false w = refused_text inv w.rejections w.notices

one_more : (inv : Configuration) (clock : Option ℕ) (w : World) (es : List Entry) (e : Entry)
    → tellings inv clock w (es ++ e ∷ []) ≡ tellings inv clock w es ++ news (is_clock clock e.sender) (told_on inv w es e).rejections (told_on inv w es e).notices
unfolding tellings meaning_from
one_more inv clock w [] e = append-nil _ ∙ news_alone (is_clock clock e.sender) inv w e
one_more inv clock w (x ∷ es) e =
    ap (λ (told : List Telling). news_between (is_clock clock x.sender) w (step inv w x).0 ++ told) (one_more inv clock (step inv w x).0 es e)
    ∙ sym (append_assoc (news_between (is_clock clock x.sender) w (step inv w x).0) (tellings inv clock (step inv w x).0 es) _)

meaning_more : (inv : Configuration) (w : World) (es : List Entry) (e : Entry) → forgotten (meaning_from inv w (es ++ e ∷ [])) ≡ forgotten (told_on inv w es e)
unfolding meaning_from
meaning_more inv w [] e = ap (λ p. forgotten p.0) (the_lists_are_not_read inv w e)
meaning_more inv w (x ∷ es) e = meaning_more inv (step inv w x).0 es e

pub telling_goes_on : TellingGoesOn
telling_goes_on inv clock w es e = (
  ap (flat_map (telling_line inv)) (one_more inv clock w es e)
      ∙ flat_map-append (telling_line inv) (tellings inv clock w es) (news (is_clock clock e.sender) (told_on inv w es e).rejections (told_on inv w es e).notices)
      ∙ ap (λ (x : List ℕ). told_text inv clock w es ++ x) (news_text inv (is_clock clock e.sender) (told_on inv w es e)),
  meaning_more inv w es e,
)

-- ---- all is told

noticed_alone : (ns : List Notice) (told : List Telling) → notices_of (map OfNotice ns ++ told) ≡ ns ++ notices_of told
noticed_alone [] told = refl
noticed_alone (n ∷ ns) told = ap (λ (xs : List Notice). n ∷ xs) (noticed_alone ns told)

notices_in : (quiet : Bool) (rs : List Rejection) (ns : List Notice) (told : List Telling) → notices_of (news quiet rs ns ++ told) ≡ ns ++ notices_of told
notices_in true rs ns told = noticed_alone ns told
notices_in false [] ns told = noticed_alone ns told
notices_in false (r ∷ rs) ns told = notices_in false rs ns told

rejected_alone : (ns : List Notice) (told : List Telling) → rejections_of (map OfNotice ns ++ told) ≡ rejections_of told
rejected_alone [] told = refl
rejected_alone (n ∷ ns) told = rejected_alone ns told

rejections_in : (quiet : Bool) (rs : List Rejection) (ns : List Notice) (told : List Telling) → rejections_of (news quiet rs ns ++ told) ≡ (if quiet then [] else rs) ++ rejections_of told
rejections_in true rs ns told = rejected_alone ns told
rejections_in false [] ns told = rejected_alone ns told
rejections_in false (r ∷ rs) ns told = ap (λ (xs : List Rejection). r ∷ xs) (rejections_in false rs ns told)

notices_told : (inv : Configuration) (clock : Option ℕ) (w : World) (es : List Entry) → w.notices ++ notices_of (tellings inv clock w es) ≡ (meaning_from inv w es).notices
unfolding tellings meaning_from
notices_told inv clock w [] = append-nil w.notices
notices_told inv clock w (e ∷ es) =
    let rest = tellings inv clock (step inv w e).0 es in
    ap (λ (told : List Telling). w.notices ++ notices_of (told ++ rest)) (news_alone (is_clock clock e.sender) inv w e)
    ∙ ap (λ (ns : List Notice). w.notices ++ ns) (notices_in (is_clock clock e.sender) (alone inv w e).rejections (alone inv w e).notices rest)
    ∙ sym (append_assoc w.notices (alone inv w e).notices (notices_of rest))
    ∙ ap (λ (ns : List Notice). ns ++ notices_of rest) (sym (notices_grow inv w e))
    ∙ notices_told inv clock (step inv w e).0 es

pub each_notice_is_told : EachNoticeIsTold
unfolding initial
each_notice_is_told inv clock journal = notices_told inv clock (initial inv) journal

-- ---- rejections

act_rejects_nobody : (inv : Configuration) (v w : World) (a : Act) → act inv v a ≡ Ok w → w.rejections ≡ v.rejections
unfolding act after_check_result
act_rejects_nobody inv v w (acts.CheckResult object code output) e = check_result_cases (λ (y : World). y.rejections ≡ v.rejections) inv v w object code output e
    (λ spec o known at. ap (λ (x : World). x.rejections) (noticed_leaves inv (with_started inv (with_result inv v object spec o code output) object) object (change_by o.status code))
    ∙ ap (λ (x : World). x.rejections) (started_leaves inv (with_result inv v object spec o code output) object))
act_rejects_nobody inv v w a e = ap (λ (x : World). x.rejections) (act_leaves inv v w a e)

abbrev others : Option ℕ → List Rejection → List Rejection
others clock rs = filter (λ r. not (is_clock clock r.sender)) rs

-- of one sender's rejections either all are the clock's or none
abbrev AreTold : Option ℕ → (sender : ℕ) → List Rejection → Type 0
AreTold clock sender rs = others clock rs ≡ (if is_clock clock sender then [] else rs)

added_are_told : (inv : Configuration) (clock : Option ℕ) (w : World) (e : Entry) → AreTold clock e.sender (alone inv w e).rejections
added_are_told inv clock w e = subst (AreTold clock e.sender) (sym (ap (λ (x : World). x.rejections) (step_leaves inv (forgotten w) e))) (entry_cases inv (forgotten w) e (λ p. AreTold clock e.sender p.0.rejections)
    (λ why. subst (AreTold clock e.sender) (sym (refused why)) (one (record { sender = e.sender; place = e.place; reason = why }) (is_clock clock e.sender)))
    (λ a b n h. subst (AreTold clock e.sender) (sym (done b ∙ act_rejects_nobody inv (found inv (forgotten w) e) b a h ∙ none_before)) (none (is_clock clock e.sender))))
  where
    none_before : (found inv (forgotten w) e).rejections ≡ []
    none_before = ap (λ (x : World). x.rejections) (advanced_leaves inv (forgotten w) (moment_of (forgotten w) e))

    done : (b : World) → (closed_at inv (moment_of (forgotten w) e) (b, Applied)).0.rejections ≡ b.rejections
    done b = ap (λ (x : World). x.rejections) (advanced_leaves inv (counted b) (moment_of (forgotten w) e))

    refused : (why : Reason) → (closed_at inv (moment_of (forgotten w) e) (settled (found inv (forgotten w) e) e.sender e.place (Err why))).0.rejections ≡ record { sender = e.sender; place = e.place; reason = why } ∷ []
    refused why = done (settled (found inv (forgotten w) e) e.sender e.place (Err why)).0 ∙ ap (λ (rs : List Rejection). rs ++ record { sender = e.sender; place = e.place; reason = why } ∷ []) none_before

    nothing : List Rejection
    nothing = []

    none : (quiet : Bool) → nothing ≡ (if quiet then [] else nothing)
    none true = refl
    none false = refl

    one : (r : Rejection) (quiet : Bool) → (if not quiet then r ∷ [] else []) ≡ (if quiet then [] else r ∷ [])
    one r true = refl
    one r false = refl

rejections_told : (inv : Configuration) (clock : Option ℕ) (w : World) (es : List Entry) → others clock w.rejections ++ rejections_of (tellings inv clock w es) ≡ others clock (meaning_from inv w es).rejections
unfolding tellings meaning_from
rejections_told inv clock w [] = append-nil (others clock w.rejections)
rejections_told inv clock w (e ∷ es) =
    let rest = tellings inv clock (step inv w e).0 es in
    ap (λ (told : List Telling). others clock w.rejections ++ rejections_of (told ++ rest)) (news_alone (is_clock clock e.sender) inv w e)
    ∙ ap (λ (rs : List Rejection). others clock w.rejections ++ rs) (rejections_in (is_clock clock e.sender) (alone inv w e).rejections (alone inv w e).notices rest)
    ∙ ap (λ (rs : List Rejection). others clock w.rejections ++ (rs ++ rejections_of rest)) (sym (added_are_told inv clock w e))
    ∙ sym (append_assoc (others clock w.rejections) (others clock (alone inv w e).rejections) (rejections_of rest))
    ∙ ap (λ (rs : List Rejection). rs ++ rejections_of rest) (sym (filter-append (λ r. not (is_clock clock r.sender)) w.rejections (alone inv w e).rejections))
    ∙ ap (λ (rs : List Rejection). others clock rs ++ rejections_of rest) (sym (rejections_grow inv w e))
    ∙ rejections_told inv clock (step inv w e).0 es

pub each_rejection_is_told : EachRejectionIsTold
unfolding initial
each_rejection_is_told inv clock journal = rejections_told inv clock (initial inv) journal
