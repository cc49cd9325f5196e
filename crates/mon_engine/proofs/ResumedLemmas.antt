-- No entry reads how many there were: a journal in parts, between which the monitor was written and read back, leads to the same and tells the same.
use Rattle.std.proofs.Common.{◌≡◌, ℕ, ◌+◌, List, [], ◌∷◌, ◌++◌, length, Option, Ok, Err, refl, ap, sym, ◌∙◌, append_assoc, arith}
use Rattle.std.specs.List.{flat_map}
use Rattle.std.proofs.lemmas.Grind.{flat_map-append}
use Rattle.cmd_types.specs.declared.entry.Entry.{Entry}
use Rattle.mon_checks.specs.States.{change_by}
use Rattle.mon_inventory.specs.Configuration.{Configuration}
use Rattle.mon_engine.specs.declared.outcome.Outcome.{Outcome}
use Rattle.mon_engine.specs.declared.outcome.Outcome.TheVariants.{Applied}
use Rattle.mon_engine.specs.World.{World}
use Rattle.mon_engine.specs.Effects as acts
use Rattle.mon_engine.specs.Effects.{Act, act}
use Rattle.mon_engine.specs.Results.{with_result, with_started, after_check_result}
use Rattle.mon_engine.specs.Step.{settled, closed_at, counted, acted, step, meaning_from}
use Rattle.mon_engine.specs.Laws.{moment_of}
use Rattle.mon_engine.specs.Telling.{Telling, telling_line, tellings, is_clock, news_between, forgotten}
use Rattle.mon_engine.specs.Sound.{ever}
use Rattle.mon_engine.specs.Saved.{going_on}
use Rattle.mon_engine.specs.SavedLaws.{resumed, TheCountsAreNotRead, EachEntryIsCounted, GoingOnTwiceIsOnce, GoingOnMeansTheSame, GoingOnTellsTheSame, PartsMeanTheSame, PartsTellTheSame}
use Rattle.mon_engine.proofs.ActLemmas.{act_leaves, check_result_cases, noticed_leaves, started_leaves}
use Rattle.mon_engine.proofs.EntryLemmas.{entry_cases, found, advanced_leaves}
use Rattle.mon_engine.proofs.ForgottenLemmas.{step_behind, the_lists_are_not_read}
use Rattle.mon_engine.proofs.TellingLemmas.{forgetting_tells_the_same}
use Rattle.mon_engine.proofs.EndLemmas.{step_leaves}

-- ---- how many there were

-- so many entries were counted, and so many before
abbrev IsCounted : (entries before : ℕ) → World → Type 0
IsCounted entries before w = (w.entries ≡ entries) × (w.before ≡ before)

act_counts : (inv : Configuration) (v w : World) (a : Act) → act inv v a ≡ Ok w → IsCounted v.entries v.before w
unfolding act after_check_result
act_counts inv v w (acts.CheckResult object code output) e = check_result_cases (IsCounted v.entries v.before) inv v w object code output e
    (λ spec o known at. (let u = with_result inv v object spec o code output in
    let noticed = noticed_leaves inv (with_started inv u object) object (change_by o.status code) in
    let started = started_leaves inv u object in
    (ap (λ (x : World). x.entries) noticed ∙ ap (λ (x : World). x.entries) started, ap (λ (x : World). x.before) noticed ∙ ap (λ (x : World). x.before) started)))
act_counts inv v w a e = (let leaves = act_leaves inv v w a e in (ap (λ (x : World). x.entries) leaves, ap (λ (x : World). x.before) leaves))

acted_counts : (inv : Configuration) (w : World) (e : Entry) → IsCounted (w.entries + 1) w.before (acted inv w e).0
acted_counts inv w e = entry_cases inv w e (λ p. IsCounted (w.entries + 1) w.before p.0)
    (λ why. closed (settled (found inv w e) e.sender e.place (Err why)).0 (refl, refl))
    (λ a b n h. closed b (act_counts inv (found inv w e) b a h))
  where
    closed : (b : World) → IsCounted (found inv w e).entries (found inv w e).before b → IsCounted (w.entries + 1) w.before (closed_at inv (moment_of w e) (b, Applied)).0
    closed b h =
        let before = advanced_leaves inv w (moment_of w e) in
        let after = advanced_leaves inv (counted b) (moment_of w e) in (
          ap (λ (x : World). x.entries) after ∙ ap (λ (n : ℕ). n + 1) (h.0 ∙ ap (λ (x : World). x.entries) before),
          ap (λ (x : World). x.before) after ∙ h.1 ∙ ap (λ (x : World). x.before) before,
        )

-- an entry is counted once
pub step_counts : (inv : Configuration) (w : World) (e : Entry) → IsCounted (w.entries + 1) w.before (step inv w e).0
step_counts inv w e =
    let leaves = step_leaves inv w e in
    let counts = acted_counts inv w e in
    (ap (λ (x : World). x.entries) leaves ∙ counts.0, ap (λ (x : World). x.before) leaves ∙ counts.1)

pub each_entry_is_counted : EachEntryIsCounted
unfolding meaning_from
each_entry_is_counted inv w [] = (omega arith, refl)
each_entry_is_counted inv w (e ∷ es) =
    let first = step_counts inv w e in
    let rest = each_entry_is_counted inv (step inv w e).0 es in
    let one = first.0 in
    let all = rest.0 in
    (omega (arith, one, all), rest.1 ∙ first.1)

-- ---- other counts

-- a world with these counts
abbrev with_counts : (entries before : ℕ) → World → World
with_counts entries before w = record w { entries = entries; before = before }

abbrev paired : World → Outcome → World × Outcome
paired w o = (w, o)

-- what an entry does to a world that has counted none
abbrev plain : Configuration → World → Entry → World × Outcome
plain inv w e = step inv (with_counts 0 0 w) e

by_plain : (inv : Configuration) (w : World) (e : Entry) → step inv w e ≡ paired (with_counts (w.entries + (plain inv w e).0.entries) (w.before + (plain inv w e).0.before) (plain inv w e).0) (plain inv w e).1
by_plain inv w e = ap (λ (v : World). step inv v e) rejoined ∙ step_behind [] [] w.entries w.before inv (with_counts 0 0 w) e
  where
    entries : w.entries ≡ w.entries + 0
    entries = omega arith

    before : w.before ≡ w.before + 0
    before = omega arith

    rejoined : w ≡ with_counts (w.entries + 0) (w.before + 0) w
    rejoined = ap (λ (n : ℕ). with_counts n w.before w) entries ∙ ap (λ (n : ℕ). with_counts (w.entries + 0) n w) before

anew : (inv : Configuration) (w : World) (e : Entry) (n m : ℕ) → paired (with_counts n m (step inv w e).0) (step inv w e).1 ≡ paired (with_counts n m (plain inv w e).0) (plain inv w e).1
anew inv w e n m = ap (λ (p : World × Outcome). paired (with_counts n m p.0) p.1) (by_plain inv w e)

-- with other counts an entry does the same, and is counted behind them
step_counted : (inv : Configuration) (w : World) (e : Entry) (n m : ℕ) → step inv (with_counts n m w) e ≡ paired (with_counts (n + 1) m (step inv w e).0) (step inv w e).1
step_counted inv w e n m =
    let x = step inv (with_counts n m w) e in
    let counts = step_counts inv (with_counts n m w) e in
    ap (λ (k : ℕ). paired (with_counts k x.0.before x.0) x.1) counts.0
    ∙ ap (λ (k : ℕ). paired (with_counts (n + 1) k x.0) x.1) counts.1
    ∙ anew inv (with_counts n m w) e (n + 1) m
    ∙ sym (anew inv w e (n + 1) m)

pub the_counts_are_not_read : TheCountsAreNotRead
the_counts_are_not_read inv w e = step_counted inv w e 0 (ever w)

pub going_on_twice_is_once : GoingOnTwiceIsOnce
going_on_twice_is_once w = (let same : ever w + 0 ≡ ever w = omega arith in ap (λ (n : ℕ). with_counts 0 n w) same)

means_counted : (inv : Configuration) (w : World) (n m : ℕ) (es : List Entry) → meaning_from inv (with_counts n m w) es ≡ with_counts (n + length es) m (meaning_from inv w es)
unfolding meaning_from
means_counted inv w n m [] = (let none : n ≡ n + length {A = Entry} [] = omega arith in ap (λ (k : ℕ). with_counts k m w) none)
means_counted inv w n m (e ∷ es) =
    let count : (n + 1) + length es ≡ n + length (e ∷ es) = omega arith in
    ap (λ (p : World × Outcome). meaning_from inv p.0 es) (step_counted inv w e n m)
    ∙ means_counted inv (step inv w e).0 (n + 1) m es
    ∙ ap (λ (k : ℕ). with_counts k m (meaning_from inv (step inv w e).0 es)) count

pub going_on_means_the_same : GoingOnMeansTheSame
going_on_means_the_same inv w es =
    let count : 0 + length es ≡ length es = omega arith in
    let means = means_counted inv w 0 (ever w) es ∙ ap (λ (n : ℕ). with_counts n (ever w) (meaning_from inv w es)) count in
    let counts = each_entry_is_counted inv w es in
    let entries = counts.0 in
    let before = counts.1 in
    let all : ever w + length es ≡ ever (meaning_from inv w es) = omega (arith, entries, before) in
    (means, ap going_on means ∙ ap (λ (n : ℕ). with_counts 0 n (meaning_from inv w es)) all)

tells_counted : (inv : Configuration) (clock : Option ℕ) (w : World) (n m : ℕ) (es : List Entry) → tellings inv clock (with_counts n m w) es ≡ tellings inv clock w es
unfolding tellings
tells_counted inv clock w n m [] = refl
tells_counted inv clock w n m (e ∷ es) =
    ap (λ (p : World × Outcome). news_between (is_clock clock e.sender) w p.0 ++ tellings inv clock p.0 es) (step_counted inv w e n m)
    ∙ ap (λ (told : List Telling). news_between (is_clock clock e.sender) w (step inv w e).0 ++ told) (tells_counted inv clock (step inv w e).0 (n + 1) m es)

pub going_on_tells_the_same : GoingOnTellsTheSame
going_on_tells_the_same inv clock w es = tells_counted inv clock w 0 (ever w) es

-- ---- what was told is forgotten

step_forgets : (inv : Configuration) (w : World) (e : Entry) → forgotten (step inv w e).0 ≡ forgotten (step inv (forgotten w) e).0
step_forgets inv w e = ap (λ (p : World × Outcome). forgotten p.0) (the_lists_are_not_read inv w e)

pub forgetting_means_the_same : (inv : Configuration) (w : World) (es : List Entry) → forgotten (meaning_from inv (forgotten w) es) ≡ forgotten (meaning_from inv w es)
unfolding meaning_from
forgetting_means_the_same inv w [] = refl
forgetting_means_the_same inv w (e ∷ es) =
    sym (forgetting_means_the_same inv (step inv (forgotten w) e).0 es)
    ∙ ap (λ (v : World). forgotten (meaning_from inv v es)) (sym (step_forgets inv w e))
    ∙ forgetting_means_the_same inv (step inv w e).0 es

-- ---- parts

-- entries from a world that was written and read back
pub resuming_means_the_same : (inv : Configuration) (w : World) (es : List Entry) → resumed (meaning_from inv (resumed w) es) ≡ resumed (meaning_from inv w es)
resuming_means_the_same inv w es = ap forgotten (going_on_means_the_same inv (forgotten w) es).1 ∙ ap going_on (forgetting_means_the_same inv w es)

pub meaning_joins : (inv : Configuration) (w : World) (first second : List Entry) → meaning_from inv w (first ++ second) ≡ meaning_from inv (meaning_from inv w first) second
unfolding meaning_from
meaning_joins inv w [] second = refl
meaning_joins inv w (e ∷ first) second = meaning_joins inv (step inv w e).0 first second

pub parts_mean_the_same : PartsMeanTheSame
parts_mean_the_same inv w first second = resuming_means_the_same inv (meaning_from inv w first) second ∙ ap resumed (sym (meaning_joins inv w first second))

telling_joins : (inv : Configuration) (clock : Option ℕ) (w : World) (first second : List Entry) → tellings inv clock w (first ++ second) ≡ tellings inv clock w first ++ tellings inv clock (meaning_from inv w first) second
unfolding meaning_from tellings
telling_joins inv clock w [] second = refl
telling_joins inv clock w (e ∷ first) second =
    let news = news_between (is_clock clock e.sender) w (step inv w e).0 in
    ap (λ (told : List Telling). news ++ told) (telling_joins inv clock (step inv w e).0 first second)
    ∙ sym (append_assoc news (tellings inv clock (step inv w e).0 first) (tellings inv clock (meaning_from inv (step inv w e).0 first) second))

pub parts_tell_the_same : PartsTellTheSame
parts_tell_the_same inv clock w first second = (tells, ap (flat_map (telling_line inv)) tells ∙ flat_map-append (telling_line inv) (tellings inv clock w first) (tellings inv clock (resumed (meaning_from inv w first)) second))
  where
    same : tellings inv clock (resumed (meaning_from inv w first)) second ≡ tellings inv clock (meaning_from inv w first) second
    same = going_on_tells_the_same inv clock (forgotten (meaning_from inv w first)) second ∙ forgetting_tells_the_same inv clock (meaning_from inv w first) second

    tells : tellings inv clock w (first ++ second) ≡ tellings inv clock w first ++ tellings inv clock (resumed (meaning_from inv w first)) second
    tells = telling_joins inv clock w first second ∙ ap (λ (told : List Telling). tellings inv clock w first ++ told) (sym same)
