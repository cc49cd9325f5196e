use Rattle.std.proofs.Common.{◌≡◌, inr, refl, ◌-◌, ◌++◌, List, ℕ, length, ap, sym, ◌∙◌}
use Rattle.std.specs.Option.{option_copied}
use Rattle.mon_state.specs.Feeds.{feeds_text}
use Rattle.mon_state.specs.FileReading.{feeds_at}
use Rattle.mon_state.specs.Cursors.{Place}
use Rattle.mon_state.proofs.CursorLemmas.{front_is, no_front}
use Rattle.mon_state.specs.Faults.{line_at, difference}
use Rattle.mon_state.proofs.FaultLemmas.{feeds_fault}
use Rattle.mon_state.proofs.FeedLemmas.{feeds_fail, feeds_are, same_rest}
use Rattle.mon_state.proofs.WritableLemmas.{feeds_are_writable}
use Rattle.mon_state.proofs.feeds.read_feeds.Goals as goal

pub returns-in-Err-clause-back : goal.returns-in-Err-clause-back
returns-in-Err-clause-back c = λ feeds rest h is. feeds_fail c.args.text.now c.new-cursor.result.rest rest c.read_table.new.cursor.last c.in-Err.cause feeds (ap (λ (p : Place). p.rest) c.new-cursor.ensures) c.in-Err.ensures h is

pub returns-in-Some-clause-text : goal.returns-in-Some-clause-text
returns-in-Some-clause-text c =
    let written : c.deref.result.now ≡ feeds_text c.in-Ok.feeds = c.deref.ensures.value ∙ c.in-Ok-write_feeds.ensures.ok ∙ ap (λ (l : List ℕ). l ++ feeds_text c.in-Ok.feeds) c.new-written.ensures.items in
    front_is c.deref.result.now c.args.text.now c.in-Some.rest.now (sym c.rest_after.ensures ∙ ap option_copied c.in-Some.is) ∙ ap (λ (l : List ℕ). l ++ c.in-Some.rest.now) written

pub returns-in-Some-clause-writable : goal.returns-in-Some-clause-writable
returns-in-Some-clause-writable c = feeds_are_writable c.new-cursor.result.rest c.read_table.new.cursor.rest c.in-Ok.feeds c.in-Ok.ensures

pub returns-in-Some-clause-back : goal.returns-in-Some-clause-back
returns-in-Some-clause-back c = λ feeds rest h is.
    (let are = feeds_are c.args.text.now c.new-cursor.result.rest c.read_table.new.cursor.rest rest c.in-Ok.feeds feeds (ap (λ (p : Place). p.rest) c.new-cursor.ensures) c.in-Ok.ensures h is in
    let written : c.deref.result.now ≡ feeds_text c.in-Ok.feeds = c.deref.ensures.value ∙ c.in-Ok-write_feeds.ensures.ok ∙ ap (λ (l : List ℕ). l ++ feeds_text c.in-Ok.feeds) c.new-written.ensures.items in
    let text = front_is c.deref.result.now c.args.text.now c.in-Some.rest.now (sym c.rest_after.ensures ∙ ap option_copied c.in-Some.is) in
    let same : c.in-Some.rest.now ≡ rest = same_rest c.deref.result.now c.in-Some.rest.now rest (sym text ∙ is ∙ ap (λ (l : List ℕ). l ++ rest) (ap feeds_text (sym are.0) ∙ sym written)) in
    λ i. (are.0 i, same i))

pub returns-clause-back : goal.returns-clause-back
returns-clause-back c = λ feeds rest h is.
    (let are = feeds_are c.args.text.now c.new-cursor.result.rest c.read_table.new.cursor.rest rest c.in-Ok.feeds feeds (ap (λ (p : Place). p.rest) c.new-cursor.ensures) c.in-Ok.ensures h is in
    let written : c.deref.result.now ≡ feeds_text c.in-Ok.feeds = c.deref.ensures.value ∙ c.in-Ok-write_feeds.ensures.ok ∙ ap (λ (l : List ℕ). l ++ feeds_text c.in-Ok.feeds) c.new-written.ensures.items in
    absurd (no_front c.deref.result.now c.args.text.now rest (sym c.rest_after.ensures ∙ ap option_copied c.in-None.is) (is ∙ ap (λ (l : List ℕ). l ++ rest) (ap feeds_text (sym are.0) ∙ sym written))))

pub returns-in-Err-clause-first : goal.returns-in-Err-clause-first
returns-in-Err-clause-first c =
    let text = c.args.text.now in
    let place = c.saturating_sub-read.ensures ∙ ap (λ (n : ℕ). length text - n) c.last_left.ensures in
    feeds_fault text c.new-cursor.result.rest c.read_table.new.cursor.last _ (ap (λ (p : Place). p.rest) c.new-cursor.ensures) c.in-Err.ensures (c.line_at.ensures ∙ ap (line_at text) place)

pub returns-clause-first : goal.returns-clause-first
returns-clause-first c =
    let text = c.args.text.now in
    let again : c.deref.result.now ≡ feeds_text c.in-Ok.feeds = c.deref.ensures.value ∙ c.in-Ok-write_feeds.ensures.ok ∙ ap (λ (l : List ℕ). l ++ feeds_text c.in-Ok.feeds) c.new-written.ensures.items in
    let written : c.deref-in-None.result.now ≡ feeds_text c.in-Ok.feeds = c.deref-in-None.ensures.value ∙ c.in-Ok-write_feeds.ensures.ok ∙ ap (λ (l : List ℕ). l ++ feeds_text c.in-Ok.feeds) c.new-written.ensures.items in
    let read : c.new-cursor.result.rest ≡ text = ap (λ (p : Place). p.rest) c.new-cursor.ensures in
    inr (inr (
      c.in-Ok.feeds,
      c.read_table.new.cursor.rest,
      ap feeds_at (sym read) ∙ c.in-Ok.ensures,
      λ behind is. no_front c.deref.result.now text behind (sym c.rest_after.ensures ∙ ap option_copied c.in-None.is) (is ∙ ap (λ (l : List ℕ). l ++ behind) (sym again)),
      refl,
      c.line_at-in-None.ensures ∙ ap (line_at text) (c.difference.ensures ∙ ap (difference text) written),
    ))
