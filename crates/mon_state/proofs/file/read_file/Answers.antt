use Rattle.std.proofs.Common.{◌≡◌, inl, inr, ◌++◌, [], ◌∷◌, ◌+◌, List, ℕ, Some, None, length, take, ap, sym, ◌∙◌, subst, arith, length-append}
use Rattle.std.specs.Option.{option_copied}
use Rattle.mon_inventory.specs.Configuration.{Configuration, inventory}
use Rattle.mon_engine.specs.Saved.{IsSaved}
use Rattle.mon_state.specs.Upgrade.{IsStateText}
use Rattle.mon_state.specs.Version.{IsOfUnknownVersion}
use Rattle.mon_state.specs.Feeds.{feeds_text}
use Rattle.mon_state.specs.File.{mark, IsHead}
use Rattle.mon_state.specs.FileReading.{behind_mark}
use Rattle.mon_state.specs.Faults.{line_behind}
use Rattle.mon_state.proofs.FileLemmas.{mark_gives, mark_is, given_is, same_behind, same_inventory, no_inventory}
use Rattle.mon_state.proofs.file.read_file.Goals as goal

pub returns-in_default-clause-back : goal.returns-in_default-clause-back
returns-in_default-clause-back c = λ given inv w feeds head read saved writable is.
    (let clash : None ≡ Some (feeds_text feeds ++ is.0) = sym (ap option_copied c.in_default.is) ∙ c.behind_mark.ensures ∙ mark_gives c.args.text.now given (feeds_text feeds ++ is.0) head is.1 in cc)

pub returns-in-Err-clause-back : goal.returns-in-Err-clause-back
returns-in-Err-clause-back c = λ given inv w feeds head read saved writable is.
    (let text = c.args.text.now in
    let rest = c.in-Some.rest.now in
    let written = feeds_text feeds ++ is.0 in
    let found : behind_mark [] text ≡ Some rest = sym c.behind_mark.ensures ∙ ap option_copied c.in-Some.is in
    let behind : rest ≡ written = same_behind text rest given written found head is.1 in
    let long : length text ≡ length given + (4 + length written) = omega (arith, ap length is.1, length-append given (mark ++ 10 ∷ written)) in
    let front : take c.saturating_sub.result text ≡ given = given_is text given written c.saturating_sub.result is.1 (let same = ap length behind in let a = c.saturating_sub-before.ensures in let b = c.saturating_sub.ensures in omega (arith, long, same, a, b)) in
    λ other. no_inventory _ given inv _ front (c.in-Err.ensures.read other) read)

pub returns-in-Err-read_feeds-clause-back : goal.returns-in-Err-read_feeds-clause-back
returns-in-Err-read_feeds-clause-back c = λ given inv w feeds head read saved writable is.
    (let text = c.args.text.now in
    let rest = c.in-Some.rest.now in
    let found : behind_mark [] text ≡ Some rest = sym c.behind_mark.ensures ∙ ap option_copied c.in-Some.is in
    let behind = same_behind text rest given (feeds_text feeds ++ is.0) found head is.1 in
    c.behind.ensures.cause ∙ c.in-Err-read_feeds.ensures.back feeds is.0 writable behind)

pub returns-in-Ok-read_state-clause-text : goal.returns-in-Ok-read_state-clause-text
returns-in-Ok-read_state-clause-text c =
    let text = c.args.text.now in
    let rest = c.in-Some.rest.now in
    let found : behind_mark [] text ≡ Some rest = sym c.behind_mark.ensures ∙ ap option_copied c.in-Some.is in
    let split = mark_is text rest found in
    let long : length text ≡ length split.0 + (4 + length rest) = omega (arith, ap length split.1, length-append split.0 (mark ++ 10 ∷ rest)) in
    let front : take c.saturating_sub.result text ≡ split.0 = given_is text split.0 rest c.saturating_sub.result split.1 (let a = c.saturating_sub-before.ensures in let b = c.saturating_sub.ensures in omega (arith, long, a, b)) in
    let state = c.in-Ok-read_feeds.read.1.now in (
      state,
      split.1 ∙ (λ i. sym front i ++ (mark ++ 10 ∷ (c.in-Ok-read_feeds.ensures.text i))),
      subst (λ (k : Configuration). IsStateText k state c.in-Ok-read_state.monitor.world) (sym c.in-Ok-read_state.ensures.inventory) c.in-Ok-read_state.ensures.text,
    )

pub returns-in-Ok-read_state-clause-head : goal.returns-in-Ok-read_state-clause-head
returns-in-Ok-read_state-clause-head c =
    let text = c.args.text.now in
    let rest = c.in-Some.rest.now in
    let found : behind_mark [] text ≡ Some rest = sym c.behind_mark.ensures ∙ ap option_copied c.in-Some.is in
    let split = mark_is text rest found in
    let long : length text ≡ length split.0 + (4 + length rest) = omega (arith, ap length split.1, length-append split.0 (mark ++ 10 ∷ rest)) in
    let front : take c.saturating_sub.result text ≡ split.0 = given_is text split.0 rest c.saturating_sub.result split.1 (let a = c.saturating_sub-before.ensures in let b = c.saturating_sub.ensures in omega (arith, long, a, b)) in
    subst IsHead (sym front) split.2

pub returns-in-Ok-read_state-clause-back : goal.returns-in-Ok-read_state-clause-back
returns-in-Ok-read_state-clause-back c = λ given inv w feeds head read saved writable is.
    (let text = c.args.text.now in
    let rest = c.in-Some.rest.now in
    let written = feeds_text feeds ++ is.0 in
    let found : behind_mark [] text ≡ Some rest = sym c.behind_mark.ensures ∙ ap option_copied c.in-Some.is in
    let behind : rest ≡ written = same_behind text rest given written found head is.1 in
    let long : length text ≡ length given + (4 + length written) = omega (arith, ap length is.1, length-append given (mark ++ 10 ∷ written)) in
    let front : take c.saturating_sub.result text ≡ given = given_is text given written c.saturating_sub.result is.1 (let same = ap length behind in let a = c.saturating_sub-before.ensures in let b = c.saturating_sub.ensures in omega (arith, long, same, a, b)) in
    let feeds_are = c.in-Ok-read_feeds.ensures.back feeds is.0 writable behind in
    let inv_is : c.in-Ok.inventory ≡ inv = same_inventory _ given c.in-Ok.inventory inv front c.in-Ok.ensures.read read in
    let world = c.in-Ok-read_state.ensures.back w (subst (λ (i : Configuration). IsSaved i w) (sym inv_is) saved) (subst (λ (i : Configuration). IsStateText i c.in-Ok-read_feeds.read.1.now w) (sym inv_is) (subst (λ (t : List ℕ). IsStateText inv t w) (sym (ap (λ p. p.1) feeds_are)) is.2)) in
    (front, c.in-Ok-read_state.ensures.inventory ∙ inv_is, world, ap (λ p. p.0) feeds_are))

pub returns-in-Err-read_state-clause-back : goal.returns-in-Err-read_state-clause-back
returns-in-Err-read_state-clause-back c = λ given inv w feeds head read saved writable is.
    (let text = c.args.text.now in
    let rest = c.in-Some.rest.now in
    let written = feeds_text feeds ++ is.0 in
    let found : behind_mark [] text ≡ Some rest = sym c.behind_mark.ensures ∙ ap option_copied c.in-Some.is in
    let behind : rest ≡ written = same_behind text rest given written found head is.1 in
    let long : length text ≡ length given + (4 + length written) = omega (arith, ap length is.1, length-append given (mark ++ 10 ∷ written)) in
    let front : take c.saturating_sub.result text ≡ given = given_is text given written c.saturating_sub.result is.1 (let same = ap length behind in let a = c.saturating_sub-before.ensures in let b = c.saturating_sub.ensures in omega (arith, long, same, a, b)) in
    let feeds_are = c.in-Ok-read_feeds.ensures.back feeds is.0 writable behind in
    let inv_is : c.in-Ok.inventory ≡ inv = same_inventory _ given c.in-Ok.inventory inv front c.in-Ok.ensures.read read in
    let cause = c.in-Err-read_state.ensures.back w (subst (λ (i : Configuration). IsSaved i w) (sym inv_is) saved) (subst (λ (i : Configuration). IsStateText i c.in-Ok-read_feeds.read.1.now w) (sym inv_is) (subst (λ (t : List ℕ). IsStateText inv t w) (sym (ap (λ p. p.1) feeds_are)) is.2)) in
    c.behind-in-Err-read_state.ensures.cause ∙ cause)

pub returns-in-Err-clause-first : goal.returns-in-Err-clause-first
returns-in-Err-clause-first c =
    let text = c.args.text.now in
    let rest = c.in-Some.rest.now in
    let found : behind_mark [] text ≡ Some rest = sym c.behind_mark.ensures ∙ ap option_copied c.in-Some.is in
    let split = mark_is text rest found in
    let long : length text ≡ length split.0 + (4 + length rest) = omega (arith, ap length split.1, length-append split.0 (mark ++ 10 ∷ rest)) in
    let front : take c.saturating_sub.result text ≡ split.0 = given_is text split.0 rest c.saturating_sub.result split.1 (let a = c.saturating_sub-before.ensures in let b = c.saturating_sub.ensures in omega (arith, long, a, b)) in
    (split.0, rest, (found, split.1), λ other. sym (ap inventory front) ∙ c.in-Err.ensures.read other)

pub returns-in-Err-read_feeds-clause-first : goal.returns-in-Err-read_feeds-clause-first
returns-in-Err-read_feeds-clause-first c =
    let text = c.args.text.now in
    let rest = c.in-Some.rest.now in
    let found : behind_mark [] text ≡ Some rest = sym c.behind_mark.ensures ∙ ap option_copied c.in-Some.is in
    let split = mark_is text rest found in
    let long : length text ≡ length split.0 + (4 + length rest) = omega (arith, ap length split.1, length-append split.0 (mark ++ 10 ∷ rest)) in
    let front : take c.saturating_sub.result text ≡ split.0 = given_is text split.0 rest c.saturating_sub.result split.1 (let a = c.saturating_sub-before.ensures in let b = c.saturating_sub.ensures in omega (arith, long, a, b)) in
    let inner = c.in-Err-read_feeds.fault in
    let line = c.behind.ensures.line ∙ ap (λ (n : ℕ). line_behind (take n text) inner.line) c.saturating_sub-before.ensures in
    (split.0, rest, c.in-Ok.inventory, (found, split.1), sym (ap inventory front) ∙ c.in-Ok.ensures.read, inl (inner, c.in-Err-read_feeds.ensures.first, (c.behind.ensures.cause, line)))

pub returns-in-Err-read_state-clause-first : goal.returns-in-Err-read_state-clause-first
returns-in-Err-read_state-clause-first c =
    let text = c.args.text.now in
    let rest = c.in-Some.rest.now in
    let found : behind_mark [] text ≡ Some rest = sym c.behind_mark.ensures ∙ ap option_copied c.in-Some.is in
    let split = mark_is text rest found in
    let long : length text ≡ length split.0 + (4 + length rest) = omega (arith, ap length split.1, length-append split.0 (mark ++ 10 ∷ rest)) in
    let front : take c.saturating_sub.result text ≡ split.0 = given_is text split.0 rest c.saturating_sub.result split.1 (let a = c.saturating_sub-before.ensures in let b = c.saturating_sub.ensures in omega (arith, long, a, b)) in
    let inner = c.in-Err-read_state.fault in
    let line = c.behind-in-Err-read_state.ensures.line ∙ ap (λ (n : ℕ). line_behind (take n text) inner.line) c.saturating_sub-before-2.ensures in
    let read = c.in-Ok-read_feeds.read in
    (split.0, rest, c.in-Ok.inventory, (found, split.1), sym (ap inventory front) ∙ c.in-Ok.ensures.read, inr (read.0, read.1.now, inner, c.in-Ok-read_feeds.ensures.writable, c.in-Ok-read_feeds.ensures.text, c.in-Err-read_state.ensures.first, (c.behind-in-Err-read_state.ensures.cause, line)))

pub returns-in_default-clause-unknown : goal.returns-in_default-clause-unknown
returns-in_default-clause-unknown c = λ u.
    (let written = feeds_text u.3 ++ u.1 in
    let clash : None ≡ Some written = sym (ap option_copied c.in_default.is) ∙ c.behind_mark.ensures ∙ mark_gives c.args.text.now u.0 written u.4 u.7 in cc)

pub returns-in-Err-clause-unknown : goal.returns-in-Err-clause-unknown
returns-in-Err-clause-unknown c = λ u.
    (let text = c.args.text.now in
    let rest = c.in-Some.rest.now in
    let written = feeds_text u.3 ++ u.1 in
    let found : behind_mark [] text ≡ Some rest = sym c.behind_mark.ensures ∙ ap option_copied c.in-Some.is in
    let behind : rest ≡ written = same_behind text rest u.0 written found u.4 u.7 in
    let long : length text ≡ length u.0 + (4 + length written) = omega (arith, ap length u.7, length-append u.0 (mark ++ 10 ∷ written)) in
    let front : take c.saturating_sub.result text ≡ u.0 = given_is text u.0 written c.saturating_sub.result u.7 (let same = ap length behind in let a = c.saturating_sub-before.ensures in let b = c.saturating_sub.ensures in omega (arith, long, same, a, b)) in
    λ other. no_inventory _ u.0 u.2 _ front (c.in-Err.ensures.read other) u.5)

pub returns-in-Err-read_feeds-clause-unknown : goal.returns-in-Err-read_feeds-clause-unknown
returns-in-Err-read_feeds-clause-unknown c = λ u.
    (let text = c.args.text.now in
    let rest = c.in-Some.rest.now in
    let written = feeds_text u.3 ++ u.1 in
    let found : behind_mark [] text ≡ Some rest = sym c.behind_mark.ensures ∙ ap option_copied c.in-Some.is in
    let behind : rest ≡ written = same_behind text rest u.0 written found u.4 u.7 in
    inr (c.behind.ensures.cause ∙ c.in-Err-read_feeds.ensures.back u.3 u.1 u.6 behind))

pub returns-in-Ok-read_state-clause-unknown : goal.returns-in-Ok-read_state-clause-unknown
returns-in-Ok-read_state-clause-unknown c = λ u.
    (let text = c.args.text.now in
    let rest = c.in-Some.rest.now in
    let written = feeds_text u.3 ++ u.1 in
    let found : behind_mark [] text ≡ Some rest = sym c.behind_mark.ensures ∙ ap option_copied c.in-Some.is in
    let behind : rest ≡ written = same_behind text rest u.0 written found u.4 u.7 in
    let feeds_are = c.in-Ok-read_feeds.ensures.back u.3 u.1 u.6 behind in
    let unknown = subst IsOfUnknownVersion (sym (ap (λ p. p.1) feeds_are)) u.8 in
    c.in-Ok-read_state.ensures.unknown unknown)

pub returns-in-Err-read_state-clause-unknown : goal.returns-in-Err-read_state-clause-unknown
returns-in-Err-read_state-clause-unknown c = λ u.
    (let text = c.args.text.now in
    let rest = c.in-Some.rest.now in
    let written = feeds_text u.3 ++ u.1 in
    let found : behind_mark [] text ≡ Some rest = sym c.behind_mark.ensures ∙ ap option_copied c.in-Some.is in
    let behind : rest ≡ written = same_behind text rest u.0 written found u.4 u.7 in
    let feeds_are = c.in-Ok-read_feeds.ensures.back u.3 u.1 u.6 behind in
    let unknown = subst IsOfUnknownVersion (sym (ap (λ p. p.1) feeds_are)) u.8 in
    inl (c.behind-in-Err-read_state.ensures.cause ∙ c.in-Err-read_state.ensures.unknown unknown))
