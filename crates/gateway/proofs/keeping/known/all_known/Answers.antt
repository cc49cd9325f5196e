-- Why `all_known` keeps its contract.
use Rattle.std.proofs.Common.{◌≡◌, ◌<◌, ◌++◌, ◌∷◌, [], ◌+◌, ℕ, List, length, map, drop, get_or, sym, ap, subst, ◌∙◌, arith}
use Rattle.std.proofs.lemmas.List.{map-append}
use Rattle.mon_engine.specs.Telling.{is_clock}
use Rattle.mon_state.specs.Feeds.{Feeds}
use Rattle.cmd_live.specs.declared.start.Known.{Known}
use Rattle.gateway.specs.KnownFeeds.{known_from}
use Rattle.gateway.proofs.KnownLemmas.{known_more, known_same}
use Rattle.gateway.proofs.keeping.known.all_known.Goals as goal
use Rattle.gateway.proofs.keeping.known.all_known.Goals.{then-not-is_clock+in_ok-push, else-not-is_clock}

pub loop-number-preserved : goal.loop-number-preserved
loop-number-preserved c =
    let list = c.args.feeds.now.list in
    let clock = c.args.feeds.now.clock in
    let k = c.loop-number.number in
    let all = known_from clock 0 list in
    let later = known_from clock (k + 1) (drop (k + 1) list) in
    let pair : Known → ℕ × List ℕ = λ x. (x.commands, x.last.now) in
    let same = c.feeds.view_is in
    let count : c.len-number-end.result ≡ length list = c.len-number-end.ensures ∙ c.feeds.inside.list.ok.0 ∙ ap (λ (f : Feeds). length f.list) same in
    let low : k < length list = (let below = c.loop-number-test.true in omega (arith, below, count)) in
    let clocked : c.is_clock.result ≡ is_clock clock k = c.is_clock.ensures ∙ ap (λ (f : Feeds). is_clock f.clock k) same in
    let front = map pair c.loop-number.known.items in
    elim c.if-not-is_clock.branch [
      | then-not-is_clock+in_ok-push w ↦ (
          let f = w.index.result.now in
          let own : get_or list k f ≡ f = sym (w.index.ensures ∙ ap (λ (g : Feeds). get_or g.list k f) same) in
          let last = w.known_of.result in
          let more = known_more clock list k f all front low own (pair last) (sym clocked ∙ w.if-not-is_clock.true) (λ i. (w.known_of.ensures.commands i, w.known_of.ensures.last i)) c.loop-number.invariant in
          let pushed : map pair w.push.new.self.items ≡ front ++ pair last ∷ [] = ap (map pair) w.in_ok-push.ensures.items ∙ map-append pair c.loop-number.known.items (last ∷ []) in
          subst (λ (v : List Known). map pair v ++ later ≡ all) (sym (ap (λ v. v.items) w.known-is)) (ap (λ (l : List (ℕ × List ℕ)). l ++ later) pushed ∙ more))
      | else-not-is_clock w ↦ (
          let passed = known_same clock list k all front low (sym clocked ∙ w.if-not-is_clock.false) c.loop-number.invariant in
          subst (λ (v : List Known). map pair v ++ later ≡ all) (sym (ap (λ v. v.items) w.known-is)) passed)
    ]
