-- Why `renew` keeps its contract.
use Rattle.std.proofs.Common.{◌≡◌, ◌<◌, ◌+◌, List, length, map, drop, get_or, sym, ap, ◌∙◌, arith}
use Rattle.std.proofs.lemmas.List.{length-map, get_or-map}
use Rattle.mon_state.specs.Feeds.{Feeds}
use Rattle.mon_state.specs.declared.feeds.KeptFeed.{KeptFeed}
use Rattle.gateway.specs.KnownFeeds.{renewed}
use Rattle.gateway.proofs.KnownLemmas.{renew_anew, renew_same, as_many, get_own}
use Rattle.gateway.proofs.keeping.known.renew.Goals as goal
use Rattle.gateway.proofs.keeping.known.renew.Goals.{then-begins_anew, else-begins_anew}

pub loop-place-preserved : goal.loop-place-preserved
loop-place-preserved g c =
    let gates = c.args.run.now.signal.gates.items in
    let numbers = map (λ x. x.feed) gates in
    let starts = c.args.starts.now in
    let k = c.loop-place.place in
    let before = c.loop-place.feeds in
    let after = c.if-begins_anew.feeds in
    let so_far = c.loop-place.invariant in
    let count : c.len-place-end.result ≡ length gates = c.len-place-end.ensures ∙ c.args.run.now.signal.gates.ok.0 in
    let within : k < length gates = (let below = c.loop-place-test.true in omega (arith, below, count)) in
    let low : k < length numbers = (let same = length-map gates (λ x. x.feed) in omega (arith, within, same)) in
    elim c.if-begins_anew.branch [
      | then-begins_anew w ↦ (
          let gate = w.index.result.now in
          let own : get_or numbers k gate.feed ≡ gate.feed = get_or-map (λ x. x.feed) gates k gate gate.feed within ∙ ap (λ x. x.feed) (sym w.index.ensures) in
          let list : after.list ≡ w.begin_anew.new.feeds.list = ap (λ (f : Feeds). f.list) w.feeds-is in
          let step = renew_anew numbers starts k gate.feed before.list low own (c.begins_anew.ensures.anew w.if-begins_anew.true) in
          record {
            count = ap (λ (l : List KeptFeed). length l) (list ∙ w.begin_anew.ensures.list) ∙ as_many gate.feed before.list ∙ so_far.count;
            clock = ap (λ (f : Feeds). f.clock) w.feeds-is ∙ w.begin_anew.ensures.clock ∙ so_far.clock;
            list = ap (λ (l : List KeptFeed). renewed (drop (k + 1) numbers) (drop (k + 1) starts) l) (list ∙ w.begin_anew.ensures.list) ∙ sym step ∙ so_far.list;
          })
      | else-begins_anew w ↦ (
          let first = get_or numbers k 0 in
          let step = renew_same numbers starts k first before.list low (get_own numbers k low) (c.begins_anew.ensures.other w.if-begins_anew.false) in
          record {
            count = ap (λ (f : Feeds). length f.list) w.feeds-is ∙ so_far.count;
            clock = ap (λ (f : Feeds). f.clock) w.feeds-is ∙ so_far.clock;
            list = ap (λ (f : Feeds). renewed (drop (k + 1) numbers) (drop (k + 1) starts) f.list) w.feeds-is ∙ sym step ∙ so_far.list;
          })
    ]
