use Rattle.std.proofs.Common.{◌≡◌, ◌<◌, ◌≤◌, ◌+◌, ℕ, List, ◌++◌, Bor, IfSome, All, length, map, refl, inl, inr, sym, ap, subst, ◌∙◌, arith, rules, IsPermutation}
use Rattle.std.specs.List.{list_any}
use Rattle.std.proofs.lemmas.Bool.{eqb-true}
use Rattle.std.proofs.lemmas.List.{length-map}
use Rattle.cmd_types.specs.declared.entry.TheConstants.{MOST_SENDERS}
use Rattle.mon_state.specs.declared.feeds.KeptFeed.{KeptFeed}
use Rattle.mon_state.specs.Feeds.{Feeds}
use Rattle.cmd_recovery.specs.Assigns.{places_to, given_places, left_out, AreFit, clocks, new_clocks, word_at, new_feed, asks_anew, Ascend}
use Rattle.cmd_recovery.proofs.OrderLemmas.{places_ascend, new_in_order}
use Rattle.cmd_recovery.proofs.FitLemmas.{fit_length}
use Rattle.cmd_recovery.proofs.UnnamedLemmas.{AllTaken, AreApart, nothing, some_left, some_role, no_role, lacks_one, brings_one, are_unnamed}
use Rattle.cmd_recovery.proofs.AssignedLemmas.{room, all_kept, all_assigned, all_few, all_taken, all_writable, below_all, all_lack, each_lacks}
use Rattle.cmd_recovery.proofs.feeds.assigning.assign.Goals.{then-not-is_feed-via-then-not-is_feed, then-not-is_feed-via-else-not-is_feed+then-has_line_feed, else-not-is_empty-via-then-not-is_empty+else-contains, else-not-is_empty-via-else-not-is_empty}
use Rattle.cmd_recovery.proofs.feeds.assigning.assign.Goals as goal

pub returns-then-not-is_feed-clause-fault : goal.returns-then-not-is_feed-clause-fault
returns-then-not-is_feed-clause-fault c =
    let count : c.len-2.result ≡ length c.args.feeds.now.list = c.len-2.ensures ∙ c.feeds.inside.list.ok.0 ∙ ap (λ (f : Feeds). length f.list) c.feeds.view_is in
    let clock = ap (λ (f : Feeds). f.clock) c.feeds.view_is in
    elim c.then-not-is_feed.branch [
      | then-not-is_feed-via-then-not-is_feed w ↦ inr (inr (λ low. c.is_feed.ensures.none w.if-not-is_feed.true (subst (λ (p : _ × ℕ). IfSome p.0 (λ k. k < p.1)) (λ i. (sym clock i, sym count i)) low)))
      | then-not-is_feed-via-else-not-is_feed+then-has_line_feed w ↦ inr (inl (λ lack. w.has_line_feed.ensures.one w.if-has_line_feed.true (each_lacks c.args.words.now lack)))
    ]

pub take_roles-requires : goal.take_roles-requires
take_roles-requires c = subst (All (λ i. i < length c.args.words.now)) (sym c.in_ok-free.ensures) (below_all (length c.args.words.now) (length c.args.words.now) (omega arith))

pub returns-then-contains-clause-fault : goal.returns-then-contains-clause-fault
returns-then-contains-clause-fault c =
    let words = map (λ (w : Bor (List ℕ)). w.now) c.args.words.now in
    let list = c.feeds.inside.list.items in
    let clock = c.feeds.inside.clock in
    let free = c.take_roles.new.free.items in
    let roles = c.in_ok-roles.roles.items in
    let same_words : length words ≡ length c.args.words.now = length-map c.args.words.now (λ (w : Bor (List ℕ)). w.now) in
    let places : c.in_ok-free.free.items ≡ places_to (length words) = c.in_ok-free.ensures ∙ ap places_to (sym same_words) in
    let fit : AreFit words clock 0 list roles = subst (λ (l : List KeptFeed). AreFit words clock 0 l roles) c.deref.ensures.value c.in_ok-roles.ensures.fit in
    let taken : AllTaken words free (left_out list roles) = subst (λ (l : List KeptFeed). AllTaken words free (left_out l roles)) c.deref.ensures.value c.in_ok-roles.ensures.unnamed in
    let at = some_role _ (λ i. refl) refl roles (ap (list_any _) (sym c.deref-then-not-is_empty.ensures.value) ∙ sym c.contains.ensures.value ∙ c.if-contains.true) in
    inl (
      lacks_one words c.args.feeds.now list clock c.feeds.view_is c.in_ok-free.free.items free places roles fit c.in_ok-roles.ensures.shared taken at.0 at.1,
      brings_one words c.args.feeds.now list clock c.feeds.view_is c.in_ok-free.free.items free places roles fit c.in_ok-roles.ensures.shared taken (λ none. some_left c.take_roles.new.free.items none _ c.take_roles.new.free.ok.0 (sym c.is_empty.ensures ∙ c.if-not-is_empty.true)),
    )

pub add_clock-requires : goal.add_clock-requires
add_clock-requires c =
    let words = map (λ (w : Bor (List ℕ)). w.now) c.args.words.now in
    let list = c.feeds.inside.list.items in
    let clock = c.feeds.inside.clock in
    let same_words : length words ≡ length c.args.words.now = length-map c.args.words.now (λ (w : Bor (List ℕ)). w.now) in
    let count : c.len-2.result ≡ length list = c.len-2.ensures ∙ c.feeds.inside.list.ok.0 in
    let within : IfSome clock (λ k. k < length list) = subst (λ (n : ℕ). IfSome clock (λ k. k < n)) count (c.is_feed.ensures.feed c.if-not-is_feed.false) in
    let places : c.in_ok-free.free.items ≡ places_to (length words) = c.in_ok-free.ensures ∙ ap places_to (sym same_words) in
    let fit : AreFit words clock 0 list c.in_ok-roles.roles.items = subst (λ (l : List KeptFeed). AreFit words clock 0 l c.in_ok-roles.roles.items) c.deref.ensures.value c.in_ok-roles.ensures.fit in
    let shared : IsPermutation c.in_ok-free.free.items (given_places c.in_ok-roles.roles.items ++ c.deref-3.result.now) = subst (λ (l : List ℕ). IsPermutation c.in_ok-free.free.items (given_places c.in_ok-roles.roles.items ++ l)) (sym c.deref-3.ensures.value) c.in_ok-roles.ensures.shared in
    let few : length words + clocks clock c.args.has_clock ≤ MOST_SENDERS = (let most = c.if-words-clock_count.false in omega (arith, most, same_words, c.clock_count.ensures, c.from-most.ensures)) in
    let kept : length list + new_clocks clock c.args.has_clock ≤ MOST_SENDERS = (let most = c.if-len-new_clock_count.false in omega (arith, most, c.len.ensures, c.feeds.inside.list.ok.0, c.new_clock_count.ensures, c.from-most.ensures)) in
    let apart : AreApart c.in_ok-roles.roles.items c.deref-3.result.now = elim c.else-not-is_empty.branch [
      | else-not-is_empty-via-then-not-is_empty+else-contains w ↦ inr (no_role _ refl c.in_ok-roles.roles.items (ap (list_any _) (sym w.deref-then-not-is_empty.ensures.value) ∙ sym w.contains.ensures.value ∙ w.if-contains.false))
      | else-not-is_empty-via-else-not-is_empty w ↦ inl (c.deref-3.ensures.value ∙ nothing c.take_roles.new.free.items (sym c.take_roles.new.free.ok.0 ∙ eqb-true _ 0 (sym c.is_empty.ensures ∙ w.if-not-is_empty.false)))
    ] in
    room words c.args.feeds.now list clock c.args.has_clock c.feeds.view_is within c.in_ok-free.free.items c.deref-3.result.now places c.in_ok-roles.roles.items fit shared c.add_new.new.feeds.items (c.in_ok-add_new.ensures.feeds ∙ ap (λ (l : List KeptFeed). l ++ map (λ i. new_feed (word_at words i)) c.deref-3.result.now) (c.in_ok-list.ensures ∙ c.deref-2.ensures.value)) c.add_new.new.roles.items c.in_ok-add_new.ensures.roles apart few kept

pub returns : goal.returns
returns c =
    let words = map (λ (w : Bor (List ℕ)). w.now) c.args.words.now in
    let list = c.feeds.inside.list.items in
    let clock = c.feeds.inside.clock in
    let roles = c.in_ok-roles.roles.items in
    let left = c.deref-3.result.now in
    let same_words : length words ≡ length c.args.words.now = length-map c.args.words.now (λ (w : Bor (List ℕ)). w.now) in
    let count : c.len-2.result ≡ length list = c.len-2.ensures ∙ c.feeds.inside.list.ok.0 in
    let within : IfSome clock (λ k. k < length list) = subst (λ (n : ℕ). IfSome clock (λ k. k < n)) count (c.is_feed.ensures.feed c.if-not-is_feed.false) in
    let places : c.in_ok-free.free.items ≡ places_to (length words) = c.in_ok-free.ensures ∙ ap places_to (sym same_words) in
    let fit : AreFit words clock 0 list roles = subst (λ (l : List KeptFeed). AreFit words clock 0 l roles) c.deref.ensures.value c.in_ok-roles.ensures.fit in
    let shared : IsPermutation c.in_ok-free.free.items (given_places roles ++ left) = subst (λ (l : List ℕ). IsPermutation c.in_ok-free.free.items (given_places roles ++ l)) (sym c.deref-3.ensures.value) c.in_ok-roles.ensures.shared in
    let few : length words + clocks clock c.args.has_clock ≤ MOST_SENDERS = (let most = c.if-words-clock_count.false in omega (arith, most, same_words, c.clock_count.ensures, c.from-most.ensures)) in
    let kept : length list + new_clocks clock c.args.has_clock ≤ MOST_SENDERS = (let most = c.if-len-new_clock_count.false in omega (arith, most, c.len.ensures, c.feeds.inside.list.ok.0, c.new_clock_count.ensures, c.from-most.ensures)) in
    let apart : AreApart roles left = elim c.else-not-is_empty.branch [
      | else-not-is_empty-via-then-not-is_empty+else-contains w ↦ inr (no_role _ refl roles (ap (list_any _) (sym w.deref-then-not-is_empty.ensures.value) ∙ sym w.contains.ensures.value ∙ w.if-contains.false))
      | else-not-is_empty-via-else-not-is_empty w ↦ inl (c.deref-3.ensures.value ∙ nothing c.take_roles.new.free.items (sym c.take_roles.new.free.ok.0 ∙ eqb-true _ 0 (sym c.is_empty.ensures ∙ w.if-not-is_empty.false)))
    ] in
    let low : All (λ i. i < length words) left = subst (λ (p : ℕ × List ℕ). All (λ i. i < p.0) p.1) (λ i. (sym same_words i, sym c.deref-3.ensures.value i)) c.in_ok-roles.ensures.within in
    let taken : AllTaken words left (left_out list roles) = subst (λ (p : List ℕ × List KeptFeed). AllTaken words p.0 (left_out p.1 roles)) (λ i. (sym c.deref-3.ensures.value i, c.deref.ensures.value i)) c.in_ok-roles.ensures.unnamed in
    let ascend : Ascend left = subst Ascend (sym c.deref-3.ensures.value) (c.in_ok-roles.ensures.ascend (subst Ascend (sym places) (places_ascend (length words)))) in
    let same : length roles ≡ length c.args.feeds.now.list = fit_length words clock 0 list roles fit ∙ ap (λ (f : Feeds). length f.list) c.feeds.view_is in
    let added = c.in_ok-add_new.ensures.feeds ∙ ap (λ (l : List KeptFeed). l ++ map (λ i. new_feed (word_at words i)) left) (c.in_ok-list.ensures ∙ c.deref-2.ensures.value) in
    let all_are_few = all_few words c.args.feeds.now list clock c.args.has_clock c.feeds.view_is within c.in_ok-free.free.items left places roles fit shared c.add_new.new.feeds.items added c.add_new.new.roles.items c.in_ok-add_new.ensures.roles c.add_clock.new.feeds.items c.in_ok-clock.ensures.feeds c.add_clock.new.roles.items c.in_ok-clock.ensures.roles c.in_ok-clock.clock c.in_ok-clock.ensures.clock apart few kept in
    record {
      takes_over = all_taken words c.args.feeds.now list clock c.args.has_clock c.feeds.view_is within c.in_ok-free.free.items left places roles fit shared c.add_new.new.feeds.items added c.add_new.new.roles.items c.in_ok-add_new.ensures.roles c.add_clock.new.feeds.items c.in_ok-clock.ensures.feeds c.add_clock.new.roles.items c.in_ok-clock.ensures.roles c.in_ok-clock.clock c.in_ok-clock.ensures.clock;
      kept = all_kept words c.args.feeds.now list clock c.args.has_clock c.feeds.view_is within c.in_ok-free.free.items left places roles fit shared c.add_new.new.feeds.items added c.add_new.new.roles.items c.in_ok-add_new.ensures.roles c.add_clock.new.feeds.items c.in_ok-clock.ensures.feeds c.add_clock.new.roles.items c.in_ok-clock.ensures.roles c.in_ok-clock.clock c.in_ok-clock.ensures.clock;
      in_order = new_in_order roles c.add_new.new.roles.items c.add_clock.new.roles.items left (asks_anew clock c.args.has_clock) (length c.args.feeds.now.list) same c.in_ok-add_new.ensures.roles c.in_ok-clock.ensures.roles ascend;
      roles = all_assigned words c.args.feeds.now list clock c.args.has_clock c.feeds.view_is within c.in_ok-free.free.items left places roles fit shared c.add_new.new.feeds.items added c.add_new.new.roles.items c.in_ok-add_new.ensures.roles c.add_clock.new.feeds.items c.in_ok-clock.ensures.feeds c.add_clock.new.roles.items c.in_ok-clock.ensures.roles c.in_ok-clock.clock c.in_ok-clock.ensures.clock;
      unnamed = are_unnamed words c.args.feeds.now list clock c.feeds.view_is c.in_ok-free.free.items left places roles fit shared taken c.add_new.new.roles.items c.add_clock.new.roles.items (asks_anew clock c.args.has_clock) c.in_ok-add_new.ensures.roles c.in_ok-clock.ensures.roles apart;
      clock = search rules;
      writable = all_writable words c.args.feeds.now list clock c.args.has_clock c.feeds.view_is within c.in_ok-free.free.items left places roles fit shared c.add_new.new.feeds.items added c.add_new.new.roles.items c.in_ok-add_new.ensures.roles c.add_clock.new.feeds.items c.in_ok-clock.ensures.feeds c.add_clock.new.roles.items c.in_ok-clock.ensures.roles c.in_ok-clock.clock c.in_ok-clock.ensures.clock (all_lack c.args.words.now (c.has_line_feed.ensures.none c.if-has_line_feed.false)) low all_are_few;
      few = all_are_few;
      fault = tt;
    }
