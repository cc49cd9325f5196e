-- What a change of one fate does to the events and the links.
use Rattle.std.proofs.Common.{◌≡◌, ℕ, ◌+◌, ◌≤◌, Bool, true, false, eqb, not, ◌&&◌, ◌||◌, List, length, Option, Some, None, refl, ap, sym, ◌∙◌, arith, eq-eqb}
use Rattle.std.specs.Option.{option_map, option_to_list}
use Rattle.std.specs.Prelude.{vec_capacity, IfSome, IfNone}
use Rattle.std.proofs.Math.Bool.{and-true}
use Rattle.std.proofs.lemmas.Bool.{eqb-true}
use Rattle.std.proofs.lemmas.Bool.Decides.{nat_tests}
use Rattle.std.proofs.lemmas.List.{length-map}
use Rattle.mon_downtime.specs.declared.downtime.Downtime.{Downtime}
use Rattle.mon_downtime.specs.declared.downtime.Fate.{Fate}
use Rattle.mon_downtime.specs.declared.downtime.Fate.TheVariants.{Pending, Active, Over}
use Rattle.mon_downtime.specs.declared.event.Event.{Event}
use Rattle.mon_downtime.specs.declared.links.Link.{Link}
use Rattle.mon_downtime.specs.declared.queue.Queue.{Queue}
use Rattle.mon_downtime.specs.Records.{record_of, with_fate, changed, AreNumbered}
use Rattle.mon_downtime.specs.Problem.{is_pending}
use Rattle.mon_downtime.specs.Order.{has}
use Rattle.mon_downtime.specs.Queue.{IsQueue, queued, in_block_of}
use Rattle.mon_downtime.specs.Cancel.{trigger_of}
use Rattle.mon_downtime.specs.Listed.{starts_in, starts_of, starts_at, is_start, is_last, is_event, hangs_on, rest_of, lasts_in, IsListed, IsPartOf}
use Rattle.mon_downtime.specs.Links.{IsLatest, AreLinked}
use Rattle.mon_downtime.proofs.RecordLemmas.{AreNumbered-with_fate, id_found}
use Rattle.mon_downtime.proofs.CancelLemmas.{trigger_falls}
use Rattle.mon_downtime.proofs.ListedLemmas.{start_other_id, last_other_id, last_is_event, not_both, none_has, one_of, event_is, hung_is_event, others_stay, record_changed, trigger_of_changed}
use Rattle.mon_downtime.proofs.EnterLemmas.{one_alone}
use Rattle.mon_downtime.proofs.RoomLemmas.{fits}

-- ---- links

latest_moved : (ds es : List Downtime) (t k x : ℕ) → ((y : ℕ) → trigger_of es y ≡ trigger_of ds y) → IsLatest ds t k x → IsLatest es t k x
latest_moved ds es t k x same w = record {
  within = w.within;
  one = λ h. same x ∙ w.one h;
  none_after = λ y h l. ap (λ z. eqb z t) (same y) ∙ w.none_after y h l;
}

pub AreLinked-with_fate : (ds : List Downtime) (links : List Link) (id : ℕ) (g : Downtime → Fate) → AreLinked ds links → AreLinked (with_fate ds id g) links
AreLinked-with_fate ds links id g w =
    let long : length (with_fate ds id g) ≡ length ds = length-map ds (changed id g) in
    let same : (y : ℕ) → trigger_of (with_fate ds id g) y ≡ trigger_of ds y = λ y. trigger_of_changed ds id y g in
    record {
      each = w.each ∙ sym long;
      latest = λ i l h. rw long (latest_moved ds (with_fate ds id g) (i + 1) (length ds) _ same (w.latest i l h));
      earlier = λ i l h some. rw (same (i + 1)) (latest_moved ds (with_fate ds id g) (trigger_of ds (i + 1)) i _ same (w.earlier i l h (rw (← same (i + 1)) some)));
    }

-- ---- events

-- the event is left where those of the record and those that hang on it are out
abbrev pub left_of : List Downtime → ℕ → Event → Bool
left_of ds id e = is_event ds e && not (is_start ds id e) && not (is_last ds id e) && not (hangs_on ds id e)

pub left_is : (ds : List Downtime) (id : ℕ) (g : Downtime → Fate) (e : Event) → left_of ds id e ≡ (is_event (with_fate ds id g) e && not (hangs_on (with_fate ds id g) id e) && not (eqb e.id id))
left_is ds id g e = by_test (eqb e.id id) refl
  where
    none_left : (l s h : Bool) (b : Bool) → ((((l || s) && not s) && not l) && not h) ≡ (b && false)
    none_left true true h true = refl
    none_left true true h false = refl
    none_left true false h true = refl
    none_left true false h false = refl
    none_left false true h true = refl
    none_left false true h false = refl
    none_left false false h true = refl
    none_left false false h false = refl

    other : (a b c : Bool) → a ≡ false → b ≡ false → (d : Bool) → ((d && not a) && not b && not c) ≡ (d && not c)
    other true b c h k d = absurd (cc)
    other false true c h k d = absurd (cc)
    other false false c h k true = refl
    other false false c h k false = refl

    shape : (a b c : Bool) → (a && b && (c && true)) ≡ ((a && b) && c)
    shape true true true = refl
    shape true true false = refl
    shape true false c = refl
    shape false b c = refl

    itself : e.id ≡ id → left_of ds id e ≡ (is_event (with_fate ds id g) e && not (hangs_on (with_fate ds id g) id e) && false)
    itself same =
        ap (λ b. ((b && not (is_start ds id e)) && not (is_last ds id e)) && not (hangs_on ds id e)) (event_is ds e ∙ ap (λ x. is_last ds x e || is_start ds x e) same)
        ∙ none_left (is_last ds id e) (is_start ds id e) (hangs_on ds id e) (is_event (with_fate ds id g) e && not (hangs_on (with_fate ds id g) id e))
        ∙ tail (is_event (with_fate ds id g) e) (not (hangs_on (with_fate ds id g) id e))
      where
        tail : (a b : Bool) → ((a && b) && false) ≡ (a && b && false)
        tail true b = refl
        tail false b = refl

    by_test : (b : Bool) → eqb e.id id ≡ b → left_of ds id e ≡ (is_event (with_fate ds id g) e && not (hangs_on (with_fate ds id g) id e) && not b)
    by_test true k = itself (eqb-true e.id id k)
    by_test false k =
        let turned : eqb id e.id ≡ false = grind (arith, nat_tests) in
        let s = start_other_id ds id e turned in
        let l = last_other_id ds id e turned in
        ap (λ b. ((is_event ds e && not b) && not (is_last ds id e)) && not (hangs_on ds id e)) s
        ∙ ap (λ b. ((is_event ds e && true) && not b) && not (hangs_on ds id e)) l
        ∙ drop_true (is_event ds e) (not (hangs_on ds id e))
        ∙ sym (others_stay ds id g e k)
        ∙ add_true (is_event (with_fate ds id g) e) (not (hangs_on (with_fate ds id g) id e))
      where
        drop_true : (a b : Bool) → (((a && true) && true) && b) ≡ (a && b)
        drop_true true b = refl
        drop_true false b = refl

        add_true : (a b : Bool) → (a && b) ≡ (a && b && true)
        add_true true true = refl
        add_true true false = refl
        add_true false b = refl

-- a record that is not pending has no start
start_begun : (ds : List Downtime) (id : ℕ) (fate : Fate) (e : Event) → is_pending fate ≡ false → is_start (with_fate ds id (λ _. fate)) id e ≡ false
unfolding is_start starts_of has
start_begun ds id fate e h = ap (λ (o : Option Downtime). has (starts_in (with_fate ds id (λ _. fate)) o) e) (record_changed ds id id (λ _. fate)) ∙ by_record (record_of ds id) refl
  where
    by_fate : (d : Downtime) (f : Fate) → is_pending f ≡ false → has (starts_at (with_fate ds id (λ _. fate)) d f) e ≡ false
    by_fate d Pending k = absurd (cc)
    by_fate d (Active since until) k = refl
    by_fate d Over k = refl

    by_record : (o : Option Downtime) → record_of ds id ≡ o → has (starts_in (with_fate ds id (λ _. fate)) (option_map (changed id (λ _. fate)) o)) e ≡ false
    by_record None k = refl
    by_record (Some d) k =
        let is : eqb d.id id ≡ true = eq-eqb d.id id (id_found ds id d k) in
        rw is (by_fate (record d { fate = fate }) fate h)

-- no record hangs on itself
hangs_not : (ds : List Downtime) (id : ℕ) (e : Event) → AreNumbered 0 ds → 1 ≤ id → e.id ≡ id → hangs_on ds id e ≡ false
unfolding hangs_on
hangs_not ds id e w first same =
    let falls = trigger_falls ds e.id w in
    let other : eqb (trigger_of ds e.id) id ≡ false = grind (arith, nat_tests) in
    rw other refl

pub whole_is : (ds : List Downtime) (id : ℕ) (fate : Fate) (e : Event) → AreNumbered 0 ds → 1 ≤ id → is_pending fate ≡ false → (hangs_on (with_fate ds id (λ _. fate)) id e || (is_last (with_fate ds id (λ _. fate)) id e || left_of ds id e)) ≡ is_event (with_fate ds id (λ _. fate)) e
whole_is ds id fate e w first begun = ap (λ b. hangs_on (with_fate ds id (λ _. fate)) id e || (is_last (with_fate ds id (λ _. fate)) id e || b)) (left_is ds id (λ _. fate) e) ∙ by_test (eqb e.id id) refl
  where
    itself : e.id ≡ id → (hangs_on (with_fate ds id (λ _. fate)) id e || (is_last (with_fate ds id (λ _. fate)) id e || (is_event (with_fate ds id (λ _. fate)) e && not (hangs_on (with_fate ds id (λ _. fate)) id e) && false))) ≡ is_event (with_fate ds id (λ _. fate)) e
    itself same =
        let no_hang = hangs_not (with_fate ds id (λ _. fate)) id e (AreNumbered-with_fate 0 ds id (λ _. fate) w) first same in
        let no_start = start_begun ds id fate e begun in
        ap (λ b. b || (is_last (with_fate ds id (λ _. fate)) id e || (is_event (with_fate ds id (λ _. fate)) e && not b && false))) no_hang
        ∙ tail (is_last (with_fate ds id (λ _. fate)) id e) (is_event (with_fate ds id (λ _. fate)) e)
        ∙ sym (event_is (with_fate ds id (λ _. fate)) e ∙ ap (λ x. is_last (with_fate ds id (λ _. fate)) x e || is_start (with_fate ds id (λ _. fate)) x e) same ∙ ap (λ b. is_last (with_fate ds id (λ _. fate)) id e || b) no_start)
      where
        tail : (l v : Bool) → (l || ((v && true) && false)) ≡ (l || false)
        tail true v = refl
        tail false true = refl
        tail false false = refl

    other : (h l v : Bool) → l ≡ false → (h ≡ true → v ≡ true) → (h || (l || (v && not h && true))) ≡ v
    other h true v k in_v = absurd (cc)
    other true false v k in_v = sym (in_v refl)
    other false false true k in_v = refl
    other false false false k in_v = refl

    by_test : (b : Bool) → eqb e.id id ≡ b → (hangs_on (with_fate ds id (λ _. fate)) id e || (is_last (with_fate ds id (λ _. fate)) id e || (is_event (with_fate ds id (λ _. fate)) e && not (hangs_on (with_fate ds id (λ _. fate)) id e) && not b))) ≡ is_event (with_fate ds id (λ _. fate)) e
    by_test true k = itself (eqb-true e.id id k)
    by_test false k =
        let turned : eqb id e.id ≡ false = grind (arith, nat_tests) in
        other (hangs_on (with_fate ds id (λ _. fate)) id e) (is_last (with_fate ds id (λ _. fate)) id e) (is_event (with_fate ds id (λ _. fate)) e) (last_other_id (with_fate ds id (λ _. fate)) id e turned) (λ h. hung_is_event (with_fate ds id (λ _. fate)) id e h)

-- ---- what the calls ask

pub left_is_event : (ds : List Downtime) (id : ℕ) (g : Downtime → Fate) (e : Event) → left_of ds id e ≡ true → is_event (with_fate ds id g) e ≡ true
left_is_event ds id g e h = first (is_event (with_fate ds id g) e) (not (hangs_on (with_fate ds id g) id e)) (not (eqb e.id id)) (sym (left_is ds id g e) ∙ h)
  where
    first : (a b c : Bool) → ((a && b) && c) ≡ true → a ≡ true
    first true b c k = refl
    first false b c k = absurd (cc)

pub last_not_left : (ds : List Downtime) (id : ℕ) (g : Downtime → Fate) (e : Event) → is_last (with_fate ds id g) id e ≡ true → left_of ds id e ≡ false
last_not_left ds id g e h = left_is ds id g e ∙ by_test (eqb e.id id) refl
  where
    none : (a b : Bool) → (a && b && false) ≡ false
    none true true = refl
    none true false = refl
    none false b = refl

    by_test : (b : Bool) → eqb e.id id ≡ b → (is_event (with_fate ds id g) e && not (hangs_on (with_fate ds id g) id e) && not b) ≡ false
    by_test true k = none (is_event (with_fate ds id g) e) (not (hangs_on (with_fate ds id g) id e))
    by_test false k = absurd (let turned : eqb id e.id ≡ false = grind (arith, nat_tests) in let other = last_other_id (with_fate ds id g) id e turned in cc)

pub hung_not_put : (ds : List Downtime) (id : ℕ) (g : Downtime → Fate) (e : Event) → AreNumbered 0 ds → 1 ≤ id → hangs_on (with_fate ds id g) id e ≡ true → (is_last (with_fate ds id g) id e || left_of ds id e) ≡ false
hung_not_put ds id g e w first h = ap (λ b. is_last (with_fate ds id g) id e || b) (left_is ds id g e ∙ ap (λ b. (is_event (with_fate ds id g) e && not b) && not (eqb e.id id)) h ∙ none (is_event (with_fate ds id g) e) (not (eqb e.id id))) ∙ by_test (eqb e.id id) refl
  where
    none : (a b : Bool) → ((a && false) && b) ≡ false
    none true b = refl
    none false b = refl

    by_test : (b : Bool) → eqb e.id id ≡ b → (is_last (with_fate ds id g) id e || false) ≡ false
    by_test true k = absurd (let other = hangs_not (with_fate ds id g) id e (AreNumbered-with_fate 0 ds id g w) first (eqb-true e.id id k) in cc)
    by_test false k =
        let turned : eqb id e.id ≡ false = grind (arith, nat_tests) in
        let other = last_other_id (with_fate ds id g) id e turned in
        rw other refl

-- the queue where those are out
pub left_is_part : (ds : List Downtime) (id : ℕ) (g : Downtime → Fate) (q p : Queue) → IsListed ds q → IsQueue p → vec_capacity p.list ≡ vec_capacity q.list → ((e : Event) → has (queued p) e ≡ left_of ds id e) → IsPartOf (with_fate ds id g) p
left_is_part ds id g q p listed queue room is = record {
  queue = queue;
  some = λ e h. left_is_event ds id g e (sym (is e) ∙ h);
  room = rw (room, length-map ds (changed id g)) listed.room;
}

-- the last event of the record is still there
pub last_stays : (ds : List Downtime) (id : ℕ) (e : Event) → AreNumbered 0 ds → 1 ≤ id → is_last ds id e ≡ true → rest_of ds id e ≡ true
last_stays ds id e w first h = by_test (eqb id e.id) refl (last_is_event ds id e h) (not_both ds id e h)
  where
    by_test : (b : Bool) → eqb id e.id ≡ b → is_event ds e ≡ true → is_start ds id e ≡ false → rest_of ds id e ≡ true
    by_test true k event no_start = let no_hang = hangs_not ds id e w first (sym (eqb-true id e.id k)) in rw (event, no_start, no_hang) refl
    by_test false k event no_start = absurd (let other = last_other_id ds id e k in cc)

-- and once it is out, none of the record is
pub left_by : (ds : List Downtime) (id : ℕ) (q : Queue) (o : Option Event) (e : Event) → has (queued q) e ≡ rest_of ds id e → option_to_list o ≡ lasts_in (record_of ds id) → (has (queued q) e && not (has (option_to_list o) e)) ≡ left_of ds id e
unfolding is_last
left_by ds id q o e rest last =
    ap (λ b. b && not (has (option_to_list o) e)) rest
    ∙ ap (λ b. rest_of ds id e && not b) (sym (none_has o _ e last))
    ∙ turned (is_event ds e) (is_start ds id e) (is_last ds id e) (hangs_on ds id e)
  where
    turned : (v s l h : Bool) → (((v && not s) && not h) && not l) ≡ (((v && not s) && not l) && not h)
    turned false s l h = refl
    turned true true l h = refl
    turned true false true true = refl
    turned true false true false = refl
    turned true false false true = refl
    turned true false false false = refl

-- where the record has no last event, nothing else has to be out
pub left_alone : (ds : List Downtime) (id : ℕ) (q : Queue) (o : Option Event) (e : Event) → o ≡ None → has (queued q) e ≡ rest_of ds id e → option_to_list o ≡ lasts_in (record_of ds id) → has (queued q) e ≡ left_of ds id e
unfolding has
left_alone ds id q o e none rest last =
    sym (and-true (has (queued q) e))
    ∙ ap (λ (p : Option Event). has (queued q) e && not (has (option_to_list p) e)) (sym none)
    ∙ left_by ds id q o e rest last

-- the queue with the new last event in
pub put_is_part : (ds : List Downtime) (id : ℕ) (g : Downtime → Fate) (q p : Queue) → IsListed ds q → IsQueue p → vec_capacity p.list ≡ vec_capacity q.list → ((e : Event) → has (queued p) e ≡ (is_last (with_fate ds id g) id e || left_of ds id e)) → IsPartOf (with_fate ds id g) p
put_is_part ds id g q p listed queue room is = record {
  queue = queue;
  some = λ e h. by_test e (is_last (with_fate ds id g) id e) refl (sym (is e) ∙ h);
  room = rw (room, length-map ds (changed id g)) listed.room;
}
  where
    by_test : (e : Event) (b : Bool) → is_last (with_fate ds id g) id e ≡ b → (b || left_of ds id e) ≡ true → is_event (with_fate ds id g) e ≡ true
    by_test e true k h = last_is_event (with_fate ds id g) id e k
    by_test e false k h = left_is_event ds id g e h

-- ---- what the exchange of the last event asks, and what it makes

-- q is the queue of the records without the starts of one, which had the last event before and has the last event after
pub record IsExchange (ds : List Downtime) (id : ℕ) (fate : Fate) (all q : Queue) (before after : Option Event) : Type 0 where
  pub numbered : AreNumbered 0 ds
  pub first : 1 ≤ id
  pub listed : IsListed ds all
  pub queue : IsQueue q
  pub room : vec_capacity q.list ≡ vec_capacity all.list
  pub rest : (e : Event) → has (queued q) e ≡ rest_of ds id e
  pub before_is : option_to_list before ≡ lasts_in (record_of ds id)
  pub after_is : option_to_list after ≡ lasts_in (record_of (with_fate ds id (λ _. fate)) id)

pub old_there : (ds : List Downtime) (id : ℕ) (fate : Fate) (all q : Queue) (before after : Option Event) → IsExchange ds id fate all q before after → IfSome before (λ o. has (queued q) o ≡ true)
unfolding is_last
old_there ds id fate all q before after w = one_of before _ (λ o. has (queued q) o ≡ true) w.before_is (λ e h. w.rest e ∙ last_stays ds id e w.numbered w.first h)

pub new_absent : (ds : List Downtime) (id : ℕ) (fate : Fate) (all q : Queue) (before after : Option Event) → IsExchange ds id fate all q before after → IfSome after (λ n. (has (queued q) n && not (has (option_to_list before) n)) ≡ false)
unfolding is_last
new_absent ds id fate all q before after w = one_of after _ (λ n. (has (queued q) n && not (has (option_to_list before) n)) ≡ false) w.after_is (λ e h. left_by ds id q before e (w.rest e) w.before_is ∙ last_not_left ds id (λ _. fate) e h)

pub room_for_new : (ds : List Downtime) (id : ℕ) (fate : Fate) (all q : Queue) (before after : Option Event) → IsExchange ds id fate all q before after → IfNone before (IfSome after (λ _. length (queued q) + 1 ≤ vec_capacity q.list))
unfolding is_last
room_for_new ds id fate all q before after w = by_option before refl
  where
    room : before ≡ None → IfSome after (λ _. length (queued q) + 1 ≤ vec_capacity q.list)
    room none =
        let alone : (e : Event) → has (queued q) e ≡ left_of ds id e = λ e. left_alone ds id q before e none (w.rest e) w.before_is in
        let is : (e : Event) → in_block_of after 1 e ≡ is_last (with_fate ds id (λ _. fate)) id e = λ e. one_alone after _ e w.after_is in
        fits (with_fate ds id (λ _. fate)) q after 1 (AreNumbered-with_fate 0 ds id (λ _. fate) w.numbered) (left_is_part ds id (λ _. fate) all q w.listed w.queue w.room alone)
        (λ e h. last_is_event (with_fate ds id (λ _. fate)) id e (sym (is e) ∙ h))
        (λ e h. alone e ∙ last_not_left ds id (λ _. fate) e (sym (is e) ∙ h))

    by_option : (o : Option Event) → before ≡ o → IfNone o (IfSome after (λ _. length (queued q) + 1 ≤ vec_capacity q.list))
    by_option None k = room k
    by_option (Some x) k = tt

pub exchanged : (ds : List Downtime) (id : ℕ) (fate : Fate) (all q p : Queue) (before after : Option Event) (e : Event) → IsExchange ds id fate all q before after → has (queued p) e ≡ (has (option_to_list after) e || (has (queued q) e && not (has (option_to_list before) e))) → has (queued p) e ≡ (is_last (with_fate ds id (λ _. fate)) id e || left_of ds id e)
unfolding is_last
exchanged ds id fate all q p before after e w is =
    is
    ∙ ap (λ b. b || (has (queued q) e && not (has (option_to_list before) e))) (sym (none_has after _ e w.after_is))
    ∙ ap (λ b. is_last (with_fate ds id (λ _. fate)) id e || b) (left_by ds id q before e (w.rest e) w.before_is)
