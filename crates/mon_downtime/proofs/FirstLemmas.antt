-- The first of events in order is the least of all that can happen; and what is kept at first.
use Rattle.std.proofs.Common.{◌≡◌, ℕ, Bool, true, false, cond, ◌||◌, List, [], ◌∷◌, Option, Some, None, refl, ap, sym, ◌∙◌, arith, slice_get}
use Rattle.std.proofs.lemmas.Bool.{or_right}
use Rattle.std.specs.List.{AllByRecursion}
use Rattle.std.proofs.lemmas.Bool.Decides.{nat_tests}
use Rattle.mon_downtime.specs.declared.downtime.Downtime.{Downtime}
use Rattle.mon_downtime.specs.declared.event.Event.{Event}
use Rattle.mon_downtime.specs.declared.event.EventKind.{EventKind}
use Rattle.mon_downtime.specs.declared.event.EventKind.TheVariants.{Ends, Expires, Starts}
use Rattle.mon_downtime.specs.declared.queue.Queue.{Queue}
use Rattle.mon_downtime.specs.Records.{AreNumbered}
use Rattle.mon_downtime.specs.Event.{rank}
use Rattle.mon_downtime.specs.Events.{before, first_of, least, events, due, if_by}
use Rattle.mon_downtime.specs.Order.{same, has, Ascending, AreInOrder}
use Rattle.mon_downtime.specs.Queue.{IsQueue, queued}
use Rattle.mon_downtime.specs.Listed.{is_event, IsListed}
use Rattle.mon_downtime.specs.Depths.{AreDepths}
use Rattle.mon_downtime.specs.Waiting.{AreWaiting}
use Rattle.mon_downtime.specs.declared.kept.RecordIndex.{RecordIndex}
use Rattle.mon_downtime.specs.Kept.{AreKept}
use Rattle.mon_downtime.proofs.EventLemmas.{before_neg_trans}
use Rattle.mon_downtime.proofs.ListedLemmas.{events_by_id, same_itself}

-- what is least among events: one that none comes before
LeastIs : List Event → Option Event → Type 0
LeastIs es None = (e : Event) → has es e ≡ false
LeastIs es (Some x) = (has es x ≡ true) × ((e : Event) → has es e ≡ true → before e x ≡ false)

same_not_before : (x e : Event) → same x e ≡ true → before e x ≡ false
same_not_before x e h = grind (arith, nat_tests)

or_cases : (P : Type 0) (a b : Bool) → (a || b) ≡ true → (a ≡ true → P) → (b ≡ true → P) → P
or_cases P true b h f g = f refl
or_cases P false b h f g = g h

itself : (x : Event) (b : Bool) → (same x x || b) ≡ true
itself x b = let s = same_itself x in rw s refl

least_is : (es : List Event) → LeastIs es (least es)
unfolding least has LeastIs
least_is [] = λ e. refl
least_is (x ∷ es) = by_rest (least es) (least_is es)
  where
    behind : (x y e : Event) → before y x ≡ true → same x e ≡ true → before e y ≡ false
    behind x y e h k = grind (arith, nat_tests)

    by_test : (y : Event) (b : Bool) → before y x ≡ b → LeastIs es (Some y) → LeastIs (x ∷ es) (Some (cond b y x))
    by_test y true h r = (or_right (same x y) (has es y) r.0, λ e k. or_cases (before e y ≡ false) (same x e) (has es e) k (λ s. behind x y e h s) (λ m. r.1 e m))
    by_test y false h r = (itself x (has es x), λ e k. or_cases (before e x ≡ false) (same x e) (has es e) k (λ s. same_not_before x e s) (λ m. before_neg_trans x y e h (r.1 e m)))

    by_rest : (r : Option Event) → LeastIs es r → LeastIs (x ∷ es) (first_of (Some x) r)
    by_rest None r = (itself x (has es x), λ e k. or_cases (before e x ≡ false) (same x e) (has es e) k (λ s. same_not_before x e s) (λ m. absurd (let n = r e in cc)))
    by_rest (Some y) r = by_test y (before y x) refl r

after_has : (x e : Event) (es : List Event) → AllByRecursion (λ y. before x y ≡ true) es → has es e ≡ true → before e x ≡ false
unfolding has
after_has x e [] w h = absurd (cc)
after_has x e (y ∷ es) w h = or_cases (before e x ≡ false) (same y e) (has es e) h (λ s. behind x y e w.0 s) (λ m. after_has x e es w.1 m)
  where
    behind : (x y e : Event) → before x y ≡ true → same y e ≡ true → before e x ≡ false
    behind x y e h k = grind (arith, nat_tests)

head_is : (es : List Event) → Ascending es → LeastIs es (slice_get es 0)
unfolding has LeastIs
head_is [] w = λ e. refl
head_is (x ∷ es) w = (itself x (has es x), λ e k. or_cases (before e x ≡ false) (same x e) (has es e) k (λ s. same_not_before x e s) (λ m. after_has x e es w.0 m))

rank_one : (k l : EventKind) → rank k ≡ rank l → k ≡ l
rank_one Ends Ends h = refl
rank_one Ends Expires h = absurd (omega arith)
rank_one Ends Starts h = absurd (omega arith)
rank_one Expires Ends h = absurd (omega arith)
rank_one Expires Expires h = refl
rank_one Expires Starts h = absurd (omega arith)
rank_one Starts Ends h = absurd (omega arith)
rank_one Starts Expires h = absurd (omega arith)
rank_one Starts Starts h = refl

one_event : (a b : Event) → before a b ≡ false → before b a ≡ false → a ≡ b
one_event a b h k =
    let moment : a.moment ≡ b.moment = grind (arith, nat_tests) in
    let kind : rank a.kind ≡ rank b.kind = grind (arith, nat_tests) in
    let id : a.id ≡ b.id = grind (arith, nat_tests) in
    equal a b moment (rank_one a.kind b.kind kind) id
  where
    equal : (a b : Event) → a.moment ≡ b.moment → a.kind ≡ b.kind → a.id ≡ b.id → a ≡ b
    equal a b m k i = ap (λ n. record a { moment = n }) m ∙ ap (λ l. record a { moment = b.moment; kind = l }) k ∙ ap (λ n. record b { id = n }) i

one_least : (es fs : List Event) (o p : Option Event) → ((e : Event) → has es e ≡ has fs e) → LeastIs es o → LeastIs fs p → o ≡ p
unfolding LeastIs
one_least es fs None None alike a b = refl
one_least es fs None (Some y) alike a b = absurd (let n = a y in let s = alike y in let h = b.0 in cc)
one_least es fs (Some x) None alike a b = absurd (let n = b x in let s = alike x in let h = a.0 in cc)
one_least es fs (Some x) (Some y) alike a b = ap (λ e. Some e) (one_event x y (b.1 x (sym (alike x) ∙ a.0)) (a.1 y (alike y ∙ b.0)))

pub first_is_due : (ds : List Downtime) (q : Queue) (t : ℕ) → AreNumbered 0 ds → IsListed ds q → if_by t (slice_get (queued q) 0) ≡ due ds t
unfolding due
first_is_due ds q t w listed = ap (if_by t) (one_least (queued q) (events ds) (slice_get (queued q) 0) (least (events ds)) (λ e. listed.exact e ∙ sym (events_by_id ds e w)) (head_is (queued q) listed.queue.ascending) (least_is (events ds)))

pub all_in_order : (ds : List Downtime) (q : Queue) → AreNumbered 0 ds → IsListed ds q → AreInOrder (events ds) (queued q)
all_in_order ds q w listed = record { ascending = listed.queue.ascending; exact = λ e. listed.exact e ∙ sym (events_by_id ds e w) }

-- without records nothing is kept
pub none_are_kept : (kept : RecordIndex) → IsQueue kept.queue → queued kept.queue ≡ [] → kept.links.items ≡ [] → AreDepths [] kept.depths → AreWaiting [] kept.waiting → AreKept [] kept
unfolding has is_event
none_are_kept kept w none no_links counted waiting = record {
  counted = counted;
  waiting = waiting;
  records = tt;
  listed = record { queue = w; exact = λ e. ap (λ es. has es e) none; room = omega arith };
  linked = rw no_links (record { each = refl; latest = λ i l h. absurd (omega arith); earlier = λ i l h some. absurd (omega arith) });
  marked = rw no_links (λ x some h. absurd (cc));
}
