-- The rings of the downtimes that wait: what leaves them, what comes into them, and what a new record does to them.
use Rattle.std.proofs.Common.{◌≡◌, ℕ, ◌+◌, ◌-◌, ◌<◌, ◌≤◌, Bool, true, false, eqb, cond, not, ◌&&◌, List, [], ◌∷◌, ◌++◌, length, get_or, Option, Some, None, refl, ap, sym, ◌∙◌, subst, arith, eq-eqb}
use Rattle.std.proofs.Math.Bool.{and-false}
use Rattle.std.proofs.Common.{◌⊎◌, inl, inr}
use Rattle.std.proofs.lemmas.Bool.{eqb-true, cases_lt, and_parts}
use Rattle.std.proofs.lemmas.Bool.Decides.{nat_tests}
use Rattle.std.proofs.lemmas.List.{length-append, get_or_append_left, get_or_at, get_or_past}
use Rattle.std.proofs.lemmas.List.Elements.{All-push, All-weaker}
use Rattle.mon_downtime.specs.declared.downtime.Downtime.{Downtime}
use Rattle.mon_downtime.specs.declared.rings.Neighbours.{Neighbours}
use Rattle.mon_downtime.specs.declared.rings.Rings.{Rings}
use Rattle.mon_downtime.specs.Records.{record_of, AreNumbered}
use Rattle.mon_downtime.specs.Rings.{awaits, awaits_in, awaits_at, is_in, is_place, IsRing, nobody, at_place, next_of, previous_of, AreRings, AreTied}
use Rattle.mon_downtime.proofs.RecordLemmas.{record_of_earlier, record_of_past}
use Rattle.mon_downtime.proofs.LinkLemmas.{more, record_before}
use Rattle.mon_downtime.proofs.RingLemmas.{unlike, waits_is_place, place_cases, ring_same, ring_less, ring_between}

-- ---- which wait

-- what waits is there
pub awaits_within : (ds : List Downtime) (o x : ℕ) → AreNumbered 0 ds → awaits_at ds o x ≡ true → (0 < x) × (x ≤ length ds)
awaits_within ds o x w h = (by_first (cases_lt 0 x), by_last (cases_lt (length ds) x))
  where
    by_first : (0 < x) ⊎ (x ≤ 0) → 0 < x
    by_first (inl l) = l
    by_first (inr l) = absurd (let none = ap (awaits_in o) (record_of_earlier 0 ds x w (omega arith)) in cc)

    by_last : (length ds < x) ⊎ (x ≤ length ds) → x ≤ length ds
    by_last (inl l) = absurd (let none = ap (awaits_in o) (record_of_past 0 ds x w (omega arith)) in cc)
    by_last (inr l) = l

-- it waits on one object
one_object : (ds : List Downtime) (o p x : ℕ) → awaits_at ds o x ≡ true → awaits_at ds p x ≡ true → o ≡ p
one_object ds o p x h k = by_record (record_of ds x) h k
  where
    its : (d : Downtime) (o : ℕ) (b : Bool) → eqb d.object o ≡ b → (b && awaits d) ≡ true → d.object ≡ o
    its d o true e h = eqb-true d.object o e
    its d o false e h = absurd (cc)

    by_record : (r : Option Downtime) → awaits_in o r ≡ true → awaits_in p r ≡ true → o ≡ p
    by_record None h k = absurd (cc)
    by_record (Some d) h k = sym (its d o (eqb d.object o) refl h) ∙ its d p (eqb d.object p) refl k

pub in_awaits : (ds : List Downtime) (out : ℕ → Bool) (o x : ℕ) → is_in ds out o x ≡ true → awaits_at ds o x ≡ true
in_awaits ds out o x h = (and_parts (awaits_at ds o x) (not (out x)) h).0

pub place_within : (ds : List Downtime) (out : ℕ → Bool) (o p : ℕ) → AreNumbered 0 ds → is_place (is_in ds out o) p ≡ true → p ≤ length ds
place_within ds out o p w h = by_cases (place_cases (is_in ds out o) p h)
  where
    by_cases : (p ≡ 0) ⊎ (is_in ds out o p ≡ true) → p ≤ length ds
    by_cases (inl z) = omega arith
    by_cases (inr k) = (awaits_within ds o p w (in_awaits ds out o p k)).1

-- ---- rings of any members

-- a member has an id above 0, and is in the ring of one object
pub record IsMembership (w : ℕ → ℕ → Bool) : Type 0 where
  pub some : (o x : ℕ) → w o x ≡ true → 0 < x
  pub one : (o p x : ℕ) → w o x ≡ true → w p x ≡ true → o ≡ p

pub membership : (ds : List Downtime) (out : ℕ → Bool) → AreNumbered 0 ds → IsMembership (is_in ds out)
membership ds out n = record {
  some = λ o x h. (awaits_within ds o x n (in_awaits ds out o x h)).0;
  one = λ o p x h k. one_object ds o p x (in_awaits ds out o x h) (in_awaits ds out p x k);
}

abbrev pub HaveRings : (ℕ → ℕ → Bool) → Rings → Type 0
HaveRings w a = (o : ℕ) → IsRing (w o) (next_of a o) (previous_of a o)

pub members_same : (w w2 : ℕ → ℕ → Bool) (a b : Rings) → HaveRings w a → ((o x : ℕ) → w2 o x ≡ w o x) → ((o p : ℕ) → at_place b o p ≡ at_place a o p) → HaveRings w2 b
members_same w w2 a b r same places = λ o. ring_same (w o) (w2 o) (next_of a o) (next_of b o) (previous_of a o) (previous_of b o) (r o) (same o) (λ p h. ap (λ (v : Neighbours). v.next) (places o p)) (λ p h. ap (λ (v : Neighbours). v.previous) (places o p))

-- a place of another object's ring is none of this one's, but for the ends
apart : (w : ℕ → ℕ → Bool) (o object p q : ℕ) → IsMembership w → eqb o object ≡ false → is_place (w object) q ≡ true → w o p ≡ true → eqb p q ≡ false
apart w o object p q m other place waits = unlike p q (λ e. by_cases e (place_cases (w object) q place))
  where
    by_cases : p ≡ q → (q ≡ 0) ⊎ (w object q ≡ true) → ⊥
    by_cases e (inl z) = let some = m.some o p waits in omega arith
    by_cases e (inr k) =
        let is = m.one o object p waits (subst (λ x. w object x ≡ true) (sym e) k) in
        let yes_is : eqb o object ≡ true = grind (arith, nat_tests) in
        absurd (cc)

-- so what is tied in one ring leaves the others
tied_apart : (w : ℕ → ℕ → Bool) (a b : Rings) (object : ℕ) (around to : Neighbours) (o p : ℕ) → IsMembership w → AreTied a b object around to
    → is_place (w object) around.previous ≡ true → is_place (w object) around.next ≡ true → eqb o object ≡ false → is_place (w o) p ≡ true
    → (next_of b o p ≡ next_of a o p) × (previous_of b o p ≡ previous_of a o p)
tied_apart w a b object around to o p m t at_before at_after other place = by_cases (place_cases (w o) p place)
  where
    by_cases : (p ≡ 0) ⊎ (w o p ≡ true) → (next_of b o p ≡ next_of a o p) × (previous_of b o p ≡ previous_of a o p)
    by_cases (inl z) = rw z (t.next_ends o other, t.previous_ends o other)
    by_cases (inr k) = (t.other_nexts o p (apart w o object p around.previous m other at_before k), t.other_previous o p (apart w o object p around.next m other at_after k))

-- what is next to a place is one
pub next_place : (waits : ℕ → Bool) (next previous : ℕ → ℕ) (p : ℕ) → IsRing waits next previous → is_place waits p ≡ true → is_place waits (next p) ≡ true
next_place waits next previous p r h = by_order (cases_lt 0 (next p))
  where
    by_order : (0 < next p) ⊎ (next p ≤ 0) → is_place waits (next p) ≡ true
    by_order (inl l) = waits_is_place waits (next p) ((r.follows p h).one l).1
    by_order (inr l) = let z : eqb (next p) 0 ≡ true = grind (arith, nat_tests) in rw z refl

-- members but for one id
abbrev pub SameBut : ℕ → (ℕ → ℕ → Bool) → (ℕ → ℕ → Bool) → Type 0
SameBut id w w2 = (o x : ℕ) → eqb x id ≡ false → w2 o x ≡ w o x

-- where the id is in no ring of an object before and after, the object's members are the same
same_there : (w w2 : ℕ → ℕ → Bool) (id o : ℕ) → SameBut id w w2 → w o id ≡ false → w2 o id ≡ false → (x : ℕ) → w2 o x ≡ w o x
same_there w w2 id o same was is x = by_test (eqb x id) refl
  where
    by_test : (b : Bool) → eqb x id ≡ b → w2 o x ≡ w o x
    by_test true k = ap (w2 o) (eqb-true x id k) ∙ is ∙ sym was ∙ ap (w o) (sym (eqb-true x id k))
    by_test false k = same o x k

pub members_none : (w w2 : ℕ → ℕ → Bool) (a : Rings) (id : ℕ) → HaveRings w a → SameBut id w w2 → ((o : ℕ) → w o id ≡ false) → ((o : ℕ) → w2 o id ≡ false) → HaveRings w2 a
members_none w w2 a id r same was is = members_same w w2 a a r (λ o. same_there w w2 id o same (was o) (is o)) (λ o p. refl)

-- in another object's ring an id is not
elsewhere : (w : ℕ → ℕ → Bool) (object id o : ℕ) → IsMembership w → w object id ≡ true → eqb o object ≡ false → w o id ≡ false
elsewhere w object id o m h k = by_test (w o id) refl
  where
    by_test : (b : Bool) → w o id ≡ b → w o id ≡ false
    by_test true e = absurd (let is = m.one o object id e h in let yes_is : eqb o object ≡ true = grind (arith, nat_tests) in cc)
    by_test false e = e

pub members_less : (w w2 : ℕ → ℕ → Bool) (a b : Rings) (object id : ℕ) → IsMembership w → HaveRings w a → w object id ≡ true → ((o : ℕ) → w2 o id ≡ false) → SameBut id w w2
    → AreTied a b object (at_place a object id) (at_place a object id) → HaveRings w2 b
members_less w w2 a b object id m r here gone same t = λ o. by_object o (eqb o object) refl
  where
    place : is_place (w object) id ≡ true
    place = waits_is_place (w object) id here

    less : IsRing (w2 object) (next_of b object) (previous_of b object)
    less = ring_less (w object) (w2 object) (next_of a object) (next_of b object) (previous_of a object) (previous_of b object) id (r object) here (m.some object id here) (gone object) (same object) t.next (t.other_nexts object) t.previous (t.other_previous object)

    by_object : (o : ℕ) (c : Bool) → eqb o object ≡ c → IsRing (w2 o) (next_of b o) (previous_of b o)
    by_object o true k = subst (λ x. IsRing (w2 x) (next_of b x) (previous_of b x)) (sym (eqb-true o object k)) less
    by_object o false k =
        let before = (r object).place id place in
        let after = next_place (w object) (next_of a object) (previous_of a object) id (r object) place in
        let apart_is : (p : ℕ) → is_place (w o) p ≡ true → (next_of b o p ≡ next_of a o p) × (previous_of b o p ≡ previous_of a o p) = λ p. tied_apart w a b object (at_place a object id) (at_place a object id) o p m t before after k in
        ring_same (w o) (w2 o) (next_of a o) (next_of b o) (previous_of a o) (previous_of b o) (r o) (same_there w w2 id o same (elsewhere w object id o m here k) (gone o)) (λ p h. (apart_is p h).0) (λ p h. (apart_is p h).1)

-- an id belongs behind this place of the ring
pub record IsBehind (waits : ℕ → Bool) (next : ℕ → ℕ) (before id : ℕ) : Type 0 where
  pub place : is_place waits before ≡ true
  pub low : before < id
  pub high : 0 < next before → id < next before

-- on the way back from the end, the place after is the end or above the id
pub record IsTurned (waits : ℕ → Bool) (next : ℕ → ℕ) (before id : ℕ) : Type 0 where
  pub place : is_place waits before ≡ true
  pub high : 0 < next before → id < next before

pub begins_back : (waits : ℕ → Bool) (next previous : ℕ → ℕ) (id : ℕ) → IsRing waits next previous → IsTurned waits next (previous 0) id
begins_back waits next previous id r = record { place = r.place 0 refl; high = λ l. absurd (let end = r.back 0 refl in omega arith) }

pub goes_back : (waits : ℕ → Bool) (next previous : ℕ → ℕ) (before id : ℕ) → IsRing waits next previous → IsTurned waits next before id → id < before → IsTurned waits next (previous before) id
goes_back waits next previous before id r t h = record { place = r.place before t.place; high = λ l. (let back = r.back before t.place in omega arith) }

pub back_falls : (waits : ℕ → Bool) (next previous : ℕ → ℕ) (before id : ℕ) → IsRing waits next previous → IsTurned waits next before id → id < before → previous before < before
back_falls waits next previous before id r t h =
    let back = r.back before t.place in
    let up = (r.follows (previous before) (r.place before t.place)).one (omega arith) in
    omega (arith, up.0)

pub ends_back : (waits : ℕ → Bool) (next : ℕ → ℕ) (before id : ℕ) → IsTurned waits next before id → before ≤ id → 0 < id → waits id ≡ false → IsBehind waits next before id
ends_back waits next before id t h some absent = record { place = t.place; low = by_order (cases_lt before id); high = t.high }
  where
    by_place : before ≡ id → (before ≡ 0) ⊎ (waits before ≡ true) → ⊥
    by_place e (inl z) = omega arith
    by_place e (inr k) = let no = ap waits e in absurd (cc)

    by_order : (before < id) ⊎ (id ≤ before) → before < id
    by_order (inl l) = l
    by_order (inr l) = absurd (by_place (omega arith) (place_cases waits before t.place))

-- the neighbours of the id were set, and no other
pub record IsSet (a p : Rings) (object id : ℕ) (around : Neighbours) : Type 0 where
  pub there : at_place p object id ≡ around
  pub others : (o q : ℕ) → eqb q id ≡ false → at_place p o q ≡ at_place a o q

pub members_more : (w w2 : ℕ → ℕ → Bool) (a p b : Rings) (object id before : ℕ) → IsMembership w → HaveRings w a → IsBehind (w object) (next_of a object) before id
    → ((o : ℕ) → w o id ≡ false) → w2 object id ≡ true → ((o : ℕ) → eqb o object ≡ false → w2 o id ≡ false) → SameBut id w w2
    → IsSet a p object id (record { next = next_of a object before; previous = before })
    → AreTied p b object (record { next = next_of a object before; previous = before }) (record { next = id; previous = id }) → HaveRings w2 b
members_more w w2 a p b object id before m r at absent new only same s t = λ o. by_object o (eqb o object) refl
  where
    after : ℕ
    after = next_of a object before

    after_place : is_place (w object) (next_of a object before) ≡ true
    after_place = next_place (w object) (next_of a object) (previous_of a object) before (r object) at.place

    -- a place of before is another
    unlike_id : (o q : ℕ) → is_place (w o) q ≡ true → eqb q id ≡ false
    unlike_id o q h = unlike q id (λ e. by_cases e (place_cases (w o) q h))
      where
        by_cases : q ≡ id → (q ≡ 0) ⊎ (w o q ≡ true) → ⊥
        by_cases e (inl z) = let l = at.low in omega arith
        by_cases e (inr k) = let no = ap (w o) e in let none = absent o in absurd (cc)

    not_before : eqb id before ≡ false
    not_before = let l = at.low in unlike id before (λ e. omega arith)

    not_after : eqb id (next_of a object before) ≡ false
    not_after = let k = unlike_id object (next_of a object before) after_place in unlike id (next_of a object before) (λ e. let yes_is = eq-eqb (next_of a object before) id (sym e) in absurd (cc))

    grown : IsRing (w2 object) (next_of b object) (previous_of b object)
    grown = ring_between (w object) (w2 object) (next_of a object) (next_of b object) (previous_of a object) (previous_of b object) id before (r object) at.place at.low at.high
        (absent object) new (same object)
        t.next (t.other_nexts object id not_before ∙ ap (λ (v : Neighbours). v.next) s.there)
        (λ q k j. t.other_nexts object q k ∙ ap (λ (v : Neighbours). v.next) (s.others object q j))
        t.previous (t.other_previous object id not_after ∙ ap (λ (v : Neighbours). v.previous) s.there)
        (λ q k j. t.other_previous object q k ∙ ap (λ (v : Neighbours). v.previous) (s.others object q j))

    by_object : (o : ℕ) (c : Bool) → eqb o object ≡ c → IsRing (w2 o) (next_of b o) (previous_of b o)
    by_object o true k = subst (λ x. IsRing (w2 x) (next_of b x) (previous_of b x)) (sym (eqb-true o object k)) grown
    by_object o false k =
        let apart_is : (q : ℕ) → is_place (w o) q ≡ true → (next_of b o q ≡ next_of p o q) × (previous_of b o q ≡ previous_of p o q) = λ q. tied_apart w p b object (record { next = next_of a object before; previous = before }) (record { next = id; previous = id }) o q m t at.place after_place k in
        ring_same (w o) (w2 o) (next_of a o) (next_of b o) (previous_of a o) (previous_of b o) (r o) (same_there w w2 id o same (absent o) (only o k))
        (λ q h. (apart_is q h).0 ∙ ap (λ (v : Neighbours). v.next) (s.others o q (unlike_id o q h)))
        (λ q h. (apart_is q h).1 ∙ ap (λ (v : Neighbours). v.previous) (s.others o q (unlike_id o q h)))

-- ---- others are left out

-- where those left out are the same among those that wait, so are the rings
pub rings_like : (ds : List Downtime) (out out2 : ℕ → Bool) (a : Rings) → ((o x : ℕ) → awaits_at ds o x ≡ true → out2 x ≡ out x) → AreRings ds out a → AreRings ds out2 a
rings_like ds out out2 a like w = record {
  each = w.each;
  ends = w.ends;
  ring = members_same (is_in ds out) (is_in ds out2) a a w.ring (λ o x. by_test o x (awaits_at ds o x) refl) (λ o p. refl);
}
  where
    by_test : (o x : ℕ) (b : Bool) → awaits_at ds o x ≡ b → is_in ds out2 o x ≡ is_in ds out o x
    by_test o x true k = ap (λ b. awaits_at ds o x && not b) (like o x k)
    by_test o x false k = ap (λ b. b && not (out2 x)) k ∙ sym (ap (λ b. b && not (out x)) k)

-- ---- a new record

-- a place behind the others
place_pushed : (a b : Rings) (o p : ℕ) → b.near.items ≡ a.near.items ++ nobody ∷ [] → b.ends ≡ a.ends → at_place b o p ≡ at_place a o p
place_pushed a b o p near ends = by_end (eqb p 0)
  where
    by_order : (i : ℕ) → (i < length a.near.items) ⊎ (length a.near.items ≤ i) → get_or (a.near.items ++ nobody ∷ []) i nobody ≡ get_or a.near.items i nobody
    by_order i (inl l) = get_or_append_left a.near.items (nobody ∷ []) nobody i l
    by_order i (inr l) = by_last (cases_lt (length a.near.items) i)
      where
        by_last : (length a.near.items < i) ⊎ (i ≤ length a.near.items) → get_or (a.near.items ++ nobody ∷ []) i nobody ≡ get_or a.near.items i nobody
        by_last (inl k) = let long = length-append a.near.items (nobody ∷ []) in get_or_past (a.near.items ++ nobody ∷ []) i nobody (omega arith) ∙ sym (get_or_past a.near.items i nobody l)
        by_last (inr k) = get_or_at a.near.items nobody [] nobody i (omega arith) ∙ sym (get_or_past a.near.items i nobody l)

    by_end : (c : Bool) → cond c (get_or b.ends.items o nobody) (get_or b.near.items (p - 1) nobody) ≡ cond c (get_or a.ends.items o nobody) (get_or a.near.items (p - 1) nobody)
    by_end true = ap (λ v. get_or v.items o nobody) ends
    by_end false = ap (λ (xs : List Neighbours). get_or xs (p - 1) nobody) near ∙ by_order (p - 1) (cases_lt (p - 1) (length a.near.items))

-- a new record that is left out
pub rings_added : (ds : List Downtime) (r : Downtime) (out : ℕ → Bool) (a b : Rings) → AreNumbered 0 (ds ++ r ∷ []) → r.object < length a.ends.items
    → b.near.items ≡ a.near.items ++ nobody ∷ [] → b.ends ≡ a.ends → out r.id ≡ true → AreRings ds out a → AreRings (ds ++ r ∷ []) out b
rings_added ds r out a b n within near ends left w =
    let m = more ds r n in
    record {
      each = ap (λ (xs : List Neighbours). length xs) near ∙ length-append a.near.items (nobody ∷ []) ∙ ap (λ k. k + 1) w.each ∙ sym m.long;
      ends = rw ends (All-push (λ (d : Downtime). d.object < length a.ends.items) ds r w.ends within);
      ring = members_same (is_in ds out) (is_in (ds ++ r ∷ []) out) a b w.ring (λ o x. by_test o x (eqb x r.id) refl) (λ o p. place_pushed a b o p near ends);
    }
  where
    by_test : (o x : ℕ) (b : Bool) → eqb x r.id ≡ b → is_in (ds ++ r ∷ []) out o x ≡ is_in ds out o x
    by_test o x true k =
        let is : out x ≡ true = ap out (eqb-true x r.id k) ∙ left in
        ap (λ b. awaits_at (ds ++ r ∷ []) o x && not b) is ∙ and-false (awaits_at (ds ++ r ∷ []) o x) ∙ sym (ap (λ b. awaits_at ds o x && not b) is ∙ and-false (awaits_at ds o x))
    by_test o x false k = ap (λ b. b && not (out x)) (ap (awaits_in o) (record_before ds r x (let turned : eqb r.id x ≡ false = grind (arith, nat_tests) in turned)))

-- ---- room for more

-- tables that only grew
pub rings_grown : (ds : List Downtime) (out : ℕ → Bool) (a b : Rings) → b.near.items ≡ a.near.items → ((o : ℕ) → get_or b.ends.items o nobody ≡ get_or a.ends.items o nobody) → length a.ends.items ≤ length b.ends.items → AreRings ds out a → AreRings ds out b
rings_grown ds out a b near same more w = record {
  each = ap (λ (xs : List Neighbours). length xs) near ∙ w.each;
  ends = All-weaker (λ (d : Downtime). d.object < length a.ends.items) (λ (d : Downtime). d.object < length b.ends.items) (λ d h. omega arith) ds w.ends;
  ring = members_same (is_in ds out) (is_in ds out) a b w.ring (λ o x. refl) (λ o p. by_end o p (eqb p 0));
}
  where
    by_end : (o p : ℕ) (c : Bool) → cond c (get_or b.ends.items o nobody) (get_or b.near.items (p - 1) nobody) ≡ cond c (get_or a.ends.items o nobody) (get_or a.near.items (p - 1) nobody)
    by_end o p true = same o
    by_end o p false = ap (λ (xs : List Neighbours). get_or xs (p - 1) nobody) near
