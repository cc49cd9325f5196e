-- Feeds that were read can be written.
use Rattle.std.proofs.Common.{◌≡◌, ◌<◌, ◌≤◌, ◌+◌, ℕ, zero, suc, Bool, true, false, eqb, if◌then◌else◌, List, [], ◌∷◌, ◌++◌, length, Option, Some, None, Result, Ok, Err, refl, sym, ap, ◌∙◌, subst, arith, length-append}
use Rattle.std.specs.Prelude.{All, IfSome, codes, nat_lt}
use Rattle.std.proofs.lemmas.Bool.{eq-eqb, ltb-true, ltb-false}
use Rattle.std.proofs.lemmas.List.Elements.{All-nil, All-cons, All-append}
use Rattle.cmd_types.specs.declared.limits.TheConstants.{GREATEST_NUMBER}
use Rattle.cmd_types.specs.declared.entry.TheConstants.{MOST_SENDERS}
use Rattle.cmd_types.specs.Bytes.{Lacks}
use Rattle.cmd_types.specs.Cuts.{before, after}
use Rattle.mon_state.specs.declared.fault.StateCause.TheVariants.{BadValue}
use Rattle.mon_state.specs.declared.feeds.KeptFeed.{KeptFeed}
use Rattle.mon_state.specs.Feeds.{Feeds, IsWritable, AreWritable}
use Rattle.mon_state.specs.Reading.{Stuck, ◌>>=◌, ended, field_at, expect_at, number_at, at_most, small_at, optional_at, many_at}
use Rattle.mon_state.specs.FileReading.{feed_at, next_feed, with_clock, feeds_at}

-- ---- one step, and then the others

same_ok : {A : Type 0} (x y : A) → ◌≡◌ {A = Result A Stuck} (Ok x) (Ok y) → x ≡ y
same_ok x y is = cc

no_fault : {A : Type 0} (e : Stuck) (y : A) → ◌≡◌ {A = Result A Stuck} (Err e) (Ok y) → ⊥
no_fault e y is = cc

-- a step that was read, and what was read after it
step : {A B : Type 0} (r : Result A Stuck) (f : A → Result B Stuck) (y : B) → (r >>= f) ≡ Ok y → (x : A) × (r ≡ Ok x) × (f x ≡ Ok y)
step (Ok x) f y is = (x, refl, is)
step (Err e) f y is = absurd (no_fault e y is)

-- ---- a field

before_lacks : (b : ℕ) (text : List ℕ) → Lacks b (before b text)
before_lacks b [] = tt
before_lacks b (x ∷ text) = by_byte (eqb x b) refl (before_lacks b text)
  where
    by_byte : (t : Bool) → eqb x b ≡ t → Lacks b (before b text) → Lacks b (if t then [] else x ∷ before b text)
    by_byte true same more = tt
    by_byte false other more = ((λ is. (let clash : true ≡ false = sym (eq-eqb x b is) ∙ other in cc)), more)

field_lacks : (end : ℕ) (text : List ℕ) (field : List ℕ × List ℕ) → field_at end text ≡ Ok field → Lacks end field.0
unfolding field_at
field_lacks end text field is = by_end (after end text) is
  where
    by_end : (o : Option (List ℕ)) → ended text (before end text) o ≡ Ok field → Lacks end field.0
    by_end None found = absurd (no_fault _ field found)
    by_end (Some rest) found = subst (λ (f : List ℕ × List ℕ). Lacks end f.0) (same_ok (before end text, rest) field found) (before_lacks end text)

small_is : (most end : ℕ) (text : List ℕ) (n : ℕ × List ℕ) → small_at most end text ≡ Ok n → n.0 ≤ most
unfolding small_at
small_is most end text n is = (let read = step (number_at end text) (at_most text most) n is in by_size read.0 (nat_lt most read.0.0) refl read.2)
  where
    by_size : (m : ℕ × List ℕ) (over : Bool) → nat_lt most m.0 ≡ over → ◌≡◌ {A = Result (ℕ × List ℕ) Stuck} (if over then Err (BadValue, text) else Ok m) (Ok n) → n.0 ≤ most
    by_size m true over found = absurd (no_fault _ n found)
    by_size m false over found = subst (λ (k : ℕ × List ℕ). k.0 ≤ most) (same_ok m n found) (ltb-false most m.0 over)

-- ---- a feed

-- the reading of the rest, after each field
abbrev behind_last : (journaled earlier : ℕ) (words : List ℕ) → List ℕ × List ℕ → Result (KeptFeed × List ℕ) Stuck
behind_last journaled earlier words last = Ok (record { words = words; journaled = journaled; earlier = earlier; last = last.0 }, last.1)

abbrev behind_label : (journaled earlier : ℕ) (words : List ℕ) → List ℕ → Result (KeptFeed × List ℕ) Stuck
behind_label journaled earlier words text = field_at 10 text >>= behind_last journaled earlier words

abbrev behind_words : (journaled earlier : ℕ) → List ℕ × List ℕ → Result (KeptFeed × List ℕ) Stuck
behind_words journaled earlier words = expect_at (codes "last;") words.1 >>= behind_label journaled earlier words.0

abbrev behind_earlier : (journaled : ℕ) → ℕ × List ℕ → Result (KeptFeed × List ℕ) Stuck
behind_earlier journaled earlier = field_at 10 earlier.1 >>= behind_words journaled earlier.0

abbrev behind_journaled : ℕ × List ℕ → Result (KeptFeed × List ℕ) Stuck
behind_journaled journaled = small_at journaled.0 59 journaled.1 >>= behind_earlier journaled.0

abbrev behind_number : ℕ × List ℕ → Result (KeptFeed × List ℕ) Stuck
behind_number number = small_at GREATEST_NUMBER 59 number.1 >>= behind_journaled

abbrev behind_word : List ℕ → Result (KeptFeed × List ℕ) Stuck
behind_word text = number_at 59 text >>= behind_number

feed_is : (text : List ℕ) (f : KeptFeed × List ℕ) → feed_at text ≡ Ok f → IsWritable f.0
unfolding feed_at
feed_is text f is =
    let word = step (expect_at (codes "feed;") text) behind_word f is in
    let number = step (number_at 59 word.0) behind_number f word.2 in
    let journaled = step (small_at GREATEST_NUMBER 59 number.0.1) behind_journaled f number.2 in
    let earlier = step (small_at journaled.0.0 59 journaled.0.1) (behind_earlier journaled.0.0) f journaled.2 in
    let words = step (field_at 10 earlier.0.1) (behind_words journaled.0.0 earlier.0.0) f earlier.2 in
    let label = step (expect_at (codes "last;") words.0.1) (behind_label journaled.0.0 earlier.0.0 words.0.0) f words.2 in
    let last = step (field_at 10 label.0) (behind_last journaled.0.0 earlier.0.0 words.0.0) f label.2 in
    subst (λ (g : KeptFeed × List ℕ). IsWritable g.0) (same_ok (record { words = words.0.0; journaled = journaled.0.0; earlier = earlier.0.0; last = last.0.0 }, last.0.1) f last.2) (record {
      words = field_lacks 10 earlier.0.1 words.0 words.1;
      last = field_lacks 10 label.0 last.0 last.1;
      journaled = small_is GREATEST_NUMBER 59 number.0.1 journaled.0 journaled.1;
      earlier = small_is journaled.0.0 59 journaled.0.1 earlier.0 earlier.1;
    })

-- ---- the feeds

many_are : (n : ℕ) (fs : List KeptFeed) (text : List ℕ) (all : List KeptFeed × List ℕ) → many_at next_feed n fs text ≡ Ok all → All IsWritable fs → (length all.0 ≡ length fs + n) × All IsWritable all.0
unfolding many_at
many_are zero fs text all is each = subst (λ (p : List KeptFeed × List ℕ). (length p.0 ≡ length fs + 0) × All IsWritable p.0) (same_ok (fs, text) all is) (omega arith, each)
many_are (suc n) fs text all is each =
    let read = step (next_feed fs text) (λ x. many_at next_feed n (fs ++ x.0 ∷ []) x.1) all is in
    let f = read.0.0 in
    let more = many_are n (fs ++ f ∷ []) read.0.1 all read.2 (All-append IsWritable fs (f ∷ []) each (All-cons IsWritable f [] (feed_is text read.0 read.1) (All-nil IsWritable))) in
    (omega (arith, more.0, length-append fs (f ∷ [])), more.1)

of_clock : (at : List ℕ) (clock : Option ℕ) (count : ℕ) (text : List ℕ) (all : List KeptFeed × List ℕ) → with_clock at clock count text ≡ Ok all → IfSome clock (λ k. k < count) × (many_at next_feed count [] text ≡ Ok all)
of_clock at None count text all is = (tt, is)
of_clock at (Some k) count text all is = by_count (nat_lt k count) refl is
  where
    by_count : (is_one : Bool) → nat_lt k count ≡ is_one → (if is_one then many_at next_feed count [] text else Err (BadValue, at)) ≡ Ok all → (k < count) × (many_at next_feed count [] text ≡ Ok all)
    by_count true within found = (ltb-true k count within, found)
    by_count false past found = absurd (no_fault _ all found)

abbrev behind_list : (clock : Option ℕ) → List KeptFeed × List ℕ → Result (Feeds × List ℕ) Stuck
behind_list clock list = Ok (record { list = list.0; clock = clock }, list.1)

abbrev behind_count : (clock : Option ℕ × List ℕ) → ℕ × List ℕ → Result (Feeds × List ℕ) Stuck
behind_count clock count = with_clock clock.1 clock.0 count.0 count.1 >>= behind_list clock.0

abbrev behind_clock : Option ℕ × List ℕ → Result (Feeds × List ℕ) Stuck
behind_clock clock = small_at MOST_SENDERS 10 clock.1 >>= behind_count clock

abbrev behind_heading : List ℕ → Result (Feeds × List ℕ) Stuck
behind_heading text = optional_at 59 text >>= behind_clock

pub feeds_are_writable : (text rest : List ℕ) (feeds : Feeds) → feeds_at text ≡ Ok (feeds, rest) → AreWritable feeds
unfolding feeds_at
feeds_are_writable text rest feeds is =
    let word = step (expect_at (codes "feeds;") text) behind_heading (feeds, rest) is in
    let clock = step (optional_at 59 word.0) behind_clock (feeds, rest) word.2 in
    let count = step (small_at MOST_SENDERS 10 clock.0.1) (behind_count clock.0) (feeds, rest) clock.2 in
    let list = step (with_clock clock.0.1 clock.0.0 count.0.0 count.0.1) (behind_list clock.0.0) (feeds, rest) count.2 in
    let few = small_is MOST_SENDERS 10 clock.0.1 count.0 count.1 in
    let read = of_clock clock.0.1 clock.0.0 count.0.0 count.0.1 list.0 list.1 in
    let all = many_are count.0.0 [] count.0.1 list.0 read.1 (All-nil IsWritable) in
    let long : count.0.0 ≡ length list.0.0 = (let n = all.0 in omega (arith, n)) in
    subst AreWritable (ap (λ (p : Feeds × List ℕ). p.0) (same_ok (record { list = list.0.0; clock = clock.0.0 }, list.0.1) (feeds, rest) list.2)) (record {
      each = all.1;
      few = omega (arith, few, long);
      clock = subst (λ (n : ℕ). IfSome clock.0.0 (λ k. k < n)) long read.0;
    })
