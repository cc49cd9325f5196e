-- Feeds that are written are read back.
use Rattle.std.proofs.Common.{◌≡◌, ℕ, ◌<◌, ◌≤◌, ◌^◌, List, [], ◌∷◌, ◌++◌, length, get_or, take, drop, Option, Some, None, Result, Ok, slice_get, append_assoc, refl, ap, sym, ◌∙◌, subst, arith}
use Rattle.std.specs.Prelude.{codes, IfSome}
use Rattle.std.specs.Fmt.{decimal}
use Rattle.std.specs.Prelude.{All}
use Rattle.std.proofs.Math.Seq.{drop-append_seam}
use Rattle.std.proofs.lemmas.Bool.{le-ltb, lt-ltb}
use Rattle.std.proofs.lemmas.Option.{slice_get_within, slice_get-get_or, get_or_from_slice_get}
use Rattle.cmd_types.specs.declared.limits.TheConstants.{GREATEST_NUMBER}
use Rattle.cmd_types.specs.declared.entry.TheConstants.{MOST_SENDERS}
use Rattle.mon_engine.specs.Report.{line, each_index, optional}
use Rattle.mon_state.specs.declared.feeds.KeptFeed.{KeptFeed}
use Rattle.mon_state.specs.declared.fault.StateCause.{StateCause}
use Rattle.mon_state.specs.declared.fault.StateCause.TheVariants.{BadLine, BadValue, NotAsWritten, UnknownVersion, Memory}
use Rattle.mon_state.specs.Feeds.{Feeds, feed_lines_of, feed_lines, feeds_text, IsWritable, AreWritable}
use Rattle.mon_state.specs.Reading.{Stuck, small_at, many_at}
use Rattle.mon_state.specs.FileReading.{feed_at, next_feed, with_clock, feeds_at}
use Rattle.mon_state.specs.Cursors.{Fails}
use Rattle.mon_state.proofs.LawLemmas.{line_behind, then, field_gives, expect_gives, number_gives, small_gives, optional_gives}
use Rattle.mon_state.proofs.LineLemmas.{placed_gives}

small_last_gives : (most n : ℕ) (rest : List ℕ) → n ≤ most → n < 10 ^ 18 → small_at most 10 (decimal n ++ 10 ∷ rest) ≡ Ok (n, rest)
unfolding small_at
small_last_gives most n rest few small = rw (number_gives 10 n rest refl small, le-ltb most n few) refl

feed_gives : (k : ℕ) (f : KeptFeed) (rest : List ℕ) → k < 10 ^ 18 → IsWritable f → feed_at (feed_lines_of k (Some f) ++ rest) ≡ Ok (f, rest)
unfolding feed_at
feed_gives k f rest small h =
    let fields = decimal k ∷ decimal f.journaled ∷ decimal f.earlier ∷ f.words ∷ [] in
    let behind = codes "last;" ++ (f.last ++ 10 ∷ rest) in
    let journaled = h.journaled in
    let earlier = h.earlier in
    ap feed_at (append_assoc (line (codes "feed") fields) (line (codes "last") (f.last ∷ [])) rest ∙ ap (λ (t : List ℕ). line (codes "feed") fields ++ t) (line_behind (codes "last") (f.last ∷ []) rest) ∙ line_behind (codes "feed") fields behind)
    ∙ then _ (expect_gives (codes "feed;") (decimal k ++ 59 ∷ (decimal f.journaled ++ 59 ∷ (decimal f.earlier ++ 59 ∷ (f.words ++ 10 ∷ behind)))))
    (then _ (number_gives 59 k (decimal f.journaled ++ 59 ∷ (decimal f.earlier ++ 59 ∷ (f.words ++ 10 ∷ behind))) refl small)
    (then _ (small_gives GREATEST_NUMBER f.journaled (decimal f.earlier ++ 59 ∷ (f.words ++ 10 ∷ behind)) journaled (omega (arith, journaled)))
    (then _ (small_gives f.journaled f.earlier (f.words ++ 10 ∷ behind) earlier (omega (arith, journaled, earlier)))
    (then _ (field_gives 10 f.words behind h.words)
    (then _ (expect_gives (codes "last;") (f.last ++ 10 ∷ rest))
    (then _ (field_gives 10 f.last rest h.last) refl))))))

next_gives : (fs : List KeptFeed) → length fs ≤ MOST_SENDERS → All IsWritable fs → (k : ℕ) (f : KeptFeed) (rest : List ℕ) → slice_get fs k ≡ Some f → next_feed (take k fs) (feed_lines fs k ++ rest) ≡ Ok (f, rest)
unfolding feed_lines
next_gives fs few are k f rest here =
    let low : k < length fs = slice_get_within fs k f here in
    ap (λ (o : Option KeptFeed). feed_at (feed_lines_of k o ++ rest)) here ∙ feed_gives k f rest (omega (arith, low, few)) (subst IsWritable (get_or_from_slice_get fs k f f here) (are k f low))

clock_gives : (at : List ℕ) (clock : Option ℕ) (count : ℕ) (text : List ℕ) → IfSome clock (λ k. k < count) → with_clock at clock count text ≡ many_at next_feed count [] text
clock_gives at None count text known = refl
clock_gives at (Some k) count text known = rw (lt-ltb k count known) refl

small_clock : (clock : Option ℕ) (count : ℕ) → count ≤ MOST_SENDERS → IfSome clock (λ k. k < count) → IfSome clock (λ n. n < 10 ^ 18)
small_clock None count few known = tt
small_clock (Some k) count few known = omega (arith, few, known)

pub feeds_gives : (feeds : Feeds) (rest : List ℕ) → AreWritable feeds → feeds_at (feeds_text feeds ++ rest) ≡ Ok (feeds, rest)
unfolding feeds_at feeds_text
feeds_gives feeds rest h =
    let few = h.few in
    let count = length feeds.list in
    let lines = each_index (feed_lines feeds.list) count in
    let behind = lines ++ rest in
    ap feeds_at (append_assoc (line (codes "feeds") (optional feeds.clock ∷ decimal count ∷ [])) lines rest ∙ line_behind (codes "feeds") (optional feeds.clock ∷ decimal count ∷ []) behind)
    ∙ then _ (expect_gives (codes "feeds;") (optional feeds.clock ++ 59 ∷ (decimal count ++ 10 ∷ behind)))
    (then _ (optional_gives feeds.clock (decimal count ++ 10 ∷ behind) (small_clock feeds.clock count few h.clock))
    (then _ (small_last_gives MOST_SENDERS count behind few (omega (arith, few)))
    (then _ (clock_gives _ feeds.clock count behind h.clock ∙ placed_gives next_feed (feed_lines feeds.list) feeds.list (next_gives feeds.list few h.each) count 0 rest (omega arith))
    refl)))

-- the lines of the feed at an index
pub lines_at : (feeds : List KeptFeed) (n : ℕ) (f d : KeptFeed) → n < length feeds → f ≡ get_or feeds n d → feed_lines_of n (Some f) ≡ feed_lines feeds n
unfolding feed_lines
lines_at feeds n f d low is = ap (λ (x : KeptFeed). feed_lines_of n (Some x)) is ∙ sym (ap (feed_lines_of n) (slice_get-get_or feeds n d low))

-- ---- what a reader returns

fails_memory : {A : Type 0} (e : StateCause) (last : List ℕ) (x : A) (read : Result A Stuck) → Fails e last read → read ≡ Ok x → e ≡ Memory
fails_memory BadLine last x read fails is = absurd (cc)
fails_memory BadValue last x read fails is = absurd (cc)
fails_memory NotAsWritten last x read fails is = absurd (cc)
fails_memory UnknownVersion last x read fails is = absurd fails
fails_memory Memory last x read fails is = refl

pub feeds_fail : (text read rest last : List ℕ) (e : StateCause) (feeds : Feeds) → read ≡ text → Fails e last (feeds_at read) → AreWritable feeds → text ≡ feeds_text feeds ++ rest → e ≡ Memory
feeds_fail text read rest last e feeds same fails h is = fails_memory e last (feeds, rest) (feeds_at read) fails (ap feeds_at (same ∙ is) ∙ feeds_gives feeds rest h)

pub feeds_are : (text read left rest : List ℕ) (got feeds : Feeds) → read ≡ text → feeds_at read ≡ Ok (got, left) → AreWritable feeds → text ≡ feeds_text feeds ++ rest → (got ≡ feeds) × (left ≡ rest)
feeds_are text read left rest got feeds same gives h is =
    (let pair = same_ok (got, left) (feeds, rest) (sym gives ∙ ap feeds_at (same ∙ is) ∙ feeds_gives feeds rest h) in (ap (λ (p : Feeds × List ℕ). p.0) pair, ap (λ (p : Feeds × List ℕ). p.1) pair))
  where
    same_ok : (x y : Feeds × List ℕ) → ◌≡◌ {A = Result (Feeds × List ℕ) Stuck} (Ok x) (Ok y) → x ≡ y
    same_ok x y is = cc

-- the bytes behind equal bytes are the same
pub same_rest : (front a b : List ℕ) → front ++ a ≡ front ++ b → a ≡ b
same_rest front a b is = sym (drop-append_seam front a) ∙ ap (drop (length front)) is ∙ drop-append_seam front b
