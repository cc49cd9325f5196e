-- Each step on the word of a board keeps its rule.
use Rattle.std.proofs.Common.{◌≡◌, ◌≢◌, ℕ, zero, suc, true, true≢false, List, [], ◌∷◌, set, slice_index, slice_set, sym, refl, ap, ◌∙◌, subst, ⊎_elim, append-nil, arith}
use mathlib.Core.Option.{some, some-injective, some-ne-none}
use lib.ListN.{get_elem?}
use Rattle.atomic_table.specs.Table.{opening, keeps, Allows, Splits, Joins}
use Rattle.atomic_table.proofs.Lists.{at_set, at_snoc}
use Rattle.mon_inventory.specs.Configuration.{Configuration}
use Rattle.cmd_types.specs.declared.entry.Entry.{Entry}
use Rattle.cmd_dispatch.specs.declared.board_rule.SeatView.{SeatView}
use Rattle.cmd_dispatch.specs.Delivered.{BeginsWith}
use Rattle.cmd_dispatch.specs.BoardViews.{ArePrefixes, Shows, writer_view, reader_view, spent, keeping, Sat, Published, Looked, Checked}
use Rattle.mon_engine.specs.declared.figures.Figures.{Figures}
use Rattle.mon_engine.specs.Figures.{figures, NothingIsCountedAtFirst}
use Rattle.mon_engine.specs.Step.{meaning, meaning_from}
use Rattle.cmd_dispatch.specs.Word.{IsSmall, word}
use Rattle.cmd_dispatch.specs.BoardRule.{Fits, Ruled}
use Rattle.cmd_dispatch.proofs.CutLemmas.{begins_twice}

itself : (list : List Entry) → BeginsWith list list
itself list = ([], sym (append-nil list))

All : (ℕ → SeatView → Type 0) → List SeatView → Type 0
All F views = (j : ℕ) (u : SeatView) → get_elem? views j ≡ some u → F j u

all_set : (F : ℕ → SeatView → Type 0) (views : List SeatView) (i : ℕ) (w : SeatView) → F i w → ((j : ℕ) (u : SeatView) → j ≢ i → get_elem? views j ≡ some u → F j u) → (j : ℕ) (u : SeatView) → get_elem? (set views i w) j ≡ some u → F j u
all_set F views i w mine others j u e = ⊎_elim (λ (x : (j ≡ i) × (w ≡ u)). subst (λ (y : ℕ × SeatView). F y.0 y.1) (λ k. (sym x.0 k, x.1 k)) mine)
    (λ (x : (j ≢ i) × (get_elem? views j ≡ some u)). others j u x.0 x.1) (at_set views i j w u e)

-- reading and writing a table of one word
read_one : (words : List ℕ) (n : ℕ) → words ≡ n ∷ [] → slice_index words 0 ≡ n
read_one words n e = ap (λ l. slice_index l 0) e

write_one : (words : List ℕ) (n m : ℕ) → words ≡ n ∷ [] → slice_set words 0 m ≡ m ∷ []
write_one words n m e = ap (λ l. slice_set l 0 m) e

write_same : (words : List ℕ) (n : ℕ) → words ≡ n ∷ [] → slice_set words 0 (slice_index words 0) ≡ n ∷ []
write_same words n e = ap (λ l. slice_set l 0 (slice_index l 0)) e

pub begins : (inventory : Configuration) → Shows inventory [] 0 → Ruled inventory (opening (0 ∷ []) [] (writer_view inventory [] []))
begins inventory shows = record {
  writer = 0;
  published = [];
  found = 0;
  words = refl;
  shows = shows;
  fits = first;
}
  where
    v : SeatView
    v = writer_view inventory [] []

    first : (j : ℕ) (u : SeatView) → get_elem? (v ∷ []) j ≡ some u → Fits inventory 0 [] j u
    first zero u e = subst (λ x. Fits inventory 0 [] 0 x) (some-injective v u e) ((λ _. (refl, refl, refl, λ i front at. absurd (some-ne-none front (sym at)))), λ r. absurd (true≢false (sym r)))
    first (suc j) u e = absurd (some-ne-none u (sym e))

pub publishes : (inventory : Configuration) (slots seat : ℕ) (me : Sat) (list : List Entry) (found : ℕ) → me.0.writes ≡ true → BeginsWith list me.0.published → Shows me.0.inventory list found
    → Allows (Ruled inventory) slots seat me 0 (λ _. found) (λ _. Published list me)
publishes inventory slots seat me list found may more shows s r deep at fit =
    let v : SeatView = me.0 in
    let w : SeatView = writer_view v.inventory list v.kept in
    let mine = (r.fits seat v at).0 may in
    let grown : BeginsWith list r.published = subst (λ l. BeginsWith list l) mine.2 more in (
      w,
      keeps,
      tt,
      record {
        writer = r.writer;
        published = list;
        found = found;
        words = write_one s.words r.found found r.words;
        shows = subst (λ l. Shows l list found) mine.1 shows;
        fits = all_set (Fits inventory r.writer list) s.views seat w
            ((λ _. (mine.0, mine.1, refl, λ i front there. begins_twice list r.published front grown (mine.3 i front there))), λ e. absurd (true≢false (sym e)))
            (λ j u other e. (
              (λ writes. absurd (other (((r.fits j u e).0 writes).0 ∙ sym mine.0))),
              λ reads. let theirs = (r.fits j u e).1 reads in (theirs.0, begins_twice list r.published u.seen grown theirs.1),
            ));
      },
      refl,
    )

pub looks : (inventory : Configuration) (slots seat : ℕ) (me : Sat) → me.0.reads ≡ true → Allows (Ruled inventory) slots seat me 0 (λ n. n) (Looked me)
looks inventory slots seat me may s r deep at fit =
    let v : SeatView = me.0 in
    let w : SeatView = reader_view v.inventory r.published in
    let mine = (r.fits seat v at).1 may in (
      w,
      keeps,
      tt,
      record {
        writer = r.writer;
        published = r.published;
        found = r.found;
        words = write_same s.words r.found r.words;
        shows = r.shows;
        fits = all_set (Fits inventory r.writer r.published) s.views seat w ((λ e. absurd (true≢false (sym e))), λ _. (mine.0, itself r.published)) (λ j u other e. r.fits j u e);
      },
      (
        r.published,
        refl,
        mine.1,
        subst (λ n. Shows v.inventory r.published n) (sym (read_one s.words r.found r.words)) (subst (λ l. Shows l r.published r.found) (sym mine.0) r.shows),
      ),
    )

pub checks : (inventory : Configuration) (slots seat : ℕ) (me : Sat) → me.0.writes ≡ true → Allows (Ruled inventory) slots seat me 0 (λ n. n) (λ _. Checked me)
checks inventory slots seat me may s r deep at fit =
    let v : SeatView = me.0 in
    let mine = (r.fits seat v at).0 may in (
      v,
      keeps,
      tt,
      record {
        writer = r.writer;
        published = r.published;
        found = r.found;
        words = write_same s.words r.found r.words;
        shows = r.shows;
        fits = all_set (Fits inventory r.writer r.published) s.views seat v (r.fits seat v at) (λ j u other e. r.fits j u e);
      },
      (refl, λ i front there. subst (λ l. BeginsWith l front) (sym mine.2) (mine.3 i front there)),
    )

pub splits : (inventory : Configuration) (seat : ℕ) (v : SeatView) → v.writes ≡ true → Splits (Ruled inventory) seat v v (reader_view v.inventory v.published)
splits inventory seat v may s r at =
    let mine = (r.fits seat v at).0 may in
    let new : SeatView = reader_view v.inventory v.published in
    let kept : (j : ℕ) (u : SeatView) → get_elem? (set s.views seat v) j ≡ some u → Fits inventory r.writer r.published j u =
    all_set (Fits inventory r.writer r.published) s.views seat v (r.fits seat v at) (λ j u other e. r.fits j u e) in
    record {
      writer = r.writer;
      published = r.published;
      found = r.found;
      words = r.words;
      shows = r.shows;
      fits = λ j u e. ⊎_elim (λ (old : get_elem? (set s.views seat v) j ≡ some u). kept j u old)
          (λ (same : new ≡ u). subst (λ x. Fits inventory r.writer r.published j x) same ((λ x. absurd (true≢false (sym x))), λ _. (mine.1, subst (λ l. BeginsWith l v.published) mine.2 (itself v.published))))
          (at_snoc (set s.views seat v) new u j e);
    }

pub joins : (inventory : Configuration) (seat : ℕ) (v : SeatView) (other : ℕ) (w : SeatView) → v.writes ≡ true → w.reads ≡ true → Joins (Ruled inventory) seat v other w (keeping v w) spent
joins inventory seat v other w may reads s r at apart there =
    let mine = (r.fits seat v at).0 may in
    let both : SeatView = keeping v w in
    let was : get_elem? s.views other ≡ some w = ⊎_elim (λ (x : (other ≡ seat) × (both ≡ w)). absurd (apart x.0)) (λ (x : (other ≢ seat) × (get_elem? s.views other ≡ some w)). x.1) (at_set s.views seat other both w there) in
    let theirs = (r.fits other w was).1 reads in
    record {
      writer = r.writer;
      published = r.published;
      found = r.found;
      words = r.words;
      shows = r.shows;
      fits = all_set (Fits inventory r.writer r.published) (set s.views seat both) other spent ((λ x. absurd (true≢false (sym x))), λ x. absurd (true≢false (sym x)))
          (λ j u far e. all_set (Fits inventory r.writer r.published) s.views seat both ((λ _. (mine.0, mine.1, mine.2, each r.published theirs.1 mine.3)), λ x. absurd (true≢false (sym x))) (λ k x out f. r.fits k x f) j u e);
    }
  where
    each : (published : List Entry) → BeginsWith published w.seen → ArePrefixes v.kept published → ArePrefixes (w.seen ∷ v.kept) published
    each published seen kept zero front e = subst (λ l. BeginsWith published l) (some-injective w.seen front e) seen
    each published seen kept (suc i) front e = kept i front e

-- the first kept list of a checked seat is a prefix of the published list
pub gathered : (v w : SeatView) (m n : Sat) (slots : List (ℕ × ℕ)) → m ≡ (keeping v w, slots) → Checked m n → BeginsWith v.published w.seen
gathered v w m n slots e c = (subst (λ (x : Sat). ArePrefixes x.0.kept x.0.published) e c.1) 0 w.seen refl

-- nothing is published at first
pub empty_shows : NothingIsCountedAtFirst → (inv : Configuration) → Shows inv [] 0
unfolding meaning_from
empty_shows first inv =
    let zero : Figures = record { entries = 0; problems = 0; acknowledged = 0; in_downtime = 0 } in
    let at : figures (meaning inv []) ≡ zero = first inv in
    record {
      word_is = sym (ap word at);
      small = subst (λ (f : Figures). IsSmall f) (sym at) (record { entries = omega arith; problems = omega arith; acknowledged = omega arith; in_downtime = omega arith });
      entries = ap (λ (f : Figures). f.entries) at;
    }
