-- Figures as one word: 28 bits for the entries, and three times 12 for the counts of objects.
use Rattle.std.specs.Prelude.{◌<◌, ℕ, ◌+◌, ◌*◌, ◌^◌}
use Rattle.mon_engine.specs.declared.figures.Figures.{Figures}

-- ---- of private contracts alone

-- each number has room in the word: 2 ^ 28 is GREATEST_LIMIT + 1 and 2 ^ 12 is MOST_OBJECTS + 1; `store_figures`
-- (src/board.rt) proves this where it calls `word_of`
pub record IsSmall (f : Figures) : Type 0 where
  pub entries : f.entries < 2 ^ 28
  pub problems : f.problems < 2 ^ 12
  pub acknowledged : f.acknowledged < 2 ^ 12
  pub in_downtime : f.in_downtime < 2 ^ 12

-- the count of entries, and below it three counts of 12 bits each; by `IsSmall` no count reaches into the next
abbrev pub word : Figures → ℕ
word f = f.entries * 2 ^ 36 + f.problems * 2 ^ 24 + f.acknowledged * 2 ^ 12 + f.in_downtime
