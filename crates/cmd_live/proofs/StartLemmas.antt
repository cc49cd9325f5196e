-- Where the reading of a file begins: the bytes of one more read, and the number of commands of a text.
use Rattle.std.proofs.Common.{◌≡◌, ℕ, ◌≤◌, ◌<◌, List, ◌++◌, length, Option, Some, None, refl, ap, ◌∙◌, subst, arith, length-append}
use Rattle.std.specs.Io.KnownBytes.{Consumes}
use Rattle.cmd_types.specs.Spelling.{Timed}
use Rattle.cmd_lines.specs.declared.phase.Phase.{Phase}
use Rattle.cmd_lines.specs.declared.phase.Phase.TheVariants.{Open}
use Rattle.cmd_lines.specs.declared.item.Item.{Item}
use Rattle.cmd_lines.specs.declared.skip.Skipped.{Skipped}
use Rattle.cmd_lines.specs.Items.{commands, items, items_so_far, known}
use Rattle.cmd_lines.specs.Skips.{AreWhole, IsUpTo, IsSkipped}
use Rattle.cmd_recovery.specs.FeedStarts.{HasLine, IsOfAnother}

-- ---- reads

-- the bytes that a read gave are the first of those that were left
pub consumed : (rest : List ℕ) (new : Option (List ℕ)) (bytes : List ℕ) → Consumes (Some rest) new bytes → (left : List ℕ) × (new ≡ Some left) × (rest ≡ bytes ++ left)
consumed rest None bytes gone = absurd gone
consumed rest (Some left) bytes is = (left, refl, is)

-- ---- skipping

abbrev pub TheLinesLaw : Type 0
TheLinesLaw = (p : Phase) (front text : List ℕ) → AreWhole front → commands (known p (front ++ text)) ≡ commands (known p front) ++ commands (known p text)

abbrev pub TheWholeLaw : Type 0
TheWholeLaw = (p : Phase) (front : List ℕ) → AreWhole front → known p front ≡ items front

abbrev pub TheFirstLaw : Type 0
TheFirstLaw = (n : ℕ) (front : List ℕ) (last : Option Timed) → IsUpTo n front last → AreWhole front

abbrev pub TheCountLaw : Type 0
TheCountLaw = (n : ℕ) (front : List ℕ) (last : Option Timed) → IsUpTo n front last → length (commands (items front)) ≡ n

-- a text in which `n` commands are skipped has at least `n` commands
pub has_as_many : TheLinesLaw → TheWholeLaw → TheFirstLaw → TheCountLaw → (n : ℕ) (text : List ℕ) (s : Skipped) → IsSkipped text n s → n ≤ length (commands (items_so_far text))
has_as_many lines whole first count n text s is =
    let are = first n is.front s.last is.up_to in
    let all : commands (items_so_far text) ≡ commands (items_so_far is.front) ++ commands (items_so_far is.rest) = ap (λ (t : List ℕ). commands (items_so_far t)) is.parts ∙ lines Open is.front is.rest are in
    omega (
      arith,
      count n is.front s.last is.up_to,
      ap (λ (l : List Item). length (commands l)) (whole Open is.front are),
      ap (λ (l : List Timed). length l) all,
      length-append (commands (items_so_far is.front)) (commands (items_so_far is.rest)),
    )

-- a text that has fewer commands is that of another file
pub is_of_another : TheLinesLaw → TheWholeLaw → TheFirstLaw → TheCountLaw → (n : ℕ) (text last : List ℕ) → length (commands (items_so_far text)) < n → IsOfAnother text n last
is_of_another lines whole first count n text last fewer = λ bytes number is. absurd (omega (arith, fewer, has_as_many lines whole first count n text (record { bytes = bytes; lines = number; last = is.command }) is.skipped))

-- and so is a text in which the last of the skipped commands is another one
pub other_last : ((n : ℕ) (text : List ℕ) (s s' : Skipped) → IsSkipped text n s → IsSkipped text n s' → s ≡ s') → (n : ℕ) (text last : List ℕ) (s : Skipped) → IsSkipped text n s → (HasLine s.last last → ⊥) → IsOfAnother text n last
other_last one n text last s skipped other = λ bytes number is.
    let same = one n text (record { bytes = bytes; lines = number; last = is.command }) s is.skipped skipped in
    other (subst (λ (t : Skipped). HasLine t.last last) same is.same)
