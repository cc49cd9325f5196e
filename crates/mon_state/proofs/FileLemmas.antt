-- The file `state` is split where it was joined.
use Rattle.std.proofs.Common.{◌≡◌, ◌≢◌, ℕ, ◌+◌, Bool, true, false, eqb, if◌then◌else◌, List, [], ◌∷◌, ◌++◌, length, take, Some, None, Result, Ok, Err, append_assoc, append-nil, length-append, refl, ap, sym, ◌∙◌, arith}
use Rattle.std.proofs.Math.Seq.{take-append_seam}
use Rattle.std.specs.Str.{bytes_eq}
use Rattle.std.proofs.lemmas.Slice.Eq.{bytes_eq-Decides}
use Rattle.std.proofs.lemmas.Bool.{eq-eqb, ne_eqb, eqb-true}
use Rattle.cmd_types.specs.Bytes.{Lacks}
use Rattle.mon_inventory.specs.declared.fault.Cause.{Cause}
use Rattle.mon_inventory.specs.Configuration.{Configuration, inventory}
use Rattle.mon_state.specs.File.{mark, HasNoMark, IsHead}
use Rattle.mon_state.specs.FileReading.{behind_mark}
use Rattle.mon_state.proofs.HeadLemmas.{line_before}

same_bytes : (xs ys : List ℕ) → bytes_eq xs ys ≡ true → xs ≡ ys
same_bytes xs ys is = (bytes_eq-Decides xs ys).0 is

-- a line before the mark is skipped
line_goes : (front line rest : List ℕ) → Lacks 10 line → behind_mark front (line ++ 10 ∷ rest) ≡ (if bytes_eq (front ++ line) mark then Some rest else behind_mark [] rest)
unfolding behind_mark
line_goes front [] rest lacks = ap (λ (l : List ℕ). if bytes_eq l mark then Some rest else behind_mark [] rest) (sym (append-nil front))
line_goes front (x ∷ line) rest lacks = rw (ne_eqb x 10 lacks.0) (line_goes (front ++ x ∷ []) line rest lacks.1 ∙ ap (λ (l : List ℕ). if bytes_eq l mark then Some rest else behind_mark [] rest) (append_assoc front (x ∷ []) line))

no_line : (front line : List ℕ) → Lacks 10 line → behind_mark front line ≡ None
unfolding behind_mark
no_line front [] lacks = refl
no_line front (x ∷ line) lacks = rw (ne_eqb x 10 lacks.0) (no_line (front ++ x ∷ []) line lacks.1)

-- the mark is found where the first line is the mark
pub mark_found : (text line rest : List ℕ) → Lacks 10 line → text ≡ line ++ 10 ∷ rest → bytes_eq line mark ≡ true → behind_mark [] text ≡ Some rest
mark_found text line rest lacks is same = ap (behind_mark []) is ∙ line_goes [] line rest lacks ∙ ap (λ (b : Bool). if b then Some rest else behind_mark [] rest) same

pub mark_passed : (text line rest : List ℕ) → Lacks 10 line → text ≡ line ++ 10 ∷ rest → bytes_eq line mark ≡ false → behind_mark [] text ≡ behind_mark [] rest
mark_passed text line rest lacks is other = ap (behind_mark []) is ∙ line_goes [] line rest lacks ∙ ap (λ (b : Bool). if b then Some rest else behind_mark [] rest) other

pub mark_none : (text line : List ℕ) → Lacks 10 line → text ≡ line → behind_mark [] text ≡ None
mark_none text line lacks is = ap (behind_mark []) is ∙ no_line [] line lacks

-- the text after the mark of a text that was joined
behind_gives : (line given behind : List ℕ) → HasNoMark line given → behind_mark line (given ++ (mark ++ 10 ∷ behind)) ≡ Some behind
unfolding behind_mark
behind_gives line [] behind none = ap (λ (l : List ℕ). behind_mark l (mark ++ 10 ∷ behind)) none
behind_gives line (x ∷ given) behind none = by_byte (eqb x 10) refl (λ is. behind_gives [] given behind (none.0 is).1) (λ other. behind_gives (line ++ x ∷ []) given behind (none.1 other))
  where
    rest : List ℕ
    rest = given ++ (mark ++ 10 ∷ behind)

    by_line : (b : Bool) → bytes_eq line mark ≡ b → (line ≢ mark) → behind_mark [] rest ≡ Some behind → (if b then Some rest else behind_mark [] rest) ≡ Some behind
    by_line true same other more = absurd (other (same_bytes line mark same))
    by_line false same other more = more

    by_byte : (b : Bool) → eqb x 10 ≡ b → (goes : x ≡ 10 → behind_mark [] rest ≡ Some behind) → (stays : x ≢ 10 → behind_mark (line ++ x ∷ []) rest ≡ Some behind) → (if b then (if bytes_eq line mark then Some rest else behind_mark [] rest) else behind_mark (line ++ x ∷ []) rest) ≡ Some behind
    by_byte true same goes stays = by_line (bytes_eq line mark) refl (none.0 (eqb-true x 10 same)).0 (goes (eqb-true x 10 same))
    by_byte false same goes stays = stays (λ is. (let clash : true ≡ false = sym (eq-eqb x 10 is) ∙ same in cc))

pub mark_gives : (text given behind : List ℕ) → IsHead given → text ≡ given ++ (mark ++ 10 ∷ behind) → behind_mark [] text ≡ Some behind
mark_gives text given behind head is = ap (behind_mark []) is ∙ behind_gives [] given behind head

-- the bytes before the mark are whole lines, none of which is the mark
abbrev IsSplit : (behind whole : List ℕ) → Type 0
IsSplit behind whole = (given : List ℕ) × (whole ≡ given ++ (mark ++ 10 ∷ behind)) × IsHead given

one_more : (line : List ℕ) (x : ℕ) → Lacks 10 line → x ≢ 10 → Lacks 10 (line ++ x ∷ [])
one_more [] x lacks other = (other, tt)
one_more (y ∷ line) x lacks other = (lacks.0, one_more line x lacks.1 other)

-- a text with a mark was joined in this way
behind_is : (line text behind : List ℕ) → Lacks 10 line → behind_mark line text ≡ Some behind → IsSplit behind (line ++ text)
unfolding behind_mark
behind_is line [] behind lacks is = (let clash : None ≡ Some behind = is in absurd cc)
behind_is line (x ∷ text) behind lacks is = by_byte (eqb x 10) refl is (behind_is [] text behind tt) (λ other. behind_is (line ++ x ∷ []) text behind (one_more line x lacks other))
  where
    by_line : x ≡ 10 → (b : Bool) → bytes_eq line mark ≡ b → (if b then Some text else behind_mark [] text) ≡ Some behind → (behind_mark [] text ≡ Some behind → IsSplit behind text) → IsSplit behind (line ++ x ∷ text)
    by_line feed true same found more = ([], (let rest : text ≡ behind = cc in λ i. same_bytes line mark same i ++ feed i ∷ rest i), refl)
    by_line feed false other found more = (
      line ++ 10 ∷ (more found).0,
      (λ i. line ++ feed i ∷ (more found).1 i) ∙ sym (append_assoc line (10 ∷ (more found).0) (mark ++ 10 ∷ behind)),
      line_before (line ++ 10 ∷ (more found).0) line (more found).0 lacks refl (λ is. (let clash : true ≡ false = sym ((bytes_eq-Decides line mark).1 is) ∙ other in cc)) (more found).2,
    )

    by_byte : (b : Bool) → eqb x 10 ≡ b → (if b then (if bytes_eq line mark then Some text else behind_mark [] text) else behind_mark (line ++ x ∷ []) text) ≡ Some behind → (behind_mark [] text ≡ Some behind → IsSplit behind text) → (x ≢ 10 → behind_mark (line ++ x ∷ []) text ≡ Some behind → IsSplit behind ((line ++ x ∷ []) ++ text)) → IsSplit behind (line ++ x ∷ text)
    by_byte true same found goes stays = by_line (eqb-true x 10 same) (bytes_eq line mark) refl found goes
    by_byte false same found goes stays = (let split = stays (λ is. (let clash : true ≡ false = sym (eq-eqb x 10 is) ∙ same in cc)) found in (split.0, sym (append_assoc line (x ∷ []) text) ∙ split.1, split.2))

pub mark_is : (text behind : List ℕ) → behind_mark [] text ≡ Some behind → IsSplit behind text
mark_is text behind is = behind_is [] text behind tt is

-- the bytes before the mark, by the number of bytes after it
pub given_is : (text given behind : List ℕ) (before : ℕ) → text ≡ given ++ (mark ++ 10 ∷ behind) → before + (4 + length behind) ≡ length text → take before text ≡ given
given_is text given behind before is count =
    let long : before ≡ length given = omega (arith, count, ap length is, length-append given (mark ++ 10 ∷ behind)) in
    ap (take before) is ∙ ap (λ (n : ℕ). take n (given ++ (mark ++ 10 ∷ behind))) long ∙ take-append_seam given (mark ++ 10 ∷ behind)

pub same_behind : (text found given behind : List ℕ) → behind_mark [] text ≡ Some found → IsHead given → text ≡ given ++ (mark ++ 10 ∷ behind) → found ≡ behind
same_behind text found given behind is head parts = (let same : Some found ≡ Some behind = sym is ∙ mark_gives text given behind head parts in cc)

pub same_inventory : (text given : List ℕ) (a b : Configuration) → text ≡ given → inventory text ≡ Ok a → inventory given ≡ Ok b → a ≡ b
same_inventory text given a b same x y = (let both : ◌≡◌ {A = Result Configuration (ℕ × Cause)} (Ok a) (Ok b) = sym x ∙ ap inventory same ∙ y in cc)

pub no_inventory : (text given : List ℕ) (a : Configuration) (f : ℕ × Cause) → text ≡ given → inventory text ≡ Err f → inventory given ≡ Ok a → ⊥
no_inventory text given a f same x y = (let clash : ◌≡◌ {A = Result Configuration (ℕ × Cause)} (Err f) (Ok a) = sym x ∙ ap inventory same ∙ y in cc)
