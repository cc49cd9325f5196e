-- The items that a sender passes on, one by one.
use Rattle.std.proofs.Common.{◌≡◌, ◌⊎◌, inl, inr, ⊎_elim, ℕ, zero, suc, suc-mul, mul-le-mul_right, ◌+◌, ◌*◌, ◌<◌, ◌≤◌, Bool, true, false, true≢false, take, drop, length-take, length-drop, List, [], ◌∷◌, ◌++◌, length, sym, ap, ◌∙◌, refl, subst, append-nil, append_assoc, arith, length-append, Option, Some, None}
use Rattle.std.specs.Io.KnownBytes.{Consumes, Keeps, IsAtEnd}
use Rattle.std.proofs.KnownBytes.{Consumes-nil, Consumes-trans, Consumes-kept}
use Rattle.std.proofs.lemmas.List.{nil_from_length, take_all, take-map, take-append-drop}
use Rattle.std.proofs.Math.Seq.{take-append_seam}
use Rattle.cmd_types.specs.declared.entry.Entry.{Entry}
use Rattle.cmd_types.specs.Entries.{entries_of, entries_after}
use Rattle.cmd_types.specs.Spelling.{Timed}
use Rattle.cmd_lines.specs.declared.fault.LineFault.{LineFault}
use Rattle.cmd_lines.specs.declared.item.Item.{Item}
use Rattle.cmd_lines.specs.declared.item.Item.TheVariants as item
use Rattle.cmd_lines.specs.declared.phase.Phase.{Phase}
use Rattle.cmd_lines.specs.declared.phase.Phase.TheVariants.{Open}
use Rattle.cmd_lines.specs.Items.{commands, refusals, known, items_so_far, all_items}
use Rattle.cmd_types.specs.TextLines.{split_lines}
use Rattle.cmd_lines.specs.Reader.{Waiting, Stands}
use Rattle.cmd_dispatch.proofs.Grown.{commands-append, refusals-append, entries_after-push}
use Rattle.cmd_queue.specs.declared.taken.Taken.{Taken}
use Rattle.cmd_queue.specs.declared.taken.Taken.TheVariants.{Command, Closed}
use Rattle.cmd_queue.specs.Lists.{all_sent}
use Rattle.cmd_queue.specs.Sides.{QueueId, Sent, Ended, with_command, with_commands}
use Rattle.cmd_run.specs.declared.ending.Ending.{Ending}
use Rattle.cmd_run.specs.declared.ending.Ending.TheVariants as ending
use Rattle.cmd_run.specs.declared.ending.SenderReport.{SenderReport}
use Rattle.cmd_dispatch.specs.declared.sender.Sending.{Sending}
use Rattle.cmd_dispatch.specs.Delivered.{items_by, BeginsWith, AreFirst, FillsPieces, IsEnded}
use Rattle.cmd_dispatch.specs.Sends.{ahead, in_all, HasKept, IsSame, AreGiven, ArePut, HasSent, HasPassedOn, HasRead, HasReadText, IsPartRead, IsGiving, IsReading, IsFeeding, HasBegun, IsEndOf, HasLeft, HasClosed}
use Rattle.cmd_dispatch.proofs.ToldLemmas.{begins_all, first_told, first_begun, first_given, first_more, all_delivered}

pub all_sent-append : (xs ys : List Entry) → all_sent (xs ++ ys) ≡ all_sent xs ++ all_sent ys
all_sent-append [] ys = refl
all_sent-append (x ∷ xs) ys = ap (λ (l : List Taken). Command x ∷ l) (all_sent-append xs ys)

sent_after : (sender n : ℕ) (cs : List Timed) → length (all_sent (entries_after sender n cs)) ≡ length cs
sent_after sender n [] = refl
sent_after sender n (c ∷ cs) = ap suc (sent_after sender (n + 1) cs)

-- as many entries are sent as there are commands
pub length-sent : (sender : ℕ) (cs : List Timed) → length (all_sent (entries_of sender cs)) ≡ length cs
length-sent sender cs = sent_after sender 0 cs

-- one more command was sent
pub command_passed : (g : List Item) (t : Timed) (place : ℕ) (old new : Sent) (refused : List (ℕ × LineFault) → Type 0) → HasPassedOn g old refused → place ≡ length old.list + 1 → new ≡ with_command old place t
    → HasPassedOn (g ++ item.Command t ∷ []) new refused
command_passed g t place old new refused was at is =
    let k = old.sender in
    let cs = commands g in
    let n : length old.list ≡ length cs = ap length was.sent ∙ length-sent k cs in
    let more : entries_of k (commands (g ++ item.Command t ∷ [])) ≡ entries_of k cs ++ record { sender = k; place = place; stamped = t } ∷ [] =
    ap (entries_of k) (commands-append g (item.Command t ∷ []))
    ∙ entries_after-push k 0 (length cs) cs t (omega arith)
    ∙ ap (λ (p : ℕ). entries_of k cs ++ record { sender = k; place = p; stamped = t } ∷ []) (omega arith) in
    subst (λ (y : Sent). HasPassedOn (g ++ item.Command t ∷ []) y refused) (sym is) (record {
      sent = sym (ap all_sent more ∙ all_sent-append (entries_of k cs) (record { sender = k; place = place; stamped = t } ∷ []) ∙ ap (λ (l : List Taken). l ++ Command (record { sender = k; place = place; stamped = t }) ∷ []) (sym was.sent));
      told = subst refused (sym (refusals-append g (item.Command t ∷ []) ∙ append-nil (refusals g))) was.told;
    })

-- ---- gathered commands

pub length-ahead : (side : Sent) (gathered : List Timed) → length (with_commands side gathered).list ≡ length side.list + length gathered
length-ahead side gathered =
    let row = all_sent (entries_after side.sender (length side.list) gathered) in
    length-append side.list row ∙ ap (λ n. length side.list + n) (sent_after side.sender (length side.list) gathered)

-- one more command is gathered
pub gathered_more : (side : Sent) (gathered : List Timed) (t : Timed) → with_commands side (gathered ++ t ∷ []) ≡ with_command (with_commands side gathered) (length (with_commands side gathered).list + 1) t
gathered_more side gathered t =
    let n = length side.list in
    let m = length (with_commands side gathered).list in
    let e : Entry = record { sender = side.sender; place = m + 1; stamped = t } in
    let row = entries_after side.sender n gathered in
    let more : all_sent (entries_after side.sender n (gathered ++ t ∷ [])) ≡ all_sent row ++ Command e ∷ [] =
    ap all_sent (entries_after-push side.sender n m gathered t (sym (length-ahead side gathered))) ∙ all_sent-append row (e ∷ []) in
    λ i. record { queue = side.queue; sender = side.sender; list = (ap (λ l. side.list ++ l) more ∙ sym (append_assoc side.list (all_sent row) (Command e ∷ []))) i }

-- the gathered commands are sent
pub gathered_sent : (side side' : Sent) (gathered gathered' : List Timed) → side' ≡ with_commands side gathered → gathered' ≡ [] → with_commands side' gathered' ≡ with_commands side gathered
gathered_sent side side' gathered gathered' is none =
    ap (with_commands side') none ∙ (λ i. record { queue = side'.queue; sender = side'.sender; list = append-nil side'.list i }) ∙ is

-- the last command is gathered again once the commands before it were sent
pub waited : (side : Sent) (first : List Timed) (t : Timed) → with_commands (with_commands side first) (t ∷ []) ≡ with_commands side (first ++ t ∷ [])
waited side first t =
    let s = with_commands side first in
    let none : with_commands s [] ≡ s = λ i. record { queue = s.queue; sender = s.sender; list = append-nil s.list i } in
    gathered_more s [] t ∙ ap (λ (y : Sent). with_command y (length y.list + 1) t) none ∙ sym (gathered_more side first t)

-- items that were passed on stay so, where refused lines that were taken stay taken
pub still_passed : (given : List Item) (side side' : Sent) (refused refused' : List (ℕ × LineFault) → Type 0) → side' ≡ side → HasKept refused refused' → HasPassedOn given side refused → HasPassedOn given side' refused'
still_passed given side side' refused refused' same kept was = subst (λ (y : Sent). HasPassedOn given y refused') (sym same) (record { sent = was.sent; told = kept (refusals given) was.told })

-- where no command is gathered any more, all gathered commands were sent
pub sent_ahead : {P : Type 0} (has_taken : P → List (ℕ × LineFault) → Type 0) (old new : Sending P) → IsSame has_taken old new → new.gathered.items ≡ [] → new.side ≡ ahead old
sent_ahead has_taken old new same none =
    let all : with_commands new.side [] ≡ new.side = λ i. record { queue = new.side.queue; sender = new.side.sender; list = append-nil new.side.list i } in
    sym all ∙ sym (ap (with_commands new.side) none) ∙ same.0

pub nothing_ahead : (side : Sent) (gathered : List Timed) → side.list ≡ [] → gathered ≡ [] → (with_commands side gathered).list ≡ []
nothing_ahead side gathered empty none = ap (λ (g : List Timed). (with_commands side g).list) none ∙ append-nil side.list ∙ empty

-- the same for the whole text that was read
pub still_reading : (f : List ℕ) (lines lines' : Waiting) (side side' : Sent) (refused refused' : List (ℕ × LineFault) → Type 0) → side' ≡ side → lines' ≡ lines → HasKept refused refused' → IsReading f lines side refused → IsReading f lines' side' refused'
still_reading f lines lines' side side' refused refused' same same_lines kept at =
    record { stands = subst (λ (w : Waiting). Stands w f (items_so_far f)) (sym same_lines) at.stands; passed = still_passed (items_so_far f) side side' refused refused' same kept at.passed }

pub still_giving : (f : List ℕ) (lines lines' : Waiting) (side side' : Sent) (refused refused' : List (ℕ × LineFault) → Type 0) → side' ≡ side → lines' ≡ lines → HasKept refused refused' → IsGiving f lines side refused → IsGiving f lines' side' refused'
still_giving f lines lines' side side' refused refused' same same_lines kept at =
    record { given = at.given; stands = subst (λ (w : Waiting). Stands w f at.given) (sym same_lines) at.stands; passed = still_passed at.given side side' refused refused' same kept at.passed }

pub still_begun : (all : List Item) (side side' : Sent) (refused refused' : List (ℕ × LineFault) → Type 0) → side' ≡ side → HasKept refused refused' → HasBegun all side refused → HasBegun all side' refused'
still_begun all side side' refused refused' same kept at = record { given = at.given; first = at.first; passed = still_passed at.given side side' refused refused' same kept at.passed }

-- one more line was refused
pub refusal_passed : (g : List Item) (n : ℕ) (f : LineFault) (side : Sent) (old new : List (ℕ × LineFault) → Type 0) → HasPassedOn g side old → ((refused : List (ℕ × LineFault)) → old refused → new (refused ++ (n, f) ∷ [])) → HasPassedOn (g ++ item.Refused n f ∷ []) side new
refusal_passed g n f side old new was more =
    let same : commands (g ++ item.Refused n f ∷ []) ≡ commands g = commands-append g (item.Refused n f ∷ []) ∙ append-nil (commands g) in
    record {
      sent = was.sent ∙ ap (λ (cs : List Timed). all_sent (entries_of side.sender cs)) (sym same);
      told = subst new (sym (refusals-append g (item.Refused n f ∷ []))) (more (refusals g) was.told);
    }

-- ---- reading

-- all items that the text determines so far were passed on
pub all_given : (f : List ℕ) (given : List Item) (p p' : Phase) (lines lines' : Waiting) (side : Sent) (refused : List (ℕ × LineFault) → Type 0) → p' ≡ p → lines' ≡ lines → known p' f ≡ given → Stands lines f given → HasPassedOn given side refused
    → Stands lines' f (known p f) × HasPassedOn (known p f) side refused
all_given f given p p' lines lines' side refused same kept all stands passed =
    let e : given ≡ known p f = sym all ∙ ap (λ (q : Phase). known q f) same in
    (subst (λ (y : Waiting × List Item). Stands y.0 f y.1) (λ i. (sym kept i, e i)) stands, subst (λ (g : List Item). HasPassedOn g side refused) e passed)

pub begun_giving : (f : List ℕ) (p : Phase) (lines : Waiting) (side side' : Sent) (refused refused' : List (ℕ × LineFault) → Type 0) → lines.phase ≡ p → IsGiving f lines side refused → side' ≡ side → HasKept refused refused' → HasBegun (known p f) side' refused'
begun_giving f p lines side side' refused refused' is at same kept =
    subst (λ (q : Phase). HasBegun (known q f) side' refused') is (record { given = at.given; first = first_given lines f at.given at.stands; passed = still_passed at.given side side' refused refused' same kept at.passed })

pub begun_at : (f : List ℕ) (p p' : Phase) (side : Sent) (refused : List (ℕ × LineFault) → Type 0) → p ≡ p' → HasBegun (known p f) side refused → HasBegun (known p' f) side refused
begun_at f p p' side refused is = subst (λ (q : Phase). HasBegun (known q f) side refused) is

pub reading_on : (f : List ℕ) (p : Phase) (lines : Waiting) (side : Sent) (refused : List (ℕ × LineFault) → Type 0) → p ≡ Open → Stands lines f (known p f) × HasPassedOn (known p f) side refused → IsReading f lines side refused
reading_on f p lines side refused is h =
    let e : known p f ≡ items_so_far f = ap (λ (q : Phase). known q f) is in
    record { stands = subst (Stands lines f) e h.0; passed = subst (λ (g : List Item). HasPassedOn g side refused) e h.1 }

pub begun_reading : (f piece : List ℕ) (lines : Waiting) (side : Sent) (refused : List (ℕ × LineFault) → Type 0) → lines.phase ≡ Open → IsReading f lines side refused → HasBegun (items_so_far (f ++ piece)) side refused
begun_reading f piece lines side refused opened at = record { given = items_so_far f; first = first_more lines f piece (items_so_far f) opened at.stands; passed = at.passed }

-- a prefix of the items of a text that may continue
part_so_far : (before after : Option (List ℕ)) (fails : Bool) (piece reads : ℕ) (f : List ℕ) (side : Sent) (refused : List (ℕ × LineFault) → Type 0) → Consumes before after f → length f ≤ reads * piece → HasBegun (items_so_far f) side refused → IsPartRead before after fails piece reads side refused
part_so_far before after fails piece reads f side refused c bound begun = record { text = f; consumed = c; bound = bound; given = begun.given; first = inl begun.first; passed = begun.passed }

nothing_known : items_so_far [] ≡ []
unfolding all_items split_lines
nothing_known = refl

-- before the first read
pub reading_nothing : (lines : Waiting) (side : Sent) (refused : List (ℕ × LineFault) → Type 0) → Stands lines [] [] → side.list ≡ [] → refused [] → IsReading [] lines side refused
reading_nothing lines side refused stands sent nothing =
    let h = subst (λ (g : List Item). Stands lines [] g × HasPassedOn g side refused) (sym nothing_known) (stands, record { sent = sent; told = nothing }) in
    record { stands = h.0; passed = h.1 }

pub nothing_read : (remaining : Option (List ℕ)) (fails : Bool) (piece reads : ℕ) (lines : Waiting) (side : Sent) (refused : List (ℕ × LineFault) → Type 0) → IsReading [] lines side refused → IsPartRead remaining remaining fails piece reads side refused
nothing_read remaining fails piece reads lines side refused at =
    record { text = []; consumed = Consumes-nil remaining; bound = omega arith; given = items_so_far []; first = inl (begins_all (items_so_far [])); passed = at.passed }

-- ---- one read

-- a buffer after all of it was written
pub written_back : (len : ℕ) (new old : List ℕ) → length new ≡ length old → len ≡ length old → take len (new ++ drop (length new) old) ≡ new
written_back len new old same is =
    let none : length (drop (length new) old) ≡ 0 = omega (arith, length-drop (length new) old) in
    let all : new ++ drop (length new) old ≡ new = ap (λ (l : List ℕ). new ++ l) (nil_from_length (drop (length new) old) none) ∙ append-nil new in
    ap (take len) all ∙ take_all len new (omega arith)

pub taken_length : (n : ℕ) (l : List ℕ) → n ≤ length l → length (take n l) ≡ n
taken_length n l few = omega (arith, length-take n l)

-- where all bytes were delivered, no more bytes come
nothing_more : (xs ys zs text more : List ℕ) → xs ≡ text ++ ys → ys ≡ more ++ zs → text ≡ xs → length more ≡ 0
nothing_more xs ys zs text more c d all = omega (arith, ap length c, length-append text ys, ap length d, length-append more zs, ap length all)

-- a feed that fills each piece filled one more piece, or all its bytes were delivered
filled_more : (before now next : Option (List ℕ)) (piece n : ℕ) (text more : List ℕ) → Consumes before now text → Consumes now next more → 0 < length more → FillsPieces before piece n text → (length more ≡ piece) ⊎ IsAtEnd next
    → FillsPieces before piece (n + 1) (text ++ more)
filled_more before now next piece n text more c d some (inl was) (inl read) = inl (omega (arith, suc-mul n piece, length-append text more))
filled_more None now next piece n text more c d some (inl was) (inr end) = inr tt
filled_more (Some xs) now next piece n text more c d some (inl was) (inr end) =
    inr (all_delivered (Some xs) next (text ++ more) (Consumes-trans (Some xs) now next text more c d) end, omega (arith, suc-mul n piece, length-append text more))
filled_more None now next piece n text more c d some (inr all) read = inr tt
filled_more (Some xs) None next piece n text more c d some (inr all) read = absurd c
filled_more (Some xs) (Some ys) None piece n text more c d some (inr all) read = absurd d
filled_more (Some xs) (Some ys) (Some zs) piece n text more c d some (inr all) read = absurd (let none = nothing_more xs ys zs text more c d all.0 in omega (arith, none))

-- a read gave some bytes, which were taken
pub feeding_more : (before now next : Option (List ℕ)) (fills : Bool) (size n : ℕ) (piece : List ℕ) (lines lines' : Waiting) (side side' : Sent) (refused refused' : List (ℕ × LineFault) → Type 0) → IsFeeding before now fills size n lines side refused → Consumes now next piece → 0 < length piece
    → length piece ≤ size → (fills ≡ true → (length piece ≡ size) ⊎ IsAtEnd next)
    → ((f : List ℕ) → IsReading f lines side refused → IsReading (f ++ piece) lines' side' refused') → IsFeeding before next fills size (n + 1) lines' side' refused'
feeding_more before now next fills size n piece lines lines' side side' refused refused' was read some few filled on = record {
  text = was.text ++ piece;
  consumed = Consumes-trans before now next was.text piece was.consumed read;
  many = (let many = was.many in omega (arith, length-append was.text piece));
  bound = (let bound = was.bound in omega (arith, suc-mul n size, length-append was.text piece));
  filled = λ fills. filled_more before now next size n was.text piece was.consumed read some (was.filled fills) (filled fills);
  reading = on was.text was.reading;
}

-- whatever happened to the bytes that were read, a prefix of the items was passed on
pub begun_feeding : (before now next : Option (List ℕ)) (fails fills : Bool) (size reads n : ℕ) (piece : List ℕ) (lines : Waiting) (side side' : Sent) (refused refused' : List (ℕ × LineFault) → Type 0) → IsFeeding before now fills size n lines side refused → Consumes now next piece
    → n < reads → length piece ≤ size → ((f : List ℕ) → IsReading f lines side refused → HasBegun (items_so_far (f ++ piece)) side' refused') → IsPartRead before next fails size reads side' refused'
begun_feeding before now next fails fills size reads n piece lines side side' refused refused' was read low few on =
    let bound = was.bound in
    let more : (n + 1) * size ≤ reads * size = mul-le-mul_right size (omega arith) in
    part_so_far before next fails size reads (was.text ++ piece) side' refused' (Consumes-trans before now next was.text piece was.consumed read) (omega (arith, suc-mul n size, length-append was.text piece)) (on was.text was.reading)

-- a read gave nothing: the feed is at its end
pub read_whole : (before now next : Option (List ℕ)) (fails fills : Bool) (size reads n count : ℕ) (buffer : List ℕ) (lines : Waiting) (side : Sent) (refused : List (ℕ × LineFault) → Type 0) → IsFeeding before now fills size n lines side refused → n ≤ reads → count ≡ 0 → 0 < length buffer
    → Consumes now next (take count buffer) × (count ≡ 0 → 0 < length buffer → IsAtEnd next) → HasReadText before next fails fills size reads ending.Whole lines side refused
read_whole before now next fails fills size reads n count buffer lines side refused was low none some read =
    let nothing : was.text ++ take count buffer ≡ was.text = ap (λ (k : ℕ). was.text ++ take k buffer) none ∙ append-nil was.text in
    let consumed : Consumes before next was.text = subst (Consumes before next) nothing (Consumes-trans before now next was.text (take count buffer) was.consumed read.0) in
    record {
      text = was.text;
      consumed = consumed;
      bound = (let bound = was.bound in let more : n * size ≤ reads * size = mul-le-mul_right size low in omega arith);
      ended = all_delivered before next was.text consumed (read.1 none some);
      reading = was.reading;
    }

failing_from : (first now : Bool) → (first ≡ false → now ≡ false) → now ≡ true → first ≡ true
failing_from true now steady failed = refl
failing_from false now steady failed = absurd (true≢false (sym failed ∙ steady refl))

-- a read failed
pub read_failed : (before now next : Option (List ℕ)) (fails fails' fills : Bool) (size reads n : ℕ) (lines : Waiting) (side : Sent) (refused : List (ℕ × LineFault) → Type 0) → IsFeeding before now fills size n lines side refused → n ≤ reads → Keeps now next → (fails ≡ false → fails' ≡ false) → fails' ≡ true
    → HasReadText before next fails fills size reads ending.ReadFailed lines side refused
read_failed before now next fails fails' fills size reads n lines side refused was low kept steady failed = record {
  text = was.text;
  consumed = Consumes-kept before now next was.text was.consumed kept;
  bound = (let bound = was.bound in let more : n * size ≤ reads * size = mul-le-mul_right size low in omega arith);
  ended = failing_from fails fails' steady failed;
  reading = was.reading;
}

-- each of the reads gave bytes
pub read_many : (before now : Option (List ℕ)) (fails fills : Bool) (size reads n : ℕ) (lines : Waiting) (side : Sent) (refused : List (ℕ × LineFault) → Type 0) → IsFeeding before now fills size n lines side refused → n ≡ reads
    → HasReadText before now fails fills size reads ending.TooManyReads lines side refused
read_many before now fails fills size reads n lines side refused was all =
    let at : IsFeeding before now fills size reads lines side refused = subst (λ (k : ℕ). IsFeeding before now fills size k lines side refused) all was in
    record { text = at.text; consumed = at.consumed; bound = at.bound; ended = (at.many, at.filled); reading = at.reading }

-- ---- a text that was read

-- all of its items were passed on
pub read_told : (before after : Option (List ℕ)) (fails fills : Bool) (piece reads : ℕ) (how : Ending) (lines : Waiting) (side side' : Sent) (refused refused' : List (ℕ × LineFault) → Type 0) → HasReadText before after fails fills piece reads how lines side refused
    → ((f : List ℕ) → IsReading f lines side refused → HasPassedOn (items_by how f) side' refused') → HasRead before after fails fills piece reads how side' refused'
read_told before after fails fills piece reads how lines side side' refused refused' read on = record { text = read.text; consumed = read.consumed; bound = read.bound; ended = read.ended; passed = on read.text read.reading }

-- a prefix of its items was passed on
pub read_begun : (before after : Option (List ℕ)) (fails fills : Bool) (piece reads : ℕ) (how : Ending) (lines : Waiting) (side side' : Sent) (refused refused' : List (ℕ × LineFault) → Type 0) → HasReadText before after fails fills piece reads how lines side refused
    → ((f : List ℕ) → IsReading f lines side refused → HasBegun (items_by how f) side' refused') → IsPartRead before after fails piece reads side' refused'
read_begun before after fails fills piece reads how lines side side' refused refused' read on =
    let begun = on read.text read.reading in
    record { text = read.text; consumed = read.consumed; bound = read.bound; given = begun.given; first = first_begun before fails fills piece reads how read.text begun.given read.ended begun.first; passed = begun.passed }

-- ---- the end of a sender

-- the first messages that were sent are the entries of the first commands
take_after : (sender n k : ℕ) (cs : List Timed) → take k (entries_after sender n cs) ≡ entries_after sender n (take k cs)
take_after sender n zero cs = refl
take_after sender n (suc k) [] = refl
take_after sender n (suc k) (c ∷ cs) = ap (λ (es : List Entry). record { sender = sender; place = n + 1; stamped = c } ∷ es) (take_after sender (n + 1) k cs)

first_sent : (sender : ℕ) (cs : List Timed) (put : List Taken) → BeginsWith (all_sent (entries_of sender cs)) put → (first : List Timed) × BeginsWith cs first × (put ≡ all_sent (entries_of sender first))
first_sent sender cs put begins =
    let k = length put in
    let front : take k (all_sent (entries_of sender cs)) ≡ put = ap (take k) begins.1 ∙ take-append_seam put begins.0 in (
      take k cs,
      (drop k cs, sym (take-append-drop k cs)),
      sym front ∙ take-map Command k (entries_of sender cs) ∙ ap all_sent (take_after sender 0 k cs),
    )

-- an end remains one where refused lines that were taken stay taken
end_kept : (side : Sent) (refused refused' : List (ℕ × LineFault) → Type 0) (how : Ending) (put sent : List Taken) (e : Ended) (r : SenderReport) (now : List (ℕ × LineFault) → Type 0) → HasKept refused refused' → IsEndOf side refused' how put sent e r now → IsEndOf side refused how put sent e r now
end_kept side refused refused' how put sent e r now kept is =
    record { queue_is = is.queue_is; sender_is = is.sender_is; sent_is = is.sent_is; ending_is = is.ending_is; accepted = is.accepted; kept = λ lines was. is.kept lines (kept lines was) }

-- a sender that left after the messages that it had sent, and dropped the gathered commands
pub left_ahead : (side : Sent) (gathered : List Timed) (refused : List (ℕ × LineFault) → Type 0) (e : Ended) (r : SenderReport) (now : List (ℕ × LineFault) → Type 0) → HasLeft side refused e r now → HasLeft (with_commands side gathered) refused e r now
left_ahead side gathered refused e r now left =
    let row = all_sent (entries_after side.sender (length side.list) gathered) in
    let end = left.2 in (
      left.0,
      (left.1.0 ++ row, ap (λ (l : List Taken). l ++ row) left.1.1 ∙ append_assoc left.0 left.1.0 row),
      record { queue_is = end.queue_is; sender_is = end.sender_is; sent_is = end.sent_is; ending_is = end.ending_is; accepted = end.accepted; kept = end.kept },
    )

pub left_same : (side side' : Sent) (refused refused' : List (ℕ × LineFault) → Type 0) (e : Ended) (r : SenderReport) (now : List (ℕ × LineFault) → Type 0) → side' ≡ side → HasKept refused refused' → HasLeft side' refused' e r now → HasLeft side refused e r now
left_same side side' refused refused' e r now same kept left =
    subst (λ (y : Sent). HasLeft y refused e r now) same (left.0, left.1, end_kept side' refused refused' ending.QueueRefused left.0 left.0 e r now kept left.2)

pub closed_same : (side side' : Sent) (refused refused' : List (ℕ × LineFault) → Type 0) (how : Ending) (e : Ended) (r : SenderReport) (now : List (ℕ × LineFault) → Type 0) → side' ≡ side → HasKept refused refused' → HasClosed side' refused' how e r now → HasClosed side refused how e r now
closed_same side side' refused refused' how e r now same kept closed =
    subst (λ (y : Sent). HasClosed y refused how e r now) same
    (⊎_elim
    (λ end. inl (end_kept side' refused refused' how side'.list (side'.list ++ Closed side'.sender (length side'.list) ∷ []) e r now kept end))
    (λ left. inr (left_same side' side' refused refused' e r now refl kept left))
    closed)

-- an end after which these items were passed on and of their commands these were put into the queue
ended : (before after : Option (List ℕ)) (fails fills : Bool) (piece reads : ℕ) (queue : QueueId) (sender : ℕ) (text : List ℕ) (given : List Item) (cs : List Timed) (side : Sent) (refused : List (ℕ × LineFault) → Type 0) (how : Ending) (put list : List Taken) (e : Ended) (r : SenderReport) (now : List (ℕ × LineFault) → Type 0)
    → side.queue ≡ queue → side.sender ≡ sender → Consumes before after text → length text ≤ reads * piece → AreGiven before fails fills piece reads text how given → refused (refusals given) → ArePut how (commands given) cs → put ≡ all_sent (entries_of sender cs)
    → list ≡ in_all how sender put → IsEndOf side refused how put list e r now → HasSent before after fails fills piece reads queue sender e r now
ended before after fails fills piece reads queue sender text given cs side refused how put list e r now same_queue same_sender brought bound are told put_are put_is all end = record {
  queue_is = end.queue_is ∙ same_queue;
  sender_is = end.sender_is ∙ same_sender;
  text = text;
  consumed = brought;
  bound = bound;
  given = given;
  items = subst (λ (h : Ending). AreGiven before fails fills piece reads text h given) (sym end.ending_is) are;
  put = cs;
  put_are = subst (λ (h : Ending). ArePut h (commands given) cs) (sym end.ending_is) put_are;
  accepted = end.accepted ∙ ap length put_is ∙ length-sent sender cs;
  told = end.kept (refusals given) told;
  sent = end.sent_is ∙ all ∙ (λ i. in_all (sym end.ending_is i) sender (put_is i));
}

-- a sender that left when these items had been passed on
left_with : (before after : Option (List ℕ)) (fails fills : Bool) (piece reads : ℕ) (queue : QueueId) (sender : ℕ) (text : List ℕ) (given : List Item) (side : Sent) (refused : List (ℕ × LineFault) → Type 0) (e : Ended) (r : SenderReport) (now : List (ℕ × LineFault) → Type 0)
    → side.queue ≡ queue → side.sender ≡ sender → Consumes before after text → length text ≤ reads * piece → AreFirst before fails reads text given → HasPassedOn given side refused → HasLeft side refused e r now → HasSent before after fails fills piece reads queue sender e r now
left_with before after fails fills piece reads queue sender text given side refused e r now same_queue same_sender brought bound first passed left =
    let sent : side.list ≡ all_sent (entries_of sender (commands given)) = passed.sent ∙ ap (λ (k : ℕ). all_sent (entries_of k (commands given))) same_sender in
    let front = first_sent sender (commands given) left.0 (subst (λ (l : List Taken). BeginsWith l left.0) sent left.1) in
    ended before after fails fills piece reads queue sender text given front.0 side refused ending.QueueRefused left.0 left.0 e r now same_queue same_sender brought bound first passed.told front.1 front.2 refl left.2

-- a sender that closed when these items had been passed on
closed_with : (before after : Option (List ℕ)) (fails fills : Bool) (piece reads : ℕ) (queue : QueueId) (sender : ℕ) (text : List ℕ) (given : List Item) (side : Sent) (refused : List (ℕ × LineFault) → Type 0) (how : Ending) (e : Ended) (r : SenderReport) (now : List (ℕ × LineFault) → Type 0)
    → side.queue ≡ queue → side.sender ≡ sender → Consumes before after text → length text ≤ reads * piece → AreGiven before fails fills piece reads text how given → ArePut how (commands given) (commands given) → HasPassedOn given side refused
    → side.list ++ Closed side.sender (length side.list) ∷ [] ≡ in_all how side.sender side.list
    → IsEndOf side refused how side.list (side.list ++ Closed side.sender (length side.list) ∷ []) e r now → HasSent before after fails fills piece reads queue sender e r now
closed_with before after fails fills piece reads queue sender text given side refused how e r now same_queue same_sender brought bound are put_are passed mark end =
    let sent : side.list ≡ all_sent (entries_of sender (commands given)) = passed.sent ∙ ap (λ (k : ℕ). all_sent (entries_of k (commands given))) same_sender in
    ended before after fails fills piece reads queue sender text given (commands given) side refused how side.list (side.list ++ Closed side.sender (length side.list) ∷ []) e r now same_queue same_sender brought bound are passed.told put_are sent
    (mark ∙ ap (λ (k : ℕ). in_all how k side.list) same_sender) end

-- a complete ending has a mark
marked : (before : Option (List ℕ)) (fails fills : Bool) (piece reads : ℕ) (text : List ℕ) (how : Ending) (sender : ℕ) (list : List Taken) → IsEnded before fails fills piece reads text how → list ++ Closed sender (length list) ∷ [] ≡ in_all how sender list
marked before fails fills piece reads text ending.Whole sender list is = refl
marked before fails fills piece reads text ending.ReadFailed sender list is = refl
marked before fails fills piece reads text ending.TooManyReads sender list is = refl
marked before fails fills piece reads text ending.Memory sender list is = absurd is
marked before fails fills piece reads text ending.QueueRefused sender list is = absurd is

given_all : (before : Option (List ℕ)) (fails fills : Bool) (piece reads : ℕ) (text : List ℕ) (how : Ending) → IsEnded before fails fills piece reads text how → AreGiven before fails fills piece reads text how (items_by how text)
given_all before fails fills piece reads text ending.Whole is = (refl, is)
given_all before fails fills piece reads text ending.ReadFailed is = (refl, is)
given_all before fails fills piece reads text ending.TooManyReads is = (refl, is)
given_all before fails fills piece reads text ending.Memory is = absurd is
given_all before fails fills piece reads text ending.QueueRefused is = absurd is

put_all : (before : Option (List ℕ)) (fails fills : Bool) (piece reads : ℕ) (text : List ℕ) (how : Ending) (cs : List Timed) → IsEnded before fails fills piece reads text how → ArePut how cs cs
put_all before fails fills piece reads text ending.Whole cs is = refl
put_all before fails fills piece reads text ending.ReadFailed cs is = refl
put_all before fails fills piece reads text ending.TooManyReads cs is = refl
put_all before fails fills piece reads text ending.Memory cs is = absurd is
put_all before fails fills piece reads text ending.QueueRefused cs is = absurd is

-- a sender that read its feed to the end and then closed
pub closed_told : (before after : Option (List ℕ)) (fails fills : Bool) (piece reads : ℕ) (queue : QueueId) (sender : ℕ) (how : Ending) (side : Sent) (refused : List (ℕ × LineFault) → Type 0) (e : Ended) (r : SenderReport) (now : List (ℕ × LineFault) → Type 0)
    → side.queue ≡ queue → side.sender ≡ sender → HasRead before after fails fills piece reads how side refused → HasClosed side refused how e r now → HasSent before after fails fills piece reads queue sender e r now
closed_told before after fails fills piece reads queue sender how side refused e r now same_queue same_sender read closed =
    ⊎_elim
    (λ end. closed_with before after fails fills piece reads queue sender read.text (items_by how read.text) side refused how e r now same_queue same_sender read.consumed read.bound (given_all before fails fills piece reads read.text how read.ended)
    (put_all before fails fills piece reads read.text how (commands (items_by how read.text)) read.ended) read.passed (marked before fails fills piece reads read.text how side.sender side.list read.ended) end)
    (λ left. left_with before after fails fills piece reads queue sender read.text (items_by how read.text) side refused e r now same_queue same_sender read.consumed read.bound (first_told before fails fills piece reads how read.text read.ended) read.passed left)
    closed

-- a sender that stopped and then closed, or left
pub closed_early : (before after : Option (List ℕ)) (fails fills : Bool) (piece reads : ℕ) (queue : QueueId) (sender : ℕ) (side : Sent) (refused : List (ℕ × LineFault) → Type 0) (e : Ended) (r : SenderReport) (now : List (ℕ × LineFault) → Type 0)
    → side.queue ≡ queue → side.sender ≡ sender → IsPartRead before after fails piece reads side refused → HasClosed side refused ending.Memory e r now → HasSent before after fails fills piece reads queue sender e r now
closed_early before after fails fills piece reads queue sender side refused e r now same_queue same_sender part closed =
    ⊎_elim
    (λ end. closed_with before after fails fills piece reads queue sender part.text part.given side refused ending.Memory e r now same_queue same_sender part.consumed part.bound part.first refl part.passed refl end)
    (λ left. left_with before after fails fills piece reads queue sender part.text part.given side refused e r now same_queue same_sender part.consumed part.bound part.first part.passed left)
    closed

pub left_early : (before after : Option (List ℕ)) (fails fills : Bool) (piece reads : ℕ) (queue : QueueId) (sender : ℕ) (side : Sent) (refused : List (ℕ × LineFault) → Type 0) (e : Ended) (r : SenderReport) (now : List (ℕ × LineFault) → Type 0)
    → side.queue ≡ queue → side.sender ≡ sender → IsPartRead before after fails piece reads side refused → HasLeft side refused e r now → HasSent before after fails fills piece reads queue sender e r now
left_early before after fails fills piece reads queue sender side refused e r now same_queue same_sender part left =
    left_with before after fails fills piece reads queue sender part.text part.given side refused e r now same_queue same_sender part.consumed part.bound part.first part.passed left
