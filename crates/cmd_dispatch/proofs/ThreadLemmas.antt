-- Starting and joining threads one by one.
use Rattle.std.proofs.Common.{◌≡◌, ◌<◌, ℕ, zero, suc, Bool, true, false, true≢false, List, [], ◌∷◌, ◌++◌, length, map, get_or, refl, sym, ap, ◌∙◌, subst, arith, length-append, append_assoc, append-nil, Option}
use Rattle.std.proofs.lemmas.List.{get_or_at, get_or_push, get_or_append_left, length-map, map_push}
use Rattle.std.specs.declared.thread.PromisedHandle.{PromisedHandle}
use Rattle.cmd_lines.specs.declared.fault.LineFault.{LineFault}
use Rattle.cmd_lines.specs.Items.{refusals}
use Rattle.cmd_queue.specs.Sides.{QueueId, Sent, Ended}
use Rattle.cmd_run.specs.declared.ending.SenderReport.{SenderReport}
use Rattle.cmd_dispatch.specs.declared.reading.Reading.{Reading}
use Rattle.cmd_dispatch.specs.declared.threads.Promised.{Promised}
use Rattle.cmd_dispatch.specs.Delivered.{taken_at, HaveTakenNothing}
use Rattle.cmd_dispatch.specs.Sends.{HasKept, HasSent}
use Rattle.cmd_dispatch.specs.Planned.{IsPlannedBy}
use Rattle.cmd_dispatch.specs.Threads.{ArePlannedBy, HasPromised, HaveStarted, AreStarting, HasKeptIt, HaveEnded}

-- the element of a list after its first n
at_place : {A : Type 0} (l xs ys : List A) (x d : A) (n : ℕ) → xs ++ x ∷ ys ≡ l → length xs ≡ n → get_or l n d ≡ x
at_place l xs ys x d n e is = ap (λ m. get_or m n d) (sym e) ∙ get_or_at xs x ys d n is

-- a property of each element by its index, and of one more element
indexed_more : {A : Type 0} (P : ℕ → A → Type 0) (xs : List A) (x : A) → ((i : ℕ) (d : A) → i < length xs → P i (get_or xs i d)) → P (length xs) x → (i : ℕ) (d : A) → i < length (xs ++ x ∷ []) → P i (get_or (xs ++ x ∷ []) i d)
indexed_more P [] x each last zero d low = last
indexed_more P [] x each last (suc i) d low = absurd (omega arith)
indexed_more P (y ∷ ys) x each last zero d low = each 0 d (omega arith)
indexed_more P (y ∷ ys) x each last (suc i) d low = indexed_more (λ j a. P (suc j) a) ys x (λ j e h. each (suc j) e (omega arith)) last i d (omega arith)

module _ {F P : Type 0} (sides : List Sent) (feeds : List F) (reports : List P) (reading : Reading) where
  -- before the first thread is started
  pub started_none : (ss : List Sent) (fs : List F) (ps : List P) (hs : List (PromisedHandle (Ended × P × F) (Promised F))) → hs ≡ [] → ss ≡ sides → fs ≡ feeds → ps ≡ reports → AreStarting sides feeds reports reading ss fs ps hs
  started_none ss fs ps hs none sides_are feeds_are reports_are = subst (AreStarting sides feeds reports reading ss fs ps) (sym none)
      (record { gone = []; done = []; told = []; sides_are = sides_are; feeds_are = feeds_are; reports_are = reports_are; sides_gone = refl; feeds_done = refl; reports_told = refl; promised = λ k h s f low. absurd (omega arith) })

  pub started_one : (s : Sent) (ss : List Sent) (f : F) (fs : List F) (p : P) (ps : List P) (hs : List (PromisedHandle (Ended × P × F) (Promised F))) (h : PromisedHandle (Ended × P × F) (Promised F)) (ss' : List Sent) (fs' : List F) (ps' : List P)
      → AreStarting sides feeds reports reading ss' fs' ps' hs → ss' ≡ s ∷ ss → fs' ≡ f ∷ fs → ps' ≡ p ∷ ps → HasPromised reading h s f → AreStarting sides feeds reports reading ss fs ps (hs ++ h ∷ [])
  started_one s ss f fs p ps hs h ss' fs' ps' is next_side next_feed next_report own =
      let gone = is.gone in let done = is.done in let told = is.told in
      let e₁ : gone ++ s ∷ ss ≡ sides = ap (λ (l : List Sent). gone ++ l) (sym next_side) ∙ is.sides_are in
      let e₂ : done ++ f ∷ fs ≡ feeds = ap (λ (l : List F). done ++ l) (sym next_feed) ∙ is.feeds_are in
      let e₃ : told ++ p ∷ ps ≡ reports = ap (λ (l : List P). told ++ l) (sym next_report) ∙ is.reports_are in
      record {
        gone = gone ++ s ∷ [];
        done = done ++ f ∷ [];
        told = told ++ p ∷ [];
        sides_are = append_assoc gone (s ∷ []) ss ∙ e₁;
        feeds_are = append_assoc done (f ∷ []) fs ∙ e₂;
        reports_are = append_assoc told (p ∷ []) ps ∙ e₃;
        sides_gone = omega (arith, length-append gone (s ∷ []), length-append hs (h ∷ []), is.sides_gone);
        feeds_done = omega (arith, length-append done (f ∷ []), length-append hs (h ∷ []), is.feeds_done);
        reports_told = omega (arith, length-append told (p ∷ []), length-append hs (h ∷ []), is.reports_told);
        promised = λ k d s₀ f₀ low. indexed_more (λ i (a : PromisedHandle (Ended × P × F) (Promised F)). HasPromised reading a (get_or sides i s₀) (get_or feeds i f₀)) hs h
            (λ i d low. is.promised i d s₀ f₀ low)
            (own.0 ∙ sym (at_place sides gone ss s s₀ (length hs) e₁ is.sides_gone), own.1 ∙ sym (at_place feeds done fs f f₀ (length hs) e₂ is.feeds_done), own.2)
            k d low;
      }

  -- the same for the list to which the handle is appended
  pub started_more : (s : Sent) (ss : List Sent) (f : F) (fs : List F) (p : P) (ps : List P) (hs : List (PromisedHandle (Ended × P × F) (Promised F))) (h : PromisedHandle (Ended × P × F) (Promised F)) (ss' : List Sent) (fs' : List F) (ps' : List P)
      (hs' : List (PromisedHandle (Ended × P × F) (Promised F)))
      → AreStarting sides feeds reports reading ss' fs' ps' hs → ss' ≡ s ∷ ss → fs' ≡ f ∷ fs → ps' ≡ p ∷ ps → HasPromised reading h s f → hs' ≡ hs ++ h ∷ [] → AreStarting sides feeds reports reading ss fs ps hs'
  started_more s ss f fs p ps hs h ss' fs' ps' hs' is next_side next_feed next_report own kept = subst (AreStarting sides feeds reports reading ss fs ps) (sym kept) (started_one s ss f fs p ps hs h ss' fs' ps' is next_side next_feed next_report own)

  -- all threads are started
  pub started_all : (ss : List Sent) (fs : List F) (ps : List P) (hs : List (PromisedHandle (Ended × P × F) (Promised F))) → AreStarting sides feeds reports reading ss fs ps hs → fs ≡ [] → HaveStarted sides feeds reading hs true
  started_all ss fs ps hs is none =
      let n : length feeds ≡ length is.done = ap length (sym is.feeds_are) ∙ ap (λ (l : List F). length (is.done ++ l)) none ∙ ap length (append-nil is.done) in
      let d = is.feeds_done in
      record { few = omega arith; all_are = λ all. omega arith; not_all = λ e. absurd (true≢false e); promised = is.promised }

  -- the next thread was not started
  pub started_some : (ss : List Sent) (f : F) (fs fs' : List F) (ps : List P) (hs : List (PromisedHandle (Ended × P × F) (Promised F))) → AreStarting sides feeds reports reading ss fs' ps hs → fs' ≡ f ∷ fs → HaveStarted sides feeds reading hs false
  started_some ss f fs fs' ps hs is next =
      let n : length feeds ≡ length (is.done ++ (f ∷ fs)) = ap length (sym is.feeds_are) ∙ ap (λ (l : List F). length (is.done ++ l)) next in
      let d = is.feeds_done in
      let low : length hs < length feeds = omega (arith, length-append is.done (f ∷ fs)) in
      record { few = omega arith; all_are = λ e. absurd (true≢false (sym e)); not_all = λ e. low; promised = is.promised }

-- the next report has taken nothing
pub next_told_nothing : {P : Type 0} (has_taken : P → List (ℕ × LineFault) → Type 0) (all : List P) (n : ℕ) (gone rest rest' : List P) (p : P) → gone ++ rest' ≡ all → rest' ≡ p ∷ rest → HaveTakenNothing has_taken all n → has_taken p []
next_told_nothing has_taken all n gone rest rest' p at next are =
    let e : gone ++ p ∷ rest ≡ all = ap (λ l. gone ++ l) (sym next) ∙ at in
    let low : length gone < n = omega (arith, are.0, ap length e, length-append gone (p ∷ rest)) in
    subst (λ x. has_taken x []) (at_place all gone rest p p (length gone) e refl) (are.1 (length gone) p low)

-- the next side has sent nothing
pub next_is_new : (sides : List Sent) (n : ℕ) (gone rest rest' : List Sent) (s : Sent) → gone ++ rest' ≡ sides → rest' ≡ s ∷ rest → ((k : ℕ) (e : Sent) → k < n → (get_or sides k e).list ≡ []) → length sides ≡ n → s.list ≡ []
next_is_new sides n gone rest rest' s at next each all =
    let e : gone ++ s ∷ rest ≡ sides = ap (λ (l : List Sent). gone ++ l) (sym next) ∙ at in
    let low : length gone < n = omega (arith, ap length e, length-append gone (s ∷ rest)) in
    sym (ap (λ (x : Sent). x.list) (at_place sides gone rest s s (length gone) e refl)) ∙ each (length gone) s low

-- the next side is planned by the next feed
pub next_is_planned : {F : Type 0} (remaining : F → Option (List ℕ)) (sides : List Sent) (feeds : List F) (gone rest rest' : List Sent) (done left left' : List F) (s : Sent) (f : F) → gone ++ rest' ≡ sides → rest' ≡ s ∷ rest → done ++ left' ≡ feeds → left' ≡ f ∷ left → length gone ≡ length done
    → ArePlannedBy remaining sides feeds → IsPlannedBy (remaining f) s
next_is_planned {F = F} remaining sides feeds gone rest rest' done left left' s f at next of more same planned =
    let e : gone ++ s ∷ rest ≡ sides = ap (λ (l : List Sent). gone ++ l) (sym next) ∙ at in
    let e' : done ++ f ∷ left ≡ feeds = ap (λ (l : List F). done ++ l) (sym more) ∙ of in
    let low : length done < length feeds = omega (arith, ap length e', length-append done (f ∷ left)) in
    subst (λ (y : Sent × F). IsPlannedBy (remaining y.1) y.0) (λ i. (at_place sides gone rest s s (length done) e same i, at_place feeds done left f f (length done) e' refl i)) (planned (length done) s f low)

-- a property of each report by its index, with one more report
told_left : {P : Type 0} (has_taken : P → List (ℕ × LineFault) → Type 0) (ps : List P) (p : P) (i : ℕ) (refused : List (ℕ × LineFault)) → i < length ps → taken_at has_taken ps i refused → taken_at has_taken (ps ++ p ∷ []) i refused
told_left has_taken ps p i refused low told = λ d. subst (λ x. has_taken x refused) (sym (get_or_append_left ps (p ∷ []) d i low)) (told d)

told_last : {P : Type 0} (has_taken : P → List (ℕ × LineFault) → Type 0) (ps : List P) (p : P) (n : ℕ) (refused : List (ℕ × LineFault)) → length ps ≡ n → has_taken p refused → taken_at has_taken (ps ++ p ∷ []) n refused
told_last has_taken ps p n refused is told = λ d. subst (λ x. has_taken x refused) (sym (get_or_push ps p d n is)) told

-- `HasSent` remains true where refused lines that were taken stay taken
sent_as : (before after : Option (List ℕ)) (fails fills : Bool) (piece reads : ℕ) (queue : QueueId) (sender : ℕ) (e : Ended) (r : SenderReport) (was now : List (ℕ × LineFault) → Type 0) → HasKept was now → HasSent before after fails fills piece reads queue sender e r was → HasSent before after fails fills piece reads queue sender e r now
sent_as before after fails fills piece reads queue sender e r was now kept is = record {
  queue_is = is.queue_is;
  sender_is = is.sender_is;
  text = is.text;
  consumed = is.consumed;
  bound = is.bound;
  given = is.given;
  items = is.items;
  put = is.put;
  put_are = is.put_are;
  accepted = is.accepted;
  told = kept (refusals is.given) is.told;
  sent = is.sent;
}

module _ {F P : Type 0} (remaining : F → Option (List ℕ)) (fails fills : F → Bool) (view : P → SenderReport) (has_taken : P → List (ℕ × LineFault) → Type 0) where
  kept_as : (h : PromisedHandle (Ended × P × F) (Promised F)) (e : Ended) (r : SenderReport) (was now : List (ℕ × LineFault) → Type 0) → HasKept was now → HasKeptIt remaining fails fills h e r was → HasKeptIt remaining fails fills h e r now
  kept_as h e r was now kept is = (is.0, sent_as _ is.0 _ _ _ _ _ _ e r was now kept is.1)

  pub ended_one : (hs : List (PromisedHandle (Ended × P × F) (Promised F))) (es : List Ended) (ps : List P) (h : PromisedHandle (Ended × P × F) (Promised F)) (e : Ended) (p : P)
      → HaveEnded remaining fails fills hs es (map view ps) (taken_at has_taken ps) → HasKeptIt remaining fails fills h e (view p) (has_taken p) → HaveEnded remaining fails fills (hs ++ h ∷ []) (es ++ e ∷ []) (map view (ps ++ p ∷ [])) (taken_at has_taken (ps ++ p ∷ []))
  ended_one hs es ps h e p are kept =
      let n : length ps ≡ length hs = (let x = are.reports_are in omega (arith, length-map ps view)) in
      record {
        ends_are = omega (arith, length-append es (e ∷ []), length-append hs (h ∷ []), are.ends_are);
        reports_are = omega (arith, length-map (ps ++ p ∷ []) view, length-append ps (p ∷ []), length-append hs (h ∷ []), n);
        kept = λ k h₀ e₀ r₀ low. indexed_more (λ i (a : PromisedHandle (Ended × P × F) (Promised F)). HasKeptIt remaining fails fills a (get_or (es ++ e ∷ []) i e₀) (get_or (map view (ps ++ p ∷ [])) i r₀) (taken_at has_taken (ps ++ p ∷ []) i)) hs h
            (λ i d below.
            let le : i < length es = (let x = are.ends_are in omega arith) in
            let lp : i < length ps = omega arith in
            let lr : i < length (map view ps) = omega (arith, length-map ps view) in
            let a : get_or (es ++ e ∷ []) i e₀ ≡ get_or es i e₀ = get_or_append_left es (e ∷ []) e₀ i le in
            let b : get_or (map view (ps ++ p ∷ [])) i r₀ ≡ get_or (map view ps) i r₀ = ap (λ (l : List SenderReport). get_or l i r₀) (map_push view ps p) ∙ get_or_append_left (map view ps) (view p ∷ []) r₀ i lr in
            kept_as (get_or hs i d) (get_or (es ++ e ∷ []) i e₀) (get_or (map view (ps ++ p ∷ [])) i r₀) (taken_at has_taken ps i) (taken_at has_taken (ps ++ p ∷ []) i) (λ refused. told_left has_taken ps p i refused lp)
            (subst (λ (y : Ended × SenderReport). HasKeptIt remaining fails fills (get_or hs i d) y.0 y.1 (taken_at has_taken ps i)) (λ j. (sym a j, sym b j)) (are.kept i d e₀ r₀ below)))
            (let a : get_or (es ++ e ∷ []) (length hs) e₀ ≡ e = get_or_push es e e₀ (length hs) are.ends_are in
            let b : get_or (map view (ps ++ p ∷ [])) (length hs) r₀ ≡ view p = ap (λ (l : List SenderReport). get_or l (length hs) r₀) (map_push view ps p) ∙ get_or_push (map view ps) (view p) r₀ (length hs) are.reports_are in
            kept_as h (get_or (es ++ e ∷ []) (length hs) e₀) (get_or (map view (ps ++ p ∷ [])) (length hs) r₀) (has_taken p) (taken_at has_taken (ps ++ p ∷ []) (length hs)) (λ refused. told_last has_taken ps p (length hs) refused n)
            (subst (λ (y : Ended × SenderReport). HasKeptIt remaining fails fills h y.0 y.1 (has_taken p)) (λ j. (sym a j, sym b j)) kept))
            k h₀ low;
      }

  -- the same for the lists to which the ends and reports are appended
  pub ended_more : (hs : List (PromisedHandle (Ended × P × F) (Promised F))) (es es' : List Ended) (ps ps' : List P) (h : PromisedHandle (Ended × P × F) (Promised F)) (e : Ended) (p : P)
      → HaveEnded remaining fails fills hs es (map view ps) (taken_at has_taken ps) → HasKeptIt remaining fails fills h e (view p) (has_taken p) → es' ≡ es ++ e ∷ [] → ps' ≡ ps ++ p ∷ [] → HaveEnded remaining fails fills (hs ++ h ∷ []) es' (map view ps') (taken_at has_taken ps')
  ended_more hs es es' ps ps' h e p are kept ends reports =
      subst (λ (y : List Ended × List P). HaveEnded remaining fails fills (hs ++ h ∷ []) y.0 (map view y.1) (taken_at has_taken y.1)) (λ i. (sym ends i, sym reports i)) (ended_one hs es ps h e p are kept)

  pub ended_all : (hs rest all : List (PromisedHandle (Ended × P × F) (Promised F))) (es : List Ended) (ps : List P) → HaveEnded remaining fails fills hs es (map view ps) (taken_at has_taken ps) → hs ++ rest ≡ all → rest ≡ [] → HaveEnded remaining fails fills all es (map view ps) (taken_at has_taken ps)
  ended_all hs rest all es ps are is none =
      let e : hs ≡ all = sym (append-nil hs) ∙ ap (λ (l : List (PromisedHandle (Ended × P × F) (Promised F))). hs ++ l) (sym none) ∙ is in
      subst (λ (l : List (PromisedHandle (Ended × P × F) (Promised F))). HaveEnded remaining fails fills l es (map view ps) (taken_at has_taken ps)) e are
