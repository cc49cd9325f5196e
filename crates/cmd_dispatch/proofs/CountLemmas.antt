-- The number of entries of all senders, by the number of each.
use Rattle.std.proofs.Common.{◌≡◌, ◌==◌, ◌≤◌, ◌<◌, ℕ, suc, ◌+◌, Bool, true, false, not, cond, List, [], ◌∷◌, length, get_or, refl, subst, arith}
use Rattle.std.specs.List.{filter, sum_by}
use Rattle.std.proofs.lemmas.List.Filters.{length-filter_both}
use Rattle.std.proofs.lemmas.List.Sums.{sum_by-cons}
use Rattle.cmd_types.specs.declared.entry.Entry.{Entry}
use Rattle.cmd_journal.specs.Journals.{of_sender}
use Rattle.cmd_run.specs.declared.ending.SenderReport.{SenderReport}
use Rattle.cmd_run.specs.Senders.{AreOf}

-- the entries that are not of this sender
others : ℕ → List Entry → List Entry
others s es = filter (λ e. not (e.sender == s)) es

-- all entries are of this sender or of one with a greater number
abbrev pub AreFrom : ℕ → List Entry → Type 0
AreFrom s [] = Unit {0}
AreFrom s (e ∷ es) = (s ≤ e.sender) × AreFrom s es

pub from_first : (es : List Entry) → AreFrom 0 es
from_first [] = tt
from_first (e ∷ es) = (omega arith, from_first es)

both : (b : Bool) (e : Entry) (xs ys : List Entry) → length xs ≤ length ys → length (cond b (e ∷ xs) xs) ≤ length (cond b (e ∷ ys) ys)
both true e xs ys h = omega arith
both false e xs ys h = h

one : (b : Bool) (e : Entry) (xs ys : List Entry) → length xs ≤ length ys → length xs ≤ length (cond b (e ∷ ys) ys)
one true e xs ys h = omega arith
one false e xs ys h = h

kept : (m : ℕ) (e : Entry) (b : Bool) (xs ys : List Entry) → length (of_sender m xs) ≤ length (of_sender m ys) → length (of_sender m (cond b (e ∷ xs) xs)) ≤ length (of_sender m (e ∷ ys))
kept m e true xs ys h = both (e.sender == m) e (of_sender m xs) (of_sender m ys) h
kept m e false xs ys h = one (e.sender == m) e (of_sender m xs) (of_sender m ys) h

-- they have at most as many entries of any sender
others_are_few : (s m : ℕ) (es : List Entry) → length (of_sender m (others s es)) ≤ length (of_sender m es)
unfolding others
others_are_few s m [] = omega arith
others_are_few s m (e ∷ es) = kept m e (not (e.sender == s)) (filter (λ x. not (x.sender == s)) es) es (others_are_few s m es)

of_rest : (n : ℕ) (e : Entry) (b : Bool) (xs : List Entry) → e.sender < n → AreOf n xs → AreOf n (cond b (e ∷ xs) xs)
of_rest n e true xs low are = (low, are)
of_rest n e false xs low are = are

others_are_of : (n s : ℕ) (es : List Entry) → AreOf n es → AreOf n (others s es)
unfolding others
others_are_of n s [] are = tt
others_are_of n s (e ∷ es) are = of_rest n e (not (e.sender == s)) (filter (λ x. not (x.sender == s)) es) are.0 (others_are_of n s es are.1)

from_next : (s : ℕ) (e : Entry) (b : Bool) (xs : List Entry) → (e.sender == s) ≡ b → s ≤ e.sender → AreFrom (s + 1) xs → AreFrom (s + 1) (cond (not b) (e ∷ xs) xs)
from_next s e true xs is low are = are
from_next s e false xs is low are = (grind arith, are)

others_are_from : (s : ℕ) (es : List Entry) → AreFrom s es → AreFrom (s + 1) (others s es)
unfolding others
others_are_from s [] are = tt
others_are_from s (e ∷ es) are = from_next s e (e.sender == s) (filter (λ x. not (x.sender == s)) es) refl are.0 (others_are_from s es are.1)

split : (s : ℕ) (es : List Entry) → length (of_sender s es) + length (others s es) ≡ length es
unfolding others
split s es = length-filter_both (λ e. e.sender == s) (λ e. not (e.sender == s)) (λ e. refl) es

-- there are at most as many entries as all senders have accepted, where this holds for each sender
pub all_counted : (s : ℕ) (es : List Entry) (reports : List SenderReport) → ((k : ℕ) (r : SenderReport) → k < length reports → length (of_sender (s + k) es) ≤ (get_or reports k r).accepted)
    → AreOf (s + length reports) es → AreFrom s es → length es ≤ sum_by (λ r. r.accepted) reports
all_counted s [] [] few known from = omega arith
all_counted s (e ∷ es) [] few known from = absurd (let a = known.0 in let b = from.0 in omega arith)
all_counted s es (r ∷ reports) few known from =
    let rest = others s es in
    let first : length (of_sender s es) ≤ r.accepted = subst (λ (m : ℕ). length (of_sender m es) ≤ r.accepted) (omega arith) (few 0 r (omega arith)) in
    let of_rest' : AreOf ((s + 1) + length reports) rest = subst (λ (n : ℕ). AreOf n rest) (omega arith) (others_are_of (s + length (r ∷ reports)) s es known) in
    let later = all_counted (s + 1) rest reports (λ k q low.
    let at : length (of_sender (s + suc k) es) ≤ (get_or reports k q).accepted = few (suc k) q (omega arith) in
    let here : length (of_sender ((s + 1) + k) es) ≤ (get_or reports k q).accepted = subst (λ (m : ℕ). length (of_sender m es) ≤ (get_or reports k q).accepted) (omega arith) at in
    omega (arith, others_are_few s ((s + 1) + k) es)) of_rest' (others_are_from s es from) in
    omega (arith, split s es, sum_by-cons (λ (q : SenderReport). q.accepted) r reports)
