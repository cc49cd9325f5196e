-- Records that were scheduled before: their events, and what is kept of the first of them.
use Rattle.std.proofs.Common.{◌≡◌, inl, inr, ℕ, ◌+◌, ◌<◌, List, [], ◌∷◌, ◌++◌, length, take, get_or, Option, Some, ap, sym, ◌∙◌, subst, append-nil, append_assoc, arith, zero, suc}
use Rattle.std.specs.List.{flat_map}
use Rattle.std.specs.Prelude.{IfSome, slice_get}
use Rattle.std.proofs.lemmas.Bool.{cases_lt}
use Rattle.std.proofs.lemmas.Option.{slice_get-get_or}
use Rattle.std.proofs.Math.Seq.{take-suc}
use Rattle.mon_downtime.specs.declared.downtime.Downtime.{Downtime}
use Rattle.mon_downtime.specs.declared.event.Event.{Event}
use Rattle.mon_downtime.specs.Records.{record_of, AreNumbered, IsRecord, AreRecords}
use Rattle.mon_downtime.specs.declared.links.Link.{Link}
use Rattle.mon_downtime.specs.Links.{AreUnmarked}
use Rattle.mon_downtime.proofs.RecordLemmas.{record_at}

-- ---- the first records

pub take_records : (n k : ℕ) (ds : List Downtime) → AreRecords n ds → AreRecords n (take k ds)
take_records n zero ds w = tt
take_records n (suc k) [] w = tt
take_records n (suc k) (d ∷ ds) w = (w.0, take_records (n + 1) k ds w.1)

pub one_more : (ds : List Downtime) (i : ℕ) (d : Downtime) → i < length ds → d ≡ get_or ds i d → take (i + 1) ds ≡ take i ds ++ d ∷ []
one_more ds i d h is =
    let next : suc i ≡ i + 1 = omega arith in
    ap (λ n. take n ds) (sym next) ∙ take-suc ds i d h ∙ ap (λ (x : Downtime). take i ds ++ x ∷ []) (sym is)

-- ---- each in its place

pub each_more : (P : ℕ → Type 0) (i : ℕ) → P i → ((k : ℕ) → k < i → P k) → (k : ℕ) → k < i + 1 → P k
each_more P i here all k l = elim (cases_lt k i) [
  | inl low ↦ all k low
  | inr high ↦ subst P (let same : i ≡ k = omega (arith, high, l) in same) here
]

pub read_record : (ds : List Downtime) (i : ℕ) (d : Downtime) → i < length ds → IsRecord i (get_or ds i d) → IfSome (slice_get ds i) (IsRecord i)
read_record ds i d h w = subst (λ (o : Option Downtime). IfSome o (IsRecord i)) (sym (slice_get-get_or ds i d h)) w

-- ---- no links

pub none_marked : (links : List Link) → length links ≡ 0 → AreUnmarked links
none_marked [] h = λ x some k. absurd (cc)
none_marked (l ∷ links) h = absurd (omega arith)

-- ---- the events of the first records

events_more : (own : Option Downtime → List Event) (ds : List Downtime) (i : ℕ) → i < length ds → flat_map (λ d. own (Some d)) (take (suc i) ds) ≡ flat_map (λ d. own (Some d)) (take i ds) ++ own (slice_get ds i)
events_more own [] i h = absurd (omega arith)
events_more own (d ∷ ds) zero h = append-nil (own (Some d))
events_more own (d ∷ ds) (suc i) h =
    ap (λ (es : List Event). own (Some d) ++ es) (events_more own ds i (omega arith))
    ∙ sym (append_assoc (own (Some d)) (flat_map (λ x. own (Some x)) (take i ds)) (own (slice_get ds i)))

-- with those of the next record the list has one record's more
pub one_pushed : (own : Option Downtime → List Event) (ds : List Downtime) (i : ℕ) → AreNumbered 0 ds → i < length ds → flat_map (λ d. own (Some d)) (take i ds) ++ own (record_of ds (i + 1)) ≡ flat_map (λ d. own (Some d)) (take (i + 1) ds)
one_pushed own ds i w h =
    let next : suc i ≡ i + 1 = omega arith in
    ap (λ (o : Option Downtime). flat_map (λ d. own (Some d)) (take i ds) ++ own o) (record_at 0 ds (i + 1) i w (omega arith))
    ∙ sym (events_more own ds i h)
    ∙ ap (λ n. flat_map (λ d. own (Some d)) (take n ds)) next
