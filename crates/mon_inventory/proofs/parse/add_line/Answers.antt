use Rattle.std.proofs.Common.{◌≡◌, ◌≢◌, ℕ, ◌<◌, Bool, true, false, Option, Some, None, Result, Ok, Err, List, [], ◌∷◌, length, if◌then◌else◌, refl, sym, ap, ◌∙◌, arith, rules}
use Rattle.std.specs.Prelude.{OnOk, IfErr}
use Rattle.std.specs.List.{find}
use Rattle.std.proofs.lemmas.Bool.{eqb-false}
use Rattle.cmd_types.specs.Bytes.{without_returns}
use Rattle.mon_inventory.specs.declared.fault.Cause.{Cause}
use Rattle.mon_inventory.specs.declared.fault.Cause.TheVariants.{BadForm, Memory}
use Rattle.mon_inventory.specs.Texts.{parts_left}
use Rattle.mon_inventory.specs.Line.{Form, NoForm, form_of, form, is_empty}
use Rattle.mon_inventory.specs.Configuration.{Configuration, has, causes, cause_of, with_form}
use Rattle.mon_inventory.specs.Seen.{seen, seen_or_none}
use Rattle.mon_inventory.specs.declared.form.Form as held
use Rattle.mon_inventory.specs.Read.{Adds}
use Rattle.mon_inventory.specs.Index.{configuration}
use Rattle.mon_inventory.proofs.Fine.{no_cause}
use Rattle.mon_inventory.proofs.parse.add_line.Goals as goal

passes : (test : Cause → Bool) (cs : List Cause) (cause : Cause) → find test cs ≡ Some cause → test cause ≡ true
passes test [] cause e = absurd (cc)
passes test (c ∷ cs) cause e = by (test c) refl (passes test cs cause) e
  where
    by : (t : Bool) → test c ≡ t → (find test cs ≡ Some cause → test cause ≡ true) → (if t then Some c else find test cs) ≡ Some cause → test cause ≡ true
    by true is later e = let same : c ≡ cause = cc in ap test (sym same) ∙ is
    by false is later e = later e

-- a line of this form that is not empty
record IsOf (line : List ℕ) (f : Form) : Type 0 where
  some : is_empty (without_returns line) ≡ false
  is : f ≡ form line

is_of : (line bare : List ℕ) (o : Option held.Form) → bare ≡ without_returns line → is_empty bare ≡ false → seen_or_none o ≡ form_of (parts_left 59 (Some bare)) → (f : Form) → seen_or_none o ≡ f → IsOf line f
is_of line bare o value some formed f is = record { some = sym (ap is_empty value) ∙ some; is = sym is ∙ formed ∙ ap (λ t. form_of (parts_left 59 (Some t))) value }

by_form : (k : Configuration) (line : List ℕ) (f : Form) (o : Option Cause) → IsOf line f → o ≡ find (has k f) causes → cause_of k line ≡ o
by_form k line f o of e = rw (of.some, ← of.is) (sym e)

refused : (k : Configuration) (line : List ℕ) (f : Form) (cause : Cause) → IsOf line f → Some cause ≡ find (has k f) causes
    → (cause ≢ Memory → cause_of k line ≡ Some cause) × (cause ≡ Memory → (0 < length (without_returns line)) × (cause_of k line ≡ None))
refused k line f cause of e =
    (λ other. by_form k line f (Some cause) of e, λ is. let no : false ≡ true = passes (has k f) causes Memory (sym e ∙ ap Some is) in absurd (cc))

added : {X : Type 0} (k : Configuration) (line : List ℕ) (f : Form) (j : Configuration) (r : Result X Cause) → IsOf line f → None ≡ find (has k f) causes
    → OnOk r (j ≡ with_form k f) → IfErr r (λ e. e ≡ Memory) → Adds k line j r
added k line f j (Ok x) of e ok err = (by_form k line f None of e, ok ∙ ap (with_form k) of.is)
added k line f j (Err x) of e ok err = (λ other. absurd (other err), λ _. (let none = eqb-false (length (without_returns line)) 0 of.some in omega arith, by_form k line f None of e))

pub returns-in_default-clause-added : goal.returns-in_default-clause-added
returns-in_default-clause-added c =
    let none : c.form_of.result ≡ None = search rules in
    refused (configuration c.args.index.now) c.args.line.now NoForm BadForm
    (is_of c.args.line.now c.without_returns-line.result.now c.form_of.result c.without_returns-line.ensures.value (sym c.is_empty.ensures ∙ c.if-is_empty.false) c.form_of.ensures NoForm (ap seen_or_none none)) refl

pub returns-in-Some-cause_of-clause-added : goal.returns-in-Some-cause_of-clause-added
returns-in-Some-cause_of-clause-added c =
    refused (configuration c.args.index.now) c.args.line.now (seen c.in-Some.form) c.in-Some-cause_of.cause
    (is_of c.args.line.now c.without_returns-line.result.now c.form_of.result c.without_returns-line.ensures.value (sym c.is_empty.ensures ∙ c.if-is_empty.false) c.form_of.ensures _ (ap seen_or_none c.in-Some.is)) (sym c.in-Some-cause_of.is ∙ c.cause_of.ensures)

pub add-requires-clause-fine : goal.add-requires-clause-fine
add-requires-clause-fine c =
    let none : c.cause_of.result ≡ None = search rules in
    no_cause (configuration c.args.index.now) (seen c.in-Some.form) (sym c.cause_of.ensures ∙ none)

pub returns-clause-added : goal.returns-clause-added
returns-clause-added c =
    let none : c.cause_of.result ≡ None = search rules in
    added (configuration c.args.index.now) c.args.line.now (seen c.in-Some.form) _ c.add.result
    (is_of c.args.line.now c.without_returns-line.result.now c.form_of.result c.without_returns-line.ensures.value (sym c.is_empty.ensures ∙ c.if-is_empty.false) c.form_of.ensures _ (ap seen_or_none c.in-Some.is)) (sym none ∙ c.cause_of.ensures) c.add.ensures.added c.add.ensures.err
