-- Why `number_up_to` keeps its contract.
use Rattle.std.proofs.Common.{◌≡◌, ℕ, ◌-◌, ◌∷◌, true, List, length, get_or, take, drop, sym, subst, arith}
use Rattle.std.specs.Char.{is_ascii_digit}
use Rattle.cmd_lines.specs.Leading.{LeadsOn}
use Rattle.cmd_lines.proofs.LeadingLaws.{one_more, one_fewer, stops, stopped, from_start, at_start, one_first, power_below, power_more, none_left}
use Rattle.cmd_lines.proofs.leading.number_up_to.Goals as goal
use Rattle.cmd_lines.proofs.leading.number_up_to.Goals.{then-next-byte-via-then-next-byte, then-next-byte-via-else-next-byte+then-digits-eq0, then-next-byte-via-else-next-byte+else-digits-eq0+then-n-gt-GREATEST_NUMBER}

pub overflow_mul-n : goal.overflow_mul-n
overflow_mul-n c = omega (arith, power_below c.digits.n c.digits.digits (omega arith) c.digits.invariant.bound)

pub overflow_add-n : goal.overflow_add-n
overflow_add-n c = omega (arith, power_below c.digits.n c.digits.digits (omega arith) c.digits.invariant.bound, c.if-not-is_ascii_digit.ensures.cases.1, c.from.ensures)

pub digits-preserved : goal.digits-preserved
digits-preserved c =
    let b = c.args.byte in
    let value = c.digits.n in
    let count = c.digits.digits in
    let xs = c.digits.rest.now in
    let d = get_or xs 0 0 in
    let after = take (length xs - 1) (drop 1 xs) in
    let is : xs ≡ d ∷ after = one_first xs (omega arith) in
    let digit : is_ascii_digit d ≡ true = sym c.if-not-is_ascii_digit.ensures.value in
    let i = c.digits.invariant in
    let cases = c.if-not-is_ascii_digit.ensures.cases in
    record {
      back = λ n rest h. i.back n rest (subst (λ (ys : List ℕ). LeadsOn b value count ys n rest) (sym is) (one_more b value count d after n rest digit (rw (← c.from.ensures) h)));
      forth = λ n rest h. rw c.from.ensures (one_fewer b value count d after n rest c.requires digit (subst (λ (ys : List ℕ). LeadsOn b value count ys n rest) is (i.forth n rest h)));
      bound = rw c.from.ensures (power_more value count (d - 48) i.bound (omega (arith, cases.1)));
      few = omega arith;
    }

pub returns-then-digits-eq-MOST_DIGITS : goal.returns-then-digits-eq-MOST_DIGITS
returns-then-digits-eq-MOST_DIGITS c = λ n rest h.
    let b = c.args.byte in
    let value = c.digits.n in
    let count = c.digits.digits in
    let xs = c.digits.rest.now in
    let d = get_or xs 0 0 in
    let after = take (length xs - 1) (drop 1 xs) in
    let on = subst (λ (ys : List ℕ). LeadsOn b value count ys n rest) (one_first xs (omega arith)) (c.digits.invariant.forth n rest (at_start b c.args.bytes.now n rest h)) in
    let few = (one_fewer b value count d after n rest c.requires (sym c.if-not-is_ascii_digit.ensures.value) on).few in
    omega (arith, few)

pub returns-then-next-byte : goal.returns-then-next-byte
returns-then-next-byte c = λ n rest h.
    let b = c.args.byte in
    let value = c.digits.n in
    let count = c.digits.digits in
    let xs = c.digits.rest.now in
    let d = get_or xs 0 0 in
    let after = take (length xs - 1) (drop 1 xs) in
    let on = subst (λ (ys : List ℕ). LeadsOn b value count ys n rest) (one_first xs (omega arith)) (c.digits.invariant.forth n rest (at_start b c.args.bytes.now n rest h)) in
    let s = stops b value count d after n rest (sym c.if-not-is_ascii_digit.ensures.value) on in
    elim c.then-next-byte.branch [
      | then-next-byte-via-then-next-byte w ↦ omega (arith, s.byte)
      | then-next-byte-via-else-next-byte+then-digits-eq0 w ↦ omega (arith, s.some)
      | then-next-byte-via-else-next-byte+else-digits-eq0+then-n-gt-GREATEST_NUMBER w ↦ omega (arith, s.small, s.value_is)
    ]

pub returns-then-not-is_ascii_digit : goal.returns-then-not-is_ascii_digit
returns-then-not-is_ascii_digit c =
    let b = c.args.byte in
    let value = c.digits.n in
    let count = c.digits.digits in
    let xs = c.digits.rest.now in
    let after = take (length xs - 1) (drop 1 xs) in
    let byte : get_or xs 0 0 ≡ b = omega arith in
    let is : xs ≡ b ∷ after = rw (← byte) (one_first xs (omega arith)) in
    from_start b c.args.bytes.now value after (c.digits.invariant.back value after (subst (λ (ys : List ℕ). LeadsOn b value count ys value after) (sym is) (stopped b value count after (omega arith) c.digits.invariant.few (omega arith))))

pub returns : goal.returns
returns c = λ n rest h. none_left c.args.byte c.digits.n c.digits.digits c.digits.rest.now n rest (omega arith) (c.digits.invariant.forth n rest (at_start c.args.byte c.args.bytes.now n rest h))
