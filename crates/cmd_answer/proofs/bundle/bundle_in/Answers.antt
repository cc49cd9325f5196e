use Rattle.std.proofs.Common.{◌∙◌, ap, sym, map, arith}
use Rattle.std.proofs.lemmas.Grind.{common_steps}
use Rattle.cmd_answer.proofs.BundleLemmas.{head_parts, count_map}
use Rattle.cmd_answer.proofs.bundle.bundle_in.Goals as goal

pub returns-in-len1-up-clause-read : goal.returns-in-len1-up-clause-read
returns-in-len1-up-clause-read c =
    let all = head_parts (λ t. t.now) c.as_slice.result.now _ (omega (arith, c.in-len1-up.len_at_least)) in
    rw c.in_ok-from_slice-in-len1-up.ensures.items
    (record {
      inventory_text = _;
      parts_are = sym c.in_ok-parts.ensures ∙ ap (map (λ t. t.now)) (sym c.as_slice.ensures.value) ∙ all;
      count = count_map (λ t. t.now) _ (c.is_sender_count.ensures.0 c.if-is_sender_count.true);
      configured = c.in_ok-inventory-in-len1-up.ensures.read;
    })

pub returns-clause-stops : goal.returns-clause-stops
returns-clause-stops c = grind (arith, common_steps)
