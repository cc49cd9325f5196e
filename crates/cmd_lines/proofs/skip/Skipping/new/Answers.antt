-- Why `Skipping::new` keeps its contract.
use Rattle.std.proofs.Common.{◌≡◌, [], List, length, None, inl, refl, sym, ap, subst, arith}
use Rattle.cmd_lines.specs.declared.phase.Phase.TheVariants.{Finished}
use Rattle.cmd_lines.specs.declared.item.Item.{Item}
use Rattle.cmd_lines.specs.Items.{commands}
use Rattle.cmd_lines.specs.Skips.{IsUpTo}
use Rattle.cmd_lines.proofs.SkipLaws.{count_none, nothing_known}
use Rattle.cmd_lines.proofs.skip.Skipping.new.Goals as goal

pub returns : goal.returns
returns c =
    let some = c.if-count-eq0.false in
    record {
      front = [];
      begun = [];
      parts = refl;
      whole = inl refl;
      one = tt;
      reads = c.new.ensures.stands;
      count = omega (arith, ap (λ (r : List Item). length (commands r)) (nothing_known Finished 1));
      some = omega (arith, some);
      fed = refl;
      lines = sym count_none;
    }

pub returns-then-count-eq0 : goal.returns-then-count-eq0
returns-then-count-eq0 c =
    let none : c.args.count ≡ 0 = omega (arith, c.if-count-eq0.true) in
    record {
      front = [];
      rest = [];
      parts = refl;
      up_to = subst (λ n. IsUpTo n [] None) (sym none) (refl, refl);
      bytes = refl;
      lines = sym count_none;
    }
