use Rattle.mon_inventory.proofs.Options.{one_named}
use Rattle.mon_inventory.proofs.letters.with_item.Goals as goal

pub returns : goal.returns
returns c =
    rw (c.eq.ensures, c.eq-2.ensures, c.eq-3.ensures, c.eq-4.ensures, c.eq-5.ensures, c.eq-6.ensures, c.as_slice.ensures, c.as_slice-2.ensures, c.as_slice-3.ensures, c.as_slice-4.ensures, c.as_slice-5.ensures, c.as_slice-6.ensures)
    (one_named c.args.letters c.args.item.now)
