use Rattle.std.proofs.Common.{rules, sym, subst, List}
use Rattle.cmd_types.specs.declared.entry.Entry.{Entry}
use Rattle.cmd_dispatch.specs.Delivered.{BeginsWith}
use Rattle.cmd_dispatch.specs.BoardViews.{Shows}
use Rattle.cmd_dispatch.proofs.BoardSteps.{publishes}
use Rattle.cmd_dispatch.proofs.board.put.Goals as goal

pub store-requires : goal.store-requires
store-requires g c = (
  search rules,
  search rules,
  publishes _ _ _ c.args.place.now.me _ _ c.requires.writer.1
      (subst (λ (l : List Entry). BeginsWith l c.args.place.now.me.0.published) (sym c.requires.said) c.requires.more)
      (subst (λ (l : List Entry). Shows c.args.place.now.me.0.inventory l c.args.found) (sym c.requires.said) c.requires.shows),
)
