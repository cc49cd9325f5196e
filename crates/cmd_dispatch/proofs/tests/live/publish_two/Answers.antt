-- Why `publish_two` may publish: nothing was published before.
use Rattle.std.proofs.Common.{List, ◌++◌, ap, sym}
use Rattle.cmd_types.specs.declared.entry.Entry.{Entry}
use Rattle.cmd_dispatch.proofs.tests.live.publish_two.Goals as goal

pub publish-requires-clause-more : goal.publish-requires-clause-more
publish-requires-clause-more c =
    let list = c.in-Ok.journal.entries in
    (list, ap (λ (l : List Entry). l ++ list) (sym c.requires.1))
