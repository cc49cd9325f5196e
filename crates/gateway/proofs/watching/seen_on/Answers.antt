use Rattle.std.proofs.Common.{List, ap, sym, ◌∙◌}
use Rattle.cmd_types.specs.declared.entry.Entry.{Entry}
use Rattle.mon_inventory.specs.Configuration.{Configuration}
use Rattle.mon_engine.specs.Figures.{figures}
use Rattle.mon_engine.specs.Step.{meaning}
use Rattle.cmd_dispatch.specs.BoardEnds.{Writing}
use Rattle.gateway.proofs.WatchedLemmas.{seen_all}
use Rattle.gateway.proofs.watching.seen_on.Goals as goal

pub returns-clause-seen : goal.returns-clause-seen
returns-clause-seen c =
    let looked = c.look-figures in
    let made = c.in_ok-reader.ensures.reader in
    let gathered = c.gather.ensures.seen in
    let all = seen_all c.in_ok-reader.reader.seen looked.new.self.seen c.args.board.now.published made.2 looked.ensures.seen
    (gathered.0, ap (λ (w : Writing). w.published) (sym c.reader.ensures.same) ∙ gathered.1) in
    let same = looked.ensures.side.1 ∙ made.1 in
    looked.ensures.shown ∙ ap (λ (i : Configuration). figures (meaning i looked.new.self.seen)) same ∙ ap (λ (l : List Entry). figures (meaning c.args.board.now.inventory l)) all

pub gather-requires : goal.gather-requires
gather-requires c =
    c.look-figures.ensures.side.0 ∙ c.in_ok-reader.ensures.reader.0 ∙ ap (λ (w : Writing). w.board) (sym c.reader.ensures.same)

pub returns-clause-same : goal.returns-clause-same
returns-clause-same c = c.gather.ensures.same ∙ c.reader.ensures.same

pub returns-in_err-reader-clause-same : goal.returns-in_err-reader-clause-same
returns-in_err-reader-clause-same c = c.reader.ensures.same
