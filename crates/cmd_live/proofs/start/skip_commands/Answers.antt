-- Why `skip_commands` keeps its contract.
use Rattle.std.proofs.Common.{◌++◌, List, ℕ, take, Option, sym, ap, subst, ◌∙◌, append_assoc}
use Rattle.std.specs.Io.KnownBytes.{Consumes}
use Rattle.cmd_lines.specs.Skips.{Skips}
use Rattle.cmd_live.proofs.StartLemmas.{consumed}
use Rattle.cmd_live.proofs.start.skip_commands.Goals as goal

pub pieces-preserved : goal.pieces-preserved
pieces-preserved g c = λ text known.
    let i = c.pieces.invariant text known in
    let bytes = take c.in-Ok.count c.read_some.new.buffer in
    let passed : Skips c.in-More.skipping c.args.commands i.0 = rw c.in-More.is at i.4 in
    let read = consumed i.1 (g.R.Read.remaining c.read_some.new.stream) bytes (subst (λ (o : Option (List ℕ)). Consumes o (g.R.Read.remaining c.read_some.new.stream) bytes) i.3 c.in-Ok.ensures.bytes.0) in (
      i.0 ++ bytes,
      read.0,
      i.2 ∙ ap (λ (t : List ℕ). i.0 ++ t) read.2 ∙ sym (append_assoc i.0 bytes read.0),
      read.1,
      c.in-Ok-feed.ensures c.args.commands i.0 passed,
    )
