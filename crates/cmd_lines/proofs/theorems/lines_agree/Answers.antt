-- Why `lines_agree` keeps its contract.
use Rattle.cmd_lines.proofs.Canonical.{canonical_lacks, canonical_ends}
use Rattle.cmd_lines.proofs.Pieces.{before_is, from_is}
use Rattle.cmd_lines.proofs.Laws.{canonical_spells, spells_one}
use Rattle.cmd_lines.proofs.theorems.lines_agree.Goals as goal

pub returns : goal.returns
returns c =
    let laws = c.definitions_agree.ensures in
    record { below = laws; front = before_is; back = from_is; spelled = canonical_spells laws; one_line = canonical_lacks laws; ended = canonical_ends laws; one = spells_one laws }
