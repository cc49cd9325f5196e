use Rattle.std.proofs.Common.{All, take}
use Rattle.cmd_types.specs.Bytes.{Lacks}
use Rattle.cmd_recovery.proofs.feeds.assigning.has_line_feed.Given as goal

abbrev pub invariant-loop-word : goal.invariant-loop-word
invariant-loop-word l = All (λ w. Lacks 10 w.now) (take l.word-index l.words)
