use Rattle.std.proofs.Common.{◌≡◌, ◌++◌, drop, map}
use Rattle.gateway.specs.Followed.{end_lines}
use Rattle.gateway.proofs.ends.lines_of.Given as goal

abbrev pub invariant-loop-number : goal.invariant-loop-number
invariant-loop-number g l = l.text.items ++ end_lines l.fn.run.clock l.number (drop l.number (map (λ f. f.report) l.feeds)) ≡ end_lines l.fn.run.clock 0 (map (λ f. f.report) l.feeds)
