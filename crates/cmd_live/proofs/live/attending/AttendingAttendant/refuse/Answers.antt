use Rattle.std.proofs.Common.{◌∙◌, ◌++◌, ap, sym}
use Rattle.cmd_lines.specs.Skips.{raised_refusal}
use Rattle.cmd_answer.specs.Printed.{refused_line}
use Rattle.cmd_live.proofs.FollowLemmas.{refuses_more, line_told}
use Rattle.cmd_live.proofs.live.attending.AttendingAttendant.refuse.Goals as goal

pub returns-clause-taken : goal.returns-clause-taken
returns-clause-taken g c refused was =
    let old = c.args.self.now in
    let new = c.print_line.new.self in
    let same = c.print_line.ensures.same in
    let spelled = c.in_ok-put_refused.ensures.ok ∙ ap (λ n. c.clear.new.self.items ++ refused_line old.care.feed (n, c.args.fault)) c.in_ok-number.ensures in (
      sym (refuses_more refused (c.args.line, c.args.fault)),
      line_told g.R.Stream.Write.contents old.first.value new.first.value old.refusals new.refusals old.is_cut new.is_cut (λ r. refused_line old.care.feed (raised_refusal old.care.passed r)) (λ r. refused_line new.care.feed (raised_refusal new.care.passed r)) refused (c.args.line, c.args.fault) c.clear.new.self.items c.put_refused.new.out.items
          (ap (λ s. s.value) same.0) (ap (λ k r. refused_line k.feed (raised_refusal k.passed r)) same.1) c.clear.ensures.items spelled was.1 c.print_line.ensures.printed,
    )
