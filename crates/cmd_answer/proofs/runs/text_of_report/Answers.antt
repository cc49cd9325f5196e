use Rattle.cmd_answer.proofs.runs.text_of_report.Goals as goal

pub returns-clause-text : goal.returns-clause-text
returns-clause-text c = rw (c.in_ok-report.ensures.ok, c.new-text.ensures.items) at c.in_ok-put_rest.ensures
