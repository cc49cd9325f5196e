use Rattle.cmd_answer.proofs.follow_line.AbsentFeed.text.Goals as goal

pub returns-then-self : goal.returns-then-self
returns-then-self c = rw c.if-self.true c.format.ensures.ok

pub returns-else-self : goal.returns-else-self
returns-else-self c = rw c.if-self.false c.format-else-self.ensures.ok
