use Rattle.mon_engine.specs.Report.{fields_text}
use Rattle.mon_engine.specs.Fields.{texts}
use Rattle.mon_engine.proofs.ReportLemmas.{grows_by, grows_on, line_put}
use Rattle.mon_engine.proofs.lines.put_whole.Goals as goal

pub returns-in_err-push-clause-grown : goal.returns-in_err-push-clause-grown
returns-in_err-push-clause-grown c = rw c.in_err-push.ensures.items c.put_word.ensures.grown

pub returns-clause-ok : goal.returns-clause-ok
returns-clause-ok c = line_put c.args.out.now.items c.put_word.new.out.items c.push.new.self.items c.args.word.now (fields_text (texts c.args.fields.now)) c.in_ok-put_word.ensures.ok c.in_ok-push.ensures.items

pub returns-clause-grown : goal.returns-clause-grown
returns-clause-grown c = grows_on _ _ _ c.put_word.ensures.grown (grows_by _ _ _ c.in_ok-push.ensures.items)
