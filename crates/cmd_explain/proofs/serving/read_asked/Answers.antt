use Rattle.cmd_explain.proofs.TextLemmas.{asked_words}
use Rattle.cmd_explain.proofs.serving.read_asked.Goals as goal

pub returns-in_ok-spaced-in-len1-up-clause-text : goal.returns-in_ok-spaced-in-len1-up-clause-text
returns-in_ok-spaced-in-len1-up-clause-text g c = asked_words c.args.words.now _ _ _ c.in-len1-up.len_at_least c.in_ok-spaced-in-len1-up.ensures
