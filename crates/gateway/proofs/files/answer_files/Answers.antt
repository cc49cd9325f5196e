use Rattle.std.proofs.Common.{length, ap, ◌∙◌}
use Rattle.gateway.proofs.FeedLemmas.{answered_files}
use Rattle.gateway.proofs.files.answer_files.Goals as goal

pub returns-clause-answers : goal.returns-clause-answers
returns-clause-answers g c =
    let opened = c.in_ok-inventory in
    answered_files (λ o. o.reader) g.R.File.Read.remaining c.in-Ok.readers.items c.args.call.now.options (length c.args.call.now.feeds.items) opened.inventory _ _
    opened.ensures.read (ap length c.in-Ok.ensures ∙ opened.ensures.one_each) opened.ensures.count c.in-Ok-answer_feeds.ensures
