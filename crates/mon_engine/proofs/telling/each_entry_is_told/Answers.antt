use Rattle.mon_engine.proofs.ForgottenLemmas.{the_lists_are_not_read}
use Rattle.mon_engine.proofs.TellingLemmas.{forgetting_tells_the_same, telling_goes_on, each_notice_is_told, each_rejection_is_told}
use Rattle.mon_engine.proofs.telling.each_entry_is_told.Goals as goal

pub returns-clause-unread : goal.returns-clause-unread
returns-clause-unread c = the_lists_are_not_read

pub returns-clause-same : goal.returns-clause-same
returns-clause-same c = forgetting_tells_the_same

pub returns-clause-notices : goal.returns-clause-notices
returns-clause-notices c = each_notice_is_told

pub returns-clause-rejections : goal.returns-clause-rejections
returns-clause-rejections c = each_rejection_is_told

pub returns-clause-goes_on : goal.returns-clause-goes_on
returns-clause-goes_on c = telling_goes_on
