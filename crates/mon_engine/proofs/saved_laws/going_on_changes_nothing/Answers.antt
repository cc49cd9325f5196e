use Rattle.mon_engine.proofs.ResumedLemmas.{the_counts_are_not_read, each_entry_is_counted, going_on_twice_is_once, going_on_means_the_same, going_on_tells_the_same, parts_mean_the_same, parts_tell_the_same}
use Rattle.mon_engine.proofs.saved_laws.going_on_changes_nothing.Goals as goal

pub returns-clause-unread : goal.returns-clause-unread
returns-clause-unread c = the_counts_are_not_read

pub returns-clause-counted : goal.returns-clause-counted
returns-clause-counted c = each_entry_is_counted

pub returns-clause-means : goal.returns-clause-means
returns-clause-means c = going_on_means_the_same

pub returns-clause-tells : goal.returns-clause-tells
returns-clause-tells c = going_on_tells_the_same

pub returns-clause-parts : goal.returns-clause-parts
returns-clause-parts c = parts_mean_the_same

pub returns-clause-told : goal.returns-clause-told
returns-clause-told c = parts_tell_the_same

pub returns-clause-twice : goal.returns-clause-twice
returns-clause-twice c = going_on_twice_is_once
