use Rattle.std.proofs.Common.{refl}
use Rattle.mon_downtime.proofs.FateLemmas.{not_over}
use Rattle.mon_downtime.proofs.downtimes.Downtimes.live.Goals.{in-Over, in_default}
use Rattle.mon_downtime.proofs.downtimes.Downtimes.live.Goals as goal

pub returns-after-matches : goal.returns-after-matches
returns-after-matches c =
    let found = rw (c.deref.ensures.value, c.self.view_is) at c.in-Some.ensures in
    elim c.match-matches.branch [
      | in-Over w ↦ rw (w.matches-is, ← found, w.in-Over.is) refl
      | in_default w ↦ rw (w.matches-is, ← found, not_over c.in-Some.d.now.fate w.in_default.not-Over) refl
    ]
