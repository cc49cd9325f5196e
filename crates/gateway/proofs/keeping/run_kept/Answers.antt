use Rattle.std.proofs.Common.{inl, arith}
use denote.Param.Send.{sendable}
use Rattle.std.proofs.Crossing.{crosses}
use Rattle.gateway.proofs.Crossing.{Backlog-sync, Flag-sync, Gate-sync, Renewal-sync, Seen-send}
use Rattle.gateway.proofs.FollowRuns.{none_taken}
use Rattle.gateway.proofs.keeping.run_kept.Goals as goal

pub follow_stored-followed-requires-clause-allowed : goal.follow_stored-followed-requires-clause-allowed
follow_stored-followed-requires-clause-allowed g c κs within = inl (λ left. tt, λ disk monitor. tt)

pub follow_stored-followed-requires-clause-none_taken : goal.follow_stored-followed-requires-clause-none_taken
follow_stored-followed-requires-clause-none_taken g c κs within =
    let count = c.in-Ok.ensures.one_each in
    (count, λ k p h. (let told = c.in-Ok.ensures.nothing k p (omega (arith, h, count)) in (told.0, λ _. none_taken g.R.Stream.Write.contents _ _ told.1)))

pub follow_stored-followed-requires-send-A : goal.follow_stored-followed-requires-send-A
follow_stored-followed-requires-send-A g c κs within =
    let shared = c.type_bounds.sync-R in
    let stream = c.type_bounds.send-R-Stream in
    let file = c.type_bounds.send-R-File in
    search (Backlog-sync, Flag-sync, Gate-sync, Renewal-sync, Seen-send, sendable, crosses) depth 100 fits 200000
