use Rattle.std.proofs.Common.{◌≡◌, ◌+◌, ◌-◌, arith}
use Rattle.std.proofs.lemmas.List.{length-drop}
use Rattle.mon_downtime.proofs.RetireLemmas.{is_front}
use Rattle.mon_downtime.proofs.queue.Queue.retire_by.Goals as goal

pub returns-clause-rest : goal.returns-clause-rest
returns-clause-rest c = (is_front c.args.self.now c.sort_by_ids.new.list.items c.args.t c.place_after-count.result c.requires (rw c.events.ensures at c.place_after-count.ensures) c.sort_by_ids.ensures.behind c.sort_by_ids.ensures.moved).rest

pub returns-clause-retired : goal.returns-clause-retired
returns-clause-retired c =
    let back : c.args.self.now.start + c.place_after-count.result - c.place_after-count.result ≡ c.args.self.now.start = omega arith in
    rw back (is_front c.args.self.now c.sort_by_ids.new.list.items c.args.t c.place_after-count.result c.requires (rw c.events.ensures at c.place_after-count.ensures) c.sort_by_ids.ensures.behind c.sort_by_ids.ensures.moved).gone

pub returns-clause-once : goal.returns-clause-once
returns-clause-once c =
    let back : c.args.self.now.start + c.place_after-count.result - c.place_after-count.result ≡ c.args.self.now.start = omega arith in
    rw back (is_front c.args.self.now c.sort_by_ids.new.list.items c.args.t c.place_after-count.result c.requires (rw c.events.ensures at c.place_after-count.ensures) c.sort_by_ids.ensures.behind c.sort_by_ids.ensures.moved).once

pub returns-clause-queue : goal.returns-clause-queue
returns-clause-queue c =
    let p = rw c.events.ensures at c.place_after-count.ensures in
    let some = p.within in
    let long = length-drop c.args.self.now.start c.args.self.now.list.items in
    let within = c.requires.within in
    record {
      within = omega (arith, c.sort_by_ids.ensures.len, c.sort_by_ids.new.list.ok, c.args.self.now.list.ok);
      ascending = (is_front c.args.self.now c.sort_by_ids.new.list.items c.args.t c.place_after-count.result c.requires p c.sort_by_ids.ensures.behind c.sort_by_ids.ensures.moved).ascending;
    }
