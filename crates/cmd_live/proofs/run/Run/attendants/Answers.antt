use Rattle.std.proofs.Common.{◌≡◌, true, ap, ◌∙◌, arith, ◌+◌, ℕ, length}
use Rattle.std.proofs.lemmas.List.{length_push}
use Rattle.cmd_live.proofs.FollowLemmas.{all_more, numbered_more}
use Rattle.cmd_live.proofs.run.Run.attendants.Goals as goal

pub loop-feed-preserved : goal.loop-feed-preserved
loop-feed-preserved g c =
    let was = c.loop-feed.invariant in
    let pushed = c.push_reserved.ensures in
    record {
      count = ap length pushed.items ∙ length_push c.loop-feed.attendants.items c.new.result ∙ ap (λ (n : ℕ). n + 1) was.count;
      nothing = all_more (λ a. (a.is_clean ≡ true) × (a.first.value ≡ a.refusals)) c.loop-feed.attendants.items c.push_reserved.new.self.items c.new.result pushed.items was.nothing (c.new.ensures.clean, c.new.ensures.nothing);
      numbers = numbered_more (λ a. a.care.feed) c.loop-feed.attendants.items c.push_reserved.new.self.items c.new.result c.loop-feed.feed pushed.items was.numbers (ap (λ k. k.feed) c.new.ensures.care ∙ c.care_of-care.ensures.feed);
      room = omega (arith, was.room, pushed.capacity);
    }
