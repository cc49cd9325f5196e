use Rattle.std.proofs.Common.{refl, inl, inr, [], ◌≡◌, ◌++◌, ⊎_elim, ◌<◌, ◌≤◌, ◌∙◌, length, take, sym, subst, ap, arith, List, ℕ}
use Rattle.std.specs.Io.KnownBytes.{Consumes}
use Rattle.std.proofs.KnownBytes.{Consumes-nil, Consumes-trans}
use Rattle.cmd_dispatch.specs.Sends.{ahead}
use Rattle.cmd_dispatch.proofs.PlanLemmas.{so_far_in_plan, planned_still}
use Rattle.cmd_dispatch.proofs.SendLemmas.{nothing_read, begun_feeding, feeding_more, read_whole, read_failed, read_many, written_back, taken_length}
use Rattle.cmd_dispatch.proofs.ToldLemmas.{always_on_err}
use Rattle.cmd_dispatch.proofs.sender.Sending.read_text.Goals as goal

pub returns-in_err-buffer-clause-begun : goal.returns-in_err-buffer-clause-begun
returns-in_err-buffer-clause-begun g c = always_on_err _ (nothing_read (g.F.Feed.remaining c.args.feed.now) (g.F.Feed.fails c.args.feed.now) c.args.reading.piece c.args.reading.reads c.args.self.now.lines (ahead c.args.self.now) (g.P.Reporter.has_taken c.args.self.now.report) c.requires.nothing_yet)

pub reads-init : goal.reads-init
reads-init g c = record {
  feeding = record { text = []; consumed = Consumes-nil (g.F.Feed.remaining c.args.feed.now); many = omega arith; bound = omega arith; filled = λ fills. inl (omega arith); reading = c.requires.nothing_yet };
  steady = λ first. first;
  filling = λ first. first;
  opened = c.requires.opened;
  covered = c.requires.covered;
  within = c.requires.within;
  few = omega (arith, c.requires.nothing_fed);
  buffer = omega (arith, c.in_ok-buffer.ensures.len);
  end = refl;
  queue = refl;
  sender = refl;
}

pub returns-in_err-take-in-Ok-clause-begun : goal.returns-in_err-take-in-Ok-clause-begun
returns-in_err-take-in-Ok-clause-begun g c =
    let was = c.reads.invariant in
    let back = written_back c.reads.buffer.len c.read.new.buffer c.reads.buffer.items (omega arith) (omega arith) in
    let buffer : c.deref.result.now ≡ c.read.new.buffer = c.deref.ensures.value ∙ back in
    let read : Consumes (g.F.Feed.remaining c.reads.feed) (g.F.Feed.remaining c.read.new.self) (take c.in-Ok.count c.deref.result.now) =
    subst (λ (b : List ℕ). Consumes (g.F.Feed.remaining c.reads.feed) (g.F.Feed.remaining c.read.new.self) (take c.in-Ok.count b)) (sym buffer) c.in-Ok.ensures.bytes.0 in
    let bound : c.in-Ok.count ≤ length c.deref.result.now = subst (λ (b : List ℕ). c.in-Ok.count ≤ length b) (sym buffer) c.in-Ok.ensures.bound in
    let long : length (take c.in-Ok.count c.deref.result.now) ≡ c.in-Ok.count = taken_length c.in-Ok.count c.deref.result.now bound in
    let size : length c.read.new.buffer ≡ length c.reads.buffer.items = omega arith in
    let end = was.end in
    always_on_err _ (begun_feeding (g.F.Feed.remaining c.args.feed.now) (g.F.Feed.remaining c.reads.feed) (g.F.Feed.remaining c.read.new.self) (g.F.Feed.fails c.args.feed.now) (g.F.Feed.fills c.args.feed.now) c.args.reading.piece c.args.reading.reads c.reads.counter (take c.in-Ok.count c.deref.result.now) c.reads.self.lines (ahead c.reads.self) (ahead c.take.new.self) (g.P.Reporter.has_taken c.reads.self.report)
    (g.P.Reporter.has_taken c.take.new.self.report) was.feeding read (omega (arith, end, c.reads-test.true)) (omega (arith, long, bound, ap length buffer, size, was.buffer)) c.take.ensures.begun)

pub returns-in-Ok-eq0-clause-read : goal.returns-in-Ok-eq0-clause-read
returns-in-Ok-eq0-clause-read g c =
    let was = c.reads.invariant in
    let end = was.end in
    let size : length c.read.new.buffer ≡ length c.reads.buffer.items = omega arith in
    read_whole (g.F.Feed.remaining c.args.feed.now) (g.F.Feed.remaining c.reads.feed) (g.F.Feed.remaining c.read.new.self) (g.F.Feed.fails c.args.feed.now) (g.F.Feed.fills c.args.feed.now) c.args.reading.piece c.args.reading.reads c.reads.counter c.in-Ok-eq0.field-0 c.read.new.buffer
    c.reads.self.lines (ahead c.reads.self) (g.P.Reporter.has_taken c.reads.self.report) was.feeding (omega (arith, end, c.reads-test.true)) (omega (arith, c.in-Ok-eq0.field-0-test)) (omega (arith, size, was.buffer, c.args.reading.some)) c.in-Ok-eq0.ensures.bytes

pub returns-in-Err-clause-read : goal.returns-in-Err-clause-read
returns-in-Err-clause-read g c =
    let was = c.reads.invariant in
    let end = was.end in
    read_failed (g.F.Feed.remaining c.args.feed.now) (g.F.Feed.remaining c.reads.feed) (g.F.Feed.remaining c.read.new.self) (g.F.Feed.fails c.args.feed.now) (g.F.Feed.fails c.reads.feed) (g.F.Feed.fills c.args.feed.now) c.args.reading.piece c.args.reading.reads c.reads.counter c.reads.self.lines (ahead c.reads.self) (g.P.Reporter.has_taken c.reads.self.report) was.feeding (omega (arith, end, c.reads-test.true)) c.in-Err.ensures.bytes was.steady c.in-Err.ensures.failed

pub returns-clause-read : goal.returns-clause-read
returns-clause-read g c =
    let was = c.reads.invariant in
    let end = was.end in
    read_many (g.F.Feed.remaining c.args.feed.now) (g.F.Feed.remaining c.reads.feed) (g.F.Feed.fails c.args.feed.now) (g.F.Feed.fills c.args.feed.now) c.args.reading.piece c.args.reading.reads c.reads.counter c.reads.self.lines (ahead c.reads.self) (g.P.Reporter.has_taken c.reads.self.report) was.feeding (omega (arith, end, c.reads-test.false))

pub reads-preserved : goal.reads-preserved
reads-preserved g c =
    let was = c.reads.invariant in
    let few = was.few in
    let back = written_back c.reads.buffer.len c.read.new.buffer c.reads.buffer.items (omega arith) (omega arith) in
    let buffer : c.deref.result.now ≡ c.read.new.buffer = c.deref.ensures.value ∙ back in
    let read : Consumes (g.F.Feed.remaining c.reads.feed) (g.F.Feed.remaining c.read.new.self) (take c.in-Ok.count c.deref.result.now) =
    subst (λ (b : List ℕ). Consumes (g.F.Feed.remaining c.reads.feed) (g.F.Feed.remaining c.read.new.self) (take c.in-Ok.count b)) (sym buffer) c.in-Ok.ensures.bytes.0 in
    let bound : c.in-Ok.count ≤ length c.deref.result.now = subst (λ (b : List ℕ). c.in-Ok.count ≤ length b) (sym buffer) c.in-Ok.ensures.bound in
    let long : length (take c.in-Ok.count c.deref.result.now) ≡ c.in-Ok.count = taken_length c.in-Ok.count c.deref.result.now bound in
    let some : 0 < c.in-Ok.count = omega (arith, c.in-Ok.count-test) in
    let fed = c.in_ok-take-in-Ok.ensures.fed in
    let size : length c.read.new.buffer ≡ length c.reads.buffer.items = omega arith in
    let piece = c.args.reading.few in
    let held : length c.read.new.buffer ≡ c.args.reading.piece = size ∙ was.buffer in
    record {
      feeding = feeding_more (g.F.Feed.remaining c.args.feed.now) (g.F.Feed.remaining c.reads.feed) (g.F.Feed.remaining c.read.new.self) (g.F.Feed.fills c.args.feed.now) c.args.reading.piece c.reads.counter (take c.in-Ok.count c.deref.result.now) c.reads.self.lines c.take.new.self.lines (ahead c.reads.self) (ahead c.take.new.self)
          (g.P.Reporter.has_taken c.reads.self.report) (g.P.Reporter.has_taken c.take.new.self.report) was.feeding read (omega (arith, long, some)) (omega (arith, long, bound, ap length buffer, held))
          (λ fills. ⊎_elim (λ full. inl (long ∙ full ∙ held)) (λ end. inr end) (c.in-Ok.ensures.filled (was.filling fills)))
          c.in_ok-take-in-Ok.ensures.reading;
      steady = λ first. c.read.ensures.steady (was.steady first);
      filling = λ first. c.read.ensures.filling (was.filling first);
      opened = c.in_ok-take-in-Ok.ensures.opened;
      covered = c.in_ok-take-in-Ok.ensures.covered;
      within = c.take.ensures.within;
      few = omega (arith, fed, long, few, bound, ap length buffer, size, was.buffer);
      buffer = ap length back ∙ size ∙ was.buffer;
      end = was.end;
      queue = c.in_ok-take-in-Ok.ensures.side.0 ∙ was.queue;
      sender = c.in_ok-take-in-Ok.ensures.side.1 ∙ was.sender;
    }

pub returns-in_err-take-in-Ok-clause-side : goal.returns-in_err-take-in-Ok-clause-side
returns-in_err-take-in-Ok-clause-side g c = (c.take.ensures.side.0 ∙ c.reads.invariant.queue, c.take.ensures.side.1 ∙ c.reads.invariant.sender)

pub take-requires-clause-planned : goal.take-requires-clause-planned
take-requires-clause-planned g c κs within =
    let was = c.reads.invariant in
    let at = was.feeding in
    let buffer : c.deref.result.now ≡ c.read.new.buffer = c.deref.ensures.value ∙ written_back c.reads.buffer.len c.read.new.buffer c.reads.buffer.items (omega arith) (omega arith) in
    let more = take c.in-Ok.count c.deref.result.now in
    let read : Consumes (g.F.Feed.remaining c.reads.feed) (g.F.Feed.remaining c.read.new.self) more =
    subst (λ (b : List ℕ). Consumes (g.F.Feed.remaining c.reads.feed) (g.F.Feed.remaining c.read.new.self) (take c.in-Ok.count b)) (sym buffer) c.in-Ok.ensures.bytes.0 in (
      at.text,
      at.reading,
      so_far_in_plan c.text_that_grows.ensures (g.F.Feed.remaining c.args.feed.now) (g.F.Feed.remaining c.read.new.self) (at.text ++ more) (ahead c.reads.self) (planned_still (g.F.Feed.remaining c.args.feed.now) (ahead c.args.self.now) (ahead c.reads.self) was.queue was.sender c.requires.planned)
          (Consumes-trans (g.F.Feed.remaining c.args.feed.now) (g.F.Feed.remaining c.reads.feed) (g.F.Feed.remaining c.read.new.self) at.text more at.consumed read),
    )
