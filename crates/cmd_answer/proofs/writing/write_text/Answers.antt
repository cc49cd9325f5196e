use Rattle.std.proofs.Common.{ℕ, ◌+◌, ◌-◌, arith, subst, sym, take, drop, length, length-take, length-drop}
use Rattle.std.specs.Io.KnownBytes.{Appends}
use Rattle.std.proofs.KnownBytes.{Appends-nil, Appends-kept}
use Rattle.std.proofs.lemmas.List.{take_all}
use Rattle.cmd_answer.proofs.WrittenLemmas.{part_at, written_more}
use Rattle.cmd_answer.proofs.writing.write_text.Goals as goal
use Rattle.cmd_answer.proofs.writing.write_text.Goals.{in-Ok, in-Err}

pub writes-init : goal.writes-init
writes-init g c = record { within = omega arith; written = Appends-nil (g.O.Write.contents c.args.out.now) }

pub returns-then-done-text-2-clause-whole : goal.returns-then-done-text-2-clause-whole
returns-then-done-text-2-clause-whole g c = subst (Appends (g.O.Write.contents c.args.out.now) (g.O.Write.contents c.writes.out)) (take_all c.writes.done c.args.text.now (omega arith)) c.writes.invariant.written

pub returns-in-Ok-eq0-clause-part : goal.returns-in-Ok-eq0-clause-part
returns-in-Ok-eq0-clause-part g c = part_at (g.O.Write.contents c.args.out.now) (g.O.Write.contents c.write.new.self) (c.writes.done + c.in-Ok-eq0.field-0) c.args.text.now
    (let within = c.writes.invariant.within in omega (arith, c.in-Ok-eq0.field-0-test, c.if-done-text.false))
    (written_more (g.O.Write.contents c.args.out.now) (g.O.Write.contents c.writes.out) (g.O.Write.contents c.write.new.self) c.writes.done c.in-Ok-eq0.field-0 c.args.text.now c.writes.invariant.written (rw c.in-Ok-eq0.is at c.write.ensures.bytes))

pub returns-in-Err-2-clause-part : goal.returns-in-Err-2-clause-part
returns-in-Err-2-clause-part g c = part_at (g.O.Write.contents c.args.out.now) (g.O.Write.contents c.write.new.self) c.writes.done c.args.text.now
    (let within = c.writes.invariant.within in omega (arith, c.if-done-text.false))
    (Appends-kept (g.O.Write.contents c.args.out.now) (g.O.Write.contents c.writes.out) (g.O.Write.contents c.write.new.self) (take c.writes.done c.args.text.now) c.writes.invariant.written c.in-Err.ensures.bytes)

pub writes-preserved : goal.writes-preserved
writes-preserved g c =
    elim c.match-write.branch [
      | in-Ok w ↦ record {
        within = omega (arith, w.done-is, w.in-Ok.ensures.bound, length-take (length c.args.text.now - c.writes.done) (drop c.writes.done c.args.text.now), length-drop c.writes.done c.args.text.now, c.writes.invariant.within);
        written = subst (λ (n : ℕ). Appends (g.O.Write.contents c.args.out.now) (g.O.Write.contents c.write.new.self) (take n c.args.text.now)) (sym w.done-is) (written_more (g.O.Write.contents c.args.out.now) (g.O.Write.contents c.writes.out) (g.O.Write.contents c.write.new.self) c.writes.done w.in-Ok.count c.args.text.now c.writes.invariant.written w.in-Ok.ensures.bytes);
      }
      | in-Err w ↦ record {
        within = omega (arith, w.done-is, c.writes.invariant.within);
        written = subst (λ (n : ℕ). Appends (g.O.Write.contents c.args.out.now) (g.O.Write.contents c.write.new.self) (take n c.args.text.now)) (sym w.done-is) (Appends-kept (g.O.Write.contents c.args.out.now) (g.O.Write.contents c.writes.out) (g.O.Write.contents c.write.new.self) (take c.writes.done c.args.text.now) c.writes.invariant.written w.in-Err.ensures.bytes);
      }
    ]

pub returns-clause-part : goal.returns-clause-part
returns-clause-part g c = part_at (g.O.Write.contents c.args.out.now) (g.O.Write.contents c.writes.out) c.writes.done c.args.text.now
    (let within = c.writes.invariant.within in omega (arith, c.if-done-text-2.false))
    c.writes.invariant.written
