-- Why `put_time` keeps its contract.
use Rattle.std.proofs.Common.{◌≡◌, [], ◌∷◌, ◌++◌, append_assoc}
use Rattle.std.specs.Fmt.{decimal}
use Rattle.std.proofs.Math.Seq.{take-length, take-append_seam}
use Rattle.cmd_types.proofs.GrowthLaws.{ended}
use Rattle.cmd_types.proofs.stamped.put_time.Goals as goal

pub returns : goal.returns
returns c =
    let begun : c.put_decimal.new.line.items ≡ c.args.out.now.items ++ (91 ∷ decimal c.args.time) =
    rw (c.in_ok-put_decimal.ensures.ok, c.in_ok-push.ensures.items) (append_assoc c.args.out.now.items (91 ∷ []) (decimal c.args.time)) in
    let last = ended c.extend_from_slice.result c.args.out.now.items (91 ∷ decimal c.args.time) c.put_decimal.new.line.items (93 ∷ 32 ∷ []) c.extend_from_slice.new.self.items begun c.extend_from_slice.ensures.items in
    record { ok = last.0; grown = last.1 }

pub returns-in_err-push-clause-grown : goal.returns-in_err-push-clause-grown
returns-in_err-push-clause-grown c = rw c.in_err-push.ensures.items (take-length _)

pub returns-in_err-put_decimal-clause-grown : goal.returns-in_err-put_decimal-clause-grown
returns-in_err-put_decimal-clause-grown c = rw (c.in_err-put_decimal.ensures.err, c.in_ok-push.ensures.items) (take-append_seam _ _)
