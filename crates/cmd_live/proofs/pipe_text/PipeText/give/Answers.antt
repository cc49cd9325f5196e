use Rattle.std.proofs.Common.{◌≡◌, ◌+◌, ◌-◌, ◌++◌, ◌∙◌, ap, sym, arith, drop, take, ℕ, List, length}
use Rattle.std.proofs.lemmas.List.{length-append}
use Rattle.cmd_live.proofs.PipeLemmas.{passed_on}
use Rattle.cmd_live.proofs.pipe_text.PipeText.give.Goals as goal

pub returns-clause-given : goal.returns-clause-given
returns-clause-given c =
    let old = c.args.self.now in
    let xs = old.bytes.items in
    let n = c.in-Ok.count in
    let copied = take n c.read.new.buf in
    let more = c.read.new.self.now in
    let part = c.in-Some.ensures.lookup.0 in
    let rest = part.2 ∙ ap (λ (l : List ℕ). take (old.whole - old.given) (drop old.given l)) c.deref.ensures.value in
    let cut = c.in-Ok.ensures.bytes.0 in
    let all = passed_on xs c.in-Some.rest.now copied more old.given old.whole rest cut in
    let size : length c.in-Some.rest.now ≡ length copied + length more = ap (λ (l : List ℕ). length l) cut ∙ length-append copied more in
    let next : c.saturating_add-self.result ≡ old.given + length copied = (let sum = c.saturating_add-self.ensures in let long = part.3 in let few = c.in-Ok.ensures.bound in omega (arith, sum, long, few, size)) in
    all ∙ ap (λ (m : ℕ). copied ++ drop m xs) (sym next)
