-- Why `put_arguments` keeps its contract.
use Rattle.std.proofs.Common.{◌≡◌, ℕ, ◌+◌, ◌<◌, Option, Some, None, List, [], ◌∷◌, ◌++◌, length, get_or, drop, sym, ap, ◌∙◌, append_assoc}
use Rattle.std.proofs.lemmas.List.{at_drop_more}
use Rattle.cmd_types.specs.declared.argument.Argument.{Argument}
use Rattle.cmd_types.specs.Spelling.{texts}
use Rattle.cmd_types.specs.Arguments.{shown}
use Rattle.cmd_types.proofs.GrowthLaws.{grown_more}
use Rattle.cmd_types.proofs.argument.put_arguments.Goals as goal
use Rattle.cmd_types.proofs.argument.put_arguments.Goals.{in-Some+in_ok-push+in_ok-put, in_default}

-- the text of what is left, behind a line, where the next argument is this one
next_is : (line : List ℕ) (as' : List (Option Argument)) (i : ℕ) (next d : Option Argument) → i < length as' → d ≡ get_or as' i d → d ≡ next → line ++ texts (shown (drop i as')) ≡ line ++ texts (shown (next ∷ drop (i + 1) as'))
next_is line as' i next d lt at is =
    at_drop_more (λ rest. line ++ texts (shown rest)) as' i d lt ∙ ap (λ (x : Option Argument). line ++ texts (shown (x ∷ drop (i + 1) as'))) (sym at ∙ is)

put_one : (line text rest : List ℕ) → line ++ 59 ∷ [] ++ text ++ rest ≡ line ++ (59 ∷ text ++ rest)
put_one line text rest = ap (λ (t : List ℕ). t ++ rest) (append_assoc line (59 ∷ []) text) ∙ append_assoc line (59 ∷ text) rest

pub loop-argument-preserved : goal.loop-argument-preserved
loop-argument-preserved c =
    let line = c.loop-argument.line.items in
    let left = next_is line c.args.arguments.now c.loop-argument.argument-index in
    elim c.match-argument.branch [
      | in-Some+in_ok-push+in_ok-put w ↦ rw (w.line-is, w.in_ok-put.ensures.ok, w.in_ok-push.ensures.items) (record {
        put = put_one line _ _ ∙ sym (left (Some w.in-Some.argument) _ c.loop-argument-test.true c.argument-item.is w.in-Some.is) ∙ c.loop-argument.invariant.put;
        grown = grown_more _ _ _ (grown_more _ _ _ c.loop-argument.invariant.grown);
      })
      | in_default w ↦ rw w.line-is (record {
        put = sym (left None _ c.loop-argument-test.true c.argument-item.is w.in_default.is) ∙ c.loop-argument.invariant.put;
        grown = c.loop-argument.invariant.grown;
      })
    ]

pub returns-in_err-push-clause-grown : goal.returns-in_err-push-clause-grown
returns-in_err-push-clause-grown c = rw c.in_err-push.ensures.items c.loop-argument.invariant.grown

pub returns-in_err-put-clause-grown : goal.returns-in_err-put-clause-grown
returns-in_err-put-clause-grown c = rw (c.in_err-put.ensures.err, c.in_ok-push.ensures.items) (grown_more _ _ _ c.loop-argument.invariant.grown)
