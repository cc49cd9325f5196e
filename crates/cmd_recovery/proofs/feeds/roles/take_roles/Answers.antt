use Rattle.std.proofs.Common.{◌≡◌, ℕ, List, ◌++◌, Bor, length, map, take, sym, ap, subst, ◌∙◌, arith, IsPermutation}
use Rattle.mon_state.specs.declared.feeds.KeptFeed.{KeptFeed}
use Rattle.cmd_recovery.specs.declared.feeds.assigned.Role.{Role}
use Rattle.cmd_recovery.specs.Assigns.{given_places, left_out}
use Rattle.cmd_recovery.proofs.AssignLemmas.{shared_more, take_whole}
use Rattle.cmd_recovery.proofs.FitLemmas.{fit_length, fits_of, fit_more}
use Rattle.cmd_recovery.proofs.UnnamedLemmas.{AllTaken, taken_more}
use Rattle.cmd_recovery.proofs.feeds.roles.take_roles.Goals as goal

pub loop-number-preserved : goal.loop-number-preserved
loop-number-preserved c =
    let words = map (λ (w : Bor (List ℕ)). w.now) c.args.words.now in
    let f = c.index-feeds-number.result in
    let front = take c.loop-number.number c.args.feeds.now in
    record {
      fit = fit_more words c.args.clock c.args.feeds.now c.loop-number.number f c.loop-number.roles.items c.push.new.self.items c.take_role-role.result c.loop-number-test.true c.index-feeds-number.is c.loop-number.invariant.fit
          (fits_of words c.args.clock c.loop-number.number f c.take_role-role.result c.is_clock.result c.is_clock.ensures c.take_role-role.ensures.clock c.take_role-role.ensures.given) c.in_ok-push.ensures.items;
      shared = subst (λ (l : List Role). IsPermutation c.args.free.now.items (given_places l ++ c.take_role-role.new.free.items)) (sym c.in_ok-push.ensures.items)
          (shared_more c.args.free.now.items c.loop-number.free.items c.take_role-role.new.free.items c.loop-number.roles.items c.take_role-role.result c.loop-number.invariant.shared c.take_role-role.ensures.shared);
      unnamed = taken_more words c.args.feeds.now c.loop-number.number f c.loop-number.roles.items c.push.new.self.items c.take_role-role.result c.loop-number.free.items c.take_role-role.new.free.items c.loop-number-test.true c.index-feeds-number.is
          (fit_length words c.args.clock 0 front c.loop-number.roles.items c.loop-number.invariant.fit) c.in_ok-push.ensures.items c.take_role-role.ensures.shared c.take_role-role.ensures.unnamed c.loop-number.invariant.unnamed;
      ascend = λ at. c.take_role-role.ensures.ascend (c.loop-number.invariant.ascend at);
      within = c.take_role-role.ensures.within;
    }

pub returns-clause-unnamed : goal.returns-clause-unnamed
returns-clause-unnamed c =
    let feeds = c.args.feeds.now in
    let end : c.loop-number.number ≡ length feeds = (let least = c.loop-number-test.false in let most = c.loop-number.auto.number-end in omega (arith, least, most)) in
    subst (λ (l : List KeptFeed). AllTaken (map (λ (w : Bor (List ℕ)). w.now) c.args.words.now) c.loop-number.free.items (left_out l c.loop-number.roles.items)) (ap (λ (n : ℕ). take n feeds) end ∙ take_whole feeds) c.loop-number.invariant.unnamed
