use Rattle.std.proofs.Common.{arith, ◌≡◌, ℕ, ap, sym, ◌∙◌, List, slice_get, Some, length, get_or, refl, Option}
use Rattle.mon_notify.specs.declared.contacts.ContactSwitch.{ContactSwitch}
use Rattle.mon_engine.proofs.state.State.tell_end.Goals as goal
use Rattle.mon_engine.proofs.EndLemmas.{end_idle, end_stale, end_is_told, owed_set}
use Rattle.mon_engine.specs.Ends.{is_end_due_of, with_owed, is_news, end_notice, owed_at, owed_of}
use Rattle.mon_engine.specs.contracts.state.State.{the_view}
use Rattle.mon_engine.specs.World.{World}
use Rattle.std.proofs.lemmas.Option.{slice_get_read}
use Rattle.mon_engine.specs.Notices.{told, subject_of, to_someone}
use Rattle.mon_engine.specs.declared.ends.Owed.{Owed}
use Rattle.mon_notify.specs.Ends.{missed, reached}
use Rattle.mon_engine.specs.declared.notice.Subject.{Subject}
use Rattle.mon_engine.specs.declared.notice.Word.TheVariants.{Recovery}

pub is_end_due-requires-clause-host : goal.is_end_due-requires-clause-host
is_end_due-requires-clause-host c = (let host = (c.requires.sound.objects _ _ c.found-found.ensures.spec).host_stands.within in omega (arith, host, c.requires.tellable.objects))

pub returns-then-not-is_end_due : goal.returns-then-not-is_end_due
returns-then-not-is_end_due c = end_idle c.args.inventory.now c.args.self.now c.args.object c.found-found.result.spec.now c.found-found.result.state.now c.found-found.ensures.spec c.found-found.ensures.state
    (sym (c.is_end_due.ensures ∙ ap (λ (k : ℕ). is_end_due_of c.args.inventory.now c.args.self.now k c.found-found.result.spec.now c.found-found.result.state.now) c.found-found.ensures.index) ∙ c.if-not-is_end_due.true)

pub returns-then-not-is_news : goal.returns-then-not-is_news
returns-then-not-is_news c =
    let inv = c.args.inventory.now in
    let w = c.args.self.now in
    let is_due = sym (c.is_end_due.ensures ∙ ap (λ (k : ℕ). is_end_due_of inv w k c.found-found.result.spec.now c.found-found.result.state.now) c.found-found.ensures.index) ∙ c.if-not-is_end_due.false in
    owed_set w (the_view c.self.inside) c.args.object c.index_mut.result.now c.new-then-not-is_news.result c.self.view_is (omega (arith, c.requires.object, c.requires.owing.as_many)) c.index_mut.ensures.value
    ∙ ap (λ (cs : List ℕ). with_owed w c.args.object cs) (c.new-then-not-is_news.ensures ∙ c.new.ensures.items)
    ∙ sym (end_stale inv w c.args.object c.found-found.result.spec.now c.found-found.result.state.now c.found-found.ensures.spec c.found-found.ensures.state is_due
    (sym (c.is_news.ensures ∙ ap (λ (x : World). is_news x.clock c.found-found.result.state.now) c.self.view_is) ∙ c.if-not-is_news.true))

pub returns : goal.returns
returns c =
    let inv = c.args.inventory.now in
    let w = c.args.self.now in
    let k = c.args.object in
    let spec = c.found-found.result.spec.now in
    let o = c.found-found.result.state.now in
    let n = end_notice inv w k o (owed_at w k) in
    let is_due = sym (c.is_end_due.ensures ∙ ap (λ (j : ℕ). is_end_due_of inv w j spec o) c.found-found.ensures.index) ∙ c.if-not-is_end_due.false in
    let is_new = sym (c.is_news.ensures ∙ ap (λ (x : World). is_news x.clock o) c.self.view_is) ∙ c.if-not-is_news.false in
    let mine : slice_get w.owed k ≡ Some c.index-owed.result.now = slice_get_read w.owed (length w.owed) k c.index-owed.result.now refl (omega (arith, c.requires.object, c.requires.owing.as_many)) (c.index-owed.ensures ∙ ap (λ (x : World). get_or x.owed k c.index-owed.result.now) c.self.view_is) in
    let number : c.index-owed.result.now.number ≡ (owed_at w k).number = ap (λ (x : Option Owed). (owed_of x).number) (sym mine) in
    let contacts : c.as_slice.result.now ≡ (owed_at w k).contacts = c.as_slice.ensures ∙ ap (λ (x : Option Owed). (owed_of x).contacts) (sym mine) in
    let switches : c.deref.result.now ≡ w.contacts = c.deref.ensures.value ∙ ap (λ (x : World). x.contacts) c.self.view_is in
    let who : c.subject_of-subject.result ≡ subject_of w.clock Recovery k o (owed_at w k).number = c.subject_of-subject.ensures ∙ ap (λ (x : World). subject_of x.clock Recovery c.found-found.result.index o c.index-owed.result.now.number) c.self.view_is
    ∙ ap (λ (j : ℕ). subject_of w.clock Recovery j o c.index-owed.result.now.number) c.found-found.ensures.index ∙ ap (λ (m : ℕ). subject_of w.clock Recovery k o m) number in
    let whom = c.in_ok-divided.ensures.reached ∙ ap (λ (cs : List ContactSwitch). reached inv cs k c.as_slice.result.now) switches ∙ ap (λ (xs : List ℕ). reached inv w.contacts k xs) contacts in
    let others = c.in_ok-divided.ensures.missed ∙ ap (λ (cs : List ContactSwitch). missed inv cs k c.as_slice.result.now) switches ∙ ap (λ (xs : List ℕ). missed inv w.contacts k xs) contacts in
    let notice : c.to_someone.result ≡ n = c.to_someone.ensures ∙ ap (λ (s : Subject). to_someone s c.in_ok-divided.divided.reached.items) who ∙ ap (λ (xs : List ℕ). to_someone (subject_of w.clock Recovery k o (owed_at w k).number) xs) whom in
    owed_set (told w n) (the_view c.self-2.inside) k c.index_mut-2.result.now c.new-2.result (c.self-2.view_is ∙ c.in_ok-tell.ensures ∙ ap (told w) notice) (omega (arith, c.requires.object, c.requires.owing.as_many)) c.index_mut-2.ensures.value
    ∙ ap (λ (cs : List ℕ). with_owed (told w n) k cs) (c.new-2.ensures ∙ others)
    ∙ sym (end_is_told inv w k spec o c.found-found.ensures.spec c.found-found.ensures.state is_due is_new)
