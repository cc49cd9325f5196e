use Rattle.std.proofs.Common.{◌<◌, length, arith}
use Rattle.std.proofs.lemmas.List.Elements.{All-take, All-drop}
use Rattle.mon_engine.proofs.notice_lines.names_text.Goals as goal

pub put_name-requires : goal.put_name-requires
put_name-requires c =
    let some = c.in-len1-up.len_at_least in
    c.requires 0 0 (omega (arith, some))

pub put_more_names-requires : goal.put_more_names-requires
put_more_names-requires c = All-take (λ k. k < length c.args.inventory.now.contacts) _ _ (All-drop (λ k. k < length c.args.inventory.now.contacts) 1 c.args.contacts.now c.requires)
