use Rattle.std.proofs.Common.{arith}
use Rattle.mon_engine.proofs.DowntimeLemmas.{length-services_of}
use Rattle.mon_engine.proofs.state.State.act.Goals as goal

pub schedule_services-requires-clause-room : goal.schedule_services-requires-clause-room
schedule_services-requires-clause-room c =
    let few = c.requires.world.downtimes in
    let limit = c.requires.world.limit in
    let earlier = c.requires.world.earlier in
    omega (arith, length-services_of c.args.inventory.now.objects c.in-ScheduleServices.host, c.requires.sound.few_objects, few, limit, earlier)

pub send_custom-requires-clause-next : goal.send_custom-requires-clause-next
send_custom-requires-clause-next c = λ o e.
    (let few = c.requires.world.states.numbers c.in-SendCustom.object o e in
    let limit = c.requires.world.limit in
    let earlier = c.requires.world.earlier in
    omega (arith, few, limit, earlier))
