use Rattle.std.proofs.Common.{Some}
use Rattle.eds_host.proofs.Mirrored.{taken, get_length}
use Rattle.eds_host.proofs.dues.take_out.Goals as goal

pub returns-clause-mirrors : goal.returns-clause-mirrors
returns-clause-mirrors c =
    let here = c.requires.here in
    taken c.args.order.now c.remove.new.self c.args.of.now.items c.args.moment c.args.comp here.0 (get_length c.args.of.now.items c.args.comp (Some (c.args.moment, here.0)) here.1) here.1 c.remove.ensures.updates c.requires.mirrors
