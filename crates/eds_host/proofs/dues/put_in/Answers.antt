use Rattle.std.proofs.Common.{None}
use Rattle.eds_host.proofs.Mirrored.{put, get_length}
use Rattle.eds_host.proofs.dues.put_in.Goals as goal

pub returns-clause-mirrors : goal.returns-clause-mirrors
returns-clause-mirrors c =
    put c.args.order.now c.insert.new.self c.args.of.now.items c.args.moment c.args.comp c.args.machine (get_length c.args.of.now.items c.args.comp None c.requires.here) c.requires.here c.in_ok-insert.ensures.updates c.requires.mirrors
