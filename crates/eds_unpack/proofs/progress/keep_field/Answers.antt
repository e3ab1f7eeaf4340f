use Rattle.eds_unpack.proofs.Reaches.{field_more}
use Rattle.eds_unpack.proofs.progress.keep_field.Goals as goal

pub returns-clause-fields : goal.returns-clause-fields
returns-clause-fields c = field_more c.args.reached.now.fields c.push-2.new.self.items c.push.new.self.items (c.args.container, c.args.place) c.args.value c.requires c.in_ok-push-2.ensures.items c.in_ok-push.ensures.items
