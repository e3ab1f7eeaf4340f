use Rattle.std.proofs.Common.{◌∙◌, map}
use Rattle.eds_types.specs.Packing.{pack_fault_at}
use Rattle.eds_types.specs.Plain.{plain}
use Rattle.eds_pack.proofs.Telling.{no_fault, octets_found, octets_few}
use Rattle.eds_pack.proofs.told.octets_of.Goals as goal

pub unreachable-requires : goal.unreachable-requires
unreachable-requires c = no_fault c.args.fields.now.table.now c.args.fields.now.depth c.args.fields.now.own.0 (map plain c.args.fields.now.values.now) c.requires.sized (pack_fault_at c.in-Err.field-0 c.own_size.new.path) c.in-Err.ensures.size

pub returns-clause-value : goal.returns-clause-value
returns-clause-value c = c.octets.ensures.value ∙ octets_found c.args.fields.now.table.now c.args.fields.now.depth c.args.fields.now.own.0 (map plain c.args.fields.now.values.now) c.requires.sized c.in-Ok.size c.in-Ok.ensures.size

pub returns-clause-bound : goal.returns-clause-bound
returns-clause-bound c = octets_few c.in-Ok.size c.octets.result c.octets.ensures.value c.octets.ensures.bound
