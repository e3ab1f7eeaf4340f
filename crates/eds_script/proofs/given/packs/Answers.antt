use Rattle.std.specs.Bool.{one_answer}
use Rattle.eds_types.specs.PackedSizes.{packs}
use Rattle.eds_types.specs.Plain.{plain}
use Rattle.eds_script.proofs.given.packs.Goals as goal

pub returns : goal.returns
returns c = one_answer c.conforms.result (packs c.args.table.now c.args.id.0 (plain c.args.value.now)) c.conforms.ensures (c.packed_sizes.ensures c.args.table.now c.args.id.0 c.keeps_rules.ensures c.requires.known (plain c.args.value.now)).bool
