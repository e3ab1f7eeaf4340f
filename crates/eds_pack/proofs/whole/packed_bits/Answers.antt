use Rattle.eds_types.specs.Packing.{PackFailsAt}
use Rattle.eds_types.specs.PackedSizes.{packed_size}
use Rattle.eds_types.specs.Plain.{plain}
use Rattle.eds_pack.specs.Packs.{Packs}
use Rattle.eds_pack.proofs.Wholes.{as_size, as_fault, as_packs, as_fails}
use Rattle.eds_pack.proofs.whole.packed_bits.Goals as goal

pub returns-clause-size : goal.returns-clause-size
returns-clause-size c =
    let t = c.args.table.now in let id = c.args.id.0 in let v = plain c.args.value.now in
    as_size (Packs t id v) c.size_of.result (packed_size t id v) c.size_of.ensures (c.packed_sizes.ensures t id c.keeps_rules.ensures c.requires.known v).size

pub returns-clause-packs : goal.returns-clause-packs
returns-clause-packs c =
    let t = c.args.table.now in let id = c.args.id.0 in let v = plain c.args.value.now in
    as_packs (Packs t id v) c.size_of.result (packed_size t id v) c.size_of.ensures (c.packed_sizes.ensures t id c.keeps_rules.ensures c.requires.known v).size

pub returns-clause-fault : goal.returns-clause-fault
returns-clause-fault c =
    let t = c.args.table.now in let id = c.args.id.0 in let v = plain c.args.value.now in
    as_fault (PackFailsAt t id v) c.size_of.result (packed_size t id v) c.size_of.ensures (c.packed_sizes.ensures t id c.keeps_rules.ensures c.requires.known v).fault

pub returns-clause-fails : goal.returns-clause-fails
returns-clause-fails c =
    let t = c.args.table.now in let id = c.args.id.0 in let v = plain c.args.value.now in
    as_fails (PackFailsAt t id v) c.size_of.result (packed_size t id v) c.size_of.ensures (c.packed_sizes.ensures t id c.keeps_rules.ensures c.requires.known v).fault
