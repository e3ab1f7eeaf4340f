use Rattle.std.proofs.Common.{◌∷◌, ap, ◌∙◌}
use Rattle.eds_bits.specs.Bits.{octets_for}
use Rattle.eds_base.specs.declared.fault.Step.TheVariants as step
use Rattle.eds_types.specs.PackedSizes.{packed_size_within}
use Rattle.eds_pack.specs.Lengths.{tells_octets}
use Rattle.eds_pack.proofs.LengthEntries.{keeps, ends_well, ends_badly, ends_untold, some_depth}
use Rattle.eds_pack.proofs.length.check_length.Goals as goal

pub can_tell-requires-clause-known : goal.can_tell-requires-clause-known
can_tell-requires-clause-known c = (keeps c.args.fields.now.table.now c.keeps_rules.ensures c.args.fields.now.depth c.args.fields.now.own.0 c.requires.low c.in-Some.entry c.in-Some.ensures).nests.known

pub can_tell-requires-clause-scale : goal.can_tell-requires-clause-scale
can_tell-requires-clause-scale c = (keeps c.args.fields.now.table.now c.keeps_rules.ensures c.args.fields.now.depth c.args.fields.now.own.0 c.requires.low c.in-Some.entry c.in-Some.ensures).scale

pub returns-then-can_tell-clause-adds : goal.returns-then-can_tell-clause-adds
returns-then-can_tell-clause-adds c =
    let t = c.args.fields.now.table.now in let n = c.args.fields.now.depth in let k = c.args.fields.now.own.0 in
    ends_well t c.keeps_rules.ensures n k (octets_for c.args.size.now) c.in-Some.entry c.in-Some.ensures (c.if-can_tell.ensures n (some_depth t c.keeps_rules.ensures n k c.requires.low c.in-Some.entry c.in-Some.ensures) ∙ ap (λ m. tells_octets (packed_size_within n t) m c.in-Some.entry) c.octets.ensures.value)

pub returns-else-can_tell-clause-adds : goal.returns-else-can_tell-clause-adds
returns-else-can_tell-clause-adds c =
    let t = c.args.fields.now.table.now in let n = c.args.fields.now.depth in let k = c.args.fields.now.own.0 in
    ends_badly t c.keeps_rules.ensures n k (octets_for c.args.size.now) c.in-Some.entry c.in-Some.ensures (c.if-can_tell.ensures n (some_depth t c.keeps_rules.ensures n k c.requires.low c.in-Some.entry c.in-Some.ensures) ∙ ap (λ m. tells_octets (packed_size_within n t) m c.in-Some.entry) c.octets.ensures.value)
    c.put_first.new.self (c.put_first.ensures ∙ ap (λ q. step.Part c.in-Some.entry.container c.in-Some.entry.place ∷ q) c.requires.root)

pub returns-in-None-clause-adds : goal.returns-in-None-clause-adds
returns-in-None-clause-adds c =
    ends_untold c.args.fields.now.table.now c.keeps_rules.ensures c.args.fields.now.depth c.args.fields.now.own.0 (octets_for c.args.size.now) c.in-None.ensures
