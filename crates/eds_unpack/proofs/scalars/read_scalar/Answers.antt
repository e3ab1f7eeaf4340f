use Rattle.std.proofs.Common.{ap, subst, ◌∙◌, arith}
use Rattle.std.specs.Prelude.{drop}
use Rattle.eds_bits.specs.Reader.{bits_left}
use Rattle.eds_types.specs.Rows.{Table}
use Rattle.eds_unpack.specs.Segments.{IsScalar}
use Rattle.eds_unpack.proofs.ItemReads.{scalar_reads}
use Rattle.eds_unpack.proofs.scalars.read_scalar.Goals as goal

pub number_of_bits-number-requires-clause-enough : goal.number_of_bits-number-requires-clause-enough
number_of_bits-number-requires-clause-enough c = omega (arith, c.in-Some.ensures.first)

pub scalar_at-requires-clause-is : goal.scalar_at-requires-clause-is
scalar_at-requires-clause-is c = (subst (λ (t : Table). IsScalar t c.args.id.0 c.in-Some.operation.now) c.requires c.in-Some.ensures).is

pub returns-clause-read : goal.returns-clause-read
returns-clause-read c =
    let is = subst (λ (t : Table). IsScalar t c.args.id.0 c.in-Some.operation.now) c.requires c.in-Some.ensures in
    let b = bits_left c.args.reader.now in
    scalar_reads c.args.table.now c.args.id.0 c.in-Some.operation.now c.number_of_bits-number.result b (bits_left c.skip.new.self) _ _ is (omega arith) c.number_of_bits-number.ensures.value c.in-Some-scalar_at.ensures c.in_ok-value.ensures (c.skip.ensures ∙ ap (λ n. drop n b) c.from-2.ensures)
