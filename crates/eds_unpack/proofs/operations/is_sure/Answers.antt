use Rattle.std.proofs.Common.{subst}
use Rattle.eds_unpack.specs.Segments.{Agrees, scalar_of}
use Rattle.eds_unpack.proofs.Meanings.{number_is_sure, truth_is_sure}
use Rattle.eds_unpack.proofs.operations.is_sure.Goals as goal

pub returns-in-Number : goal.returns-in-Number
returns-in-Number c = λ kind agrees e.
    let h = c.are_in_domain.ensures in
    number_is_sure (scalar_of kind) c.args.bits c.in-Number.numbers (subst (Agrees kind c.args.bits) c.in-Number.is agrees) (record { from_zero = h.from_zero e; to_half = h.to_half e; from_least = h.from_least e; to_greatest = h.to_greatest e; down_to_least = h.down_to_least e; down_from_greatest = h.down_from_greatest e })

pub returns-in-Truth : goal.returns-in-Truth
returns-in-Truth c = λ kind agrees e. truth_is_sure (scalar_of kind) c.args.bits c.in-Truth.field-0 (subst (Agrees kind c.args.bits) c.in-Truth.is agrees)
