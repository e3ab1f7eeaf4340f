use Rattle.std.proofs.Common.{subst, sym}
use Rattle.eds_unpack.specs.declared.segment.Meaning.TheVariants as meaning
use Rattle.eds_unpack.specs.Segments.{Agrees}
use Rattle.eds_unpack.proofs.Meanings.{truth_agrees}
use Rattle.eds_unpack.proofs.operations.meaning_of.Goals as goal

pub returns-in-Int-clause-agrees : goal.returns-in-Int-clause-agrees
returns-in-Int-clause-agrees c = subst (λ k. Agrees k c.in-Int.form.bits c.number_meaning.result) (sym c.in-Int.is) c.number_meaning.ensures

pub returns-in-Enum-clause-agrees : goal.returns-in-Enum-clause-agrees
returns-in-Enum-clause-agrees c = subst (λ k. Agrees k c.in-Enum.form.bits c.label_meaning.result) (sym c.in-Enum.is) (c.label_meaning.ensures c.in-Enum.field-1)

pub returns-in-Bool-clause-agrees : goal.returns-in-Bool-clause-agrees
returns-in-Bool-clause-agrees c = subst (λ k. Agrees k c.in-Bool.form.bits (meaning.Truth c.in-Bool.form.zero_is_false)) (sym c.in-Bool.is) (truth_agrees c.in-Bool.form)
