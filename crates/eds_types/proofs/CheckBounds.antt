-- Each check is a number of an unsigned form of its size.
use Rattle.std.proofs.Common.{List, ◌-◌, ◌^◌, pos, sym, subst, arith}
use Rattle.std.specs.Prelude.{◌≤ℤ◌}
use Rattle.std.proofs.lemmas.Int.{ints}
use Rattle.eds_base.specs.declared.spans.Span.{Span}
use Rattle.eds_bits.specs.declared.forms.CheckKind.{CheckKind}
use Rattle.eds_bits.specs.declared.forms.IntForm.{IntForm}
use Rattle.eds_bits.specs.Bits.{Bits}
use Rattle.eds_bits.specs.Encodings.{least_by, greatest_by}
use Rattle.eds_bits.specs.IntForms.{HasNumber}
use Rattle.eds_bits.specs.Scalars.{check_of}
use Rattle.eds_bits.proofs.CheckLaws.{check_of_lt}
use Rattle.eds_types.specs.Rules.{HoldsCheck}

pub check_number : (k : CheckKind) (form : IntForm) (spans : List Span) (b : Bits) → HoldsCheck k form spans → HasNumber form (pos (check_of k b))
check_number k form spans b h =
    let low = check_of_lt k b in
    record {
      from_least = subst (λ e. least_by e form.bits ≤ℤ pos (check_of k b)) (sym h.encoding) (omega (arith, ints));
      to_greatest = subst (λ e. pos (check_of k b) ≤ℤ greatest_by e form.bits) (sym h.encoding) (subst (λ n. pos (check_of k b) ≤ℤ pos (2 ^ n - 1)) (sym h.size) (omega (arith, ints)));
    }
