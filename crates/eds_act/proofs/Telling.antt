-- The test of packing tells which values pack.
use Rattle.std.proofs.Common.{◌≡◌, ℕ, ℤ, Bool, true, false, List, Option, Some, None, slice_get, length, ◌<◌, ◌≤◌, sym, ap, ◌∙◌, refl, arith}
use Rattle.std.specs.Prelude.{is_ok, Ok, Err, cond, nat_le}
use Rattle.std.proofs.lemmas.Bool.{le-leb}
use Rattle.std.proofs.lemmas.Option.{slice_get_within}
use Rattle.eds_types.specs.declared.row.TypeRow.{TypeRow}
use Rattle.eds_base.specs.declared.spans.Span.{Span}
use Rattle.eds_bits.specs.declared.forms.IntForm.{IntForm}
use Rattle.eds_types.specs.declared.reason.PackReason.TheVariants as reason
use Rattle.eds_types.specs.Packing.{most_bits, pack_fault_here}
use Rattle.eds_types.specs.Reading.{is_within}
use Rattle.eds_types.specs.PackedSizes.{packs, number_size, packed_row_size, packed_size_within, not_long, SizesAreExact}
use Rattle.eds_types.specs.Plain.{Plain, num}
use Rattle.eds_types.specs.Rows.{Table}
use Rattle.eds_types.specs.Rules.{KeepsRules}
use Rattle.eds_types.specs.Spelling.{SpellsWithin}
use Rattle.eds_act.specs.Does.{Conforms, Tells}

fails_elsewhere : (t : Table) (id : ℕ) (v : Plain) → slice_get t id ≡ None → packs t id v ≡ false
unfolding packed_size_within
fails_elsewhere t id v e = ap (λ o. is_ok (not_long (packed_row_size t (packed_size_within 31 t) id o v))) e

there : (t : Table) (id : ℕ) (v : Plain) → Conforms t id v → id < length t
unfolding SpellsWithin
there t id v h = slice_get_within t id ((h.1).1).0 (((h.1).1).1)

pub packs_tell : (t : Table) → SizesAreExact → KeepsRules t → Tells t (packs t)
packs_tell t exact rules = record {
  packs_only = λ id v h. only id v (slice_get t id) refl h;
  packs_all = λ id v h. (exact t id rules (there t id v h) v).bool.1 h;
}
  where
    only : (id : ℕ) (v : Plain) (o : Option TypeRow) → slice_get t id ≡ o → packs t id v ≡ true → Conforms t id v
    only id v None e h = absurd (let f : true ≡ false = sym h ∙ fails_elsewhere t id v e in cc)
    only id v (Some row) e h = (exact t id rules (slice_get_within t id row e) v).bool.0 h

-- a number packs as an integer type of few bits where it is in its ranges
pub number_packs : (form : IntForm) (spans : List Span) (n : ℤ) → form.bits ≤ 64 → is_ok (not_long (number_size form spans (num n))) ≡ is_within spans n
number_packs form spans n few = go (is_within spans n)
  where
    fits : nat_le form.bits most_bits ≡ true
    fits = le-leb form.bits most_bits (omega (arith, few))

    go : (b : Bool) → is_ok (not_long (cond b (Ok form.bits) (Err (pack_fault_here reason.OutOfRange)))) ≡ b
    go true = ap (λ b. is_ok (cond b (Ok form.bits) (Err (pack_fault_here reason.TooLong)))) fits
    go false = refl
