use Rattle.std.proofs.Common.{rules, ◌∷◌, ◌++◌, [], slice_get, ◌∙◌, ap, subst, map, w64}
use Rattle.std.proofs.lemmas.Int.{to_z-of_z}
use Rattle.std.proofs.lemmas.List.{map-append}
use Rattle.eds_types.specs.Plain.{num}
use Rattle.eds_unpack.specs.Scalars.{plain_of}
use Rattle.eds_unpack.specs.Segments.{AgreesIn, value_in}
use Rattle.eds_unpack.proofs.Meanings.{in_row}
use Rattle.eds_unpack.proofs.meaning.put_scalar.Goals as goal

pub returns-in-Some-clause-put : goal.returns-in-Some-clause-put
returns-in-Some-clause-put c =
    let row = slice_get c.args.table.now c.args.operation.now.id.0 in
    let are = in_row row c.args.operation.now.bits c.in-Number.numbers (subst (AgreesIn row c.args.operation.now.bits) c.in-Number.is c.requires.is.agrees) in
    let old = map plain_of c.args.room.now.items in
    let found = c.in-Some.found in
    record {
      value = num found;
      is = c.in-Some.ensures (value_in row) are;
      last = ap (map plain_of) c.push_reserved.ensures.items ∙ map-append plain_of c.args.room.now.items (_ ∷ []) ∙ ap (λ n. old ++ num n ∷ []) (to_z-of_z w64 found (search rules));
    }

pub returns-in-Some-scalar_at-clause-put : goal.returns-in-Some-scalar_at-clause-put
returns-in-Some-scalar_at-clause-put c = record {
  value = plain_of c.in-Some-scalar_at.scalar;
  is = c.in-Some-scalar_at.ensures;
  last = ap (map plain_of) c.push_reserved-in-Some-scalar_at.ensures.items ∙ map-append plain_of c.args.room.now.items (c.in-Some-scalar_at.scalar ∷ []);
}
