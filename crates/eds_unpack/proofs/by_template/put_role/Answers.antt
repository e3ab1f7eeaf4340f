use Rattle.std.proofs.Common.{◌∷◌, [], map, refl, sym, subst, append-nil}
use Rattle.eds_bits.specs.Reader.{bits_left}
use Rattle.eds_unpack.specs.declared.template.Role.{Role}
use Rattle.eds_unpack.specs.Scalars.{plain_of}
use Rattle.eds_unpack.specs.Segments.{Says}
use Rattle.eds_unpack.specs.Templates.{RoleSays}
use Rattle.eds_unpack.proofs.SegmentReads.{said}
use Rattle.eds_unpack.proofs.Templates.{on_weaker}
use Rattle.eds_unpack.proofs.by_template.put_role.Goals as goal

pub returns-in-Field-clause-says : goal.returns-in-Field-clause-says
returns-in-Field-clause-says c =
    let t = c.args.table.now in
    let b = bits_left c.args.reader.now in
    let o = c.args.operation.now in
    on_weaker c.put_scalar.result (λ put.
    let says = said t b o c.number_of_bits-number.result put.value c.requires.within c.number_of_bits-number.ensures.value put.is in
    (put.value ∷ [], put.last, subst (λ (r : Role). RoleSays t b c.args.all o r (put.value ∷ [])) (sym c.in-Field.is) (put.value, says, refl)))
    c.put_scalar.ensures.put

pub returns-in-Some-clause-says : goal.returns-in-Some-clause-says
returns-in-Some-clause-says c =
    let t = c.args.table.now in
    let b = bits_left c.args.reader.now in
    let o = c.args.operation.now in
    let v = plain_of c.in-Some.scalar in
    let says = said t b o c.number_of_bits-number.result v c.requires.within c.number_of_bits-number.ensures.value c.in-Some.ensures in
    on_weaker c.tells.result (λ h. ([], sym (append-nil (map plain_of c.args.room.now.items)), subst (λ (r : Role). RoleSays t b c.args.all o r []) (sym c.in-Length.is) (h.0, subst (Says t b o) h.1 says, h.2, refl))) c.tells.ensures

pub returns-in-Some-scalar_at-clause-says : goal.returns-in-Some-scalar_at-clause-says
returns-in-Some-scalar_at-clause-says c =
    let t = c.args.table.now in
    let b = bits_left c.args.reader.now in
    let o = c.args.operation.now in
    let v = plain_of c.in-Some-scalar_at.scalar in
    let says = said t b o c.number_of_bits-number.result v c.requires.within c.number_of_bits-number.ensures.value c.in-Some-scalar_at.ensures in
    on_weaker c.is_check.result (λ e. ([], sym (append-nil (map plain_of c.args.room.now.items)), subst (λ (r : Role). RoleSays t b c.args.all o r []) (sym c.in-Check.is) (subst (Says t b o) e says, refl))) c.is_check.ensures
