use Rattle.std.proofs.Common.{◌+◌, ap, subst, rules}
use Rattle.std.proofs.lemmas.Int.{to_z-of_z}
use mir.Syntax.{w128}
use Rattle.eds_bits.specs.Bits.{low_bits}
use Rattle.eds_bits.specs.IntForms.{IsNumber}
use Rattle.eds_bits.specs.Style.{canonical}
use Rattle.eds_pack.proofs.Putting.{number_put}
use Rattle.eds_pack.proofs.leaf.put_number.Goals as goal

pub returns : goal.returns
returns c =
    number_put c.args.form c.args.number c.in-Some.raw c.args.at _ c.args.room.now c.put.new.room c.put.result
    (subst (λ n. IsNumber canonical c.args.form n (low_bits c.args.form.bits c.in-Some.raw)) (to_z-of_z w128 c.args.number (search rules)) c.in-Some.ensures.pattern) c.put.ensures.enough c.put.ensures.written
    (ap (λ n. c.args.at + n) c.from.ensures)
