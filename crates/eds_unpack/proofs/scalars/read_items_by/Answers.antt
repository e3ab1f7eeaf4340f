use Rattle.std.proofs.Common.{◌≡◌, ◌*◌, ◌≤◌, length, map, slice_get, drop, ap, ap₂, subst, ◌∙◌, arith}
use Rattle.std.specs.Prelude.{IfSome}
use Rattle.eds_bits.specs.Reader.{bits_left}
use Rattle.eds_types.specs.Plain.{plain}
use Rattle.eds_unpack.specs.Items.{AreItems}
use Rattle.eds_unpack.specs.Segments.{value_in}
use Rattle.eds_unpack.proofs.ItemReads.{items_read}
use Rattle.eds_unpack.proofs.scalars.read_items_by.Goals as goal

pub returns-clause-read : goal.returns-clause-read
returns-clause-read c =
    let t = c.args.table.now in
    let o = c.args.operation.now in
    let b = bits_left c.args.reader.now in
    let count : c.in-Ok.count ≡ c.args.count = omega arith in
    let all : c.from.result * c.from-2.result ≡ c.args.count * o.bits = ap₂ (λ x y. x * y) (c.from.ensures ∙ count) c.from-2.ensures in
    let enough : c.args.count * o.bits ≤ length b = omega arith in
    let size = subst (λ x. IfSome x (λ vs. length vs.items ≡ c.in-Ok.count)) c.in-Some.is c.in_ok-values.ensures.count in
    let values = subst (λ x. IfSome x (λ vs. AreItems (value_in (slice_get t o.id.0)) o.bits b (map plain vs.items))) c.in-Some.is c.in_ok-values.ensures.values in
    let rest : bits_left c.skip.new.self ≡ drop (c.args.count * o.bits) b = c.skip.ensures ∙ ap (λ n. drop n b) all in
    items_read t o.id.0 o.bits c.args.count b (bits_left c.skip.new.self) c.in-Some.values.items c.requires.is.size enough (size ∙ count) values rest
