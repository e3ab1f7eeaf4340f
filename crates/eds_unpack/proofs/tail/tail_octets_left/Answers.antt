use Rattle.std.proofs.Common.{◌≡◌, ◌∙◌, ◌+◌, ap, ap₂, rules, sym, subst, nat_abs, ◌≤◌, ◌^◌}
use Rattle.std.specs.Prelude.{IfSome, unwrap_or, pos}
use Rattle.eds_bits.specs.Bits.{octets_for}
use Rattle.eds_types.specs.Reading.{octets_left, tail_octets}
use Rattle.eds_types.specs.Rows.{Table}
use Rattle.eds_types.specs.Sizes.{trailers_size}
use Rattle.eds_unpack.specs.Tails.{limited}
use Rattle.eds_unpack.proofs.Tails.{room_is}
use Rattle.eds_unpack.proofs.tail.tail_octets_left.Goals as goal

pub returns-clause-value : goal.returns-clause-value
returns-clause-value c = λ s i p told size.
    (let k : c.div_ceil.result ≡ octets_for (c.from.result + c.trailers_along-trailers.result) = search rules in
    let before = c.from.ensures ∙ sym size in
    let sizes = c.trailers_along-trailers.ensures ∙ ap (λ (t : Table). limited (trailers_size t c.args.container.0)) c.requires.same in
    c.tail_octets.ensures.value
    ∙ ap (λ o. tail_octets c.args.most (octets_left (unwrap_or o (pos 0)) c.div_ceil.result)) (sym told)
    ∙ room_is c.args.table.now c.args.most c.args.container.0 i p s c.div_ceil.result (subst (λ o. IfSome o (λ n. nat_abs n ≤ 2 ^ 97)) (sym told) c.requires.told) (k ∙ ap₂ (λ a b. octets_for (a + b)) before sizes))
