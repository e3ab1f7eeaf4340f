use Rattle.std.proofs.Common.{◌≡◌, length, ap, sym, ◌∙◌}
use Rattle.std.proofs.lemmas.Bool.{eqb-true, eq-eqb}
use Rattle.eds_bits.specs.Scalars.{before_stop}
use Rattle.eds_codec.proofs.Texts.{free_size, size_free}
use Rattle.eds_codec.proofs.text.is_text_of.Goals as goal

pub returns : goal.returns
returns c =
    let size : c.text_size.result ≡ length (before_stop c.args.form.stop c.args.text.now) =
    c.text_size.ensures.value ∙ ap (λ os. length (before_stop c.args.form.stop os)) c.as_bytes.ensures.value in (
      λ t. record { coded = c.is_coded.ensures.0 c.if-not-is_coded.false; free = free_size c.args.form.stop c.args.text.now (sym size ∙ eqb-true c.text_size.result (length c.args.text.now) t) },
      λ is. eq-eqb c.text_size.result (length c.args.text.now) (size ∙ size_free c.args.form.stop c.args.text.now is.free),
    )
