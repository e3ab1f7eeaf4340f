use Rattle.std.proofs.Common.{refl, ◌∙◌}
use Rattle.eds_bits.specs.Reader.{bits_left}
use Rattle.eds_bits.specs.Texts.{front_octets}
use Rattle.eds_codec.proofs.Texts.{text_front}
use Rattle.eds_codec.proofs.text.skip_text.Goals as goal

pub returns-clause-text : goal.returns-clause-text
returns-clause-text c = (
  front_octets c.in_ok-size.size (bits_left c.args.reader.now),
  text_front c.args.form (bits_left c.args.reader.now) (bits_left c.skip.new.self) c.in_ok-size.size c.from.result (front_octets c.in_ok-size.size (bits_left c.args.reader.now))
      (record { text = c.in_ok-size.ensures.text; size = c.in_ok-size.ensures.size; within = c.in_ok-size.ensures.within; most = c.in_ok-size.ensures.most }) refl (c.from.ensures ∙ c.bits_of_text.ensures) c.skip.ensures,
)
