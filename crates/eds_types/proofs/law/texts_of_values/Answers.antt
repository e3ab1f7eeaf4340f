use Rattle.eds_types.proofs.TextValues.{texts_are_values, texts_pack, values_have_texts}
use Rattle.eds_types.proofs.law.texts_of_values.Goals as goal

pub returns : goal.returns
returns c = record { values = texts_are_values; packs = texts_pack; texts = values_have_texts }
