use Rattle.eds_types.proofs.TextValues.{fits_then, fits_else}
use Rattle.eds_types.proofs.texts.text_fits.Goals as goal

pub returns-then-is_coded : goal.returns-then-is_coded
returns-then-is_coded c = fits_then c.args.form c.args.text.now c.is_coded.result c.has_octet.result c.is_coded.ensures c.if-is_coded.true c.has_octet.ensures

pub returns-else-is_coded : goal.returns-else-is_coded
returns-else-is_coded c = fits_else c.args.form c.args.text.now c.is_coded.result c.is_coded.result c.is_coded.ensures c.if-is_coded.false
