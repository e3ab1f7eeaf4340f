use Rattle.std.proofs.Common.{arith}
use Rattle.eds_bits.specs.Reader.{bits_left}
use Rattle.eds_codec.proofs.Texts.{fixed_sized}
use Rattle.eds_codec.proofs.text.fixed_size.Goals as goal

pub returns-then-scan-clause-text : goal.returns-then-scan-clause-text
returns-then-scan-clause-text c = (fixed_sized c.args.form (bits_left c.args.reader) c.scanned-scan.result.size c.requires (omega arith) c.scanned-scan.ensures.size (c.scanned-scan.ensures.coded.0 c.if-scan.true)).text

pub returns-then-scan-clause-size : goal.returns-then-scan-clause-size
returns-then-scan-clause-size c = (fixed_sized c.args.form (bits_left c.args.reader) c.scanned-scan.result.size c.requires (omega arith) c.scanned-scan.ensures.size (c.scanned-scan.ensures.coded.0 c.if-scan.true)).size

pub returns-then-scan-clause-most : goal.returns-then-scan-clause-most
returns-then-scan-clause-most c = (fixed_sized c.args.form (bits_left c.args.reader) c.scanned-scan.result.size c.requires (omega arith) c.scanned-scan.ensures.size (c.scanned-scan.ensures.coded.0 c.if-scan.true)).most
