use Rattle.std.proofs.Common.{ap, arith, Err}
use Rattle.eds_bits.specs.Reader.{bits_left}
use Rattle.eds_codec.proofs.Texts.{Window, open_sized, open_good, open_bad, open_only_bad, open_short, open_only_short, open_unterminated, open_only_unterminated, untrue}
use Rattle.eds_codec.proofs.text.open_size.Goals as goal

pub returns-then-scan-clause-text : goal.returns-then-scan-clause-text
returns-then-scan-clause-text c =
    let w : Window c.args.form (bits_left c.args.reader) c.min-most.result = record { there = omega arith; few = omega arith; all = λ l. omega arith } in
    (open_sized c.args.form (bits_left c.args.reader) c.min-most.result c.scanned-scan.result.size c.requires w c.scanned-scan.ensures.size c.if-scan-most.true (c.scanned-scan.ensures.coded.0 c.if-scan.true)).text

pub returns-then-scan-clause-size : goal.returns-then-scan-clause-size
returns-then-scan-clause-size c =
    let w : Window c.args.form (bits_left c.args.reader) c.min-most.result = record { there = omega arith; few = omega arith; all = λ l. omega arith } in
    (open_sized c.args.form (bits_left c.args.reader) c.min-most.result c.scanned-scan.result.size c.requires w c.scanned-scan.ensures.size c.if-scan-most.true (c.scanned-scan.ensures.coded.0 c.if-scan.true)).size

pub returns-then-scan-clause-within : goal.returns-then-scan-clause-within
returns-then-scan-clause-within c =
    let w : Window c.args.form (bits_left c.args.reader) c.min-most.result = record { there = omega arith; few = omega arith; all = λ l. omega arith } in
    (open_sized c.args.form (bits_left c.args.reader) c.min-most.result c.scanned-scan.result.size c.requires w c.scanned-scan.ensures.size c.if-scan-most.true (c.scanned-scan.ensures.coded.0 c.if-scan.true)).within

pub returns-then-scan-clause-fails : goal.returns-then-scan-clause-fails
returns-then-scan-clause-fails c =
    let w : Window c.args.form (bits_left c.args.reader) c.min-most.result = record { there = omega arith; few = omega arith; all = λ l. omega arith } in
    λ why f. absurd (open_good c.args.form (bits_left c.args.reader) c.min-most.result c.scanned-scan.result.size c.requires w c.scanned-scan.ensures.size c.if-scan-most.true (c.scanned-scan.ensures.coded.0 c.if-scan.true) why f)

pub returns-else-scan-clause-fault : goal.returns-else-scan-clause-fault
returns-else-scan-clause-fault c =
    let w : Window c.args.form (bits_left c.args.reader) c.min-most.result = record { there = omega arith; few = omega arith; all = λ l. omega arith } in
    open_bad c.args.form (bits_left c.args.reader) c.min-most.result c.scanned-scan.result.size c.requires w c.scanned-scan.ensures.size c.if-scan-most.true (λ k. untrue c.scanned-scan.result.coded c.if-scan.false (c.scanned-scan.ensures.coded.1 k))

pub returns-else-scan-clause-fails : goal.returns-else-scan-clause-fails
returns-else-scan-clause-fails c =
    let w : Window c.args.form (bits_left c.args.reader) c.min-most.result = record { there = omega arith; few = omega arith; all = λ l. omega arith } in
    λ why f. ap Err (open_only_bad c.args.form (bits_left c.args.reader) c.min-most.result c.scanned-scan.result.size c.requires w c.scanned-scan.ensures.size c.if-scan-most.true why f)

pub returns-then-most-form-clause-fault : goal.returns-then-most-form-clause-fault
returns-then-most-form-clause-fault c =
    let w : Window c.args.form (bits_left c.args.reader) c.min-most.result = record { there = omega arith; few = omega arith; all = λ l. omega arith } in
    open_short c.args.form (bits_left c.args.reader) c.min-most.result c.scanned-scan.result.size c.requires w c.scanned-scan.ensures.size (omega arith) c.if-most-form.true

pub returns-then-most-form-clause-fails : goal.returns-then-most-form-clause-fails
returns-then-most-form-clause-fails c =
    let w : Window c.args.form (bits_left c.args.reader) c.min-most.result = record { there = omega arith; few = omega arith; all = λ l. omega arith } in
    λ why f. ap Err (open_only_short c.args.form (bits_left c.args.reader) c.min-most.result c.scanned-scan.result.size c.requires w c.scanned-scan.ensures.size (omega arith) c.if-most-form.true why f)

pub returns-else-most-form-clause-fault : goal.returns-else-most-form-clause-fault
returns-else-most-form-clause-fault c =
    let w : Window c.args.form (bits_left c.args.reader) c.min-most.result = record { there = omega arith; few = omega arith; all = λ l. omega arith } in
    open_unterminated c.args.form (bits_left c.args.reader) c.min-most.result c.scanned-scan.result.size c.requires w c.scanned-scan.ensures.size (omega arith) (omega arith)

pub returns-else-most-form-clause-fails : goal.returns-else-most-form-clause-fails
returns-else-most-form-clause-fails c =
    let w : Window c.args.form (bits_left c.args.reader) c.min-most.result = record { there = omega arith; few = omega arith; all = λ l. omega arith } in
    λ why f. ap Err (open_only_unterminated c.args.form (bits_left c.args.reader) c.min-most.result c.scanned-scan.result.size c.requires w c.scanned-scan.ensures.size (omega arith) (omega arith) why f)
