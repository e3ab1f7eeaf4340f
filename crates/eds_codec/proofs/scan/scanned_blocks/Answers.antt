use Rattle.std.proofs.Common.{◌≤◌, ◌*◌, length, ap, length-drop, arith}
use Rattle.eds_bits.specs.Reader.{bits_left}
use Rattle.eds_bits.specs.Texts.{front_octets}
use Rattle.eds_bits.proofs.TextLaws.{before_is, length-front_octets}
use Rattle.eds_codec.proofs.Blocks.{scan_start, scan_step, scan_count, scan_coded}
use Rattle.eds_codec.proofs.scan.scanned_blocks.Goals as goal

pub loop-left-init : goal.loop-left-init
loop-left-init c = scan_start c.args.form.stop c.args.form.ascii c.args.most (bits_left c.args.reader) c.new-coding.result c.requires c.new-coding.ensures

pub next_block-block-requires-clause-enough : goal.next_block-block-requires-clause-enough
next_block-block-requires-clause-enough c =
    let n : c.min-n.result ≤ c.loop-left.left = omega arith in
    omega (arith, ap length (c.loop-left.invariant.here c.loop-left-test.true), length-drop (8 * c.loop-left.size) (bits_left c.args.reader), c.loop-left.invariant.all c.loop-left-test.true, c.requires)

pub overflow_add-size : goal.overflow_add-size
overflow_add-size c =
    let n : c.min-n.result ≤ c.loop-left.left = omega arith in
    let enough : 8 * c.min-n.result ≤ length (bits_left c.loop-left.ahead) =
    omega (arith, ap length (c.loop-left.invariant.here c.loop-left-test.true), length-drop (8 * c.loop-left.size) (bits_left c.args.reader), c.loop-left.invariant.all c.loop-left-test.true, c.requires) in
    omega (arith, c.next_block-block.ensures.size, (before_is c.args.form.stop (front_octets c.min-n.result (bits_left c.loop-left.ahead))).short, length-front_octets c.min-n.result (bits_left c.loop-left.ahead) enough, c.loop-left.invariant.few)

pub loop-left-preserved : goal.loop-left-preserved
loop-left-preserved c =
    scan_step c.args.form.stop c.args.form.ascii c.args.most (bits_left c.args.reader) (bits_left c.loop-left.ahead) (bits_left c.next_block-block.new.reader) c.loop-left.coding c.step-coding.result
    c.loop-left.size c.loop-left.left c.min-n.result c.next_block-block.result.size c.left_after-left.result c.next_block-block.result.octets c.requires c.loop-left.invariant c.loop-left-test.true
    (omega arith) (λ l. omega arith) c.next_block-block.ensures.size c.next_block-block.ensures.octets c.next_block-block.ensures.after (λ seen h. c.step-coding.ensures c.args.form.ascii seen h)
    c.left_after-left.ensures.stopped c.left_after-left.ensures.goes_on

pub returns-clause-size : goal.returns-clause-size
returns-clause-size c =
    scan_count c.args.form.stop c.args.form.ascii c.args.most (bits_left c.args.reader) (bits_left c.loop-left.ahead) c.loop-left.coding c.loop-left.size c.loop-left.left c.requires c.loop-left.invariant (omega arith)

pub returns-clause-coded : goal.returns-clause-coded
returns-clause-coded c =
    scan_coded c.args.form.stop c.args.form.ascii c.args.most (bits_left c.args.reader) (bits_left c.loop-left.ahead) c.loop-left.coding c.loop-left.size c.loop-left.left c.finish.result c.requires c.loop-left.invariant (omega arith)
    (λ seen h. c.finish.ensures c.args.form.ascii seen h)
