use Rattle.eds_codec.proofs.Blocks.{plain_seen, ascii_told}
use Rattle.eds_codec.proofs.coding.Coding.step.Goals as goal

pub returns-then-plain : goal.returns-then-plain
returns-then-plain c =
    let told = ascii_told c.is_ascii.result c.args.block c.is_ascii.ensures.cases in
    plain_seen c.args.self c.in-Ascii.plain c.is_ascii.result c.args.block c.in-Ascii.is (λ t. (c.if-plain.true, told.0 t)) (λ p a. told.1 a)

pub returns-else-plain : goal.returns-else-plain
returns-else-plain c =
    plain_seen c.args.self c.in-Ascii.plain c.in-Ascii.plain c.args.block c.in-Ascii.is (λ t. absurd cc) (λ p a. p)
