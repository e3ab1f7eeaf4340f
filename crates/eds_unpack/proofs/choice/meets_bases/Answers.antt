use Rattle.std.proofs.Common.{◌∙◌}
use Rattle.eds_types.specs.Choices.{meets}
use Rattle.eds_unpack.proofs.Listing.{bases_left}
use Rattle.eds_unpack.proofs.choice.meets_bases.Goals as goal

pub returns-in-len1-up : goal.returns-in-len1-up
returns-in-len1-up c = λ fs h own.
    c.meets_all.ensures fs h ∙ bases_left c.args.table.now (meets c.args.table.now c.args.id.0 fs) c.args.under.0 c.as_slice.result.now (c.as_slice.ensures.value ∙ c.chain_of-line.ensures) own
