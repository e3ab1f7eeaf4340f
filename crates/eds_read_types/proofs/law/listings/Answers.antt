use Rattle.eds_read_types.proofs.LawFacts.{listing_is}
use Rattle.eds_read_types.proofs.law.listings.Goals as goal

pub returns : goal.returns
returns c listing = listing_is c.args.form listing
