use Rattle.std.proofs.Common.{length, ◌∙◌, sym}
use Rattle.std.proofs.lemmas.Bool.{eqb-true}
use Rattle.eds_types.specs.Choices.{fits_choice}
use Rattle.eds_types.specs.Rows.{chain}
use Rattle.eds_types.proofs.Candidates.{numbers_are}
use Rattle.eds_unpack.proofs.Listing.{none_first}
use Rattle.eds_unpack.proofs.choice.candidate_under.Goals as goal

pub returns-then-is_empty : goal.returns-then-is_empty
returns-then-is_empty c = λ fs h.
    none_first (fits_choice c.args.table.now c.args.id.0 fs) c.members_left-members.result.now (eqb-true (length c.members_left-members.result.now) 0 (sym c.is_empty.ensures ∙ c.if-is_empty.true))
    ∙ c.members_left-members.ensures fs h

pub first_candidate-requires : goal.first_candidate-requires
first_candidate-requires c = numbers_are c.as_slice.result.now (chain c.args.table.now c.args.id.0) (c.as_slice.ensures.value ∙ c.chain_of-chain.ensures)

pub returns : goal.returns
returns c = λ fs h. c.first_candidate.ensures fs h ∙ c.members_left-members.ensures fs h
