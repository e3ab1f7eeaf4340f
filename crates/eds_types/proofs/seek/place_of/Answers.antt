use Rattle.std.proofs.Common.{◌∙◌}
use Rattle.eds_types.proofs.Seeking.{in_entries, in_trailers}
use Rattle.eds_types.proofs.seek.place_of.Goals as goal

pub returns-in-Ok : goal.returns-in-Ok
returns-in-Ok c = in_entries c.args.table.now c.args.own.0 (((c.args.wanted).0).0) ((c.args.wanted).1) c.in-Ok.place c.as_slice.result.now (c.as_slice.ensures.value ∙ c.chain_of-chain.ensures) c.in-Ok.ensures.place

pub returns-in-Err : goal.returns-in-Err
returns-in-Err c = in_trailers c.args.table.now c.args.own.0 (((c.args.wanted).0).0) ((c.args.wanted).1) c.in-Err.n c.seek_trailers.result c.as_slice.result.now c.as_slice-in-Err.result.now (c.as_slice.ensures.value ∙ c.chain_of-chain.ensures) (c.as_slice-in-Err.ensures.value ∙ c.chain_of-chain.ensures) c.in-Err.ensures.place c.seek_trailers.ensures
