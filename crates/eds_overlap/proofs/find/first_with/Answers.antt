use Rattle.std.proofs.Common.{refl}
use Rattle.eds_overlap.specs.Pairs.{Named}
use Rattle.eds_overlap.proofs.Listing.{all_found, first_some, first_none}
use Rattle.eds_overlap.proofs.find.first_with.Goals as goal

pub returns-clause-some : goal.returns-clause-some
returns-clause-some c =
    let found =
    all_found c.args.table.now c.keeps_rules.ensures c.args.used.now c.args.sets.now c.args.models.now c.args.places.now c.args.second.0 c.in_ok-near.near.now c.in_ok-near.others.now c.first_among-found.result c.first_among.result
    c.requires.sets c.requires.places c.requires.second c.in_ok-near.ensures c.first_among-found.ensures c.first_among.ensures in
    first_some c.args.table.now (Named c.args.used.now) c.args.second.0 c.first_among.result c.args.second refl found.0 found.1

pub returns-clause-none : goal.returns-clause-none
returns-clause-none c =
    let found =
    all_found c.args.table.now c.keeps_rules.ensures c.args.used.now c.args.sets.now c.args.models.now c.args.places.now c.args.second.0 c.in_ok-near.near.now c.in_ok-near.others.now c.first_among-found.result c.first_among.result
    c.requires.sets c.requires.places c.requires.second c.in_ok-near.ensures c.first_among-found.ensures c.first_among.ensures in
    first_none c.args.table.now (Named c.args.used.now) c.args.second.0 c.first_among.result found.1
