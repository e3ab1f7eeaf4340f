use Rattle.std.proofs.Common.{ap, sym, ◌∙◌}
use Rattle.eds_names.specs.Positions.{place_among}
use Rattle.eds_types.specs.Rows.{number_of_id}
use Rattle.eds_constraints.specs.Breaks.{posed_by, left_by}
use Rattle.eds_constraints.proofs.LeftFacts.{put_left, below_there, item_there}
use Rattle.eds_constraints.proofs.left.put_one.Goals as goal

pub returns-clause-left : goal.returns-clause-left
returns-clause-left c before h =
    let place = sym (c.in-Some.ensures ∙ ap (place_among c.args.paths.now) c.as_str.ensures) in
    let lt = below_there c.args.paths.now c.args.one.now.path _ c.in-Some.at c.requires.there place in
    put_left c.args.rows.now.rows.now c.args.paths.now before (posed_by (number_of_id c.args.base) c.args.one.now) c.args.states.now c.set.new.self c.in-Some.at c.index-as_slice-at.result c.in_ok-after.after
    place lt (item_there c.args.states.now c.as_slice.result.now c.in-Some.at _ c.index-as_slice-at.result c.as_slice.ensures lt c.index-as_slice-at.is) (c.in_ok-after.ensures ∙ ap (left_by c.index-as_slice-at.result) c.in_ok-set.ensures) c.set.ensures h
