use Rattle.std.proofs.Common.{sym, ap, ◌∙◌, arith}
use Rattle.eds_types.specs.Rows.{number_of_id}
use Rattle.eds_read_types.proofs.PartNameFacts.{above_hit, above_on, above_end, above_none}
use Rattle.eds_read_types.proofs.part_names.BaseNames.have.Goals as goal

pub returns-in-None : goal.returns-in-None
returns-in-None c = above_end c.loop-left.left c.args.self.now.rows.now c.loop-left.at c.args.name.now _ (sym c.base_of.ensures ∙ ap number_of_id c.in-None.is) c.loop-left.invariant

pub returns-then-has_name : goal.returns-then-has_name
returns-then-has_name c =
    let base = sym c.base_of.ensures ∙ ap number_of_id c.in-Some.is in
    above_hit c.loop-left.left c.args.self.now.rows.now c.loop-left.at c.in-Some.base.0 c.args.name.now _ (omega arith) base (sym (c.args.self.now.named c.loop-left.at c.in-Some.base.0 base c.args.name.now) ∙ sym c.has_name.ensures ∙ c.if-has_name.true) c.loop-left.invariant

pub loop-left-preserved : goal.loop-left-preserved
loop-left-preserved c =
    let base = sym c.base_of.ensures ∙ ap number_of_id c.in-Some.is in
    above_on c.loop-left.left c.args.self.now.rows.now c.loop-left.at c.in-Some.base.0 c.args.name.now _ (omega arith) base (sym (c.args.self.now.named c.loop-left.at c.in-Some.base.0 base c.args.name.now) ∙ sym c.has_name.ensures ∙ c.if-has_name.false) c.loop-left.invariant

pub returns : goal.returns
returns c = above_none c.loop-left.left c.args.self.now.rows.now c.loop-left.at c.args.name.now _ (omega arith) c.loop-left.invariant
