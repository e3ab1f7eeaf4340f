use Rattle.std.proofs.Common.{◌∙◌, arith}
use Rattle.std.specs.HashMap.{get_by_text}
use Rattle.eds_names.proofs.Positions.{place-next}
use Rattle.eds_names.proofs.name_list.index_of.Goals as goal

pub loop-at-preserved : goal.loop-at-preserved
loop-at-preserved c =
    place-next (get_by_text c.loop-at.index) (get_by_text c.note_name.new.index) c.args.names.now c.loop-at.at _ c.as_str.result.now (omega arith) (c.as_str.ensures ∙ c.index-names-at.is) c.in_ok-note_name.ensures c.loop-at.invariant
