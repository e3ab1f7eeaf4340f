use Rattle.std.proofs.Common.{option_map, ◌∙◌}
use Rattle.eds_read_types.proofs.NoBreaks.{same_presence}
use Rattle.eds_read_types.proofs.TableFacts.{table_answered, table_word}
use Rattle.eds_read_types.proofs.table.read_types.Goals as goal

pub returns-clause-known : goal.returns-clause-known
returns-clause-known c = table_answered _ c.read_graph.result _ (λ t h. (table_word c.as_slice-trees.result.now c.args.space.now (option_map (λ w. w.now) c.args.asked) t h).0) c.read_graph.ensures

pub returns-clause-given : goal.returns-clause-given
returns-clause-given c = table_answered _ c.read_graph.result _ (λ t h. (table_word c.as_slice-trees.result.now c.args.space.now (option_map (λ w. w.now) c.args.asked) t h).1 ∙ same_presence (λ w. w.now) c.args.asked) c.read_graph.ensures
