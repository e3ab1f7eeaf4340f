use Rattle.std.proofs.Common.{sym, ◌∙◌}
use Rattle.eds_read_types.proofs.table.read_graph.Goals as goal

pub typed_of-requires-clause-unbroken : goal.typed_of-requires-clause-unbroken
typed_of-requires-clause-unbroken c = sym c.in_ok-found.ensures ∙ c.in-None.is
