use Rattle.std.proofs.Common.{◌≡◌, ◌++◌, map, drop}
use Rattle.eds_read_comp.specs.declared.end.EndElement.{EndElement}
use Rattle.eds_read_comp.specs.Ends.{use_at}
use Rattle.eds_read_comp.proofs.end.push_uses.Given as goal

abbrev pub invariant-loop-end : goal.invariant-loop-end
invariant-loop-end l =
    l.uses.items ++ map (λ (e : EndElement). use_at l.file.tree.now l.file.space.now l.file.file e.node) (drop l.end-index l.end-items)
    ≡ l.initial.uses.items ++ map (λ (e : EndElement). use_at l.file.tree.now l.file.space.now l.file.file e.node) l.end-items
