use Rattle.std.proofs.Common.{◌≡◌, ◌∙◌, sym, ap, map, subst}
use Rattle.std.specs.Prelude.{IfOk}
use Rattle.eds_graph.specs.Search.{course_in}
use Rattle.eds_graph.proofs.Searching.{start-sound, all-known}
use Rattle.eds_graph.proofs.search.courses.Goals as goal

pub loop-part-init : goal.loop-part-init
loop-part-init c =
    start-sound c.args.graph.now c.len.result c.in_ok-search.search.states c.in_ok-search.search.opened c.in_ok-search.search.waiting c.in_ok-search.search.parts c.len.ensures c.in_ok-search.ensures

pub returns : goal.returns
returns c =
    let all = all-known c.args.graph.now c.loop-part.search.states c.loop-part.search.opened c.loop-part.search.waiting c.loop-part.search.parts c.loop-part.invariant (sym c.top.ensures ∙ c.in_default.is) in
    subst (λ cs. IfOk c.courses_known.result (λ v. v.items ≡ cs)) (ap (map course_in) c.as_slice.ensures ∙ all) c.courses_known.ensures
