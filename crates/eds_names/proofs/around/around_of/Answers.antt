use Rattle.std.proofs.Common.{rules, ◌≡◌, None, length, map, replicate, refl, ap, ◌∙◌, sym, subst, arith}
use Rattle.eds_names.specs.Around.{name_in}
use Rattle.eds_names.specs.Standings.{name_around, around_entry, written}
use Rattle.eds_names.proofs.AroundLemmas.{AllIn-none, map-none, AllIn-kept, AllIn-set, written-next, AllIn}
use Rattle.eds_names.proofs.around.around_of.Goals as goal

pub loop-standing-init : goal.loop-standing-init
loop-standing-init c =
    let blank : c.in_ok-table.table.items ≡ replicate (length c.args.tree.now) None = c.in_ok-table.ensures.items_if_clones_equal (λ y h. search rules) ∙ ap (λ n. replicate n None) c.len.ensures in
    record {
      name = refl;
      position = tt;
      table = subst (AllIn c.new-names.result.items) (sym blank) (AllIn-none c.new-names.result.items (length c.args.tree.now));
      written = ap (λ t. written t (map (around_entry c.args.tree.now) c.args.standings.now)) (ap (map (name_in c.new-names.result.items)) blank ∙ map-none c.new-names.result.items (length c.args.tree.now));
    }

pub loop-standing-preserved : goal.loop-standing-preserved
loop-standing-preserved c =
    let place = c.in_ok-last.ensures.place in
    let all = AllIn-kept c.loop-standing.names.items c.enter.new.names.items c.loop-standing.table.items c.in_ok-last.ensures.kept c.loop-standing.invariant.table in
    record {
      name = c.in_ok-last.ensures.name ∙ sym (ap (λ n. name_around c.args.tree.now n c.in_ok-last.last.in_component) place.0 ∙ ap (name_around c.args.tree.now _) place.1);
      position = c.in_ok-last.ensures.position;
      table = subst (AllIn c.enter.new.names.items) (sym c.write.ensures) (AllIn-set c.enter.new.names.items c.loop-standing.table.items _ c.in_ok-last.last.position all c.in_ok-last.ensures.position);
      written = written-next (around_entry c.args.tree.now) c.args.standings.now c.loop-standing.standing-index _ _ c.loop-standing.names.items c.enter.new.names.items c.loop-standing.table.items c.write.new.table.items c.in_ok-last.last.position _ (omega arith) refl c.in_ok-last.ensures.kept c.loop-standing.invariant.table c.write.ensures c.in_ok-last.ensures.name c.loop-standing.invariant.written;
    }
