use Rattle.std.proofs.Common.{refl, sym, ap, ◌∙◌}
use Rattle.std.proofs.lemmas.Option.{slice_get_read}
use Rattle.eds_names.specs.Repeats.{is_among}
use Rattle.eds_read_types.specs.PartNames.{names_held}
use Rattle.eds_read_types.proofs.NameSets.{among_ordered}
use Rattle.eds_read_types.proofs.part_names.has_name.Goals as goal

pub returns-in-Some : goal.returns-in-Some
returns-in-Some c =
    c.contains.ensures ∙ sym (among_ordered c.in-Some.held.now.keys c.args.name.now)
    ∙ ap (λ o. is_among (names_held o) c.args.name.now) (sym (slice_get_read c.args.names.now _ c.args.id c.in-Some.held.now refl ((c.in-Some.ensures.lookup).3).0 (c.in-Some.ensures.lookup).1))
