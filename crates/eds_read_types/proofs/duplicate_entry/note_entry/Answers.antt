use Rattle.std.proofs.Common.{◌≡◌, ◌++◌, ◌||◌, map, true, false, sym, ap, ◌∙◌, string_bytes}
use Rattle.std.proofs.lemmas.List.Folds.{list_any-append}
use Rattle.eds_base.specs.Reading.{same}
use Rattle.eds_names.specs.Repeats.{is_among}
use Rattle.eds_names.proofs.RepeatsLemmas.{names-present, first_of-none}
use Rattle.eds_types.specs.Rows.{base_of}
use Rattle.eds_read_types.specs.DuplicateEntry.{names_above}
use Rattle.eds_read_types.proofs.EntriesLemmas.{repeat_of-present, repeat_of-absent}
use Rattle.eds_read_types.proofs.NameSets.{among_ordered}
use Rattle.eds_read_types.proofs.duplicate_entry.note_entry.Goals as goal
use Rattle.eds_read_types.proofs.duplicate_entry.note_entry.Goals.{then-contains-via-then-contains, then-contains-via-else-contains+then-have}

pub returns-then-contains-clause-found : goal.returns-then-contains-clause-found
returns-then-contains-clause-found c =
    let keys = c.args.before.now.keys in
    let own = map string_bytes keys in
    let above = names_above 16 c.args.above.now.rows.now (base_of c.args.above.now.rows.now c.args.id) in
    let name = c.args.name.now in
    let among : is_among (own ++ above) name ≡ true = list_any-append (same name) own above ∙ (elim c.then-contains.branch [
      | then-contains-via-then-contains w ↦ ap (λ b. b || is_among above name) (among_ordered keys name ∙ sym c.contains.ensures ∙ w.if-contains.true)
      | then-contains-via-else-contains+then-have w ↦ ap (λ b. b || is_among above name) (among_ordered keys name ∙ sym c.contains.ensures ∙ w.if-contains.false) ∙ (sym w.have.ensures ∙ w.if-have.true)
    ]) in
    rw (repeat_of-present _ c.args.at c.args.name.now among) (rw c.in_ok-refusal.ensures at c.first.ensures.first)

pub returns-then-contains-clause-before : goal.returns-then-contains-clause-before
returns-then-contains-clause-before c =
    let keys = c.args.before.now.keys in
    let own = map string_bytes keys in
    let above = names_above 16 c.args.above.now.rows.now (base_of c.args.above.now.rows.now c.args.id) in
    let name = c.args.name.now in
    let among : is_among (own ++ above) name ≡ true = list_any-append (same name) own above ∙ (elim c.then-contains.branch [
      | then-contains-via-then-contains w ↦ ap (λ b. b || is_among above name) (among_ordered keys name ∙ sym c.contains.ensures ∙ w.if-contains.true)
      | then-contains-via-else-contains+then-have w ↦ ap (λ b. b || is_among above name) (among_ordered keys name ∙ sym c.contains.ensures ∙ w.if-contains.false) ∙ (sym w.have.ensures ∙ w.if-have.true)
    ]) in
    names-present _ _ among

pub returns-clause-found : goal.returns-clause-found
returns-clause-found c =
    let keys = c.args.before.now.keys in
    let own = map string_bytes keys in
    let above = names_above 16 c.args.above.now.rows.now (base_of c.args.above.now.rows.now c.args.id) in
    let name = c.args.name.now in
    let absent : is_among (own ++ above) name ≡ false =
    list_any-append (same name) own above ∙ ap (λ b. b || is_among above name) (among_ordered keys name ∙ sym c.contains.ensures ∙ c.if-contains.false) ∙ (sym c.have.ensures ∙ c.if-have.false) in
    rw (repeat_of-absent _ c.args.at c.args.name.now absent) (sym (first_of-none c.args.found))
