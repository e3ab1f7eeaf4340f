use Rattle.std.proofs.Common.{◌≡◌, map, true, false, sym, ap, ◌∙◌, string_bytes, not}
use Rattle.std.specs.List.{list_any}
use Rattle.eds_base.specs.Reading.{same}
use Rattle.eds_names.proofs.RepeatsLemmas.{among-map, names-present, inserted}
use Rattle.eds_type_rows.proofs.listing.add_label.Goals as goal

pub returns-then-contains-clause-fresh : goal.returns-then-contains-clause-fresh
returns-then-contains-clause-fresh c =
    let among : list_any (same c.args.label.now) (map string_bytes c.args.before.now.keys) ≡ true = among-map string_bytes c.args.before.now.keys c.args.label.now ∙ sym c.contains.ensures ∙ c.if-contains.true in
    sym (ap not among)

pub returns-then-contains-clause-before : goal.returns-then-contains-clause-before
returns-then-contains-clause-before c =
    let among : list_any (same c.args.label.now) (map string_bytes c.args.before.now.keys) ≡ true = among-map string_bytes c.args.before.now.keys c.args.label.now ∙ sym c.contains.ensures ∙ c.if-contains.true in
    names-present _ _ among

absent : (c : goal.In_ok-_added) → list_any (same c.args.label.now) (map string_bytes c.args.before.now.keys) ≡ false
absent c = among-map string_bytes c.args.before.now.keys c.args.label.now ∙ sym c.contains.ensures ∙ c.if-contains.false

pub returns-clause-fresh : goal.returns-clause-fresh
returns-clause-fresh c = sym (ap not (absent c))

pub returns-clause-before : goal.returns-clause-before
returns-clause-before c = inserted string_bytes c.args.before.now.keys c.insert.new.self.keys c.in_ok-label.label c.args.label.now c.in_ok-label.ensures.ok (absent c) c.in_ok-_added.ensures.keys
