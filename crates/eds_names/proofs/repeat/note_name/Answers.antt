use Rattle.std.proofs.Common.{◌≡◌, map, true, false, sym, ◌∙◌, string_bytes}
use Rattle.eds_names.specs.Repeats.{is_among}
use Rattle.eds_names.proofs.RepeatsLemmas.{among-map, repeat_of-present, repeat_of-absent, names-present, first_of-none, inserted}
use Rattle.eds_names.proofs.repeat.note_name.Goals as goal

pub returns-then-contains-clause-found : goal.returns-then-contains-clause-found
returns-then-contains-clause-found c =
    let among : is_among (map string_bytes c.args.before.now.keys) c.args.key.now ≡ true = among-map string_bytes c.args.before.now.keys c.args.key.now ∙ sym c.contains.ensures ∙ c.if-contains.true in
    rw (repeat_of-present _ (record { key = c.args.key.now; own = c.args.own.now; place = c.args.place }) among) (rw c.in_ok-of.ensures at c.first.ensures.first)

pub returns-then-contains-clause-before : goal.returns-then-contains-clause-before
returns-then-contains-clause-before c =
    let among : is_among (map string_bytes c.args.before.now.keys) c.args.key.now ≡ true = among-map string_bytes c.args.before.now.keys c.args.key.now ∙ sym c.contains.ensures ∙ c.if-contains.true in
    names-present _ _ among

-- the name is not among those before it
absent : (c : goal.In_ok-_added) → is_among (map string_bytes c.args.before.now.keys) c.args.key.now ≡ false
absent c = among-map string_bytes c.args.before.now.keys c.args.key.now ∙ sym c.contains.ensures ∙ c.if-contains.false

pub returns-clause-found : goal.returns-clause-found
returns-clause-found c = rw (repeat_of-absent _ (record { key = c.args.key.now; own = c.args.own.now; place = c.args.place }) (absent c)) (sym (first_of-none c.args.found))

pub returns-clause-before : goal.returns-clause-before
returns-clause-before c = inserted string_bytes c.args.before.now.keys c.insert.new.self.keys c.in_ok-name.name c.args.key.now c.in_ok-name.ensures.ok (absent c) c.in_ok-_added.ensures.keys
