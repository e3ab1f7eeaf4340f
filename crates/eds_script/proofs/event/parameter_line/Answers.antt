use Rattle.std.proofs.Common.{append-nil, ◌≡◌, ℕ, List, ◌++◌, Some, None, codes, map, slice_get, sym, ap, ap₂, ◌∙◌}
use Rattle.std.proofs.lemmas.List.{append_assoc}
use Rattle.eds_types.specs.Plain.{plain}
use Rattle.eds_value.specs.JsonOfValue.{json_text}
use Rattle.eds_script.specs.Events.{front, op_word}
use Rattle.eds_script.specs.Places.{place_text}
use Rattle.eds_script.proofs.Printing.{is-of-type, parameter-one}
use Rattle.eds_script.proofs.event.parameter_line.Goals as goal

pub to_json-requires-clause-known : goal.to_json-requires-clause-known
to_json-requires-clause-known c = (parameter-one c.args.table.now c.args.id c.args.op (map plain c.args.values.now) (plain c.in-Some.value.now) c.requires (sym c.in-Some.ensures)).known

pub to_json-requires-clause-one : goal.to_json-requires-clause-one
to_json-requires-clause-one c = is-of-type c.args.table.now c.args.id.0 (plain c.in-Some.value.now) (parameter-one c.args.table.now c.args.id c.args.op (map plain c.args.values.now) (plain c.in-Some.value.now) c.requires (sym c.in-Some.ensures))

pub returns-in_ok-line_of-in-None-clause-line : goal.returns-in_ok-line_of-in-None-clause-line
returns-in_ok-line_of-in-None-clause-line c =
    let none : slice_get (map plain c.args.values.now) 0 ≡ None = sym c.in-None.ensures in
    let head = c.in_ok-head.ensures ∙ ap (λ (w : List ℕ). front c.args.spot.now.time w (place_text c.args.spot.now.place) c.args.spot.now.name.now) c.op_word.ensures in
    rw none (c.in_ok-line_of-in-None.ensures.line ∙ ap (λ (h : List ℕ). h ++ codes "\n") (head ∙ sym (append-nil (front c.args.spot.now.time (op_word c.args.op) (place_text c.args.spot.now.place) c.args.spot.now.name.now))))

pub returns-in_ok-line_of-in-None-clause-reads : goal.returns-in_ok-line_of-in-None-clause-reads
returns-in_ok-line_of-in-None-clause-reads c bare v e = let none : slice_get (map plain c.args.values.now) 0 ≡ None = sym c.in-None.ensures in cc

pub returns-in_ok-line_given-in-Some-clause-line : goal.returns-in_ok-line_given-in-Some-clause-line
returns-in_ok-line_given-in-Some-clause-line c =
    let some : slice_get (map plain c.args.values.now) 0 ≡ Some (plain c.in-Some.value.now) = sym c.in-Some.ensures in
    let head = c.in_ok-head.ensures ∙ ap (λ (w : List ℕ). front c.args.spot.now.time w (place_text c.args.spot.now.place) c.args.spot.now.name.now) c.op_word.ensures in
    let json = c.as_slice.ensures ∙ c.in_ok-json-in-Some.ensures.text in
    let together = append_assoc (front c.args.spot.now.time (op_word c.args.op) (place_text c.args.spot.now.place) c.args.spot.now.name.now) (codes " ") (json_text c.args.table.now (plain c.in-Some.value.now)) in
    rw some (c.in_ok-line_given-in-Some.ensures.line ∙ ap₂ (λ (h : List ℕ) (g : List ℕ). h ++ codes " " ++ g ++ codes "\n") head json ∙ ap (λ (xs : List ℕ). xs ++ codes "\n") together)

pub returns-in_ok-line_given-in-Some-clause-reads : goal.returns-in_ok-line_given-in-Some-clause-reads
returns-in_ok-line_given-in-Some-clause-reads c bare v e =
    let is : plain c.in-Some.value.now ≡ v = (let some : slice_get (map plain c.args.values.now) 0 ≡ Some (plain c.in-Some.value.now) = sym c.in-Some.ensures in cc) in
    rw (← is, ← c.in_ok-json-in-Some.ensures.text) (c.in_ok-json-in-Some.ensures.reads_back bare)
