-- The text of a snapshot is that of its lines.
use Rattle.std.proofs.Common.{◌≡◌, ℕ, List, [], ◌∷◌, ◌++◌, map, codes, slice_get, refl, sym, ap, ◌∙◌}
use Rattle.std.specs.Prelude.{decimal}
use Rattle.std.specs.List.{flat_map}
use Rattle.std.proofs.lemmas.List.{append_assoc}
use Rattle.eds_types.specs.Plain.{Plain}
use Rattle.eds_types.specs.Rows.{Table}
use Rattle.eds_value.specs.JsonOfValue.{json_text}
use Rattle.eds_plan.specs.Ends.{end_text}
use Rattle.eds_plan.specs.declared.component.ComponentPlan.{ComponentPlan}
use Rattle.eds_plan.specs.declared.component.VarPlan.{VarPlan}
use Rattle.eds_plan.specs.declared.machine.Machine.{Machine}
use Rattle.eds_plan.specs.declared.run.MachineState.{MachineState}
use Rattle.eds_plan.specs.declared.run.Outstanding.{Outstanding}
use Rattle.eds_plan.specs.declared.run.Wire.{Wire}
use Rattle.eds_snap.specs.Readings.{SnapNow}
use Rattle.eds_snap.specs.Texts.{component_text, machine_line, snap_text, time_line, wire_line}
use Rattle.eds_snap.specs.Written.{TextsAreLines, all_words, component_words, each_pair, machine_words, snap_words, spaced, text_of_lines, time_words, variable_words, wait_words, wire_words}
use Rattle.eds_plan.specs.States.{StateNow}
use Rattle.eds_script.specs.Names.{end_name, member_name, state_name, transaction_name}
use Rattle.eds_script.specs.Pairs.{texts_of}
use Rattle.eds_script.specs.States.{variable_line, wait_line}

-- ---- words of a line

-- a word and a space behind a text, and what follows
step : (x w r : List ℕ) → x ++ w ++ codes " " ++ r ≡ x ++ spaced w r
step x w r = append_assoc (x ++ w) (codes " ") r ∙ append_assoc x w (32 ∷ r)

-- the line feed goes to the last word
inside : (a b z : List ℕ) → spaced a b ++ z ≡ spaced a (b ++ z)
inside a b z = append_assoc a (32 ∷ b) z

two_words : (x a b z : List ℕ) → x ++ a ++ codes " " ++ b ++ z ≡ x ++ (spaced a b ++ z)
two_words x a b z = append_assoc (x ++ a ++ codes " ") b z ∙ step x a (b ++ z) ∙ ap (λ r. x ++ r) (sym (inside a b z))

more_words : (x a r s z : List ℕ) → x ++ a ++ codes " " ++ r ≡ x ++ a ++ codes " " ++ (s ++ z) → x ++ a ++ codes " " ++ r ≡ x ++ (spaced a s ++ z)
more_words x a r s z e = e ∙ step x a (s ++ z) ∙ ap (λ q. x ++ q) (sym (inside a s z))

three_words : (x a b c z : List ℕ) → x ++ a ++ codes " " ++ b ++ codes " " ++ c ++ z ≡ x ++ (spaced a (spaced b c) ++ z)
three_words x a b c z = two_words (x ++ a ++ codes " ") b c z ∙ step x a (spaced b c ++ z) ∙ ap (λ q. x ++ q) (sym (inside a (spaced b c) z))

five_words : (x a b c d e z : List ℕ) → x ++ a ++ codes " " ++ b ++ codes " " ++ c ++ codes " " ++ d ++ codes " " ++ e ++ z ≡ x ++ (spaced a (spaced b (spaced c (spaced d e))) ++ z)
five_words x a b c d e z =
    three_words (x ++ a ++ codes " " ++ b ++ codes " ") c d e z
    ∙ step (x ++ a ++ codes " ") b (spaced c (spaced d e) ++ z) ∙ ap (λ q. x ++ a ++ codes " " ++ q) (sym (inside b (spaced c (spaced d e)) z))
    ∙ step x a (spaced b (spaced c (spaced d e)) ++ z) ∙ ap (λ q. x ++ q) (sym (inside a (spaced b (spaced c (spaced d e))) z))

machine_is : (c : List ℕ) (m : Machine) (s : MachineState) → machine_line c m s ≡ machine_words c m s ++ 10 ∷ []
machine_is c m s = five_words (codes "machine ") c m.name (state_name m s.at) (decimal s.entered) (decimal s.passed) (codes "\n")

variable_is : (t : Table) (c : List ℕ) (x : VarPlan) (v : Plain) → variable_line t c x v ≡ variable_words t c x v ++ 10 ∷ []
variable_is t c x v = three_words (codes "var ") c x.name (json_text t v) (codes "\n")

wire_is : (w : Wire) → wire_line w ≡ wire_words w ++ 10 ∷ []
wire_is w = two_words (codes "wire ") w.lower w.upper (codes "\n")

wait_is : (c : ComponentPlan) (q : Outstanding) → wait_line c q ≡ wait_words c q ++ 10 ∷ []
wait_is c q = three_words (codes "wait ") (end_text c.name (end_name c q.face)) (member_name (slice_get c.ends q.face) q.member) (transaction_name c q.name) (codes "\n")

-- ---- lines in a row

rows : (xs ys : List (List ℕ)) → text_of_lines (xs ++ ys) ≡ text_of_lines xs ++ text_of_lines ys
rows [] ys = refl
rows (x ∷ xs) ys = ap (λ r. (x ++ 10 ∷ []) ++ r) (rows xs ys) ∙ sym (append_assoc (x ++ 10 ∷ []) (text_of_lines xs) (text_of_lines ys))

pairs : {A B : Type 0} (f g : A → B → List ℕ) → ((a : A) (b : B) → f a b ≡ g a b ++ 10 ∷ []) → (as' : List A) (bs : List B) → texts_of f as' bs ≡ text_of_lines (each_pair g as' bs)
pairs f g h [] bs = refl
pairs f g h (a ∷ as') [] = refl
pairs f g h (a ∷ as') (b ∷ bs) = ap (λ x. x ++ texts_of f as' bs) (h a b) ∙ ap (λ r. (g a b ++ 10 ∷ []) ++ r) (pairs f g h as' bs)

singles : {A : Type 0} (f g : A → List ℕ) → ((a : A) → f a ≡ g a ++ 10 ∷ []) → (xs : List A) → flat_map f xs ≡ text_of_lines (map g xs)
singles f g h [] = refl
singles f g h (x ∷ xs) = ap (λ y. y ++ flat_map f xs) (h x) ∙ ap (λ r. (g x ++ 10 ∷ []) ++ r) (singles f g h xs)

component_is : (t : Table) (c : ComponentPlan) (s : StateNow) → component_text t c s ≡ text_of_lines (component_words t c s)
component_is t c s =
    let ms = each_pair (machine_words c.name) c.machines s.machines in
    let vs = each_pair (variable_words t c.name) c.variables s.variables in
    let ws = map (wait_words c) s.outstanding in
    ap (λ x. x ++ texts_of (variable_line t c.name) c.variables s.variables ++ flat_map (wait_line c) s.outstanding) (pairs (machine_line c.name) (machine_words c.name) (machine_is c.name) c.machines s.machines)
    ∙ ap (λ x. text_of_lines ms ++ x ++ flat_map (wait_line c) s.outstanding) (pairs (variable_line t c.name) (variable_words t c.name) (variable_is t c.name) c.variables s.variables)
    ∙ ap (λ x. text_of_lines ms ++ text_of_lines vs ++ x) (singles (wait_line c) (wait_words c) (wait_is c) s.outstanding)
    ∙ append_assoc (text_of_lines ms) (text_of_lines vs) (text_of_lines ws) ∙ ap (λ x. text_of_lines ms ++ x) (sym (rows vs ws)) ∙ sym (rows ms (vs ++ ws))

components_are : (t : Table) (plan : List ComponentPlan) (ss : List StateNow) → texts_of (component_text t) plan ss ≡ text_of_lines (all_words t plan ss)
components_are t [] ss = refl
components_are t (c ∷ plan) [] = refl
components_are t (c ∷ plan) (s ∷ ss) = ap (λ x. x ++ texts_of (component_text t) plan ss) (component_is t c s) ∙ ap (λ x. text_of_lines (component_words t c s) ++ x) (components_are t plan ss) ∙ sym (rows (component_words t c s) (all_words t plan ss))

pub texts-are-lines : TextsAreLines
unfolding snap_text
texts-are-lines t plan s =
    let wires = map wire_words s.wires in
    let first = codes "snapshot 1\n" in
    let rest = texts_of (component_text t) plan s.states in
    append_assoc (first ++ time_line s.now) (flat_map wire_line s.wires) rest
    ∙ append_assoc first (time_line s.now) (flat_map wire_line s.wires ++ rest)
    ∙ ap (λ x. first ++ (time_line s.now ++ (x ++ rest))) (singles wire_line wire_words wire_is s.wires)
    ∙ ap (λ x. first ++ (time_line s.now ++ (text_of_lines wires ++ x))) (components_are t plan s.states)
    ∙ ap (λ x. first ++ (time_line s.now ++ x)) (sym (rows wires (all_words t plan s.states)))
    ∙ refl
