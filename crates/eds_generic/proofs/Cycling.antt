-- What the search for circles finds, and rule after rule.
use Rattle.std.proofs.Common.{◌≡◌, ℕ, suc, ◌+◌, ◌<◌, ◌≤◌, ◌||◌, ◌&&◌, length, map, drop, get_or, add-one, drop-cons, Bool, true, false, List, [], ◌∷◌, Option, Some, None, refl, sym, ap, ◌∙◌, arith, slice_get}
use Rattle.std.specs.List.{range_with_len, flat_map}
use Rattle.std.proofs.lemmas.List.FromFn.{get_or-map-range_with_len, length-map-range_with_len}
use Rattle.std.proofs.lemmas.List.{at_drop_all}
use Rattle.std.proofs.lemmas.Option.{slice_get-get_or}
use Rattle.eds_base.specs.declared.ids.Place.{Place}
use Rattle.eds_base.specs.declared.refusal.Refusal.{Refusal}
use Rattle.eds_base.specs.Refusals.{first_of, least}
use Rattle.eds_base.proofs.LeastLaws.{least-append, first_assoc}
use Rattle.eds_graph.specs.declared.course.Course.{Course}
use Rattle.eds_graph.specs.Ways.{course, all_courses, all_reached, is_reached, is_met, is_on_circle, is_circular, reaches_circle}
use Rattle.eds_generic.specs.declared.face.Face.{Face}
use Rattle.eds_generic.specs.Every.{over_from}
use Rattle.eds_generic.specs.Cycles.{graph_of, cycle_if, cycle_at, cycles_from, circular_at, circular_by, marked_at, marked_by}

-- what a list of all numbers has at a number
pub ranged : {A : Type 0} (f : ℕ → A) (n i : ℕ) → i < n → slice_get (map f (range_with_len 0 n)) i ≡ Some (f i)
ranged f n i h =
    let long : length (map f (range_with_len 0 n)) ≡ n = length-map-range_with_len f 0 n in
    slice_get-get_or (map f (range_with_len 0 n)) i (f i) (omega arith) ∙ ap Some (get_or-map-range_with_len f 0 n i i (f i) (omega arith) (omega arith))

pub graph-length : (faces : List Face) → length (graph_of faces) ≡ length faces
graph-length [] = refl
graph-length (x ∷ xs) = ap suc (graph-length xs)

circular-course : (g : List (List ℕ)) (a : ℕ) → is_circular (course g a) ≡ is_on_circle g a
circular-course g a = go (is_on_circle g a) refl (reaches_circle g a) refl
  where
    go : (b : Bool) → is_on_circle g a ≡ b → (r : Bool) → reaches_circle g a ≡ r → is_circular (course g a) ≡ is_on_circle g a
    go true e r f = rw e refl
    go false e true f = rw (e, f) refl
    go false e false f = rw (e, f) refl

pub circular-in : (faces : List Face) (courses : List Course) (i : ℕ) → i < length faces → courses ≡ all_courses (graph_of faces) → circular_at courses i ≡ is_on_circle (graph_of faces) i
circular-in faces courses i h e =
    let long = graph-length faces in
    ap (λ cs. circular_at cs i) e ∙ ap circular_by (ranged (course (graph_of faces)) (length (graph_of faces)) i (omega arith)) ∙ circular-course (graph_of faces) i

or-false : (b : Bool) → (b || false) ≡ b
or-false true = refl
or-false false = refl

pub met-in : (faces : List Face) (marks : List Bool) (from i : ℕ) → i < length faces → marks ≡ all_reached (graph_of faces) (from ∷ []) → marked_at marks i ≡ is_met (graph_of faces) from i
met-in faces marks from i h e =
    let long = graph-length faces in
    ap (λ ms. marked_at ms i) e ∙ ap marked_by (ranged (is_reached (graph_of faces) (from ∷ [])) (length (graph_of faces)) i (omega arith)) ∙ or-false (is_met (graph_of faces) from i)

-- `found` stands for the interfaces before
pub least-next_face : (faces : List Face) (from i : ℕ) (x : Face) (found here next whole : Option Refusal)
    → i < length faces → x ≡ get_or faces i x → here ≡ least (cycle_at faces from i x.place) → next ≡ first_of found here
    → first_of found (least (cycles_from faces from i (drop i faces))) ≡ whole → first_of next (least (cycles_from faces from (i + 1) (drop (i + 1) faces))) ≡ whole
least-next_face faces from i x found here next whole lt e h n inv =
    let opened : drop i faces ≡ x ∷ drop (i + 1) faces = drop-cons faces i x lt ∙ rw add-one (rw (← e) refl) in
    let this : least (cycles_from faces from i (drop i faces)) ≡ first_of here (least (cycles_from faces from (i + 1) (drop (i + 1) faces))) =
    ap (λ qs. least (cycles_from faces from i qs)) opened ∙ least-append (cycle_at faces from i x.place) _ ∙ rw (← h) refl in
    rw n (first_assoc found here (least (cycles_from faces from (i + 1) (drop (i + 1) faces))) ∙ ap (first_of found) (sym this) ∙ inv)

-- the same of any rule at interfaces
pub least-next_over : (f : ℕ → Face → List Refusal) (faces : List Face) (i : ℕ) (x : Face) (found here next whole : Option Refusal)
    → i < length faces → x ≡ get_or faces i x → here ≡ least (f i x) → next ≡ first_of found here
    → first_of found (least (over_from f i (drop i faces))) ≡ whole → first_of next (least (over_from f (i + 1) (drop (i + 1) faces))) ≡ whole
least-next_over f faces i x found here next whole lt e h n inv =
    let opened : drop i faces ≡ x ∷ drop (i + 1) faces = drop-cons faces i x lt ∙ rw add-one (rw (← e) refl) in
    let this : least (over_from f i (drop i faces)) ≡ first_of here (least (over_from f (i + 1) (drop (i + 1) faces))) =
    ap (λ qs. least (over_from f i qs)) opened ∙ least-append (f i x) _ ∙ rw (← h) refl in
    rw n (first_assoc found here (least (over_from f (i + 1) (drop (i + 1) faces))) ∙ ap (first_of found) (sym this) ∙ inv)

-- ---- the break at one that is met, or not

module _ (faces : List Face) (marks : List Bool) (courses : List Course) (from i : ℕ) (at : Place) (lt : i < length faces)
    (met : marks ≡ all_reached (graph_of faces) (from ∷ [])) (all : courses ≡ all_courses (graph_of faces)) where
  pub here-met : marked_at marks i ≡ true → least (cycle_if (circular_at courses i) at) ≡ least (cycle_at faces from i at)
  here-met t =
      let m : is_met (graph_of faces) from i ≡ true = sym (met-in faces marks from i lt met) ∙ t in
      ap (λ b. least (cycle_if b at)) (circular-in faces courses i lt all ∙ sym (ap (λ b. b && is_on_circle (graph_of faces) i) m))

  pub here-unmet : marked_at marks i ≡ false → None ≡ least (cycle_at faces from i at)
  here-unmet t =
      let m : is_met (graph_of faces) from i ≡ false = sym (met-in faces marks from i lt met) ∙ t in
      sym (ap (λ b. least (cycle_if (b && is_on_circle (graph_of faces) i) at)) m)

-- ---- at the end

none-after : (o : Option Refusal) → first_of o None ≡ o
none-after None = refl
none-after (Some r) = refl

pub least-end_over : (f : ℕ → Face → List Refusal) (faces : List Face) (i : ℕ) (found whole : Option Refusal) → length faces ≤ i
    → first_of found (least (over_from f i (drop i faces))) ≡ whole → found ≡ whole
least-end_over f faces i found whole past inv = sym (none-after found) ∙ sym (at_drop_all (λ xs. first_of found (least (over_from f i xs))) faces i past) ∙ inv

pub least-end_of : {A : Type 0} (f : A → List Refusal) (xs : List A) (i : ℕ) (found whole : Option Refusal) → length xs ≤ i
    → first_of found (least (flat_map f (drop i xs))) ≡ whole → found ≡ whole
least-end_of f xs i found whole past inv = sym (none-after found) ∙ sym (at_drop_all (λ ys. first_of found (least (flat_map f ys))) xs i past) ∙ inv
