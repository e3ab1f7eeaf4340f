-- The constraints of a container, judged one after the other.
use Rattle.std.proofs.Common.{◌≡◌, ℕ, ◌+◌, ◌<◌, List, [], ◌∷◌, ◌++◌, map, length, drop, get_or, Option, Some, None, refl, sym, ap, subst, ◌∙◌, arith, append_assoc, append-nil, drop-cons, add-one}
use Rattle.std.specs.Prelude.{slice_get}
use Rattle.std.proofs.lemmas.List.{map-append}
use Rattle.std.proofs.lemmas.Option.{slice_get-map, slice_get-get_or}
use Rattle.eds_base.specs.declared.refusal.Refusal.{Refusal}
use Rattle.eds_base.specs.declared.spans.Span.{Span}
use Rattle.eds_base.specs.Refusals.{least, first_of}
use Rattle.eds_base.proofs.LeastLaws.{least-append, first_assoc}
use Rattle.eds_names.specs.Positions.{place_among}
use Rattle.eds_types.specs.Rows.{Table}
use Rattle.eds_constraints.specs.declared.asked.Asked.{Asked}
use Rattle.eds_constraints.specs.Breaks.{Posed, posed_by, empty_at, empties_after}
use Rattle.eds_constraints.specs.Lefts.{path_of, IsPlaced, IsLeft}
use Rattle.eds_constraints.proofs.LeftFacts.{there}

-- of some constraints those before the rest were judged
pub record GoneOn (t : Table) (paths : List (List ℕ)) (base : Option ℕ) (asked rest : List Asked) (old now : List (Option (List Span))) (found : Option Refusal) : Type 0 where
  pub size : length now ≡ length old
  pub front : List Asked
  pub is : asked ≡ front ++ rest
  pub left : (before : List Posed) → IsLeft t paths before old → IsLeft t paths (before ++ map (posed_by base) front) now
  pub least_is : (before : List Posed) → IsLeft t paths before old → first_of found (least (empties_after t (before ++ map (posed_by base) front) (map (posed_by base) rest))) ≡ least (empties_after t before (map (posed_by base) asked))

pub gone_first : (t : Table) (paths : List (List ℕ)) (base : Option ℕ) (asked : List Asked) (states : List (Option (List Span))) → GoneOn t paths base asked asked states states None
gone_first t paths base asked states = record {
  size = refl;
  front = [];
  is = refl;
  left = λ before h. subst (λ cs. IsLeft t paths cs states) (sym (append-nil before)) h;
  least_is = λ before h. ap (λ cs. least (empties_after t cs (map (posed_by base) asked))) (append-nil before);
}

pub gone_next : (t : Table) (paths : List (List ℕ)) (base : Option ℕ) (asked : List Asked) (i : ℕ) (one : Asked) (old now next : List (Option (List Span))) (found here after : Option Refusal)
    → i < length asked → one ≡ get_or asked i one → length next ≡ length now
    → ((before : List Posed) → IsLeft t paths before now → here ≡ least (empty_at t before (posed_by base one)))
    → ((before : List Posed) → IsLeft t paths before now → IsLeft t paths (before ++ posed_by base one ∷ []) next)
    → after ≡ first_of found here → GoneOn t paths base asked (drop i asked) old now found → GoneOn t paths base asked (drop (i + 1) asked) old next after
gone_next t paths base asked i one old now next found here after lt at size judged put is g =
    let opened : drop i asked ≡ one ∷ drop (i + 1) asked = drop-cons asked i one lt ∙ rw (add-one, ← at) refl in
    record {
      size = size ∙ g.size;
      front = g.front ++ one ∷ [];
      is = g.is ∙ ap (λ r. g.front ++ r) opened ∙ sym (append_assoc g.front (one ∷ []) (drop (i + 1) asked));
      left = λ before h. subst (λ cs. IsLeft t paths cs next) (sym (longer before)) (put (before ++ map (posed_by base) g.front) (g.left before h));
      least_is = λ before h.
          ap (λ o. first_of o (least (empties_after t (before ++ map (posed_by base) (g.front ++ one ∷ [])) (map (posed_by base) (drop (i + 1) asked))))) is
          ∙ first_assoc found here _
          ∙ ap (first_of found) (
          ap (λ cs. first_of here (least (empties_after t cs (map (posed_by base) (drop (i + 1) asked))))) (longer before)
          ∙ ap (λ o. first_of o (least (empties_after t ((before ++ map (posed_by base) g.front) ++ posed_by base one ∷ []) (map (posed_by base) (drop (i + 1) asked))))) (judged (before ++ map (posed_by base) g.front) (g.left before h))
          ∙ sym (least-append (empty_at t (before ++ map (posed_by base) g.front) (posed_by base one)) _)
          ∙ ap (λ r. least (empties_after t (before ++ map (posed_by base) g.front) (map (posed_by base) r))) (sym opened))
          ∙ g.least_is before h;
    }
  where
    longer : (before : List Posed) → before ++ map (posed_by base) (g.front ++ one ∷ []) ≡ (before ++ map (posed_by base) g.front) ++ posed_by base one ∷ []
    longer before = ap (λ cs. before ++ cs) (map-append (posed_by base) g.front (one ∷ [])) ∙ sym (append_assoc before (map (posed_by base) g.front) (posed_by base one ∷ []))

end_is : (xs ys : List Asked) → xs ≡ ys ++ [] → ys ≡ xs
end_is xs ys e = sym (e ∙ append-nil ys)

first_none : (o : Option Refusal) → first_of o None ≡ o
first_none None = refl
first_none (Some r) = refl

pub gone_left : (t : Table) (paths : List (List ℕ)) (base : Option ℕ) (asked rest : List Asked) (old now : List (Option (List Span))) (found : Option Refusal) → rest ≡ [] → GoneOn t paths base asked rest old now found → (before : List Posed) → IsLeft t paths before old → IsLeft t paths (before ++ map (posed_by base) asked) now
gone_left t paths base asked rest old now found none g before h = subst (λ xs. IsLeft t paths (before ++ map (posed_by base) xs) now) (end_is asked g.front (g.is ∙ ap (λ r. g.front ++ r) none)) (g.left before h)

pub gone_least : (t : Table) (paths : List (List ℕ)) (base : Option ℕ) (asked rest : List Asked) (old now : List (Option (List Span))) (found : Option Refusal) → rest ≡ [] → GoneOn t paths base asked rest old now found → (before : List Posed) → IsLeft t paths before old → found ≡ least (empties_after t before (map (posed_by base) asked))
gone_least t paths base asked rest old now found none g before h = sym (first_none found) ∙ ap (λ r. first_of found (least (empties_after t (before ++ map (posed_by base) g.front) (map (posed_by base) r)))) (sym none) ∙ g.least_is before h

-- the path of each constraint has a place
pub placed_path : (asked : List Asked) (i n : ℕ) (one : Asked) (paths : List (List ℕ)) → paths ≡ map path_of asked → i < length asked → one ≡ get_or asked i one → n ≡ length asked → IsPlaced paths one.path n
placed_path asked i n one paths is lt at size =
    let here : slice_get (map path_of asked) i ≡ Some one.path = slice_get-map path_of asked i ∙ ap (λ o. Rattle.std.specs.Prelude.option_map path_of o) (slice_get-get_or asked i one lt ∙ ap Some (sym at)) in
    let p = there 0 (map path_of asked) i one.path here in
    let lt = p.2 in
    (p.0, ap (λ ns. place_among ns one.path) is ∙ p.1, below p.0 (mapped asked) size lt)
  where
    mapped : (xs : List Asked) → length (map path_of xs) ≡ length xs
    mapped [] = refl
    mapped (x ∷ xs) = omega (arith, mapped xs)

    below : (k : ℕ) → length (map path_of asked) ≡ length asked → n ≡ length asked → k < 0 + length (map path_of asked) → k < n
    below k m s h = omega arith
