-- The line of a packet that is put by its layout, from its scalars.
use Rattle.std.proofs.Common.{◌≡◌, ℕ, suc, zero, ◌+◌, ◌<◌, pos, List, [], ◌∷◌, ◌++◌, Option, Some, codes, drop, length, map, get_or, refl, sym, ap, ap₂, subst, ◌∙◌, arith}
use Rattle.std.specs.Prelude.{option_map, slice_get, unwrap_or}
use Rattle.std.specs.List.{AllByRecursion}
use Rattle.std.proofs.lemmas.List.{length-map}
use Rattle.std.proofs.lemmas.List.Elements.{All-contains, All-from_recursion, All-map}
use Rattle.std.proofs.lemmas.Option.{get_or_from_slice_get, slice_get-map, slice_get_within}
use Rattle.eds_types.specs.Plain.{Plain, fields, num, plains_of}
use Rattle.eds_unpack.specs.declared.scalar.Scalar.{Scalar}
use Rattle.eds_unpack.specs.Scalars.{plain_of}
use Rattle.eds_value.specs.declared.layout.Layout.{Layout}
use Rattle.eds_value.specs.declared.layout.Piece.{Piece}
use Rattle.eds_value.specs.JsonOfValue.{json_of_value}
use Rattle.eds_value.specs.Layouts.{HasPosition, IsLayoutOf, laid_text}
use Rattle.eds_value.proofs.LaidTexts.{laid_is}
use Rattle.eds_value.proofs.Steps.{drop_one}
use Rattle.eds_cmd.specs.Split.{HoldsPacket, PutsLine}
use Rattle.eds_cmd.specs.Target.{TypeIn}

-- the value of a scalar by its position
pub plain_at : (ss : List Scalar) (i : ℕ) (none : Scalar) → i < length ss → plain_of (get_or ss i none) ≡ get_or (map plain_of ss) i (plain_of (get_or ss i none))
plain_at [] i none lt = absurd (omega arith)
plain_at (s ∷ ss) zero none lt = refl
plain_at (s ∷ ss) (suc i) none lt = plain_at ss i none (omega arith)

-- the values of entries, where they have some
abbrev pub values_said : List (Option Plain) → List Plain
values_said es = map (λ o. unwrap_or o (num (pos 0))) es

-- an entry's value stands among them
pub value_said : (es : List (Option Plain)) (i : ℕ) (v : Plain) → slice_get es i ≡ Some (Some v) → v ≡ get_or (values_said es) i v
value_said es i v there = sym (get_or_from_slice_get (values_said es) i v v (slice_get-map (λ o. unwrap_or o (num (pos 0))) es i ∙ ap (option_map (λ o. unwrap_or o (num (pos 0)))) there))

pub value_within : (es : List (Option Plain)) (i : ℕ) (v : Plain) → slice_get es i ≡ Some (Some v) → i < length (values_said es)
value_within es i v there = omega (arith, slice_get_within es i (Some v) there, length-map es (λ o. unwrap_or o (num (pos 0))))

-- the entry at the position has a value
abbrev pub IsSaid : List (Option Plain) → ℕ → Type 0
IsSaid es i = (v : Plain) × (slice_get es i ≡ Some (Some v))

each_said : (es : List (Option Plain)) → ((i : ℕ) → i < length es → IsSaid es i) → es ≡ map Some (values_said es)
each_said [] all = refl
each_said (o ∷ es) all =
    let first = all 0 (omega arith) in
    let is : o ≡ Some first.0 = cc in
    ap₂ (λ x xs. x ∷ xs) (is ∙ ap (λ x. Some (unwrap_or x (num (pos 0)))) (sym is)) (each_said es (λ i lt. all (suc i) (omega arith)))

-- where a piece stands for each entry, and that of each piece has a value, they have these values
pub all_said : (es : List (Option Plain)) (ps : List Piece) → ((i : ℕ) → i < length es → HasPosition ps i) → AllByRecursion (λ (p : Piece). IsSaid es p.position) ps → es ≡ map Some (values_said es)
all_said es ps each said =
    each_said es (λ i lt. All-contains (IsSaid es) (map (λ (p : Piece). p.position) ps) i (All-map (IsSaid es) (λ (p : Piece). p.position) ps (All-from_recursion (λ (p : Piece). IsSaid es p.position) ps said)) (each i lt))

-- one piece more
pub piece_said : (es : List (Option Plain)) (ps : List Piece) (i at : ℕ) (p : Piece) → i < length ps → at ≡ i + 1 → p ≡ get_or ps i p → IsSaid es p.position → AllByRecursion (λ (p : Piece). IsSaid es p.position) (drop at ps) → AllByRecursion (λ (p : Piece). IsSaid es p.position) (drop i ps)
piece_said es ps i at p lt next is here later =
    let All : List Piece → Type 0 = AllByRecursion (λ (p : Piece). IsSaid es p.position) in
    let behind : All (drop (i + 1) ps) = subst (λ (n : ℕ). All (drop n ps)) next later in
    let both : All (p ∷ drop (i + 1) ps) = (here, behind) in
    subst All (sym (drop_one ps i p lt is)) both

-- the line of a packet is put by its container's layout, before the end of the line
pub straight_put : (type : TypeIn) (k : ℕ) (l : Layout) (vs : List Plain) (octets : List ℕ) (size : ℕ) (old ended text new : List ℕ) → IsLayoutOf type.table k l → length vs ≡ l.count
    → HoldsPacket type (fields k (plains_of vs)) octets size → ended ≡ codes "\n" ++ [] → text ≡ laid_text (map (json_of_value type.table) vs) l ++ ended → new ≡ old ++ text
    → PutsLine type octets size old new
straight_put type k l vs octets size old ended text new is long holds newline put pushed =
    let v = fields k (plains_of vs) in
    let laid = laid_is type.table k l vs is long in
    record {
      value = v;
      holds = holds;
      line = pushed ∙ ap (λ (s : List ℕ). old ++ s) (put ∙ rw (laid, newline) refl);
    }
