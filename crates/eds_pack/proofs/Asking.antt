-- What constraints ask of one entry, put together one after the other.
use Rattle.std.proofs.Common.{◌≡◌, ℕ, ◌+◌, ◌<◌, ◌≤◌, ℤ, List, [], ◌∷◌, ◌++◌, length, get_or, take, Option, Some, None, inl, inr, sym, ap, subst, ◌∙◌}
use Rattle.std.proofs.lemmas.Grind.{flat_map-append}
use Rattle.std.proofs.lemmas.List.{append_assoc, append-nil, map-append, take_all, take_more}
use Rattle.std.specs.List.{flat_map}
use Rattle.eds_base.specs.declared.ids.TypeId.{TypeId}
use Rattle.eds_base.specs.declared.spans.Span.{Span}
use Rattle.eds_base.specs.Spans.{IsWithin}
use Rattle.eds_types.specs.declared.row.Constraint.{Constraint}
use Rattle.eds_types.specs.Overlap.{IsConstrained}
use Rattle.eds_types.specs.Rows.{Table, constraints_of, numbers_of}
use Rattle.eds_types.proofs.AllOf.{All-both, All-front, All-back}
use Rattle.eds_pack.specs.Building.{AllHave, Asked, Meets}

module _ (path : List (TypeId × ℕ)) where
  none_have : (cs : List Constraint) → (IsConstrained cs path → ⊥) → (n : ℤ) → AllHave cs path n
  none_have [] h n = tt
  none_have (c ∷ cs) h n = ((λ e. absurd (h (inl e))), none_have cs (λ k. h (inr k)) n)

  last_asks : (cs : List Constraint) (c : Constraint) → c.path ≡ path → IsConstrained (cs ++ c ∷ []) path
  last_asks [] c e = inl e
  last_asks (d ∷ cs) c e = inr (last_asks cs c e)

  front_asks : (cs : List Constraint) (c : Constraint) → IsConstrained cs path → IsConstrained (cs ++ c ∷ []) path
  front_asks [] c h = absurd h
  front_asks (d ∷ cs) c (inl e) = inl e
  front_asks (d ∷ cs) c (inr h) = inr (front_asks cs c h)

  asks_before : (cs : List Constraint) (c : Constraint) → (c.path ≡ path → ⊥) → IsConstrained (cs ++ c ∷ []) path → IsConstrained cs path
  asks_before [] c no_more (inl e) = no_more e
  asks_before [] c no_more (inr h) = h
  asks_before (d ∷ cs) c no_more (inl e) = inl e
  asks_before (d ∷ cs) c no_more (inr h) = inr (asks_before cs c no_more h)

  -- a further constraint on the path
  pub asked_more : (cs : List Constraint) (asked : Option (List Span)) (c : Constraint) (s : List Span) → c.path ≡ path → Meets asked c.set s → Asked cs path asked → Asked (cs ++ c ∷ []) path (Some s)
  asked_more cs None c s e m h =
      (last_asks cs c e, λ n. ((λ w. All-both (λ (d : Constraint). d.path ≡ path → IsWithin d.set n) cs (c ∷ []) (none_have cs h n) ((λ q. (m n).0 w), tt)), λ a. (m n).1 ((All-back (λ (d : Constraint). d.path ≡ path → IsWithin d.set n) cs (c ∷ []) a).0 e)))
  asked_more cs (Some o) c s e m h =
      (last_asks cs c e, λ n. ((λ w. All-both (λ (d : Constraint). d.path ≡ path → IsWithin d.set n) cs (c ∷ []) ((h.1 n).0 ((m n).0 w).0) ((λ q. ((m n).0 w).1), tt)), λ a. (m n).1 ((h.1 n).1 (All-front (λ (d : Constraint). d.path ≡ path → IsWithin d.set n) cs (c ∷ []) a), (All-back (λ (d : Constraint). d.path ≡ path → IsWithin d.set n) cs (c ∷ []) a).0 e)))

  -- a further constraint on another path
  pub asked_same : (cs : List Constraint) (asked : Option (List Span)) (c : Constraint) → (c.path ≡ path → ⊥) → Asked cs path asked → Asked (cs ++ c ∷ []) path asked
  asked_same cs None c no_more h = λ k. h (asks_before cs c no_more k)
  asked_same cs (Some o) c no_more h =
      (front_asks cs c h.0, λ n. ((λ w. All-both (λ (d : Constraint). d.path ≡ path → IsWithin d.set n) cs (c ∷ []) ((h.1 n).0 w) ((λ q. absurd (no_more q)), tt)), λ a. (h.1 n).1 (All-front (λ (d : Constraint). d.path ≡ path → IsWithin d.set n) cs (c ∷ []) a)))

  -- one constraint of a list more
  pub next_asked : (done xs : List Constraint) (i : ℕ) (x : Constraint) (o : Option (List Span)) → i < length xs → x ≡ get_or xs i x → Asked ((done ++ take i xs) ++ x ∷ []) path o → Asked (done ++ take (i + 1) xs) path o
  next_asked done xs i x o lt is h =
      let e : take (i + 1) xs ≡ take i xs ++ x ∷ [] = take_more xs i x lt ∙ ap (λ (y : Constraint). take i xs ++ y ∷ []) (sym is) in
      subst (λ ys. Asked ys path o) (append_assoc done (take i xs) (x ∷ []) ∙ ap (λ ys. done ++ ys) (sym e)) h

  pub all_asked : (done xs : List Constraint) (i : ℕ) (o : Option (List Span)) → length xs ≤ i → Asked (done ++ take i xs) path o → Asked (done ++ xs) path o
  all_asked done xs i o le h = subst (λ ys. Asked (done ++ ys) path o) (take_all i xs le) h

  module _ (t : Table) where
    -- the constraints of one container of a chain more
    pub next_container : (xs : List TypeId) (i : ℕ) (x d : TypeId) (o : Option (List Span)) → i < length xs → x ≡ get_or xs i d → Asked (flat_map (constraints_of t) (numbers_of (take i xs)) ++ constraints_of t x.0) path o → Asked (flat_map (constraints_of t) (numbers_of (take (i + 1) xs))) path o
    next_container xs i x d o lt is h =
        let e : take (i + 1) xs ≡ take i xs ++ x ∷ [] = take_more xs i d lt ∙ ap (λ (y : TypeId). take i xs ++ y ∷ []) (sym is) in
        let m : numbers_of (take (i + 1) xs) ≡ numbers_of (take i xs) ++ x.0 ∷ [] = ap numbers_of e ∙ map-append (λ (id : TypeId). id.0) (take i xs) (x ∷ []) in
        let f : flat_map (constraints_of t) (numbers_of (take (i + 1) xs)) ≡ flat_map (constraints_of t) (numbers_of (take i xs)) ++ constraints_of t x.0 = ap (flat_map (constraints_of t)) m ∙ flat_map-append (constraints_of t) (numbers_of (take i xs)) (x.0 ∷ []) ∙ ap (λ ys. flat_map (constraints_of t) (numbers_of (take i xs)) ++ ys) (append-nil (constraints_of t x.0)) in
        subst (λ ys. Asked ys path o) (sym f) h

    pub all_containers : (xs : List TypeId) (i : ℕ) (o : Option (List Span)) → length xs ≤ i → Asked (flat_map (constraints_of t) (numbers_of (take i xs))) path o → Asked (flat_map (constraints_of t) (numbers_of xs)) path o
    all_containers xs i o le h = subst (λ ys. Asked (flat_map (constraints_of t) (numbers_of ys)) path o) (take_all i xs le) h
