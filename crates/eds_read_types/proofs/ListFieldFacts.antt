-- Lists whose numbers are told by entries before them.
use Rattle.std.proofs.Common.{◌≡◌, ℕ, zero, suc, ◌+◌, ◌<◌, ◌||◌, ◌==◌, cond, not, Bool, true, false, List, [], ◌∷◌, ◌++◌, append_assoc, reverse, slice_get, Option, Some, None, refl, sym, ap, subst, ◌∙◌, arith, inl, inr, leb-true}
use Rattle.std.specs.Prelude.{ℤ, pos, int_lt, ◌≤ℤ◌, nat_lt, if◌then◌else◌}
use Rattle.std.specs.List.{flat_map}
use Rattle.std.proofs.lemmas.Grind.{flat_map-append}
use Rattle.eds_bits.specs.Lists.{Has}
use Rattle.std.proofs.lemmas.Bool.{and_parts, eqb-true, eq-eqb}
use Rattle.eds_base.specs.declared.ids.TypeId.{TypeId}
use Rattle.eds_base.specs.declared.spans.Span.{Span}
use Rattle.eds_base.specs.Spans.{IsWithin}
use Rattle.eds_types.specs.declared.row.TypeRow.{TypeRow}
use Rattle.eds_types.specs.declared.row.Kind.{Kind}
use Rattle.eds_types.specs.declared.row.Kind.TheVariants as kind
use Rattle.eds_types.specs.declared.row.Part.{Part}
use Rattle.eds_types.specs.declared.row.Part.TheVariants as part
use Rattle.eds_types.specs.Rows.{Table, base_of, container_of, entries_in, own_parts, Placed, placed_from, placed_entries, placed_trailers, sequence, chain, list_has, chain_before, chain_within}
use Rattle.eds_types.specs.Rules.{IsIntBy, IsInt, IsBefore, IsCounted}
use Rattle.eds_read_types.specs.ListField.{has_negative, counts_by, counts_in, is_count, stands_before, may_tell, is_told}
use Rattle.eds_read_types.specs.Parts.{parts_in}
use Rattle.eds_read_types.proofs.PlainRules.{own_placed}
use Rattle.eds_type_rows.proofs.SequenceFacts.{has-first, has-later, has-front, has-back, sequence_step}

-- ---- sequences

before-within : {A : Type 0} (front xs back : List A) (a b : A) → IsBefore xs a b → IsBefore (front ++ (xs ++ back)) a b
before-within front xs back a b h = record {
  before = front ++ h.before;
  between = h.between;
  after = h.after ++ back;
  is = ap (λ ys. front ++ (ys ++ back)) h.is ∙ ap (λ ys. front ++ ys) (append_assoc h.before (a ∷ (h.between ++ b ∷ h.after)) back ∙ ap (λ ys. h.before ++ a ∷ ys) (append_assoc h.between (b ∷ h.after) back)) ∙ sym (append_assoc front h.before (a ∷ (h.between ++ b ∷ (h.after ++ back))));
}

before-across : {A : Type 0} (front xs back : List A) (a b : A) → Has front a → Has xs b → IsBefore (front ++ (xs ++ back)) a b
before-across front xs back a b h k = record {
  before = h.before;
  between = h.after ++ k.before;
  after = k.after ++ back;
  is = ap (λ ys. ys ++ (xs ++ back)) h.is ∙ append_assoc h.before (a ∷ h.after) (xs ++ back) ∙ ap (λ ys. h.before ++ a ∷ ys) (ap (λ ys. h.after ++ (ys ++ back)) k.is ∙ ap (λ ys. h.after ++ ys) (append_assoc k.before (b ∷ k.after) back) ∙ sym (append_assoc h.after k.before (b ∷ (k.after ++ back))));
}

-- what stands in order among a container's own parts does so in its sequence
own_before : (t : Table) (id : ℕ) (a b : Placed) → IsBefore (own_parts t id) a b → IsBefore (sequence t id) a b
unfolding chain_within
own_before t id a b h =
    let bases = chain_before (chain_within 15 t) (base_of t id) in
    subst (λ ps. IsBefore ps a b) (sym (sequence_step t bases id)) (before-within (flat_map (placed_entries t) bases) (own_parts t id) (flat_map (placed_trailers t) (reverse bases)) a b h)

has-held : (f : ℕ → List Placed) (ys : List ℕ) (y : ℕ) (a : Placed) → Has ys y → Has (f y) a → Has (flat_map f ys) a
has-held f ys y a h k = subst (λ zs. Has (flat_map f zs) a) (sym h.is) (subst (λ ps. Has ps a) (sym (flat_map-append f h.before (y ∷ h.after))) (has-back (flat_map f h.before) (f y ++ flat_map f h.after) a (has-front (f y) (flat_map f h.after) a k)))

listed_in : (xs : List ℕ) (y id : ℕ) → (y == id) ≡ false → list_has (xs ++ id ∷ []) y ≡ true → Has xs y
listed_in [] y id other h = go (id == y) refl h
  where
    go : (b : Bool) → (id == y) ≡ b → cond b true false ≡ true → Has [] y
    go true e k = let no : true ≡ false = sym (eq-eqb y id (sym (eqb-true id y e))) ∙ other in absurd cc
    go false e k = absurd cc
listed_in (x ∷ xs) y id other h = go (x == y) refl h (λ k. listed_in xs y id other k)
  where
    go : (b : Bool) → (x == y) ≡ b → cond b true (list_has (xs ++ id ∷ []) y) ≡ true → (list_has (xs ++ id ∷ []) y ≡ true → Has xs y) → Has (x ∷ xs) y
    go true e k later = let same : x ≡ y = eqb-true x y e in subst (λ z. Has (x ∷ xs) z) same (has-first x xs)
    go false e k later = has-later x y xs (later k)

-- an entry of a base stands before all parts of a container
base_before : (t : Table) (id y : ℕ) (a b : Placed) → (y == id) ≡ false → list_has (chain t id) y ≡ true → Has (placed_entries t y) a → Has (own_parts t id) b → IsBefore (sequence t id) a b
unfolding chain_within
base_before t id y a b other above h k =
    let bases = chain_before (chain_within 15 t) (base_of t id) in
    subst (λ ps. IsBefore ps a b) (sym (sequence_step t bases id)) (before-across (flat_map (placed_entries t) bases) (own_parts t id) (flat_map (placed_trailers t) (reverse bases)) a b (has-held (placed_entries t) bases y a (listed_in bases y id other above) h) k)

-- ---- positions

placed-there : (y n : ℕ) (ps : List Part) (k : ℕ) (p : Part) → slice_get ps k ≡ Some p → (place : ℕ) → n + k ≡ place
    → (before : List Placed) × (after : List Placed) × (placed_from y n ps ≡ before ++ record { container = y; place = place; part = p } ∷ after)
placed-there y n [] k p e place s = absurd cc
placed-there y n (q ∷ ps) zero p e place s =
    let same_part : q ≡ p = cc in
    let same_place : n ≡ place = omega (arith, s) in
    ([], placed_from y (n + 1) ps, ap (λ (r : Part). record { container = y; place = n; part = r } ∷ placed_from y (n + 1) ps) same_part ∙ ap (λ (m : ℕ). record { container = y; place = m; part = p } ∷ placed_from y (n + 1) ps) same_place)
placed-there y n (q ∷ ps) (suc k) p e place s =
    let rest = placed-there y (n + 1) ps k p e place (omega (arith, s)) in
    (record { container = y; place = n; part = q } ∷ rest.0, rest.1, ap (λ qs. record { container = y; place = n; part = q } ∷ qs) rest.2)

placed-before : (y n : ℕ) (ps : List Part) (i k : ℕ) (p q : Part) → slice_get ps i ≡ Some p → slice_get ps k ≡ Some q → i < k → (one other : ℕ) → n + i ≡ one → n + k ≡ other
    → IsBefore (placed_from y n ps) (record { container = y; place = one; part = p }) (record { container = y; place = other; part = q })
placed-before y n [] i k p q e f lt one other s o = absurd cc
placed-before y n (r ∷ ps) i zero p q e f lt one other s o = absurd (omega (arith, lt))
placed-before y n (r ∷ ps) zero (suc k) p q e f lt one other s o =
    let same_part : r ≡ p = cc in
    let same_place : n ≡ one = omega (arith, s) in
    let rest = placed-there y (n + 1) ps k q f other (omega (arith, o)) in
    record {
      before = [];
      between = rest.0;
      after = rest.1;
      is = ap (λ (a : Part). record { container = y; place = n; part = a } ∷ placed_from y (n + 1) ps) same_part ∙ (ap (λ (m : ℕ). record { container = y; place = m; part = p } ∷ placed_from y (n + 1) ps) same_place ∙ ap (λ qs. record { container = y; place = one; part = p } ∷ qs) rest.2);
    }
placed-before y n (r ∷ ps) (suc i) (suc k) p q e f lt one other s o =
    let rest = placed-before y (n + 1) ps i k p q e f (omega (arith, lt)) one other (omega (arith, s)) (omega (arith, o)) in
    record { before = record { container = y; place = n; part = r } ∷ rest.before; between = rest.between; after = rest.after; is = ap (λ qs. record { container = y; place = n; part = r } ∷ qs) rest.is }

-- ---- counts

not_below : (low n : ℤ) → int_lt low (pos 0) ≡ false → low ≤ℤ n → pos 0 ≤ℤ n
not_below low n h le = grind (arith)

none_negative : (spans : List Span) → has_negative spans ≡ false → (n : ℤ) → IsWithin spans n → pos 0 ≤ℤ n
none_negative [] h n w = absurd w
none_negative (s ∷ spans) h n w = go (int_lt s.low (pos 0)) refl w (λ k v. none_negative spans k n v)
  where
    go : (b : Bool) → int_lt s.low (pos 0) ≡ b → IsWithin (s ∷ spans) n → (has_negative spans ≡ false → IsWithin spans n → pos 0 ≤ℤ n) → pos 0 ≤ℤ n
    go true e v rest = let both : true ≡ false = sym (ap (λ b. b || has_negative spans) e) ∙ h in absurd cc
    go false e (inl l) rest = not_below s.low n e l.0
    go false e (inr r) rest = rest (sym (ap (λ b. b || has_negative spans) e) ∙ h) r

counts_int : (k : Kind) → counts_by k ≡ true → IsIntBy (λ form spans. (n : ℤ) → IsWithin spans n → pos 0 ≤ℤ n) k
counts_int (kind.Int form spans) h = none_negative spans (off (has_negative spans) h)
  where
    off : (b : Bool) → not b ≡ true → b ≡ false
    off true h = cc
    off false h = refl
counts_int (kind.Enum form listing) h = absurd cc
counts_int (kind.Bool form) h = absurd cc
counts_int (kind.Str form) h = absurd cc
counts_int (kind.Bin n free) h = absurd cc
counts_int (kind.Arr item n) h = absurd cc
counts_int (kind.Con c) h = absurd cc

-- an entry that counts
record IsCount (t : Table) (o : Option Part) : Type 0 where
  name : List ℕ
  id : TypeId
  is : o ≡ Some (part.Plain name id)
  counts : IsInt t id.0 (λ form spans. (n : ℤ) → IsWithin spans n → pos 0 ≤ℤ n)

count_type : (t : Table) (id : ℕ) → counts_in (slice_get t id) ≡ true → IsInt t id (λ form spans. (n : ℤ) → IsWithin spans n → pos 0 ≤ℤ n)
count_type t id h = go (slice_get t id) refl h
  where
    go : (o : Option TypeRow) → slice_get t id ≡ o → counts_in o ≡ true → IsInt t id (λ form spans. (n : ℤ) → IsWithin spans n → pos 0 ≤ℤ n)
    go None e k = absurd cc
    go (Some row) e k = (row, e, counts_int row.kind k)

count_part : (t : Table) (o : Option Part) → is_count t o ≡ true → IsCount t o
count_part t None h = absurd cc
count_part t (Some (part.Plain name id)) h = record { name = name; id = id; is = refl; counts = count_type t id.0 h }
count_part t (Some (part.Fixed name id v)) h = absurd cc
count_part t (Some (part.Pad n)) h = absurd cc
count_part t (Some (part.List name id y i)) h = absurd cc
count_part t (Some (part.Length name id c0 c1)) h = absurd cc
count_part t (Some (part.Check name id check)) h = absurd cc

-- a list whose field is told has its number from an entry before it
pub counted : (t : Table) (id y i k : ℕ) (p : Part) → slice_get (parts_in (container_of t id)) k ≡ Some p → is_told t y i id k ≡ true → IsCounted t (record { container = id; place = k; part = p }) y i
counted t id y i k p there told =
    let both = and_parts (stands_before t y i id k) (is_count t (slice_get (may_tell t y id) i)) told in
    let field = count_part t (slice_get (may_tell t y id) i) both.1 in
    record { name = field.name; id = field.id; before = go (y == id) refl (part.Plain field.name field.id) both.0 field.is; counts = field.counts }
  where
    list : Placed
    list = record { container = id; place = k; part = p }

    -- of the container itself
    own : (q : Part) → y ≡ id → nat_lt i k ≡ true → slice_get (parts_in (container_of t y)) i ≡ Some q → IsBefore (sequence t id) (record { container = y; place = i; part = q }) list
    own q same less first =
        let first_here : slice_get (parts_in (container_of t id)) i ≡ Some q = subst (λ z. slice_get (parts_in (container_of t z)) i ≡ Some q) same first in
        let here = placed-before id 0 (parts_in (container_of t id)) i k q p first_here there (leb-true (suc i) k less) i k (omega arith) (omega arith) in
        own_before t id (record { container = y; place = i; part = q }) list (subst (λ qs. IsBefore qs (record { container = y; place = i; part = q }) list) (sym (own_placed t id)) (subst (λ z. IsBefore (placed_from id 0 (parts_in (container_of t id))) (record { container = z; place = i; part = q }) list) (sym same) here))

    -- of a base
    above : (q : Part) → (y == id) ≡ false → list_has (chain t id) y ≡ true → slice_get (entries_in (container_of t y)) i ≡ Some q → IsBefore (sequence t id) (record { container = y; place = i; part = q }) list
    above q other h first_there =
        let first = placed-there y 0 (entries_in (container_of t y)) i q first_there i (omega arith) in
        let last = placed-there id 0 (parts_in (container_of t id)) k p there k (omega arith) in
        base_before t id y (record { container = y; place = i; part = q }) list other h (record { before = first.0; after = first.1; is = first.2 }) (record { before = last.0; after = last.1; is = own_placed t id ∙ last.2 })

    go : (b : Bool) → (y == id) ≡ b → (q : Part) → (if b then nat_lt i k else list_has (chain t id) y) ≡ true → slice_get (if b then parts_in (container_of t y) else entries_in (container_of t y)) i ≡ Some q → IsBefore (sequence t id) (record { container = y; place = i; part = q }) list
    go true e q h first = own q (eqb-true y id e) h first
    go false e q h first = above q e h first
