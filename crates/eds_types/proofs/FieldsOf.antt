-- The values of containers by their places.
use Rattle.std.proofs.Common.{◌≡◌, ℕ, zero, suc, ◌+◌, Bool, true, false, List, [], ◌∷◌, map, drop, Some, None, Result, Ok, refl, sym, ap, ◌∙◌, Vec, Global, arith}
use Rattle.std.specs.Prelude.{slice_get, ◌&&◌, ◌==◌, if◌then◌else◌}
use Rattle.eds_base.specs.declared.ids.TypeId.{TypeId}
use Rattle.eds_types.specs.declared.value.Value.{Value}
use Rattle.eds_types.specs.declared.value.Value.TheVariants as value
use Rattle.eds_types.specs.Fields.{has_value, paired, value_at, fields_in, field_of}
use Rattle.eds_types.specs.Plain.{Plain, plain}
use Rattle.eds_types.specs.Rows.{Table, Placed, sequence}
use Rattle.eds_types.proofs.SameValues.{list_of-plains_of}
use Rattle.eds_types.specs.Seeking.{seek, nth}
use Rattle.eds_types.proofs.PlainValues.{plain_fields}

module _ (y i : ℕ) where
  abbrev pub seek_by : ℕ → List Placed → Bool → Bool → Result ℕ ℕ
  seek_by n ps b d = if b then (if d then Ok n else seek ps (n + 1) y i) else seek ps n y i

  drop_nil : (m : ℕ) → drop {A = Plain} m [] ≡ []
  drop_nil zero = refl
  drop_nil (suc m) = refl

  beyond : (xs : List Plain) (m : ℕ) → drop m xs ≡ [] → (slice_get xs m ≡ None) × (drop (m + 1) xs ≡ [])
  beyond [] zero e = (refl, drop_nil (zero + 1))
  beyond [] (suc m) e = (refl, drop_nil (suc m + 1))
  beyond (x ∷ xs) zero e = absurd cc
  beyond (x ∷ xs) (suc m) e = let k : suc m + 1 ≡ suc (m + 1) = omega arith in let r = beyond xs m e in (r.0, ap (λ n. drop n (x ∷ xs)) k ∙ r.1)

  past_by : (ps : List Placed) (all : List Plain) (n : ℕ) (b d : Bool) → slice_get all n ≡ None → nth all (seek ps n y i) ≡ None → nth all (seek ps (n + 1) y i) ≡ None → nth all (seek_by n ps b d) ≡ None
  past_by ps all n true true g h k = g
  past_by ps all n true false g h k = k
  past_by ps all n false true g h k = h
  past_by ps all n false false g h k = h

  -- no value is left
  past : (ps : List Placed) (all : List Plain) (n : ℕ) → drop n all ≡ [] → nth all (seek ps n y i) ≡ None
  past [] all n e = refl
  past (p ∷ ps) all n e = let b = beyond all n e in past_by ps all n (has_value p.part) (p.container == y && p.place == i) b.0 (past ps all n e) (past ps all (n + 1) b.1)

  next_value : (all : List Plain) (n : ℕ) (v : Plain) (vs : List Plain) → drop n all ≡ v ∷ vs → (slice_get all n ≡ Some v) × (drop (n + 1) all ≡ vs)
  next_value [] zero v vs e = absurd cc
  next_value [] (suc n) v vs e = absurd cc
  next_value (x ∷ all) zero v vs e = (cc, cc)
  next_value (x ∷ all) (suc n) v vs e = let k : suc n + 1 ≡ suc (n + 1) = omega arith in let r = next_value all n v vs e in (r.0, ap (λ m. drop m (x ∷ all)) k ∙ r.1)

  found_by : (p : Placed) (ps : List Placed) (all : List Plain) (n : ℕ) (v : Plain) (vs : List Plain) (b d : Bool) → (p.container == y && p.place == i) ≡ d → slice_get all n ≡ Some v → value_at (paired ps vs) y i ≡ nth all (seek ps (n + 1) y i) → value_at (paired ps (v ∷ vs)) y i ≡ nth all (seek ps n y i)
      → value_at (if b then (field_of p v) ∷ paired ps vs else paired ps (v ∷ vs)) y i ≡ nth all (seek_by n ps b d)
  found_by p ps all n v vs true true h g later other = ap (λ z. if z then Some v else value_at (paired ps vs) y i) h ∙ sym g
  found_by p ps all n v vs true false h g later other = ap (λ z. if z then Some v else value_at (paired ps vs) y i) h ∙ later
  found_by p ps all n v vs false true h g later other = other
  found_by p ps all n v vs false false h g later other = other

  pub found : (ps : List Placed) (all : List Plain) (n : ℕ) (vs : List Plain) → drop n all ≡ vs → value_at (paired ps vs) y i ≡ nth all (seek ps n y i)
  found [] all n vs e = refl
  found (p ∷ ps) all n [] e = sym (past (p ∷ ps) all n e)
  found (p ∷ ps) all n (v ∷ vs) e = let s = next_value all n v vs e in found_by p ps all n v vs (has_value p.part) (p.container == y && p.place == i) refl s.0 (found ps all (n + 1) vs s.1) (found ps all n (v ∷ vs) e)

-- the fields of a container are its values by their parts
pub fields_are : (t : Table) (own : TypeId) (values : Vec Value Global) (y i : ℕ) → value_at (fields_in t (Some (plain (value.Fields own values)))) y i ≡ value_at (paired (sequence t own.0) (map plain values.items)) y i
fields_are t own values y i =
    ap (λ v. value_at (fields_in t (Some v)) y i) (plain_fields own values)
    ∙ ap (λ vs. value_at (paired (sequence t own.0) vs) y i) (list_of-plains_of (map plain values.items))
