-- What paths lead to.
use Rattle.std.proofs.Common.{◌≡◌, ℕ, suc, ◌-◌, ◌<◌, List, [], ◌∷◌, length, get_or, take, drop, length-drop, Option, Some, None, refl, sym, ap, ◌∙◌, arith}
use Rattle.std.specs.Prelude.{option_map, slice_get}
use Rattle.std.proofs.Math.Seq.{take-length}
use Rattle.eds_base.specs.declared.ids.TypeId.{TypeId}
use Rattle.eds_types.specs.Fields.{Field, type_by, part_at, type_on, row_at, value_at, value_on, fields_in}
use Rattle.eds_types.specs.Rows.{Table}
use Rattle.eds_types.specs.Seeking.{along, first_on}

last_type : (t : Table) (path : List (TypeId × ℕ)) (d : TypeId × ℕ) → 0 < length path → type_on t path ≡ type_by (part_at t (get_or path (length path - 1) d))
last_type t [] d lt = absurd (omega arith)
last_type t (p ∷ []) d lt = refl
last_type t (p ∷ q ∷ path) d lt = let k : suc (length (q ∷ path) - 1) ≡ length (p ∷ q ∷ path) - 1 = omega arith in last_type t (q ∷ path) d (omega arith) ∙ ap (λ n. type_by (part_at t (get_or (p ∷ q ∷ path) n d))) k

pub last_row : (t : Table) (path : List (TypeId × ℕ)) (d : TypeId × ℕ) (o : Option TypeId) (id : TypeId) → 0 < length path → option_map (λ (i : TypeId). i.0) o ≡ type_by (part_at t (get_or path (length path - 1) d)) → o ≡ Some id → row_at t (type_on t path) ≡ slice_get t id.0
last_row t path d o id lt e is = ap (row_at t) (last_type t path d lt ∙ sym e ∙ ap (option_map (λ (i : TypeId). i.0)) is)

pub no_row : (t : Table) (path : List (TypeId × ℕ)) (d : TypeId × ℕ) (o : Option TypeId) → 0 < length path → option_map (λ (i : TypeId). i.0) o ≡ type_by (part_at t (get_or path (length path - 1) d)) → o ≡ None → row_at t (type_on t path) ≡ None
no_row t path d o lt e is = ap (row_at t) (last_type t path d lt ∙ sym e ∙ ap (option_map (λ (i : TypeId). i.0)) is)

value_is : (t : Table) (fs : List Field) (p : TypeId × ℕ) (path : List (TypeId × ℕ)) → value_on t fs (p ∷ path) ≡ along t (value_at fs (p.0).0 p.1) path
value_is t fs p [] = refl
value_is t fs p (q ∷ path) = value_is t (fields_in t (value_at fs (p.0).0 p.1)) q path

pub rest_is : {A : Type 0} (path : List A) → take (length path - 1) (drop 1 path) ≡ drop 1 path
rest_is path = ap (λ n. take n (drop 1 path)) (sym (length-drop 1 path)) ∙ take-length (drop 1 path)

pub value_on_is : (t : Table) (fs : List Field) (path : List (TypeId × ℕ)) (d : TypeId × ℕ) → 0 < length path → along t (value_at fs ((get_or path 0 d).0).0 (get_or path 0 d).1) (take (length path - 1) (drop 1 path)) ≡ value_on t fs path
value_on_is t fs [] d lt = absurd (omega arith)
value_on_is t fs (p ∷ path) d lt = ap (along t (value_at fs (p.0).0 p.1)) (rest_is (p ∷ path)) ∙ sym (value_is t fs p path)

pub first_is : (fs : List Field) (path : List (TypeId × ℕ)) (d : TypeId × ℕ) → 0 < length path → first_on fs path ≡ value_at fs ((get_or path 0 d).0).0 (get_or path 0 d).1
first_is fs [] d lt = absurd (omega arith)
first_is fs (p ∷ path) d lt = refl
