-- How far the reader of a container has come.
use Rattle.std.specs.Prelude.{◌&&◌, ◌==◌, slice_get}
use Rattle.std.proofs.lemmas.Bool.{eqb-true}
use Rattle.std.proofs.lemmas.Bool.Decides.{Decides-eqb}
use Rattle.eds_base.specs.declared.fault.Fault.{Fault}
use Rattle.eds_base.specs.declared.ids.TypeId.{TypeId}
use Rattle.std.proofs.Common.{◌≡◌, ℕ, zero, suc, ◌+◌, ◌-◌, ◌<◌, ◌≤◌, ℤ, Bool, true, false, cond, List, [], ◌∷◌, ◌++◌, length, map, get_or, take, drop, Option, Some, None, Ok, Err, refl, sym, ap, ap₂, ◌∙◌, append_assoc, append-nil, arith}
use Rattle.std.proofs.lemmas.List.{length-append, length-map, map-append}
use Rattle.eds_base.specs.declared.fault.Step.{Step}
use Rattle.eds_base.specs.declared.fault.Step.TheVariants as step
use Rattle.eds_bits.specs.Bits.{Bits}
use Rattle.eds_bits.specs.Reader.{bits_left}
use Rattle.eds_types.specs.Failing.{fault_behind, length_step, if_length as length_at, entry}
use Rattle.eds_types.specs.Fields.{Field, field_at, field_of, value_at, values_of}
use Rattle.eds_types.specs.Plain.{Plain, plain}
use Rattle.eds_types.specs.Reading.{Read, ◌>>=◌, front, read_items, read_parts, read_entry}
use Rattle.eds_types.specs.Rows.{Table, Placed, or_else}
use Rattle.eds_types.specs.declared.row.Part.{Part}
use Rattle.eds_types.specs.declared.value.Value.{Value}
use Rattle.eds_types.specs.declared.row.Part.TheVariants as part
use Rattle.eds_types.specs.Spelling.{Progress, with_bits, with_value, with_octets}
use Rattle.eds_types.proofs.ExactReading.{front_is}
use Rattle.eds_unpack.specs.declared.fields.ReadFields.{ReadFields}
use Rattle.eds_unpack.specs.declared.progress.Reached.{Reached}
use Rattle.eds_unpack.specs.Courses.{AreHeld, MovesOn, fields_at, fields_of, progress_of}
use Rattle.eds_unpack.specs.Seeking.{length_among, if_length}

-- a step that may be there, as a list
abbrev pub steps_of : Option Step → List Step
steps_of None = []
steps_of (Some s) = s ∷ []

-- what is read of items, behind those that were read before
abbrev pub behind_items : List Plain → Read (List Plain) → Read (List Plain)
behind_items vs (Ok x) = Ok (vs ++ x.0, x.1)
behind_items vs (Err g) = Err g

-- ---- values and the parts that hold them

pub fields_append : (ps qs : List (TypeId × ℕ)) (vs ws : List Plain) → length ps ≡ length vs → fields_at (ps ++ qs) (vs ++ ws) ≡ fields_at ps vs ++ fields_at qs ws
fields_append [] qs [] ws l = refl
fields_append [] qs (v ∷ vs) ws l = absurd cc
fields_append (p ∷ ps) qs [] ws l = absurd cc
fields_append (p ∷ ps) qs (v ∷ vs) ws l = ap (λ fs. field_at (p.0).0 p.1 v ∷ fs) (fields_append ps qs vs ws (omega arith))

-- the values that are held are all values
values_held : (ps : List (TypeId × ℕ)) (vs : List Plain) → length ps ≡ length vs → values_of (fields_at ps vs) ≡ vs
values_held [] [] l = refl
values_held [] (v ∷ vs) l = absurd cc
values_held (p ∷ ps) [] l = absurd cc
values_held (p ∷ ps) (v ∷ vs) l = ap (λ us. v ∷ us) (values_held ps vs (omega arith))

pub all_held : (r : ReadFields) → AreHeld r → values_of (fields_of r) ≡ map plain r.values.items
all_held r held = values_held r.parts.items (map plain r.values.items) (omega (arith, held, length-map r.values.items plain))

-- one value more, and its part
pub field_more : (r : ReadFields) (ps : List (TypeId × ℕ)) (xs : List Value) (p : TypeId × ℕ) (x : Value) → AreHeld r → ps ≡ r.parts.items ++ p ∷ [] → xs ≡ r.values.items ++ x ∷ [] → fields_at ps (map plain xs) ≡ fields_of r ++ field_at (p.0).0 p.1 (plain x) ∷ []
field_more r ps xs p x held e f =
    let long : length r.parts.items ≡ length (map plain r.values.items) = omega (arith, held, length-map r.values.items plain) in
    ap₂ fields_at e (ap (map plain) f ∙ map-append plain r.values.items (x ∷ [])) ∙ fields_append r.parts.items (p ∷ []) (map plain r.values.items) (plain x ∷ []) long

-- there is no field where there is no value
no_values : (ps : List (TypeId × ℕ)) → fields_at ps [] ≡ []
no_values [] = refl
no_values (p ∷ ps) = refl

same : (n : ℕ) → (n == n) ≡ true
same n = (Decides-eqb n n).1 refl

-- the part that stands here holds the value that is looked for
pub value_found : (ps : List (TypeId × ℕ)) (vs : List Plain) (i : ℕ) (d : TypeId × ℕ) (y z : ℕ) → i < length ps → ((get_or ps i d).0).0 ≡ y → (get_or ps i d).1 ≡ z → value_at (fields_at (drop i ps) (drop i vs)) y z ≡ slice_get vs i
value_found [] vs i d y z lt e f = absurd (omega arith)
value_found (p ∷ ps) [] zero d y z lt e f = refl
value_found (p ∷ ps) (v ∷ vs) zero d y z lt e f = ap₂ (λ a b. cond (a && b) (Some v) (value_at (fields_at ps vs) y z)) (ap (λ k. k == y) e ∙ same y) (ap (λ k. k == z) f ∙ same z)
value_found (p ∷ ps) [] (suc i) d y z lt e f = ap (λ fs. value_at fs y z) (no_values (drop i ps))
value_found (p ∷ ps) (v ∷ vs) (suc i) d y z lt e f = value_found ps vs i d y z (omega arith) e f

other_part : (a b y z : ℕ) → (a ≡ y → b ≡ z → ⊥) → ((a == y) && (b == z)) ≡ false
other_part a b y z h = go (a == y) (b == z) refl refl
  where
    go : (p q : Bool) → (a == y) ≡ p → (b == z) ≡ q → (p && q) ≡ false
    go true true e f = absurd (h (eqb-true a y e) (eqb-true b z f))
    go true false e f = refl
    go false q e f = refl

-- it does not
pub value_passed : (ps : List (TypeId × ℕ)) (vs : List Plain) (i : ℕ) (d : TypeId × ℕ) (y z : ℕ) → i < length ps → (((get_or ps i d).0).0 ≡ y → (get_or ps i d).1 ≡ z → ⊥)
    → value_at (fields_at (drop (suc i) ps) (drop (suc i) vs)) y z ≡ value_at (fields_at (drop i ps) (drop i vs)) y z
value_passed [] vs i d y z lt h = absurd (omega arith)
value_passed (p ∷ ps) [] zero d y z lt h = ap (λ fs. value_at fs y z) (no_values ps)
value_passed (p ∷ ps) (v ∷ vs) zero d y z lt h = sym (ap (λ b. cond b (Some v) (value_at (fields_at ps vs) y z)) (other_part (p.0).0 p.1 y z h))
value_passed (p ∷ ps) [] (suc i) d y z lt h = ap (λ fs. value_at fs y z) (no_values (drop (suc i) ps) ∙ sym (no_values (drop i ps)))
value_passed (p ∷ ps) (v ∷ vs) (suc i) d y z lt h = value_passed ps vs i d y z (omega arith) h

-- ---- bits before

pub front_more : (a b d : Bits) → MovesOn a b → MovesOn b d → front a b ++ front b d ≡ front a d
front_more a b d f g =
    ap₂ (λ x y. x ++ y) (front_is a f.0 b f.1) (front_is b g.0 d g.1)
    ∙ sym (front_is a (f.0 ++ g.0) d (f.1 ∙ ap (λ c. f.0 ++ c) g.1 ∙ sym (append_assoc f.0 g.0 d)))

progress : List Field → Bits → Option ℤ → Progress
progress fs b o = record { fields = fs; before = b; octets = o }

module _ (r : Reached) (b d : Bits) (begun : MovesOn (bits_left r.start) b) (on : MovesOn b d) where
  pub bits_kept : with_bits (progress_of r b) (front b d) ≡ progress_of r d
  bits_kept = ap (λ c. record { fields = fields_of r.fields; before = c; octets = r.octets }) (front_more (bits_left r.start) b d begun on)

  pub value_kept : (u : Reached) (p : Placed) (v : Plain) → fields_of u.fields ≡ fields_of r.fields ++ (field_of p v) ∷ [] → u.octets ≡ r.octets → u.start ≡ r.start → with_value (progress_of r b) p v (front b d) ≡ progress_of u d
  unfolding progress
  value_kept u p v e f g =
      ap (λ fs. progress fs (front (bits_left r.start) b ++ front b d) r.octets) (sym e)
      ∙ ap (λ c. progress (fields_of u.fields) c r.octets) (front_more (bits_left r.start) b d begun on ∙ ap (λ s. front (bits_left s) d) (sym g))
      ∙ ap (λ o. progress (fields_of u.fields) (front (bits_left u.start) d) o) (sym f)

  pub octets_kept : (u : Reached) (n : ℤ) → u.fields ≡ r.fields → u.octets ≡ Some n → u.start ≡ r.start → with_octets (progress_of r b) n (front b d) ≡ progress_of u d
  unfolding progress
  octets_kept u n e f g =
      ap (λ fs. progress (fields_of fs) (front (bits_left r.start) b ++ front b d) (Some n)) (sym e)
      ∙ ap (λ c. progress (fields_of u.fields) c (Some n)) (front_more (bits_left r.start) b d begun on ∙ ap (λ s. front (bits_left s) d) (sym g))
      ∙ ap (λ o. progress (fields_of u.fields) (front (bits_left u.start) d) o) (sym f)

-- ---- items

module _ (read : Bits → Read Plain) where
  pub items_end : (n j : ℕ) (vs : List Plain) (b : Bits) → n ≤ j → behind_items vs (read_items read (n - j) j b) ≡ Ok (vs, b)
  unfolding read_items
  items_end n j vs b le = let k : n - j ≡ 0 = omega arith in ap (λ m. behind_items vs (read_items read m j b)) k ∙ ap (λ ws. Ok (ws, b)) (append-nil vs)

  one_item : (m j : ℕ) (vs : List Plain) (b : Bits) (r : Read Plain) → Read (List Plain)
  one_item m j vs b (Ok v) = behind_items (vs ++ v.0 ∷ []) (read_items read m (j + 1) v.1)
  one_item m j vs b (Err g) = Err (fault_behind (step.Item j) g)

  item_step : (m j : ℕ) (vs : List Plain) (b : Bits) (r : Read Plain) → read b ≡ r → behind_items vs (read_items read (suc m) j b) ≡ one_item m j vs b r
  unfolding read_items one_item
  item_step m j vs b (Err g) e = rw e refl
  item_step m j vs b (Ok v) e = rw e (go (read_items read m (j + 1) v.1))
    where
      go : (r : Read (List Plain)) → behind_items vs (r >>= λ ws. Ok (v.0 ∷ ws.0, ws.1)) ≡ behind_items (vs ++ v.0 ∷ []) r
      go (Ok ws) = ap (λ us. Ok (us, ws.1)) (sym (append_assoc vs (v.0 ∷ []) ws.0))
      go (Err g) = refl

  pub items_next : (n j : ℕ) (vs : List Plain) (b : Bits) (v : Plain) (d : Bits) → j < n → read b ≡ Ok (v, d) → behind_items vs (read_items read (n - j) j b) ≡ behind_items (vs ++ v ∷ []) (read_items read (n - (j + 1)) (j + 1) d)
  unfolding one_item
  items_next n j vs b v d lt e = let k : n - j ≡ suc (n - (j + 1)) = omega arith in ap (λ m. behind_items vs (read_items read m j b)) k ∙ item_step (n - (j + 1)) j vs b (Ok (v, d)) e

  pub items_fail : (n j : ℕ) (vs : List Plain) (b : Bits) (g : Fault) → j < n → read b ≡ Err g → behind_items vs (read_items read (n - j) j b) ≡ Err (fault_behind (step.Item j) g)
  unfolding one_item
  items_fail n j vs b g lt e = let k : n - j ≡ suc (n - (j + 1)) = omega arith in ap (λ m. behind_items vs (read_items read m j b)) k ∙ item_step (n - (j + 1)) j vs b (Err g) e

-- ---- parts

pub parts_append : (t : Table) (read : ℕ → Bits → Read Plain) (ps qs : List Placed) (s : Progress) (b : Bits) → read_parts t read (ps ++ qs) s b ≡ (read_parts t read ps s b >>= λ v. read_parts t read qs v.0 v.1)
unfolding read_parts
parts_append t read [] qs s b = refl
parts_append t read (p ∷ ps) qs s b = go (read_entry t read s p b) (λ v d. parts_append t read ps qs v d)
  where
    go : (r : Read Progress) → ((v : Progress) (d : Bits) → read_parts t read (ps ++ qs) v d ≡ (read_parts t read ps v d >>= λ w. read_parts t read qs w.0 w.1)) → (r >>= λ v. read_parts t read (ps ++ qs) v.0 v.1) ≡ ((r >>= λ v. read_parts t read ps v.0 v.1) >>= λ v. read_parts t read qs v.0 v.1)
    go (Ok v) h = h v.0 v.1
    go (Err g) h = refl

-- ---- the path of a length entry

pub length_is : (ps : List Placed) → steps_of (length_among ps) ≡ length_step (map entry ps)
length_is [] = refl
length_is (p ∷ ps) = go p.part (length_is ps)
  where
    go : (q : Part) → steps_of (length_among ps) ≡ length_step (map entry ps) → steps_of (or_else (if_length q p) (length_among ps)) ≡ length_at q p (length_step (map entry ps))
    go (part.Plain name id) h = h
    go (part.Fixed name id v) h = h
    go (part.Pad n) h = h
    go (part.List name id y i) h = h
    go (part.Length name id c0 c1) h = refl
    go (part.Check name id k) h = h

-- the bits before are the first ones
pub front_taken : (a b : Bits) → MovesOn a b → take (length (front a b)) a ≡ front a b
front_taken a b f = ap (λ c. take (length c) a) (front_is a f.0 b f.1) ∙ ap (take (length f.0)) f.1 ∙ take_front f.0 b ∙ sym (front_is a f.0 b f.1)
  where
    take_front : {A : Type 0} (c rest : List A) → take (length c) (c ++ rest) ≡ c
    take_front [] rest = refl
    take_front (x ∷ c) rest = ap (λ y. x ∷ y) (take_front c rest)

pub front_few : (a b : Bits) → MovesOn a b → length (front a b) ≤ length a
front_few a b f = omega (arith, ap length (front_is a f.0 b f.1), ap length f.1, length-append f.0 b)
