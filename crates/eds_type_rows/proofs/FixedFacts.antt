-- The values of fixed values.
use Rattle.std.proofs.Common.{◌≡◌, ℕ, ℤ, zero, suc, ◌+◌, ◌<◌, ◌≤◌, Bool, true, false, ◌||◌, List, [], ◌∷◌, ◌++◌, length, drop, get_or, slice_get, option_map, is_some, Option, Some, None, Result, refl, sym, ap, subst, ◌∙◌, arith, drop-cons, add-one}
use Rattle.std.specs.Prelude.{IfOk, IfSome}
use Rattle.eds_base.specs.Reading.{same, ◌>>=◌}
use Rattle.eds_names.specs.LookUp.{Names}
use Rattle.eds_names.specs.Repeats.{is_among}
use Rattle.eds_tree.specs.declared.tree.Node.{Node}
use Rattle.eds_types.specs.declared.row.Kind.{Kind}
use Rattle.eds_types.specs.declared.row.Kind.TheVariants as kind
use Rattle.eds_types.specs.declared.value.Value.{Value}
use Rattle.eds_types.specs.declared.value.Value.TheVariants.{rolls-Num, rolls-Label, rolls-Bool, rolls-Text, rolls-Bits}
use Rattle.eds_types.specs.declared.value.Value.TheVariants as value
use Rattle.eds_types.specs.declared.value.Value.TheOpen.{Value-F}
use Rattle.eds_types.specs.declared.value.Value.TheFolds.{fold-roll-Value}
use Rattle.eds_types.specs.Fields.{listed}
use Rattle.eds_types.specs.Plain.{Plain, num, label, truth, text, bits, plain, plain_step, stored}
use Rattle.eds_types.specs.Rules.{IsValueOf}
use Rattle.eds_types.specs.TextValues.{text_value_of}
use Rattle.eds_types.proofs.TextValues.{texts_are_values}
use Rattle.eds_type_rows.specs.Kinds.{scalar_of}
use Rattle.eds_type_rows.specs.FixedValues.{value_if, value_read, row_value}
use Rattle.eds_type_rows.proofs.ListingFacts.{same-sym}

-- ---- labels

nothing-among : (keys : List (List ℕ)) (q : List ℕ) → keys ≡ [] → is_among keys q ≡ false
nothing-among keys q e = ap (λ ks. is_among ks q) e

is-label : (e : List ℕ × ℤ) (es : List (List ℕ × ℤ)) (q : List ℕ) → is_some (listed (e ∷ es) q) ≡ (same q e.0 || is_some (listed es q))
is-label e es q = go (same e.0 q) refl
  where
    go : (b : Bool) → same e.0 q ≡ b → is_some (listed (e ∷ es) q) ≡ (same q e.0 || is_some (listed es q))
    go true h = rw (same-sym q e.0, h) refl
    go false h = rw (same-sym q e.0, h) refl

-- before the first label
pub labels-first : (xs : List (List ℕ × ℤ)) (keys : List (List ℕ)) (q : List ℕ) → keys ≡ [] → (is_among keys q || is_some (listed xs q)) ≡ is_some (listed xs q)
labels-first xs keys q e = ap (λ b. b || is_some (listed xs q)) (nothing-among keys q e)

-- one label more
pub labels-next : (xs : List (List ℕ × ℤ)) (i : ℕ) (x d : List ℕ × ℤ) (key : List ℕ) (before next : List (List ℕ)) (q : List ℕ) → i < length xs → x ≡ get_or xs i d → key ≡ x.0
    → is_among next q ≡ is_among (key ∷ before) q
    → (is_among before q || is_some (listed (drop i xs) q)) ≡ is_some (listed xs q)
    → (is_among next q || is_some (listed (drop (i + 1) xs) q)) ≡ is_some (listed xs q)
labels-next xs i x d key before next q lt is k more all =
    let rest = drop (i + 1) xs in
    let opened : drop i xs ≡ x ∷ rest = drop-cons xs i d lt ∙ rw (add-one, ← is) refl in
    let split : (is_among before q || (same q x.0 || is_some (listed rest q))) ≡ is_some (listed xs q) = ap (λ b. is_among before q || b) (sym (ap (λ ys. is_some (listed ys q)) opened ∙ is-label x rest q)) ∙ all in
    ap (λ b. b || is_some (listed rest q)) more ∙ (ap (λ name. (same q name || is_among before q) || is_some (listed rest q)) k ∙ (moved (same q x.0) (is_among before q) (is_some (listed rest q)) ∙ split))
  where
    moved : (a b c : Bool) → ((a || b) || c) ≡ (b || (a || c))
    moved true true c = refl
    moved true false c = refl
    moved false true c = refl
    moved false false c = refl

-- behind the last label
pub labels-last : (xs : List (List ℕ × ℤ)) (i : ℕ) (before : List (List ℕ)) (q : List ℕ) → length xs ≤ i → (is_among before q || is_some (listed (drop i xs) q)) ≡ is_some (listed xs q) → is_among before q ≡ is_some (listed xs q)
labels-last xs i before q past all = sym (none-left (is_among before q)) ∙ (ap (λ ys. is_among before q || is_some (listed ys q)) (sym (dropped xs i past)) ∙ all)
  where
    none-left : (b : Bool) → (b || false) ≡ b
    none-left true = refl
    none-left false = refl

    dropped : (xs : List (List ℕ × ℤ)) (i : ℕ) → length xs ≤ i → drop i xs ≡ []
    dropped [] zero h = refl
    dropped [] (suc i) h = refl
    dropped (x ∷ xs) zero h = absurd (omega (arith, h))
    dropped (x ∷ xs) (suc i) h = dropped xs i (omega (arith, h))

-- ---- kinds that are known

pub kinds-none : {K : Type 0} (known : List (Option K)) (P : ℕ → K → Type 0) → known ≡ [] → (id : ℕ) (k : K) → slice_get known id ≡ Some (Some k) → P id k
kinds-none {K} known P none id k e = absurd (nothing id (sym (ap (λ ks. slice_get ks id) none) ∙ e))
  where
    nothing : (id : ℕ) → slice_get {X = Option K} [] id ≡ Some (Some k) → ⊥
    nothing id e = cc

-- that of one type more
pub kinds-next : {K : Type 0} (known new : List (Option K)) (P : ℕ → K → Type 0) (i : ℕ) (x : Option K) → length known ≡ i → new ≡ known ++ x ∷ [] → IfSome x (P i)
    → ((id : ℕ) (k : K) → slice_get known id ≡ Some (Some k) → P id k) → (id : ℕ) (k : K) → slice_get new id ≡ Some (Some k) → P id k
kinds-next {K} known new P i x len is here old id k e =
    added known 0 id id (omega arith) (omega (arith, len)) (λ m j f g. let same_id : m ≡ j = omega (arith, f) in subst (λ n. P n k) same_id (old m k g)) (sym (ap (λ ks. slice_get ks id) is) ∙ e)
  where
    one : (y : Option K) → IfSome y (P i) → y ≡ Some k → P i k
    one None h q = absurd cc
    one (Some z) h q = let is : z ≡ k = cc in subst (P i) is h

    -- the same for the end of what is known, which begins at the type of the number n
    added : (ks : List (Option K)) (n j id : ℕ) → n + j ≡ id → n + length ks ≡ i → ((m j : ℕ) → n + m ≡ j → slice_get ks m ≡ Some (Some k) → P j k) → slice_get (ks ++ x ∷ []) j ≡ Some (Some k) → P id k
    added [] n zero id e l h q = let same_id : i ≡ id = omega (arith, e, l) in subst (λ m. P m k) same_id (one x here cc)
    added [] n (suc j) id e l h q = absurd cc
    added (y ∷ ks) n zero id e l h q = h 0 id e q
    added (y ∷ ks) n (suc j) id e l h q = added ks (n + 1) j id (omega (arith, e)) (omega (arith, l)) (λ m j f. h (suc m) j (omega (arith, f))) q

-- what is read by a kind that is known
pub kind-known : {E : Type 0} (r : Result (Option Value) E) (k : Kind) (trees : List (List Node)) (names : Names) (id : ℕ) (s : List ℕ)
    → scalar_of trees names id ≡ Some k → IfOk r (λ v. option_map plain v ≡ text_value_of k s) → IfOk r (λ v. option_map plain v ≡ value_read trees names id s)
kind-known r k trees names id s is h =
    subst (λ p. IfOk r (λ v. option_map plain v ≡ p)) (sym (ap (λ o. value_if o s) is)) h

-- ---- a row's value

plain_num : (n : ℤ) → plain (value.Num n) ≡ num n
plain_num n = ap plain (sym (rolls-Num n)) ∙ fold-roll-Value Plain plain_step (Value-F.Num n)

plain_label : (l : List ℕ) → plain (value.Label l) ≡ label l
plain_label l = ap plain (sym (rolls-Label l)) ∙ fold-roll-Value Plain plain_step (Value-F.Label l)

plain_truth : (b : Bool) → plain (value.Bool b) ≡ truth b
plain_truth b = ap plain (sym (rolls-Bool b)) ∙ fold-roll-Value Plain plain_step (Value-F.Bool b)

plain_text : (s : List ℕ) → plain (value.Text s) ≡ text s
plain_text s = ap plain (sym (rolls-Text s)) ∙ fold-roll-Value Plain plain_step (Value-F.Text s)

plain_bits : (n : ℕ) (os : List ℕ) → plain (value.Bits n os) ≡ bits n os
plain_bits n os = ap plain (sym (rolls-Bits n os)) ∙ fold-roll-Value Plain plain_step (Value-F.Bits n os)

-- a value of a kind stays itself in a row
pub stored-is : (k : Kind) (v : Plain) → IsValueOf k v → plain (stored v) ≡ v
stored-is (kind.Int form spans) v h = subst (λ w. plain (stored w) ≡ w) (sym (h.1)) (plain_num h.0)
stored-is (kind.Enum form listing) v h = subst (λ w. plain (stored w) ≡ w) (sym (h.1)) (plain_label h.0)
stored-is (kind.Bool form) v h = subst (λ w. plain (stored w) ≡ w) (sym (h.1)) (plain_truth h.0)
stored-is (kind.Str form) v h = subst (λ w. plain (stored w) ≡ w) (sym (h.1)) (plain_text h.0)
stored-is (kind.Bin n free) v h = subst (λ w. plain (stored w) ≡ w) (sym (h.2)) (plain_bits h.0 h.1)
stored-is (kind.Arr item n) v h = absurd h
stored-is (kind.Con c) v h = absurd h

-- a text that stands for a value of a type, of which the kind is known
pub record IsRead (trees : List (List Node)) (names : Names) (id : ℕ) (o : Option Plain) : Type 0 where
  pub type_kind : Kind
  pub known : scalar_of trees names id ≡ Some type_kind
  pub is_value : IsValueOf type_kind (plain (row_value o))

pub value-read : (trees : List (List Node)) (names : Names) (id : ℕ) (s : Option (List ℕ)) → is_some (s >>= value_read trees names id) ≡ true → IsRead trees names id (s >>= value_read trees names id)
value-read trees names id None h = absurd cc
value-read trees names id (Some s) h = of_kind (scalar_of trees names id) refl h
  where
    of_value : (k : Kind) (o : Option Plain) → text_value_of k s ≡ o → is_some o ≡ true → IsValueOf k (plain (row_value o))
    of_value k None e g = absurd cc
    of_value k (Some v) e g = let good = texts_are_values k s v e in subst (IsValueOf k) (sym (stored-is k v good)) good

    of_kind : (o : Option Kind) → scalar_of trees names id ≡ o → is_some (o >>= λ k. text_value_of k s) ≡ true → IsRead trees names id (o >>= λ k. text_value_of k s)
    of_kind None e g = absurd cc
    of_kind (Some k) e g = record { type_kind = k; known = e; is_value = of_value k (text_value_of k s) refl g }
