-- Values that are the same.
use Rattle.std.proofs.Common.{◌≡◌, ℕ, Bool, true, false, List, [], ◌∷◌, ◌==◌, refl, ap, ap₂}
use Rattle.std.proofs.lemmas.Bool.{and_parts, and_from, eqb-true, eq-eqb}
use Rattle.std.proofs.lemmas.Bool.Decides.{Decides-int_eq}
use Rattle.eds_base.specs.Reading.{same as same_text}
use Rattle.eds_types.specs.Plain.{Plain, num, label, truth, text, bits, items, fields, Plains, none, more, list_of, plains_of}
use Rattle.eds_types.specs.Reading.{same, same_all, same_bool}

pub same_text-is : (l m : List ℕ) → same_text l m ≡ true → l ≡ m
same_text-is [] [] e = refl
same_text-is [] (y ∷ ys) e = absurd cc
same_text-is (x ∷ xs) [] e = absurd cc
same_text-is (x ∷ xs) (y ∷ ys) e = let p = and_parts (x == y) (same_text xs ys) e in ap₂ (λ a b. a ∷ b) (eqb-true x y p.0) (same_text-is xs ys p.1)

pub text_same : (l : List ℕ) → same_text l l ≡ true
text_same [] = refl
text_same (x ∷ xs) = and_from (x == x) (same_text xs xs) (eq-eqb x x refl) (text_same xs)

same_bool-is : (b c : Bool) → same_bool b c ≡ true → b ≡ c
same_bool-is true true e = refl
same_bool-is true false e = absurd cc
same_bool-is false true e = absurd cc
same_bool-is false false e = refl

bool_same : (b : Bool) → same_bool b b ≡ true
bool_same true = refl
bool_same false = refl

mutual
  unfolding same same_all

  pub same-is : (v w : Plain) → same v w ≡ true → v ≡ w
  same-is (num n) (num m) e = ap num ((Decides-int_eq n m).0 e)
  same-is (label l) (label m) e = ap label (same_text-is l m e)
  same-is (truth b) (truth c) e = ap truth (same_bool-is b c e)
  same-is (text s) (text u) e = ap text (same_text-is s u e)
  same-is (bits n o) (bits m p) e = let q = and_parts (n == m) (same_text o p) e in ap₂ bits (eqb-true n m q.0) (same_text-is o p q.1)
  same-is (items vs) (items ws) e = ap items (same_all-is vs ws e)
  same-is (fields k vs) (fields l ws) e = let q = and_parts (k == l) (same_all vs ws) e in ap₂ fields (eqb-true k l q.0) (same_all-is vs ws q.1)
  same-is v w e = absurd cc

  same_all-is : (vs ws : Plains) → same_all vs ws ≡ true → vs ≡ ws
  same_all-is none none e = refl
  same_all-is (more v vs) (more w ws) e = let q = and_parts (same v w) (same_all vs ws) e in ap₂ more (same-is v w q.0) (same_all-is vs ws q.1)
  same_all-is vs ws e = absurd cc

mutual
  unfolding same same_all

  pub is-same : (v : Plain) → same v v ≡ true
  is-same (num n) = (Decides-int_eq n n).1 refl
  is-same (label l) = text_same l
  is-same (truth b) = bool_same b
  is-same (text s) = text_same s
  is-same (bits n o) = and_from (n == n) (same_text o o) (eq-eqb n n refl) (text_same o)
  is-same (items vs) = is-same_all vs
  is-same (fields k vs) = and_from (k == k) (same_all vs vs) (eq-eqb k k refl) (is-same_all vs)

  is-same_all : (vs : Plains) → same_all vs vs ≡ true
  is-same_all none = refl
  is-same_all (more v vs) = and_from (same v v) (same_all vs vs) (is-same v) (is-same_all vs)

pub list_of-plains_of : (vs : List Plain) → list_of (plains_of vs) ≡ vs
list_of-plains_of [] = refl
list_of-plains_of (v ∷ vs) = ap (λ ws. v ∷ ws) (list_of-plains_of vs)

pub plains_of-list_of : (vs : Plains) → plains_of (list_of vs) ≡ vs
plains_of-list_of none = refl
plains_of-list_of (more v vs) = ap (more v) (plains_of-list_of vs)

-- the number of bits of a binary
abbrev pub bin_bits : Plain → ℕ
bin_bits (num n) = 0
bin_bits (label l) = 0
bin_bits (truth b) = 0
bin_bits (text s) = 0
bin_bits (bits n o) = n
bin_bits (items vs) = 0
bin_bits (fields k vs) = 0
