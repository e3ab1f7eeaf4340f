-- What is passed over is what the definitions read.
use Rattle.std.proofs.Common.{◌≡◌, ℕ, ℤ, true, cond, List, [], ◌∷◌, Option, Some, None, Ok, Err, sym, ap, ◌∙◌, inl, inr}
use Rattle.std.proofs.lemmas.Bool.{cases_Bool}
use Rattle.std.proofs.lemmas.Bool.Decides.{Decides-int_eq}
use Rattle.eds_bits.specs.declared.forms.IntForm.{IntForm}
use Rattle.eds_bits.specs.Bits.{Bits, octets_of}
use Rattle.eds_bits.specs.IntForms.{number_of}
use Rattle.eds_types.specs.Fields.{listed}
use Rattle.eds_types.specs.Plain.{label, bits}
use Rattle.eds_types.specs.Reading.{Read, judge, judged, read_bits, named, number_is, label_of, label_as}
use Rattle.eds_unpack.specs.Entries.{decimal, read_number}
use Rattle.eds_unpack.specs.Readers.{passed}

-- ---- labels

number_is-some : (o : Option ℤ) (n : ℤ) → number_is o n ≡ true → o ≡ Some n
number_is-some None n e = absurd cc
number_is-some (Some m) n e = ap Some ((Decides-int_eq m n).0 e)

-- the label that is found is listed with the number
pub label_is_listed : (listing es : List (List ℕ × ℤ)) (n : ℤ) (l : List ℕ) → label_of listing es n ≡ Some l → listed listing l ≡ Some n
label_is_listed listing [] n l e = absurd cc
label_is_listed listing (x ∷ xs) n l e = elim (cases_Bool (number_is (listed listing x.0) n)) [
  | inl t ↦ let p : Some x.0 ≡ Some l = sym (ap (λ b. cond b (Some x.0) (label_of listing xs n)) t) ∙ e in let q : x.0 ≡ l = cc in ap (listed listing) (sym q) ∙ number_is-some (listed listing x.0) n t
  | inr f ↦ label_is_listed listing xs n l (sym (ap (λ b. cond b (Some x.0) (label_of listing xs n)) f) ∙ e)
]

-- a label of the number that was read
pub label_read : (listing : List (List ℕ × ℤ)) (form : IntForm) (b rest : Bits) (n : ℤ) (l : List ℕ) → read_number form b ≡ Ok (n, rest) → label_of listing listing n ≡ Some l
    → judge (λ d. named listing (number_of form d)) (read_bits form.bits b) ≡ Ok (label l, rest)
label_read listing form b rest n l e f = go (read_bits form.bits b) e
  where
    by : (d c : Bits) (o : Option ℤ) → judged c (decimal o) ≡ Ok (n, rest) → judged c (named listing o) ≡ Ok (label l, rest)
    by d c None h = absurd cc
    by d c (Some m) h =
        let e : (m, c) ≡ (n, rest) = cc in
        let p = ap (λ (x : ℤ × Bits). x.0) e in
        let q = ap (λ (x : ℤ × Bits). x.1) e in
        ap (λ k. judged c (label_as (label_of listing listing k))) p ∙ ap (λ o. judged c (label_as o)) f ∙ ap (λ r. Ok (label l, r)) q

    go : (r : Read Bits) → judge (λ d. decimal (number_of form d)) r ≡ Ok (n, rest) → judge (λ d. named listing (number_of form d)) r ≡ Ok (label l, rest)
    go (Err g) h = absurd cc
    go (Ok x) h = by x.0 x.1 (number_of form x.0) h

-- ---- binaries

-- bits that were passed are those of a binary
pub octets_passed : (n : ℕ) (b rest : Bits) → passed (read_bits n b) ≡ Ok rest → (o : List ℕ) × (judge (λ d. Ok (bits n (octets_of d))) (read_bits n b) ≡ Ok (bits n o, rest))
octets_passed n b rest e = go (read_bits n b) e
  where
    go : (r : Read Bits) → passed r ≡ Ok rest → (o : List ℕ) × (judge (λ d. Ok (bits n (octets_of d))) r ≡ Ok (bits n o, rest))
    go (Err g) h = absurd cc
    go (Ok x) h = let p : x.1 ≡ rest = cc in (octets_of x.0, ap (λ c. Ok (bits n (octets_of x.0), c)) p)
