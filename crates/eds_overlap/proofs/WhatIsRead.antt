-- What the reading function gives of some bits is so by the definitions.
use Rattle.eds_base.specs.declared.fault.Fault.{Fault}
use Rattle.std.proofs.Common.{◌≡◌, ℕ, ◌+◌, ◌≤◌, [], ◌∷◌, ◌++◌, length, take, Ok, Err, refl, sym, ap, subst, ◌∙◌, append-nil, arith}
use Rattle.std.proofs.lemmas.List.{length-append}
use Rattle.eds_bits.specs.Bits.{Bits}
use Rattle.eds_types.specs.Failing.{FailsAt}
use Rattle.eds_types.specs.Plain.{Plain}
use Rattle.eds_types.specs.Reading.{Read}
use Rattle.eds_types.specs.Rows.{Table}
use Rattle.eds_types.specs.Spelling.{Spells}
use Rattle.eds_overlap.specs.Example.{Reads}
use Rattle.eds_overlap.specs.Laws.{IsReadable, IsRead, read_type}
use Rattle.eds_overlap.proofs.Theorems.{reading_is_exact}

front_of : (c rest b : Bits) (n k m : ℕ) → b ≡ c ++ rest → length b ≡ m → length rest ≡ k → m ≡ n + k → (n ≤ length b) × (take n b ≡ c)
front_of c rest b n k m e lb lr s =
    let size : length c ≡ n = omega (arith, ap length e, length-append c rest) in
    (omega arith, ap (λ z. take z b) (sym size) ∙ ap (take (length c)) e ∙ take_own c rest)
  where
    take_own : (c rest : Bits) → take (length c) (c ++ rest) ≡ c
    take_own [] rest = refl
    take_own (x ∷ c) rest = ap (λ y. x ∷ y) (take_own c rest)

module _ (t : Table) (id : ℕ) (readable : IsReadable t id) where
  read_so : (b : Bits) (r : Read Plain) → read_type t id b ≡ r → IsRead t id b r
  read_so b r e = subst (IsRead t id b) e (reading_is_exact t id readable b).0

  pub spelled : (v : Plain) (b : Bits) → read_type t id b ≡ Ok (v, []) → Spells t id v b
  spelled v b e = let s = read_so b (Ok (v, [])) e in subst (Spells t id v) (sym (s.1 ∙ append-nil s.0)) s.2

  pub failed : (b : Bits) (g : Fault) → read_type t id b ≡ Err g → FailsAt t id b g
  failed b g e = read_so b (Err g) e

  -- n of the m bits are read, and k are left
  pub read_front : (v : Plain) (b rest : Bits) (n k m : ℕ) → read_type t id b ≡ Ok (v, rest) → length b ≡ m → length rest ≡ k → m ≡ n + k → Reads t id v b n
  read_front v b rest n k m e lb lr s =
      let r = read_so b (Ok (v, rest)) e in
      let f = front_of r.0 rest b n k m r.1 lb lr s in
      (f.0, subst (Spells t id v) (sym f.1) r.2)
