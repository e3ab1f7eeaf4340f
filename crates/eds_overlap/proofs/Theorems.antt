-- The laws, from exact reading and the laws of types.
use Rattle.eds_base.specs.declared.fault.Fault.{Fault}
use Rattle.std.proofs.Common.{◌≡◌, ℕ, ◌+◌, suc, [], ◌∷◌, ◌++◌, length, Ok, Err, refl, sym, ap, subst, ◌∙◌, ◌⊎◌, inl, inr, arith, append-nil}
use Rattle.std.proofs.lemmas.List.{length-append}
use Rattle.eds_bits.specs.Bits.{Bits}
use Rattle.eds_bits.specs.Style.{any}
use Rattle.eds_types.specs.Failing.{FailsAt, FailsWithin}
use Rattle.eds_types.specs.Plain.{Plain}
use Rattle.eds_types.specs.Reading.{Read, read_within}
use Rattle.eds_types.specs.Rows.{Table}
use Rattle.eds_types.specs.Spelling.{Spells, Canon, SpellsWithin}
use Rattle.eds_types.proofs.ExactReading.{Is, Exact, err_is, ok_err, same_ok}
use Rattle.eds_types.proofs.FaultsStay.{stays_within}
use Rattle.eds_types.proofs.TypeLaws.{one_size, has_canonical, one_canonical, packing_is_decided}
use Rattle.eds_types.proofs.RuleFacts.{table_of, facts_of}
use Rattle.eds_types.proofs.SpellingSizes.{canon_spells}
use Rattle.eds_overlap.proofs.ReadingLaws.{exact}
use Rattle.eds_overlap.specs.Laws.{IsReadable, read_type, IsRead, ReadingIsExact, OneOutcome, OneReading, FaultsStay, SameValue, PackedIsRead, ReadIsPacked}

all_of : (t : Table) (id : ℕ) → IsReadable t id → Exact (read_within 32 t id) (SpellsWithin 32 any t id) (FailsWithin 32 t id)
all_of t id h = exact t (table_of t h.rules) (facts_of t h.rules) 32 id (record { rank = (table_of t h.rules).nested id; there = h.there; clear = h.clear })

there : (t : Table) (id : ℕ) (b : Bits) (r : Read Plain) → Is (SpellsWithin 32 any t id) (FailsWithin 32 t id) b r → IsRead t id b r
there t id b (Ok x) h = (h.front, h.is, h.has)
there t id b (Err g) h = h

back : (t : Table) (id : ℕ) (b : Bits) (r : Read Plain) → IsRead t id b r → Is (SpellsWithin 32 any t id) (FailsWithin 32 t id) b r
back t id b (Ok x) h = record { front = h.0; is = h.1; has = h.2 }
back t id b (Err g) h = h

pub reading_is_exact : ReadingIsExact
reading_is_exact t id h b = let e = all_of t id h in (there t id b (read_within 32 t id b) (e.from b), λ r k. e.to b r (back t id b r k))

same_front : (c d x : Bits) → c ++ x ≡ d ++ x → c ≡ d
same_front c d x e = go c d (length-append c x) (length-append d x) e
  where
    too_long : (y : Bits) (ys : Bits) (n : ℕ) → length ys ≡ suc n → n ≡ length ys → ⊥
    too_long y ys n e f = omega arith

    go : (c d : Bits) → length (c ++ x) ≡ length c + length x → length (d ++ x) ≡ length d + length x → c ++ x ≡ d ++ x → c ≡ d
    go [] [] a b e = refl
    go [] (z ∷ d) a b e = absurd (let q = ap length e in omega arith)
    go (z ∷ c) [] a b e = absurd (let q = ap length e in omega arith)
    go (z ∷ c) (w ∷ d) a b e = let p : z ≡ w = cc in let q : c ++ x ≡ d ++ x = cc in rw (p, go c d (length-append c x) (length-append d x) q) refl

pub one_outcome : OneOutcome
one_outcome t id h b = record {
  either = go (read_type t id b) (e.0);
  one_value = λ v w c d x y p q s k. two v w c d x y p q (same_ok (read_type t id b) (v, x) (w, y) (e.1 (Ok (v, x)) (c, p, s)) (e.1 (Ok (w, y)) (d, q, k)));
  one_place = λ g k s q. err_is (Plain × Bits) g k (sym (e.1 (Err g) s) ∙ e.1 (Err k) q);
  not_both = λ v c x g p s q. ok_err (read_type t id b) (v, x) g (e.1 (Ok (v, x)) (c, p, s)) (e.1 (Err g) q);
}
  where
    e : IsRead t id b (read_type t id b) × ((r : Read Plain) → IsRead t id b r → read_type t id b ≡ r)
    e = reading_is_exact t id h b

    go : (r : Read Plain) → IsRead t id b r → ((v : Plain) × (c : Bits) × (rest : Bits) × (b ≡ c ++ rest) × Spells t id v c) ⊎ ((g : Fault) × FailsAt t id b g)
    go (Ok x) k = inl (x.0, k.0, x.1, k.1, k.2)
    go (Err g) k = inr (g, k)

    two : (v w : Plain) (c d x y : Bits) → b ≡ c ++ x → b ≡ d ++ y → ◌≡◌ {A = Plain × Bits} (v, x) (w, y) → (v ≡ w) × (c ≡ d)
    two v w c d x y p q k = (ap (λ z. z.0) k, same_front c d x (sym p ∙ q ∙ ap (λ z. d ++ z) (sym (ap (λ z. z.1) k))))

pub one_reading : OneReading
one_reading t id h v w b c more s k e =
    let o = one_outcome t id h c in
    let r = o.one_value v w b c more [] e (sym (append-nil c)) s k in (r.1, r.0)

pub faults_stay : FaultsStay
faults_stay t id b more g short h = stays_within t 32 id b more g short h

-- ---- canonical spellings

pub same_value : SameValue
same_value t id h v w b c x y s k p q = (
  (λ e. one_canonical t id (record { rules = h.rules; there = h.there }) w x y (subst (λ z. Canon t id z x) e p) q),
  (λ e. (one_reading t id h v w x y [] (canon_spells t 32 id v x p) (canon_spells t 32 id w y q) (sym e ∙ sym (append-nil x))).1),
)

-- ---- there and back

pub packed_is_read : PackedIsRead
packed_is_read t id h v b rest s = (reading_is_exact t id h (b ++ rest)).1 (Ok (v, rest)) (b, refl, canon_spells t 32 id v b s)

pub read_is_packed : ReadIsPacked
read_is_packed t id h v b s short =
    let c = (has_canonical t id h v).0 b s in
    let size = one_size t id h v c.0 b (canon_spells t 32 id v c.0 c.1) s in
    record { spelling = c.0; is = c.1; size = size; no_fault = λ g f. (packing_is_decided t id h v).not_both c.0 g c.1 (omega arith) f }
