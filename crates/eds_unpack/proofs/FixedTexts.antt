-- Texts that are compared with those of bits.
use Rattle.std.proofs.Common.{◌≡◌, ℕ, zero, suc, ◌+◌, ◌-◌, ◌*◌, ◌<◌, ◌≤◌, Bool, true, false, cond, ◌==◌, List, [], ◌∷◌, length, take, drop, Ok, Err, refl, sym, ap, ◌∙◌, arith}
use Rattle.std.specs.Prelude.{◌&&◌}
use Rattle.std.proofs.Math.Bool.{and_assoc}
use Rattle.std.proofs.lemmas.Bool.{eqb-true, ne_eqb, false_from_ne_true}
use Rattle.std.proofs.lemmas.List.{take-append-drop, drop-drop, length-take}
use Rattle.eds_base.specs.Reading.{same as same_octets}
use Rattle.eds_base.specs.declared.fault.Reason.{Reason}
use Rattle.eds_bits.specs.Bits.{Bits, unsigned_of}
use Rattle.eds_bits.specs.Lists.{Has}
use Rattle.eds_bits.specs.Scalars.{before_stop}
use Rattle.eds_bits.specs.Texts.{front_octets}
use Rattle.eds_types.specs.Failing.{fault_here}
use Rattle.eds_types.specs.Plain.{Plain}
use Rattle.eds_types.specs.Reading.{Read, judge, judged, expected, same}
use Rattle.eds_types.proofs.SameValues.{same_text-is}
use Rattle.eds_types.proofs.TextReading.{octs, octets_octs, octs_within, length_octs}

front_octs : (k : ℕ) (b : Bits) → 8 * k ≤ length b → front_octets k b ≡ octs k b
front_octs k b h =
    let n : length (take (8 * k) b) ≡ 8 * k = omega (arith, length-take (8 * k) b) in
    octets_octs k (take (8 * k) b) n ∙ sym (octs_within k (take (8 * k) b) (drop (8 * k) b) (omega arith)) ∙ ap (octs k) (take-append-drop (8 * k) b)

length_before : (stop : ℕ) (os : List ℕ) → length (before_stop stop os) ≤ length os
length_before stop [] = omega arith
length_before stop (o ∷ os) = go (o == stop) (length_before stop os)
  where
    go : (is : Bool) → length (before_stop stop os) ≤ length os → length (cond is [] (o ∷ before_stop stop os)) ≤ length (o ∷ os)
    go true h = omega arith
    go false h = omega arith

-- a text with more octets than there are is another one
pub text_too_long : (stop count : ℕ) (wanted : List ℕ) (b : Bits) → 8 * count ≤ length b → count < length wanted → same_octets (before_stop stop (front_octets count b)) wanted ≡ false
text_too_long stop count wanted b h long =
    false_from_ne_true (same_octets (before_stop stop (front_octets count b)) wanted) (λ e. omega (arith, length_before stop (front_octets count b), ap length (same_text-is (before_stop stop (front_octets count b)) wanted e), ap length (front_octs count b h), length_octs count b))

-- what stands behind a text: nothing, or the termination octet
abbrev ends : ℕ → ℕ → Bits → Bool
ends stop zero c = true
ends stop (suc k) c = unsigned_of (take 8 c) == stop

text_split : (stop : ℕ) (wanted : List ℕ) (count left : ℕ) (b : Bits) → count ≡ length wanted + left → (Has wanted stop → ⊥)
    → same_octets (before_stop stop (octs count b)) wanted ≡ (same_octets (octs (length wanted) b) wanted && ends stop left (drop (8 * length wanted) b))
unfolding octs
text_split stop [] count zero b e free = ap (λ n. same_octets (before_stop stop (octs n b)) []) e
text_split stop [] count (suc k) b e free = ap (λ n. same_octets (before_stop stop (octs n b)) []) n ∙ go (unsigned_of (take 8 b) == stop)
  where
    n : count ≡ suc k
    n = omega arith

    go : (is : Bool) → same_octets (cond is [] (unsigned_of (take 8 b) ∷ before_stop stop (octs k (drop 8 b)))) [] ≡ is
    go true = refl
    go false = refl
text_split stop (w ∷ ws) count left b e free =
    ap (λ n. same_octets (before_stop stop (octs n b)) (w ∷ ws)) n
    ∙ go (unsigned_of (take 8 b) == stop) refl (text_split stop ws (length ws + left) left (drop 8 b) refl later)
  where
    n : count ≡ suc (length ws + left)
    n = omega arith

    later : Has ws stop → ⊥
    later h = free (record { before = w ∷ h.before; after = h.after; is = ap (λ l. w ∷ l) h.is })

    here : w ≡ stop → ⊥
    here q = free (record { before = []; after = ws; is = ap (λ x. x ∷ ws) q })

    behind : drop (8 * length ws) (drop 8 b) ≡ drop (8 * length (w ∷ ws)) b
    behind = drop-drop (8 * length ws) 8 b ∙ ap (λ m. drop m b) (omega arith)

    go : (is : Bool) → (unsigned_of (take 8 b) == stop) ≡ is
        → same_octets (before_stop stop (octs (length ws + left) (drop 8 b))) ws ≡ (same_octets (octs (length ws) (drop 8 b)) ws && ends stop left (drop (8 * length ws) (drop 8 b)))
        → same_octets (cond is [] (unsigned_of (take 8 b) ∷ before_stop stop (octs (length ws + left) (drop 8 b)))) (w ∷ ws) ≡ (same_octets (octs (length (w ∷ ws)) b) (w ∷ ws) && ends stop left (drop (8 * length (w ∷ ws)) b))
    go true q ih =
        let ne : (unsigned_of (take 8 b) == w) ≡ false = ne_eqb (unsigned_of (take 8 b)) w (λ r. here (sym r ∙ eqb-true (unsigned_of (take 8 b)) stop q)) in
        ap (λ x. (x && same_octets (octs (length ws) (drop 8 b)) ws) && ends stop left (drop (8 * length (w ∷ ws)) b)) (sym ne)
    go false q ih =
        ap (λ x. (unsigned_of (take 8 b) == w) && x) ih
        ∙ sym (and_assoc (unsigned_of (take 8 b) == w) (same_octets (octs (length ws) (drop 8 b)) ws) (ends stop left (drop (8 * length ws) (drop 8 b))))
        ∙ ap (λ c. ((unsigned_of (take 8 b) == w) && same_octets (octs (length ws) (drop 8 b)) ws) && ends stop left c) behind

module _ (stop count : ℕ) (wanted : List ℕ) (b : Bits) (enough : 8 * count ≤ length b) (some : length wanted ≤ count) (free : Has wanted stop → ⊥) where
  split : (left : ℕ) → count ≡ length wanted + left → same_octets (before_stop stop (front_octets count b)) wanted ≡ (same_octets (front_octets (length wanted) b) wanted && ends stop left (drop (8 * length wanted) b))
  split left e =
      ap (λ os. same_octets (before_stop stop os) wanted) (front_octs count b enough)
      ∙ text_split stop wanted count left b e free
      ∙ ap (λ os. same_octets os wanted && ends stop left (drop (8 * length wanted) b)) (sym (front_octs (length wanted) b (omega arith)))

  -- its octets are others
  pub text_differs : same_octets (front_octets (length wanted) b) wanted ≡ false → same_octets (before_stop stop (front_octets count b)) wanted ≡ false
  text_differs f = split (count - length wanted) (omega arith) ∙ ap (λ x. x && ends stop (count - length wanted) (drop (8 * length wanted) b)) f

  -- its octets are all that there are
  pub text_fills : same_octets (front_octets (length wanted) b) wanted ≡ true → count ≡ length wanted → same_octets (before_stop stop (front_octets count b)) wanted ≡ true
  text_fills t e = split 0 (omega arith) ∙ ap (λ x. x && true) t

  -- the octet behind it says whether it ends there
  pub text_ends : same_octets (front_octets (length wanted) b) wanted ≡ true → (count ≡ length wanted → ⊥) → same_octets (before_stop stop (front_octets count b)) wanted ≡ (unsigned_of (take 8 (drop (8 * length wanted) b)) == stop)
  text_ends t ne = split (suc (count - length wanted - 1)) (omega arith) ∙ ap (λ x. x && (unsigned_of (take 8 (drop (8 * length wanted) b)) == stop)) t

-- ---- what is judged

-- the value is the one that is expected, or not
pub as_expected : (v w : Plain) (why : Reason) (b rest : Bits) (r : Read Plain) (x : Bool) → r ≡ Ok (w, rest) → x ≡ same w v → judge (expected v why) r ≡ judged rest (cond x (Ok tt) (Err (fault_here why)))
as_expected v w why b rest r x e f = ap (judge (expected v why)) e ∙ ap (λ y. judged rest (cond y (Ok tt) (Err (fault_here why)))) (sym f)
