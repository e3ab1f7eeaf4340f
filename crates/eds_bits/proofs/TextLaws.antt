-- The octets at the front of bits, and where a termination octet stands.
use Rattle.std.proofs.Common.{◌≡◌, ℕ, zero, suc, ◌+◌, ◌-◌, ◌*◌, ◌/◌, ◌<◌, ◌≤◌, Bool, true, false, cond, List, [], ◌∷◌, ◌++◌, length, get_or, take, drop, All, refl, sym, ap, subst, ◌∙◌, arith, ◌==◌}
use Rattle.std.proofs.lemmas.Bool.{eqb-true, eqb-false, eq-eqb, ne_eqb}
use Rattle.std.proofs.lemmas.List.{take-take, drop-take, take-append-drop, append-nil, length-take}
use Rattle.std.proofs.lemmas.List.Elements.{All-take, All-drop}
use Rattle.eds_bits.specs.Bits.{Bits, bits_of, octets_of}
use Rattle.eds_bits.specs.Lists.{Has}
use Rattle.eds_bits.specs.Scalars.{before_stop}
use Rattle.eds_bits.specs.Texts.{front_octets, whole}
use Rattle.eds_bits.proofs.OctetLaws.{take-bits_of, drop-bits_of, oct_whole, filled_whole, octets_of-bits_of, bits_of-octets_of, octets_of_below, length-octets_of}

-- ---- the octets at the front

pub length-front_octets : (n : ℕ) (bs : Bits) → 8 * n ≤ length bs → length (front_octets n bs) ≡ n
length-front_octets n bs h = length-octets_of (take (8 * n) bs) ∙ oct_whole n (take (8 * n) bs) (omega (arith, length-take (8 * n) bs))

pub bits_of-front_octets : (n : ℕ) (bs : Bits) → 8 * n ≤ length bs → bits_of (front_octets n bs) ≡ take (8 * n) bs
bits_of-front_octets n bs h = bits_of-octets_of (take (8 * n) bs) ∙ filled_whole n (take (8 * n) bs) (omega (arith, length-take (8 * n) bs))

pub front_octets_below : (n : ℕ) (bs : Bits) → All (λ o. o < 256) (front_octets n bs)
front_octets_below n bs = octets_of_below (take (8 * n) bs)

-- octets whose bits stand at the front are those at the front
pub front_octets_are : (n : ℕ) (bs : Bits) (os : List ℕ) → All (λ o. o < 256) os → bits_of os ≡ take (8 * n) bs → front_octets n bs ≡ os
front_octets_are n bs os all e = ap octets_of (sym e) ∙ octets_of-bits_of os all

-- fewer of them, and those behind some of them
pub take-front_octets : (k n : ℕ) (bs : Bits) → k ≤ n → 8 * n ≤ length bs → front_octets k bs ≡ take k (front_octets n bs)
take-front_octets k n bs few h =
    front_octets_are k bs (take k (front_octets n bs)) (All-take (λ o. o < 256) k (front_octets n bs) (front_octets_below n bs))
    (sym (take-bits_of k (front_octets n bs)) ∙ ap (take (8 * k)) (bits_of-front_octets n bs h) ∙ take-take (8 * k) (8 * n) bs (omega arith))

pub drop-front_octets : (k n : ℕ) (bs : Bits) → 8 * (k + n) ≤ length bs → front_octets n (drop (8 * k) bs) ≡ drop k (front_octets (k + n) bs)
drop-front_octets k n bs h =
    let size : 8 * (k + n) ≡ 8 * k + 8 * n = omega arith in
    front_octets_are n (drop (8 * k) bs) (drop k (front_octets (k + n) bs)) (All-drop (λ o. o < 256) k (front_octets (k + n) bs) (front_octets_below (k + n) bs))
    (sym (drop-bits_of k (front_octets (k + n) bs)) ∙ ap (drop (8 * k)) (bits_of-front_octets (k + n) bs h) ∙ ap (λ m. drop (8 * k) (take m bs)) size ∙ drop-take (8 * k) (8 * n) bs)

pub length-whole : (bs : Bits) → length (whole bs) ≡ length bs / 8
length-whole bs = length-front_octets (length bs / 8) bs (omega arith)

pub take-whole : (n : ℕ) (bs : Bits) → 8 * n ≤ length bs → take n (whole bs) ≡ front_octets n bs
take-whole n bs h = sym (take-front_octets n (length bs / 8) bs (omega arith) (omega arith))

-- ---- the octets before the first termination octet

pub none_has : {A : Type 0} (x : A) → Has [] x → ⊥
none_has {A = A} x h = go h.before h.is
  where
    go : (xs : List A) → [] ≡ xs ++ x ∷ h.after → ⊥
    go [] e = cc
    go (y ∷ ys) e = cc

first_has : (o : ℕ) (os : List ℕ) → Has (o ∷ os) o
first_has o os = record { before = []; after = os; is = refl }

later_has : (x stop : ℕ) (os : List ℕ) → Has os stop → Has (x ∷ os) stop
later_has x stop os h = record { before = x ∷ h.before; after = h.after; is = ap (λ r. x ∷ r) h.is }

more_has : (x stop : ℕ) (os : List ℕ) → (x ≡ stop → ⊥) → Has (x ∷ os) stop → Has os stop
more_has x stop os ne h = go h.before h.is
  where
    go : (ys : List ℕ) → x ∷ os ≡ ys ++ stop ∷ h.after → Has os stop
    go [] e = let q : x ≡ stop = cc in absurd (ne q)
    go (y ∷ ys) e = let q : os ≡ ys ++ stop ∷ h.after = cc in record { before = ys; after = h.after; is = q }

before_by : ℕ → ℕ → List ℕ → Bool → List ℕ
before_by stop o os b = cond b [] (o ∷ before_stop stop os)

before_here : (stop o : ℕ) (os : List ℕ) → o ≡ stop → before_stop stop (o ∷ os) ≡ []
unfolding before_by
before_here stop o os e = ap (before_by stop o os) (eq-eqb o stop e)

before_on : (stop o : ℕ) (os : List ℕ) → (o ≡ stop → ⊥) → before_stop stop (o ∷ os) ≡ o ∷ before_stop stop os
unfolding before_by
before_on stop o os ne = ap (before_by stop o os) (ne_eqb o stop ne)

-- a fact about the octets before the termination octet, by whether the first octet is one
by_first : (stop o : ℕ) (os : List ℕ) (P : Type 0) → (o ≡ stop → P) → ((o ≡ stop → ⊥) → P) → P
by_first stop o os P here on = go (o == stop) refl
  where
    go : (b : Bool) → (o == stop) ≡ b → P
    go true e = here (eqb-true o stop e)
    go false e = on (eqb-false o stop e)

-- they are a front, in which the termination octet does not stand, and behind which it stands or nothing does
pub record Before (stop : ℕ) (os : List ℕ) : Type 0 where
  pub front : before_stop stop os ≡ take (length (before_stop stop os)) os
  pub short : length (before_stop stop os) ≤ length os
  pub free : Has (before_stop stop os) stop → ⊥
  pub end : length (before_stop stop os) < length os → get_or os (length (before_stop stop os)) 0 ≡ stop
  pub has : Has os stop → length (before_stop stop os) < length os

pub before_is : (stop : ℕ) (os : List ℕ) → Before stop os
before_is stop [] = record { front = refl; short = omega arith; free = none_has stop; end = λ h. absurd (omega arith); has = λ h. absurd (none_has stop h) }
before_is stop (o ∷ os) =
    let later = before_is stop os in
    by_first stop o os (Before stop (o ∷ os))
    (λ e. (let is = before_here stop o os e in record {
      front = is ∙ sym (ap (λ r. take (length r) (o ∷ os)) is);
      short = omega (arith, ap length is);
      free = λ h. none_has stop (subst (λ r. Has r stop) is h);
      end = λ h. ap (λ r. get_or (o ∷ os) (length r) 0) is ∙ e;
      has = λ h. omega (arith, ap length is);
    }))
    (λ ne. (let is = before_on stop o os ne in record {
      front = is ∙ ap (λ r. o ∷ r) later.front ∙ sym (ap (λ r. take (length r) (o ∷ os)) is);
      short = omega (arith, ap length is, later.short);
      free = λ h. later.free (more_has o stop (before_stop stop os) ne (subst (λ r. Has r stop) is h));
      end = λ h. ap (λ r. get_or (o ∷ os) (length r) 0) is ∙ later.end (omega (arith, ap length is));
      has = λ h. omega (arith, ap length is, later.has (more_has o stop os ne h));
    }))

-- octets without the termination octet stand before those that follow them
pub before-append : (stop : ℕ) (xs ys : List ℕ) → (Has xs stop → ⊥) → before_stop stop (xs ++ ys) ≡ xs ++ before_stop stop ys
before-append stop [] ys free = refl
before-append stop (x ∷ xs) ys free =
    before_on stop x (xs ++ ys) (λ e. free (subst (λ y. Has (x ∷ xs) y) e (first_has x xs)))
    ∙ ap (λ r. x ∷ r) (before-append stop xs ys (λ h. free (later_has x stop xs h)))

-- behind a termination octet nothing counts
pub before-append_has : (stop : ℕ) (xs ys : List ℕ) → length (before_stop stop xs) < length xs → before_stop stop (xs ++ ys) ≡ before_stop stop xs
before-append_has stop [] ys h = absurd (omega arith)
before-append_has stop (x ∷ xs) ys h =
    by_first stop x xs (before_stop stop (x ∷ (xs ++ ys)) ≡ before_stop stop (x ∷ xs))
    (λ e. before_here stop x (xs ++ ys) e ∙ sym (before_here stop x xs e))
    (λ ne. (let is = before_on stop x xs ne in
    before_on stop x (xs ++ ys) ne ∙ ap (λ r. x ∷ r) (before-append_has stop xs ys (omega (arith, ap length is))) ∙ sym is))

-- the first place of the termination octet is the number of octets before it
pub before_first : (stop : ℕ) (os : List ℕ) (k : ℕ) → k < length os → get_or os k 0 ≡ stop → ((i : ℕ) → i < k → get_or os i 0 ≡ stop → ⊥) → length (before_stop stop os) ≡ k
before_first stop [] k h is none = absurd (omega arith)
before_first stop (o ∷ os) zero h is none = ap length (before_here stop o os is)
before_first stop (o ∷ os) (suc k) h is none =
    ap length (before_on stop o os (none 0 (omega arith)))
    ∙ ap suc (before_first stop os k (omega arith) is (λ i l. none (suc i) (omega arith)))

-- where there is none, all octets are before it
pub before_none : (stop : ℕ) (os : List ℕ) → ((i : ℕ) → i < length os → get_or os i 0 ≡ stop → ⊥) → before_stop stop os ≡ os
before_none stop [] none = refl
before_none stop (o ∷ os) none = before_on stop o os (none 0 (omega arith)) ∙ ap (λ r. o ∷ r) (before_none stop os (λ i l. none (suc i) (omega arith)))

-- octets in which the termination octet does not stand are all before it
pub before_free : (stop : ℕ) (os : List ℕ) → (Has os stop → ⊥) → before_stop stop os ≡ os
before_free stop os free = ap (before_stop stop) (sym (append-nil os)) ∙ before-append stop os [] free ∙ append-nil os

-- a front that holds the termination octet says where it stands in the whole
pub before-take : (stop n : ℕ) (os : List ℕ) → length (before_stop stop (take n os)) < length (take n os) → before_stop stop os ≡ before_stop stop (take n os)
before-take stop n os h = ap (before_stop stop) (sym (take-append-drop n os)) ∙ before-append_has stop (take n os) (drop n os) h

pub has_at : (stop : ℕ) (os : List ℕ) → length (before_stop stop os) < length os → Has os stop
has_at stop [] h = absurd (omega arith)
has_at stop (o ∷ os) h =
    by_first stop o os (Has (o ∷ os) stop)
    (λ e. subst (λ y. Has (o ∷ os) y) e (first_has o os))
    (λ ne. later_has o stop os (has_at stop os (omega (arith, ap length (before_on stop o os ne)))))
