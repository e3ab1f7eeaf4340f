-- The first in order of some texts is the least of them.
use Rattle.std.proofs.Common.{Ordering, Less, Equal, Greater, ◌≡◌, ℕ, suc, Bool, true, false, List, [], ◌∷◌, Some, None, unwrap_or, inl, inr, refl, sym, ap, ◌∙◌, subst, arith}
use Rattle.std.specs.Prelude.{All, ◌↔◌, ◌⊎◌}
use Rattle.std.specs.List.{IsAmong}
use Rattle.std.specs.Ordering.{nat_cmp, is_lt, ordering_reverse}
use Rattle.std.specs.Cmp.Lexicographic.{slice_cmp}
use Rattle.std.proofs.lemmas.Cmp.{nat_list_cmp_total}
use Rattle.std.proofs.lemmas.List.Elements.{All-cons, All-nil}
use Rattle.eds_tree.specs.ByteOrder.{precedes, first_from, first_in_order}

less : (o : Ordering) → is_lt o ≡ true → o ≡ Less
less Less h = refl
less Equal h = cc
less Greater h = cc

precedes_trans : (a b c : List ℕ) → precedes a b ≡ true → precedes b c ≡ true → precedes a c ≡ true
precedes_trans a b c h k = ap is_lt (nat_list_cmp_total.trans a b c (less (slice_cmp nat_cmp a b) h) (less (slice_cmp nat_cmp b c) k))

not_itself : (a : List ℕ) → precedes a a ≡ false
not_itself a = go (slice_cmp nat_cmp a a) refl (nat_list_cmp_total.antisymm a a)
  where
    go : (o : Ordering) → slice_cmp nat_cmp a a ≡ o → slice_cmp nat_cmp a a ≡ ordering_reverse (slice_cmp nat_cmp a a) → precedes a a ≡ false
    go Less e h = let h = rw e at h in cc
    go Equal e h = rw e refl
    go Greater e h = rw e refl

-- what does not come before the middle one does not come before what does not come after it
precedes_not : (a b c : List ℕ) → precedes a b ≡ false → precedes b c ≡ false → precedes a c ≡ false
precedes_not a b c h k = go (precedes a c) refl
  where
    -- b before a, or equal to it
    back : (o : Ordering) → slice_cmp nat_cmp b a ≡ o → precedes a c ≡ true → precedes a c ≡ false
    back Less e t = let later = precedes_trans b a c (ap is_lt e) t in absurd (let both = sym later ∙ k in cc)
    back Equal e t = let later : precedes b c ≡ true = ap is_lt (nat_list_cmp_total.congr b a c e) ∙ t in absurd (let both = sym later ∙ k in cc)
    back Greater e t = let earlier : precedes a b ≡ true = ap is_lt (nat_list_cmp_total.antisymm a b ∙ ap ordering_reverse e) in absurd (let both = sym earlier ∙ h in cc)

    go : (r : Bool) → precedes a c ≡ r → precedes a c ≡ false
    go false e = e
    go true e = back (slice_cmp nat_cmp b a) refl e

-- the first of one that is found and of some texts is that one or among them, and nothing comes before it
record Least (found : List ℕ) (texts : List (List ℕ)) (first : List ℕ) : Type 0 where
  one : (found ≡ first) ⊎ IsAmong texts first
  found_after : precedes found first ≡ false
  texts_after : All (λ other. precedes other first ≡ false) texts

among-cons : (x : List ℕ) (xs : List (List ℕ)) (y : List ℕ) → IsAmong xs y → IsAmong (x ∷ xs) y
among-cons x xs y h = (suc h.0, (omega (arith, h.1.0), h.1.1))

least_from : (found : List ℕ) (texts : List (List ℕ)) (first : List ℕ) → first_from (Some found) texts ≡ Some first → Least found texts first
least_from found [] first h =
    let e : found ≡ first = ap (λ o. unwrap_or o found) h in
    record { one = inl e; found_after = subst (λ w. precedes found w ≡ false) e (not_itself found); texts_after = All-nil _ }
least_from found (text ∷ texts) first h = go (precedes text found) refl (λ k. least_from text texts first k) (λ k. least_from found texts first k)
  where
    go : (b : Bool) → precedes text found ≡ b → (first_from (Some text) texts ≡ Some first → Least text texts first) → (first_from (Some found) texts ≡ Some first → Least found texts first) → Least found (text ∷ texts) first
    go true e new old =
        let r = new (let h = rw e at h in h) in
        record {
          one = inr (own r.one);
          found_after = after (precedes found first) refl r.found_after;
          texts_after = All-cons (λ other. precedes other first ≡ false) text texts r.found_after r.texts_after;
        }
      where
        own : (text ≡ first) ⊎ IsAmong texts first → IsAmong (text ∷ texts) first
        own (inl q) = (0, (omega arith, sym q))
        own (inr q) = among-cons text texts first q

        after : (c : Bool) → precedes found first ≡ c → precedes text first ≡ false → precedes found first ≡ false
        after false q k = q
        after true q k = let t = precedes_trans text found first e q in absurd (let both = sym t ∙ k in cc)
    go false e new old =
        let r = old (let h = rw e at h in h) in
        record {
          one = own r.one;
          found_after = r.found_after;
          texts_after = All-cons (λ other. precedes other first ≡ false) text texts (precedes_not text found first e r.found_after) r.texts_after;
        }
      where
        own : (found ≡ first) ⊎ IsAmong texts first → (found ≡ first) ⊎ IsAmong (text ∷ texts) first
        own (inl q) = inl q
        own (inr q) = inr (among-cons text texts first q)

pub first_is_one : (texts : List (List ℕ)) (first : List ℕ) → first_in_order texts ≡ Some first → IsAmong texts first
first_is_one [] first h = cc
first_is_one (text ∷ texts) first h = go (least_from text texts first h).one
  where
    go : (text ≡ first) ⊎ IsAmong texts first → IsAmong (text ∷ texts) first
    go (inl q) = (0, (omega arith, sym q))
    go (inr q) = among-cons text texts first q

pub first_is_least : (texts : List (List ℕ)) (first : List ℕ) → first_in_order texts ≡ Some first → All (λ other. precedes other first ≡ false) texts
first_is_least [] first h = cc
first_is_least (text ∷ texts) first h = let r = least_from text texts first h in All-cons (λ other. precedes other first ≡ false) text texts r.found_after r.texts_after

some_from : (found : List ℕ) (texts : List (List ℕ)) → first_from (Some found) texts ≡ None → ⊥
some_from found [] h = cc
some_from found (text ∷ texts) h = go (precedes text found) refl (λ k. some_from text texts k) (λ k. some_from found texts k)
  where
    go : (b : Bool) → precedes text found ≡ b → (first_from (Some text) texts ≡ None → ⊥) → (first_from (Some found) texts ≡ None → ⊥) → ⊥
    go true e new old = let h = rw e at h in new h
    go false e new old = let h = rw e at h in old h

pub first_is_none : (texts : List (List ℕ)) → (first_in_order texts ≡ None) ↔ (texts ≡ [])
first_is_none texts = (none texts, λ e. ap first_in_order e)
  where
    none : (texts : List (List ℕ)) → first_in_order texts ≡ None → texts ≡ []
    none [] h = refl
    none (text ∷ texts) h = absurd (some_from text texts h)
