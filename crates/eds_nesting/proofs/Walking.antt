-- Bases step by step, and lists that grow by one.
use Rattle.std.proofs.Common.{◌≡◌, ℕ, zero, suc, ◌+◌, ◌-◌, ◌<◌, ◌++◌, map, List, [], ◌∷◌, Some, None, refl, sym, ap, ◌∙◌, arith}
use Rattle.std.specs.List.{range_with_len}
use Rattle.std.proofs.lemmas.List.FromFn.{map-range_with_len_more}
use Rattle.eds_types.specs.Rows.{Table, base_of}
use Rattle.eds_nesting.specs.Families.{base_after, after_base}

pub after-none : (n : ℕ) (t : Table) (id : ℕ) → n ≡ 0 → base_after n t id ≡ id
unfolding base_after
after-none zero t id e = refl
after-none (suc n) t id e = absurd cc

pub after-end : (n : ℕ) (t : Table) (id : ℕ) → base_of t id ≡ None → base_after n t id ≡ id
unfolding base_after
after-end zero t id e = refl
after-end (suc n) t id e = ap (after_base (base_after n t) id) e

pub after-next : (n : ℕ) (t : Table) (id base : ℕ) → 0 < n → base_of t id ≡ Some base → base_after (n - 1) t base ≡ base_after n t id
unfolding base_after
after-next zero t id base h e = absurd (omega arith)
after-next (suc n) t id base h e = let back : suc n - 1 ≡ n = omega arith in rw back (sym (ap (after_base (base_after n t) id) e))

-- one answer more
pub one-more : {A : Type 0} (f : ℕ → A) (n : ℕ) (x : A) (before after : List A) → before ≡ map f (range_with_len 0 n) → after ≡ before ++ x ∷ [] → x ≡ f n → after ≡ map f (range_with_len 0 (n + 1))
one-more f n x before after b a e =
    a ∙ ap (λ xs. xs ++ x ∷ []) b ∙ ap (λ y. map f (range_with_len 0 n) ++ y ∷ []) e ∙ sym (map-range_with_len_more f 0 n n (omega arith))
