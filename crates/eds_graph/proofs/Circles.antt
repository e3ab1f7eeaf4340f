-- Numbers from which a circle is reached.
use Rattle.std.proofs.Common.{◌≡◌, ℕ, length, true, false, List, sym, ◌∙◌, subst, arith, inl, inr, ◌⊎◌}
use Rattle.std.specs.List.{list_any, range_with_len}
use Rattle.eds_graph.specs.Search.{Has}
use Rattle.eds_graph.specs.Ways.{children, leads, is_on_circle, is_met, is_circle_met, reaches_circle}
use Rattle.eds_graph.proofs.Tests.{and-both, and-left, and-right, alike, not-true, no-both, any-has, has-any, has-range}
use Rattle.eds_graph.proofs.Leading.{leads-is, leads-within, leads-child, met-itself, met-leads, met-or}

module _ (g : List (List ℕ)) where
  -- a number on a circle that is met
  pub reaches-by : (a b : ℕ) → is_met g a b ≡ true → is_on_circle g b ≡ true → reaches_circle g a ≡ true
  reaches-by a b m e = any-has (is_circle_met g a) (range_with_len 0 (length g)) b (let lt = leads-within g b b e in has-range 0 (length g) b (omega arith) (omega arith)) (and-both (is_met g a b) (is_on_circle g b) m e)

  pub reaches-own : (a : ℕ) → is_on_circle g a ≡ true → reaches_circle g a ≡ true
  reaches-own a e = reaches-by a a (met-itself g a) e

  pub reaches-child : (a c : ℕ) → Has (children g a) c → reaches_circle g c ≡ true → reaches_circle g a ≡ true
  reaches-child a c h e =
      let p = has-any (is_circle_met g c) (range_with_len 0 (length g)) e in
      reaches-by a p.one (met-leads g a p.one (leads-child g a p.one c h (and-left (is_met g c p.one) (is_on_circle g p.one) p.test))) (and-right (is_met g c p.one) (is_on_circle g p.one) p.test)

  pub clear-child : (a c : ℕ) → Has (children g a) c → reaches_circle g a ≡ false → reaches_circle g c ≡ false
  clear-child a c h e = not-true (reaches_circle g c) (λ k. no-both (reaches_circle g a) (reaches-child a c h k) e)

  pub clear-own : (a : ℕ) → reaches_circle g a ≡ false → is_on_circle g a ≡ false
  clear-own a e = not-true (is_on_circle g a) (λ k. no-both (reaches_circle g a) (reaches-own a k) e)

  -- a number on no circle reaches one where one of its children does
  pub reaches-is : (a : ℕ) → is_on_circle g a ≡ false → reaches_circle g a ≡ list_any (reaches_circle g) (children g a)
  reaches-is a none = alike (reaches_circle g a) (list_any (reaches_circle g) (children g a))
      (λ e. let p = has-any (is_circle_met g a) (range_with_len 0 (length g)) e in
      let on = and-right (is_met g a p.one) (is_on_circle g p.one) p.test in
      go p.one on (met-or g a p.one (and-left (is_met g a p.one) (is_on_circle g p.one) p.test)))
      (λ e. let p = has-any (reaches_circle g) (children g a) e in reaches-child a p.one p.there p.test)
    where
      go : (b : ℕ) → is_on_circle g b ≡ true → (a ≡ b) ⊎ (leads g a b ≡ true) → list_any (reaches_circle g) (children g a) ≡ true
      go b on (inl s) = absurd (no-both (is_on_circle g b) on (subst (λ n. is_on_circle g n ≡ false) s none))
      go b on (inr l) =
          let p = has-any (λ c. is_met g c b) (children g a) (sym (leads-is g a b) ∙ l) in
          any-has (reaches_circle g) (children g a) p.one p.there (reaches-by p.one b p.test on)
