-- Where no container derives from another one, none overlap.
use Rattle.std.proofs.Common.{◌≡◌, ℕ, true, List, [], ◌∷◌, ◌++◌, length, Option, Some, None, refl, sym, ap, ◌∙◌, arith}
use Rattle.std.specs.Prelude.{IsSome}
use Rattle.std.proofs.lemmas.List.{length-append}
use Rattle.eds_types.specs.declared.row.Container.{Container}
use Rattle.eds_types.specs.Rows.{Table, base_of, container_of, concrete_in, is_concrete, chain, chain_before, chain_within}
use Rattle.eds_types.specs.Rules.{IsContainer}
use Rattle.eds_overlap.specs.Underived.{UnderivedAreClear}

concrete_container : (t : Table) (id : ℕ) → is_concrete t id ≡ true → IsContainer t id
concrete_container t id h = go (container_of t id) h
  where
    go : (o : Option Container) → concrete_in o ≡ true → IsSome o
    go None h = absurd cc
    go (Some c) h = refl

lone_chain : (t : Table) (id : ℕ) → base_of t id ≡ None → chain t id ≡ id ∷ []
unfolding chain_within
lone_chain t id e = ap (λ o. chain_before (chain_within 15 t) o ++ id ∷ []) e

chain_longer : (t : Table) (x k one : ℕ) (more : List ℕ) → chain t k ≡ k ∷ [] → chain t k ≡ chain t x ++ one ∷ more → ⊥
unfolding chain_within
chain_longer t x k one more e h =
    let before = chain_before (chain_within 15 t) (base_of t x) in
    let p : length (k ∷ []) ≡ length ((before ++ x ∷ []) ++ one ∷ more) = ap length (sym e ∙ h) in
    omega (arith, p, length-append (before ++ x ∷ []) (one ∷ more), length-append before (x ∷ []))

pub underived_are_clear : UnderivedAreClear
underived_are_clear t roots id closed = record {
  not_open = closed;
  apart = λ x k l o. chain_longer t x k o.one (o.to_first).0 (lone_chain t k (roots k (concrete_container t k o.first))) (o.to_first).1;
}
