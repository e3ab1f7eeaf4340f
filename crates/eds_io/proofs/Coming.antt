-- One read more.
use Rattle.std.proofs.Common.{◌≡◌, ℕ, ◌+◌, List, [], ◌∷◌, ◌++◌, length, take, Result, Err, refl, sym, ap, ◌∙◌, subst, arith, append-nil, length-append}
use Rattle.std.specs.List.{flat_map}
use Rattle.std.proofs.lemmas.Grind.{flat_map-append}
use Rattle.eds_base.specs.declared.fail.Fail.{Fail}
use Rattle.eds_base.specs.declared.fail.Fail.TheVariants.{Memory}
use Rattle.eds_io.specs.declared.whole.ReadEnd.{ReadEnd}
use Rattle.eds_io.specs.Reads.{Given, octets_of, AreMade, Come, EndsBy}

pub come-nothing : {S : Type 0} (gives : S → List ℕ → ℕ → Given → S → Type 0) (name : List ℕ) (s : S) → Come gives name s [] s
come-nothing gives name s = ([], refl, refl)

made-more : {S : Type 0} (gives : S → List ℕ → ℕ → Given → S → Type 0) (name : List ℕ) (from : ℕ) (reads : List Given) (a b c : S) (g : Given)
    → AreMade gives name from a reads b → gives b name (from + length (flat_map octets_of reads)) g c → AreMade gives name from a (reads ++ g ∷ []) c
made-more gives name from [] a b c g made next =
    let here : from + 0 ≡ from = omega arith in
    (c, subst (λ s. gives s name from g c) (sym made) (subst (λ n. gives b name n g c) here next), refl)
made-more gives name from (r ∷ rs) a b c g made next =
    let there : from + length (flat_map octets_of (r ∷ rs)) ≡ from + length (octets_of r) + length (flat_map octets_of rs) = omega (arith, length-append (octets_of r) (flat_map octets_of rs)) in
    (made.0, made.1, made-more gives name (from + length (octets_of r)) rs made.0 b c g made.2 (subst (λ n. gives b name n g c) there next))

pub come-more : {S : Type 0} (gives : S → List ℕ → ℕ → Given → S → Type 0) (name : List ℕ) (a b c : S) (octets : List ℕ) (from : ℕ) (g : Given)
    → length octets ≡ from → Come gives name a octets b → gives b name from g c → Come gives name a (octets ++ octets_of g) c
come-more gives name a b c octets from g long came next =
    let at : from ≡ 0 + length (flat_map octets_of came.0) = omega (arith, long, ap length came.2) in (
      came.0 ++ g ∷ [],
      made-more gives name 0 came.0 a b c g came.1 (subst (λ n. gives b name n g c) at next),
      flat_map-append octets_of came.0 (g ∷ []) ∙ ap (λ xs. xs ++ flat_map octets_of (g ∷ [])) came.2 ∙ ap (λ xs. octets ++ xs) (append-nil (octets_of g)),
    )

-- one that gave no octets
pub come-end : {S : Type 0} (gives : S → List ℕ → ℕ → Given → S → Type 0) (name : List ℕ) (a b c : S) (octets : List ℕ) (from : ℕ) (g : Given)
    → length octets ≡ from → Come gives name a octets b → gives b name from g c → octets_of g ≡ [] → Come gives name a octets c
come-end gives name a b c octets from g long came next none =
    subst (λ xs. Come gives name a xs c) (ap (λ xs. octets ++ xs) none ∙ append-nil octets) (come-more gives name a b c octets from g long came next)

pub take-none : (room : List ℕ) (n : ℕ) → n ≡ 0 → take n room ≡ []
take-none room n e = rw e refl

pub ends-memory : (most : ℕ) (came : List ℕ) (r : Result (List ℕ) (Fail ReadEnd)) → r ≡ Err Memory → EndsBy most came r
ends-memory most came r e = subst (EndsBy most came) (sym e) tt
