-- Ends of ranges as the code moves them, in 128 bits.
use Rattle.std.proofs.Common.{◌≡◌, ℤ, pos, ◌+ℤ◌, ◌-ℤ◌, ◌≤ℤ◌, ◌<ℤ◌, ◌↔◌, sym, subst, arith}
use Rattle.std.proofs.lemmas.Int.{ints, to_z-of_z}
use Rattle.std.specs.Int.{saturate_signed, int_max, int_min}
use mir.Syntax.{w128}
use mir.Val.{SFits, to_z, of_z}
use Rattle.eds_base.specs.Spans.{bottom, top}
use Rattle.eds_base.proofs.SpansLemmas.{max_bounds, min_bounds}
use Rattle.eds_domains.specs.declared.range.End.{End}
use Rattle.eds_domains.specs.declared.range.End.TheVariants.{Exclusive}
use Rattle.eds_domains.specs.Ranges.{IsFrom, IsTo}

-- one more, as far as there is one
one_more : (n s m : ℤ) → SFits w128 n → s ≡ saturate_signed w128 (to_z w128 (of_z w128 n) +ℤ pos 1) → m ≤ℤ top → (s ≤ℤ m → n <ℤ m) × (n <ℤ m → s ≤ℤ m)
one_more n s m f e h = (λ k. grind (arith, ints), λ k. grind (arith, ints))

more_fits : (n s : ℤ) → SFits w128 n → s ≡ saturate_signed w128 (to_z w128 (of_z w128 n) +ℤ pos 1) → SFits w128 s
more_fits n s f e = grind (arith, ints)

-- one less, as far as there is one
one_less : (n s m : ℤ) → SFits w128 n → s ≡ saturate_signed w128 (to_z w128 (of_z w128 n) -ℤ pos 1) → bottom ≤ℤ m → (m ≤ℤ s → m <ℤ n) × (m <ℤ n → m ≤ℤ s)
one_less n s m f e h = (λ k. grind (arith, ints), λ k. grind (arith, ints))

less_fits : (n s : ℤ) → SFits w128 n → s ≡ saturate_signed w128 (to_z w128 (of_z w128 n) -ℤ pos 1) → SFits w128 s
less_fits n s f e = grind (arith, ints)

trans : (a b c : ℤ) → a ≤ℤ b → b ≤ℤ c → a ≤ℤ c
trans a b c h k = omega (arith, ints)

pub raised_beyond : (end : End) (low k s r n : ℤ) → SFits w128 low → SFits w128 k → Exclusive k ≡ end → s ≡ saturate_signed w128 (to_z w128 (of_z w128 k) +ℤ pos 1) → r ≡ int_max (to_z w128 (of_z w128 low)) (to_z w128 (of_z w128 s)) → n ≤ℤ top
    → (to_z w128 (of_z w128 r) ≤ℤ n) ↔ ((low ≤ℤ n) × IsFrom end n)
raised_beyond end low k s r n f g is e h t =
    let m = max_bounds low s r f (more_fits k s g e) h in
    let one = one_more k s n g e t in
    rw (to_z-of_z w128 r m.3) (
      λ a. (trans low r n m.0 a, subst (λ x. IsFrom x n) is (one.0 (trans s r n m.1 a))),
      λ b. m.2 n b.0 (one.1 (subst (λ x. IsFrom x n) (sym is) b.1)),
    )

pub lowered_beyond : (end : End) (high k s r n : ℤ) → SFits w128 high → SFits w128 k → Exclusive k ≡ end → s ≡ saturate_signed w128 (to_z w128 (of_z w128 k) -ℤ pos 1) → r ≡ int_min (to_z w128 (of_z w128 high)) (to_z w128 (of_z w128 s)) → bottom ≤ℤ n
    → (n ≤ℤ to_z w128 (of_z w128 r)) ↔ ((n ≤ℤ high) × IsTo end n)
lowered_beyond end high k s r n f g is e h t =
    let m = min_bounds high s r f (less_fits k s g e) h in
    let one = one_less k s n g e t in
    rw (to_z-of_z w128 r m.3) (
      λ a. (trans n r high a m.0, subst (λ x. IsTo x n) is (one.0 (trans n r s a m.1))),
      λ b. m.2 n b.0 (one.1 (subst (λ x. IsTo x n) (sym is) b.1)),
    )
