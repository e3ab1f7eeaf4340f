-- The laws of types and values, from the facts that the rules give.
use Rattle.std.proofs.Common.{◌≡◌, ◌≤◌, length, sym, ap, ◌∙◌, ◌⊎◌, inl, inr, refl, arith}
use Rattle.std.proofs.lemmas.Bool.{cases_lt}
use Rattle.eds_bits.specs.Bits.{Bits}
use Rattle.eds_bits.specs.Style.{canonical}
use Rattle.eds_types.specs.declared.reason.PackReason.TheVariants.{TooLong}
use Rattle.eds_types.specs.Laws.{OneSize, HasCanonical, OneCanonical, LeastIsLeast, PackingIsDecided}
use Rattle.eds_types.specs.Packing.{PackFault, pack_fault_here, most_bits, PackFailsWithin, PackFailsAt}
use Rattle.eds_types.specs.Spelling.{Canon, SpellsWithin}
use Rattle.eds_types.proofs.CanonicalSpelling.{canon_within}
use Rattle.eds_types.proofs.DecidedPacking.{Decided}
use Rattle.eds_types.proofs.LeastBound.{least_bound}
use Rattle.eds_types.proofs.OneCanonical.{unique_within}
use Rattle.eds_types.proofs.PackingLaws.{packs_within}
use Rattle.eds_types.proofs.RuleFacts.{table_of, facts_of}
use Rattle.eds_types.proofs.SpellingSizes.{canon_spells, same_size}

pub one_size : OneSize
one_size t id h v b c s k = same_size t (facts_of t h.rules).numbered 32 id v b c s k

pub has_canonical : HasCanonical
has_canonical t id h v = ((λ b s. canon_within t (facts_of t h.rules) 32 id v b s), λ c s. canon_spells t 32 id v c s)

pub one_canonical : OneCanonical
one_canonical t id h v b c s k = unique_within t (facts_of t h.rules) 32 id v b c s k

pub least_is_least : LeastIsLeast
least_is_least t id h v b s = least_bound t (facts_of t h.rules) 32 id v b s

pub packing_is_decided : PackingIsDecided
packing_is_decided t id h v = record { either = go d.either; one_place = one; not_both = apart }
  where
    d : Decided (SpellsWithin 32 canonical t id v) (PackFailsWithin 32 t id v)
    d = packs_within t (table_of t h.rules) (facts_of t h.rules) 32 id ((table_of t h.rules).nested id) h.there v

    go : (((b : Bits) × Canon t id v b) ⊎ ((g : PackFault) × PackFailsWithin 32 t id v g)) → ((b : Bits) × Canon t id v b × (length b ≤ most_bits)) ⊎ ((g : PackFault) × PackFailsAt t id v g)
    go (inr f) = inr (f.0, inl f.1)
    go (inl s) = elim (cases_lt most_bits (length s.0)) [
      | inl long ↦ inr (pack_fault_here TooLong, inr (record { nothing_else = λ w f. d.apart s.0 w s.1 f; spelling = s.0; is = s.1; long = long }, refl))
      | inr short ↦ inl (s.0, s.1, short)
    ]

    one : (g k : PackFault) → PackFailsAt t id v g → PackFailsAt t id v k → g ≡ k
    one g k (inl f) (inl e) = d.one g k f e
    one g k (inl f) (inr e) = absurd ((e.0).nothing_else g f)
    one g k (inr f) (inl e) = absurd ((f.0).nothing_else k e)
    one g k (inr f) (inr e) = f.1 ∙ sym e.1

    apart : (b : Bits) (g : PackFault) → Canon t id v b → length b ≤ most_bits → PackFailsAt t id v g → ⊥
    apart b g s l (inl f) = d.apart b g s f
    apart b g s l (inr f) = let e = ap length (one_canonical t id h v b (f.0).spelling s (f.0).is) in let m = (f.0).long in omega arith
