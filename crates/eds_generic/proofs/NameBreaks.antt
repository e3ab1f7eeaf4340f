-- Of the breaks of one rule that keep names at one place the first is the least.
use Rattle.std.proofs.Common.{◌≡◌, ℕ, Bool, false, List, [], ◌∷◌, ◌++◌, map, Option, Some, None, option_map, refl, sym, ◌∙◌, arith}
use Rattle.std.specs.Prelude.{nat_lt}
use Rattle.std.proofs.lemmas.Bool.Decides.{nat_tests}
use Rattle.std.proofs.lemmas.Bool.{eq-eqb}
use Rattle.eds_base.specs.declared.ids.Place.{Place}
use Rattle.eds_base.specs.declared.refusal.Refusal.{Refusal}
use Rattle.eds_base.specs.declared.refusal.Kept.TheVariants.{Word}
use Rattle.eds_base.specs.declared.rule.Rule.{Rule}
use Rattle.eds_base.specs.declared.rule.Rule.TheVariants.{DuplicateMember, Unmapped, UnknownGeneric, GenericBase}
use Rattle.eds_base.specs.Rules.{rule_number}
use Rattle.eds_base.specs.Refusals.{phase_by, comes_before, lexicographic, first_of, least}
use Rattle.eds_base.proofs.LeastLaws.{least-append}
use Rattle.eds_generic.specs.NameRules.{first, keeping}

lex-equal : (a b : ℕ) (p : Bool) → a ≡ b → p ≡ false → lexicographic a b p ≡ false
lex-equal a b p e h = rw (e, eq-eqb b b refl) h

not-less : (a : ℕ) → nat_lt a a ≡ false
not-less a = grind (arith, nat_tests)

module _ (rule : Rule) (one_phase : (v w : List ℕ) → phase_by rule (Word v) ≡ phase_by rule (Word w)) (at : Place) where
  not-before : (v w : List ℕ) → comes_before (keeping rule at w) (keeping rule at v) ≡ false
  unfolding comes_before
  not-before v w = lex-equal _ _ _ (one_phase w v) (lex-equal at.file at.file _ refl (lex-equal at.node at.node _ refl (not-less (rule_number rule))))

  least-keeping : (ws : List (List ℕ)) → least (map (keeping rule at) ws) ≡ option_map (keeping rule at) (first ws)
  least-keeping [] = refl
  least-keeping (w ∷ ws) = go (first ws) (least-keeping ws)
    where
      go : (o : Option (List ℕ)) → least (map (keeping rule at) ws) ≡ option_map (keeping rule at) o → first_of (Some (keeping rule at w)) (least (map (keeping rule at) ws)) ≡ Some (keeping rule at w)
      go None e = rw e refl
      go (Some v) e = rw e (rw (not-before w v) refl)

pub least-unmapped : (at : Place) (ws : List (List ℕ)) → least (map (keeping Unmapped at) ws) ≡ option_map (keeping Unmapped at) (first ws)
unfolding phase_by
least-unmapped at ws = least-keeping Unmapped (λ v w. refl) at ws

pub least-unknown : (at : Place) (ws : List (List ℕ)) → least (map (keeping UnknownGeneric at) ws) ≡ option_map (keeping UnknownGeneric at) (first ws)
unfolding phase_by
least-unknown at ws = least-keeping UnknownGeneric (λ v w. refl) at ws

pub least-generic_base : (at : Place) (ws : List (List ℕ)) → least (map (keeping GenericBase at) ws) ≡ option_map (keeping GenericBase at) (first ws)
unfolding phase_by
least-generic_base at ws = least-keeping GenericBase (λ v w. refl) at ws

pub least-duplicate : (at : Place) (ws : List (List ℕ)) → least (map (keeping DuplicateMember at) ws) ≡ option_map (keeping DuplicateMember at) (first ws)
unfolding phase_by
least-duplicate at ws = least-keeping DuplicateMember (λ v w. refl) at ws

-- ---- the least of some lists

pub least-joined : (xs ys : List Refusal) (a b p : Option Refusal) → a ≡ least xs → b ≡ least ys → p ≡ first_of a b → p ≡ least (xs ++ ys)
least-joined xs ys a b p ha hb hp = hp ∙ rw (ha, hb) (sym (least-append xs ys))

pub least-none : (rs : List Refusal) → least rs ≡ None → rs ≡ []
least-none [] h = refl
least-none (r ∷ rs) h = go (least rs) h
  where
    go : (o : Option Refusal) → first_of (Some r) o ≡ None → r ∷ rs ≡ []
    go None k = cc
    go (Some q) k = cc

pub least-of_four : (w x y z : List Refusal) (b c d e q r s : Option Refusal) → b ≡ least w → c ≡ least x → d ≡ least y → e ≡ least z
    → q ≡ first_of b c → r ≡ first_of q d → s ≡ first_of r e → s ≡ least (w ++ x ++ y ++ z)
least-of_four w x y z b c d e q r s hb hc hd he hq hr hs =
    least-joined (w ++ x ++ y) z r e s (least-joined (w ++ x) y q d r (least-joined w x b c q hb hc hq) hd hr) he hs
