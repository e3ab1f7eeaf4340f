-- An interface with too many members breaks that limit first.
use Rattle.std.proofs.Common.{◌≡◌, ℕ, ◌<◌, ◌≤◌, Bool, true, false, List, [], ◌++◌, length, map, codes, Option, Some, None, Result, Ok, Err, option_map, refl, sym, ap, ◌∙◌, arith}
use Rattle.std.specs.Prelude.{nat_lt, IsErrAnd}
use Rattle.std.proofs.lemmas.Bool.Decides.{nat_tests}
use Rattle.std.proofs.lemmas.Bool.{eq-eqb}
use Rattle.eds_base.specs.declared.ids.Place.{Place}
use Rattle.eds_base.specs.declared.ids.TypeId.{TypeId}
use Rattle.eds_base.specs.declared.refusal.Refusal.{Refusal}
use Rattle.eds_base.specs.declared.refusal.Kept.TheVariants.{Word}
use Rattle.eds_base.specs.declared.rule.Rule.{Rule}
use Rattle.eds_base.specs.declared.rule.Rule.TheVariants.{Limit, DuplicateMember, Unmapped, UnknownGeneric, GenericBase}
use Rattle.eds_base.specs.declared.fail.Fail.{Fail}
use Rattle.eds_base.specs.declared.fail.Fail.TheVariants.{Named, Memory}
use Rattle.eds_base.specs.Answering.{StopsAs, Answers}
use Rattle.eds_base.specs.Rules.{rule_number}
use Rattle.eds_base.specs.Refusals.{phase_by, comes_before, lexicographic, first_of, least}
use Rattle.eds_base.proofs.LeastLaws.{least-append, first_assoc}
use Rattle.eds_plan.specs.declared.instance.Instance.{Instance}
use Rattle.eds_plan.specs.declared.instance.Member.{Member}
use Rattle.eds_generic.specs.declared.face.Face.{Face}
use Rattle.eds_generic.specs.declared.pair.Pair.{Pair}
use Rattle.eds_generic.specs.Members.{members, repeated}
use Rattle.eds_generic.specs.NameRules.{first, keeping, limit_of, duplicates_of, breaks_unmapped, breaks_unknown, breaks_generic_base, names_under, unmapped_at, unknown_at, refused_at}
use Rattle.eds_generic.specs.Resolved.{pair_breaks, members_or_limit, unless}
use Rattle.eds_generic.proofs.NameBreaks.{least-duplicate, least-unmapped, least-unknown, least-generic_base}

-- ---- numbers of members

pub not-many : (n : ℕ) → n ≤ 1024 → nat_lt 1024 n ≡ false
not-many n h = grind (arith, nat_tests)

pub are-many : (n : ℕ) → 1024 < n → nat_lt 1024 n ≡ true
are-many n h = grind (arith, nat_tests)

less-many : (n : ℕ) → nat_lt 1024 n ≡ false → n ≤ 1024
less-many n h = grind (arith, nat_tests)

pub few-none : (at : Place) (ms : List Member) → length ms ≤ 1024 → limit_of at ms ≡ []
few-none at ms h = rw (not-many (length ms) h) refl

-- ---- the limit comes before the other rules at one place

lex-equal : (a b : ℕ) (p : Bool) → a ≡ b → p ≡ false → lexicographic a b p ≡ false
lex-equal a b p e h = rw (e, eq-eqb b b refl) h

abbrev limit : Place → Refusal
limit at = keeping Limit at (codes "members")

module _ (rule : Rule) (at : Place) (phase : (w : List ℕ) → phase_by rule (Word w) ≡ phase_by Limit (Word (codes "members"))) (later : nat_lt (rule_number rule) (rule_number Limit) ≡ false) where
  not-before : (w : List ℕ) → comes_before (keeping rule at w) (limit at) ≡ false
  unfolding comes_before
  not-before w = lex-equal _ _ _ (phase w) (lex-equal at.file at.file _ refl (lex-equal at.node at.node _ refl later))

  beats : (o : Option (List ℕ)) → first_of (Some (limit at)) (option_map (keeping rule at) o) ≡ Some (limit at)
  beats None = refl
  beats (Some w) = rw (not-before w) refl

  beats-first : (ws : List (List ℕ)) → least (map (keeping rule at) ws) ≡ option_map (keeping rule at) (first ws) → first_of (Some (limit at)) (least (map (keeping rule at) ws)) ≡ Some (limit at)
  beats-first ws e = ap (first_of (Some (limit at))) e ∙ beats (first ws)

  beats-after : (xs : List Refusal) (ws : List (List ℕ)) → least (map (keeping rule at) ws) ≡ option_map (keeping rule at) (first ws)
      → first_of (Some (limit at)) (least xs) ≡ Some (limit at) → first_of (Some (limit at)) (least (xs ++ map (keeping rule at) ws)) ≡ Some (limit at)
  beats-after xs ws e r =
      ap (first_of (Some (limit at))) (least-append xs (map (keeping rule at) ws)) ∙ sym (first_assoc (Some (limit at)) (least xs) (least (map (keeping rule at) ws)))
      ∙ ap (λ o. first_of o (least (map (keeping rule at) ws))) r ∙ beats-first ws e

limit-first : (faces : List Face) (types : List (Option TypeId)) (at : Place) (p : Pair) (ms : List Member)
    → first_of (Some (limit at)) (least (duplicates_of at ms ++ breaks_unmapped faces types at p ++ breaks_unknown faces types at p ++ breaks_generic_base faces types at p)) ≡ Some (limit at)
unfolding phase_by
limit-first faces types at p ms =
    beats-after GenericBase at (λ w. refl) refl (duplicates_of at ms ++ breaks_unmapped faces types at p ++ breaks_unknown faces types at p) (names_under refused_at faces types p) (least-generic_base at (names_under refused_at faces types p))
    (beats-after UnknownGeneric at (λ w. refl) refl (duplicates_of at ms ++ breaks_unmapped faces types at p) (names_under unknown_at faces types p) (least-unknown at (names_under unknown_at faces types p))
    (beats-after Unmapped at (λ w. refl) refl (duplicates_of at ms) (names_under unmapped_at faces types p) (least-unmapped at (names_under unmapped_at faces types p))
    (beats-first DuplicateMember at (λ w. refl) refl (repeated ms) (least-duplicate at (repeated ms)))))

err-same : (a b : Refusal) → ◌≡◌ {A = Result (List Member) Refusal} (Err a) (Err b) → a ≡ b
err-same a b e = cc

pub named-stop : {A : Type 0} (stop : Fail Refusal) (q : Refusal) (answer : Result A Refusal) → stop ≡ Named q → StopsAs stop answer → answer ≡ Err q
named-stop (Named p) q answer e w = let same : p ≡ q = cc in w ∙ ap Err same
named-stop Memory q answer e w = absurd cc

-- ---- few members, or the limit

module _ (faces : List Face) (types : List (Option TypeId)) (at : Place) (p : Pair) where
  pub or-few : length (members faces p) ≤ 1024 → (ms : List Member) → ms ≡ members faces p → members_or_limit faces at p ≡ Ok ms
  or-few h ms e = rw (not-many (length (members faces p)) h) (ap Ok (sym e))

  pub or-many : 1024 < length (members faces p) → (r : Refusal) → r ≡ limit at → members_or_limit faces at p ≡ Err r
  or-many h r e = rw (are-many (length (members faces p)) h) (ap Err (sym e))

  pub limit-least : (r : Refusal) → members_or_limit faces at p ≡ Err r → least (pair_breaks faces types at p) ≡ Some r
  limit-least r h = go (nat_lt 1024 (length (members faces p))) refl
    where
      go : (b : Bool) → nat_lt 1024 (length (members faces p)) ≡ b → least (pair_breaks faces types at p) ≡ Some r
      go true e = let is : limit at ≡ r = err-same (limit at) r (sym (rw e refl) ∙ h) in rw e (limit-first faces types at p (members faces p) ∙ ap Some is)
      go false e = let k : Ok (members faces p) ≡ Err r = sym (rw e refl) ∙ h in cc

  pub few-members : (ms : List Member) → members_or_limit faces at p ≡ Ok ms → (ms ≡ members faces p) × (length ms ≤ 1024)
  few-members ms h = go (nat_lt 1024 (length (members faces p))) refl
    where
      go : (b : Bool) → nat_lt 1024 (length (members faces p)) ≡ b → (ms ≡ members faces p) × (length ms ≤ 1024)
      go true e = let k : Err (limit at) ≡ Ok ms = sym (rw e refl) ∙ h in cc
      go false e = let is : ms ≡ members faces p = let k : Ok (members faces p) ≡ Ok ms = sym (rw e refl) ∙ h in cc in (is, rw is (less-many (length (members faces p)) e))

  -- where the members are refused so is the interface
  pub stopped : (r : Result Instance (Fail Refusal)) (stop : Fail Refusal) (i : Instance) → IsErrAnd r (λ e. e ≡ stop) → StopsAs stop (members_or_limit faces at p) → Answers (λ j. j) r (unless (least (pair_breaks faces types at p)) i)
  stopped (Ok x) stop i h w = absurd h
  stopped (Err e) (Named q) i h w = rw h (ap (λ o. unless o i) (limit-least q w))
  stopped (Err e) Memory i h w = rw h tt
