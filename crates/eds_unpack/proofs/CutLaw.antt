-- Octets behind which no more come are packets and nothing else, or are up to one fault.
use Rattle.eds_base.specs.declared.fault.Fault.{Fault}
use Rattle.eds_base.specs.declared.fault.Reason.TheVariants.{Short}
use Rattle.std.proofs.Common.{◌≡◌, ◌≢◌, ℕ, ◌<◌, List, [], ◌∷◌, length, refl, sym, subst, ◌∙◌, ◌⊎◌, inl, inr}
use Rattle.eds_unpack.specs.Packets.{Framing, Packet, AreCut}
use Rattle.eds_unpack.specs.Splitting.{IsFraming, FailsIn, WantsMore, Answer, packet, more, refused}
use Rattle.eds_unpack.specs.Pieces.{EndsWith, IsSplit, IsLastFault, IsCutUpTo, HasOneCut, OneCut}
use Rattle.eds_unpack.proofs.Cutting.{one_fault, one_refusal, wants_or_refused}
use Rattle.eds_unpack.proofs.PiecesLaw.{firsts, only_split, whole_cut, one_split}

some_or_none : (xs : List ℕ) → (xs ≡ []) ⊎ (xs ≢ [])
some_or_none [] = inl refl
some_or_none (x ∷ xs) = inr (λ e. absurd cc)

wanted : (k : Framing) (o : List ℕ) (g : Fault) → FailsIn k o g → g.reason ≡ Short → length o < k.most → WantsMore k o
wanted k o g f e few = record { fault = g; fails = f; short = e; few = few }

-- the answer of a call that meets the fault
abbrev answer_at : (k : Framing) (o : List ℕ) (g : Fault) → IsLastFault k o g → Answer
answer_at k o g (inl x) = refused g
answer_at k o g (inr x) = more

ends_at : (k : Framing) (o : List ℕ) (g : Fault) → (x : IsLastFault k o g) → EndsWith k o (answer_at k o g x)
ends_at k o g (inl x) = x
ends_at k o g (inr x) = wanted k o g x.0 x.1 x.2

split_at : (k : Framing) (o : List ℕ) (ps : List Packet) (g : Fault) → (x : IsCutUpTo k o ps g) → IsSplit k o ps (answer_at k x.rest g x.fails) x.rest
split_at k o ps g x = record { front = x.front; is = x.is; cut = x.cut; ends = ends_at k x.rest g x.fails }

one_last : (k : Framing) → IsFraming k → (o : List ℕ) (g h : Fault) → IsLastFault k o g → IsLastFault k o h → g ≡ h
one_last k is o g h (inl x) (inl y) = one_refusal k is o g h x y
one_last k is o g h (inl x) (inr y) = absurd (wants_or_refused k is o g (wanted k o h y.0 y.1 y.2) x)
one_last k is o g h (inr x) (inl y) = absurd (wants_or_refused k is o h (wanted k o g x.0 x.1 x.2) y)
one_last k is o g h (inr x) (inr y) = one_fault k is o g h x.0 y.0

-- the fault of what is left, where a call would give this answer
last_fault : (k : Framing) (o : List ℕ) (a : Answer) → EndsWith k o a → (g : Fault) × IsLastFault k o g
last_fault k o (packet p) x = absurd x
last_fault k o more x = (x.fault, inr (x.fails, x.short, x.few))
last_fault k o (refused g) x = (g, inl x)

module _ (k : Framing) (is : IsFraming k) (o : List ℕ) where
  whole_or_not : (ps : List Packet) (a : Answer) (r : List ℕ) → IsSplit k o ps a r → (r ≡ []) ⊎ (r ≢ []) → ((ps : List Packet) × AreCut k ps o) ⊎ ((ps : List Packet) × (g : Fault) × IsCutUpTo k o ps g)
  whole_or_not ps a r s (inl e) = inl (ps, (whole_cut k is o ps a r s ps).1 (e, refl))
  whole_or_not ps a r s (inr n) = let f = last_fault k r a s.ends in inr (ps, f.0, record { front = s.front; rest = r; is = s.is; cut = s.cut; some = n; fails = f.1 })

  no_rest : (ps qs : List Packet) (g : Fault) → AreCut k ps o → IsCutUpTo k o qs g → ⊥
  no_rest ps qs g c x = x.some ((whole_cut k is o qs (answer_at k x.rest g x.fails) x.rest (split_at k o qs g x) ps).0 c).0

  same_faults : (ps qs : List Packet) (g h : Fault) → IsCutUpTo k o ps g → IsCutUpTo k o qs h → (ps ≡ qs) × (g ≡ h)
  same_faults ps qs g h x y =
      let e = only_split k is o ps qs (answer_at k x.rest g x.fails) (answer_at k y.rest h y.fails) x.rest y.rest (split_at k o ps g x) (split_at k o qs h y) in
      (e.0, one_last k is x.rest g h x.fails (subst (λ r. IsLastFault k r h) (sym e.2) y.fails))

  pub one_cut_of : HasOneCut k o
  one_cut_of =
      let s = one_split k is o in
      record {
        either = whole_or_not s.packets s.last s.rest s.is (some_or_none s.rest);
        one_cut = λ ps qs c d. (((whole_cut k is o s.packets s.last s.rest s.is ps).0 c).1) ∙ sym (((whole_cut k is o s.packets s.last s.rest s.is qs).0 d).1);
        one_fault = same_faults;
        not_both = no_rest;
        longest = λ ps qs g front rest x e c. firsts k is qs ps o front rest x.front x.rest (answer_at k x.rest g x.fails) e c x.is x.cut (ends_at k x.rest g x.fails);
      }

pub one_cut : OneCut
one_cut k is octets = one_cut_of k is octets
