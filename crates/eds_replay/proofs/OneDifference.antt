-- There is one first difference at most.
use Rattle.std.proofs.Common.{◌≡◌, ℕ, List, [], ◌∷◌, ◌++◌, codes, sym, ◌∙◌, arith, inl, inr}
use Rattle.std.proofs.lemmas.List.{append_cancel_right}
use Rattle.eds_types.specs.Rows.{Table}
use Rattle.eds_types.specs.Rules.{KeepsRules}
use Rattle.eds_plan.specs.Outs.{Report}
use Rattle.eds_plan.specs.declared.component.ComponentPlan.{ComponentPlan}
use Rattle.eds_replay.specs.declared.differs.Differs.{Differs}
use Rattle.eds_replay.specs.declared.session.Recorded.{Recorded}
use Rattle.eds_replay.specs.Agreement.{Agrees, IsEventText}
use Rattle.eds_script.specs.Known.{KnowsTypes}
use Rattle.eds_script.specs.Laws.{OneLine}
use Rattle.eds_replay.specs.Differences.{AllAgree, IsFirstDifference}

same-differs : (d e : Differs) → d.line ≡ e.line → d.want ≡ e.want → d.got ≡ e.got → d ≡ e
same-differs d e line want got = λ i. record { line = line i; want = want i; got = got i }

module _ (law : OneLine) (t : Table) (plan : List ComponentPlan) (rules : KeepsRules t) (known : KnowsTypes t plan) where
  one-text : (r : Report) (a b : List ℕ) → IsEventText t plan r a → IsEventText t plan r b → a ≡ b
  one-text r a b h k = append_cancel_right a b (codes "\n") (law t plan r (a ++ codes "\n") (b ++ codes "\n") rules known h k)

  agrees-once : (text : List ℕ) (r : Report) (m n : ℕ) → Agrees t plan text r m → Agrees t plan text r n → m ≡ n
  agrees-once text r m n (inl h) (inl k) = h.1 ∙ sym k.1
  agrees-once text r m n (inl h) (inr k) = absurd (k.0 h.0)
  agrees-once text r m n (inr h) (inl k) = absurd (h.0 k.0)
  agrees-once text r m n (inr h) (inr k) = h.2 ∙ sym k.2

  pub one-count : (xs : List Recorded) (rs : List Report) (n k : ℕ) → AllAgree t plan xs rs n → AllAgree t plan xs rs k → n ≡ k
  one-count [] [] n k h j = h ∙ sym j
  one-count [] (r ∷ rs) n k h j = absurd h
  one-count (x ∷ xs) [] n k h j = absurd h
  one-count (x ∷ xs) (r ∷ rs) n k h j =
      let first = agrees-once x.text r h.0 j.0 h.2 j.2 in
      let others = one-count xs rs h.1 j.1 h.3 j.3 in
      omega (arith, first, others, h.4, j.4)

  pub one-difference : (owner : ℕ) (xs : List Recorded) (rs : List Report) (d e : Differs) → IsFirstDifference t plan owner xs rs d → IsFirstDifference t plan owner xs rs e → d ≡ e
  one-difference owner [] [] d e h k = absurd h
  one-difference owner [] (r ∷ rs) d e h k = same-differs d e (h.line ∙ sym k.line) (h.want ∙ sym k.want) (one-text r d.got e.got h.got k.got)
  one-difference owner (x ∷ xs) [] d e h k = same-differs d e (h.line ∙ sym k.line) (h.want ∙ sym k.want) (h.got ∙ sym k.got)
  one-difference owner (x ∷ xs) (r ∷ rs) d e (inl h) (inl k) = same-differs d e (h.line ∙ sym k.line) (h.want ∙ sym k.want) (one-text r d.got e.got h.got k.got)
  one-difference owner (x ∷ xs) (r ∷ rs) d e (inl h) (inr k) = absurd (h.never k.0 k.1)
  one-difference owner (x ∷ xs) (r ∷ rs) d e (inr h) (inl k) = absurd (k.never h.0 h.1)
  one-difference owner (x ∷ xs) (r ∷ rs) d e (inr h) (inr k) = one-difference owner xs rs d e h.2 k.2
