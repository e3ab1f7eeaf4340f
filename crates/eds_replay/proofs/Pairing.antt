-- A recording beside what left a run.
use Rattle.std.proofs.Common.{◌≡◌, ℕ, List, ◌++◌, codes, true, false, refl, ◌∙◌, inl, inr}
use Rattle.std.proofs.lemmas.List.{append_cancel_right}
use Rattle.std.proofs.lemmas.Slice.Eq.{bytes_eq-Decides}
use Rattle.std.specs.Str.{bytes_eq}
use Rattle.eds_types.specs.Rows.{Table}
use Rattle.eds_types.specs.Rules.{KeepsRules}
use Rattle.eds_plan.specs.Outs.{Report}
use Rattle.eds_plan.specs.declared.component.ComponentPlan.{ComponentPlan}
use Rattle.eds_script.specs.Known.{KnowsTypes}
use Rattle.eds_script.specs.Laws.{OneLine}
use Rattle.eds_replay.specs.Agreement.{Agrees, IsEventText, IsRespelled}

module _ (t : Table) (plan : List ComponentPlan) (r : Report) (text got : List ℕ) (law : OneLine) (rules : KeepsRules t) (known : KnowsTypes t plan) (got_is : IsEventText t plan r got) (other : false ≡ bytes_eq got text) where
  -- the text is another one than the event's
  not-text : IsEventText t plan r text → ⊥
  not-text h =
      let same : got ≡ text = append_cancel_right got text (codes "\n") (law t plan r (got ++ codes "\n") (text ++ codes "\n") rules known got_is h) in
      let wrong : false ≡ true = other ∙ (bytes_eq-Decides got text).1 same in
      cc

  pub agrees-otherwise : IsRespelled t plan r text → Agrees t plan text r 1
  agrees-otherwise h = inr (not-text, h, refl)

  pub never-agrees : (IsRespelled t plan r text → ⊥) → (n : ℕ) → Agrees t plan text r n → ⊥
  never-agrees never n (inl h) = not-text h.0
  never-agrees never n (inr h) = never h.1
