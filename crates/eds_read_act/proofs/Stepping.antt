-- Conditions and statements, one level deeper.
use Rattle.std.proofs.Common.{◌≡◌, ◌≢◌, ℕ, zero, suc, ◌-◌, Result, IfOk, refl, ap, ◌∙◌, subst, arith}
use Rattle.eds_base.specs.declared.fail.Memory.{Memory}
use Rattle.eds_plan.specs.declared.activity.Guard.{Guard}
use Rattle.eds_plan.specs.declared.activity.Statement.{Statement}
use Rattle.eds_plan.specs.Statements.{Condition, condition, Stmt, stmt}
use Rattle.eds_read_act.specs.declared.activity_sort.ActivitySort.{ActivitySort}
use Rattle.eds_read_act.specs.ActivitySorts.{sort_at}
use Rattle.eds_read_act.specs.Bodies.{condition_as, condition_at, statement_as, statement_at, body_by}
use Rattle.eds_read_act.specs.Scopes.{Scope}

-- what was read is what another word for it says
pub read_as : (r : Result Statement Memory) (a b : Stmt) → a ≡ b → IfOk r (λ s. stmt s ≡ a) → IfOk r (λ s. stmt s ≡ b)
read_as r a b e h = let P : Stmt → Type 0 = λ x. IfOk r (λ s. stmt s ≡ x) in subst P e h

pub guard_as : (r : Result Guard Memory) (a b : Condition) → a ≡ b → IfOk r (λ g. condition g ≡ a) → IfOk r (λ g. condition g ≡ b)
guard_as r a b e h = let P : Condition → Type 0 = λ x. IfOk r (λ g. condition g ≡ x) in subst P e h

module _ (s : Scope) where
  pub statement-by : (depth n : ℕ) (k : ActivitySort) → depth ≢ 0 → k ≡ sort_at s.tree n → statement_as s k (body_by s (λ m. statement_at s (depth - 1) m)) n ≡ statement_at s depth n
  statement-by zero n k h is = absurd (h refl)
  statement-by (suc depth) n k h is =
      let e : suc depth - 1 ≡ depth = omega arith in
      ap (λ d. statement_as s k (body_by s (λ m. statement_at s d m)) n) e ∙ ap (λ (j : ActivitySort). statement_as s j (body_by s (λ m. statement_at s depth m)) n) is

  pub condition-by : (depth n : ℕ) (k : ActivitySort) → depth ≢ 0 → k ≡ sort_at s.tree n → condition_as s k (λ child. condition_at s (depth - 1) child) n ≡ condition_at s depth n
  condition-by zero n k h is = absurd (h refl)
  condition-by (suc depth) n k h is =
      let e : suc depth - 1 ≡ depth = omega arith in
      ap (λ d. condition_as s k (λ child. condition_at s d child) n) e ∙ ap (λ (j : ActivitySort). condition_as s j (λ child. condition_at s depth child) n) is
