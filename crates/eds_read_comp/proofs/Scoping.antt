-- Scopes that are read from the same elements are one.
use Rattle.std.proofs.Common.{◌≡◌, ℕ, Option, refl, subst}
use Rattle.std.specs.Prelude.{Result, IfOk}
use Rattle.eds_base.specs.declared.fail.Memory.{Memory}
use Rattle.eds_base.specs.declared.refusal.Refusal.{Refusal}
use Rattle.eds_base.specs.Refusals.{least}
use Rattle.eds_read_act.specs.Scopes.{Scope}
use Rattle.eds_read_comp.specs.Plans.{breaks_in}

pub scope-made : (s r : Scope) → s.tree ≡ r.tree → s.table ≡ r.table → s.ends ≡ r.ends → s.variables ≡ r.variables → s.activities ≡ r.activities → s.transactions ≡ r.transactions → s.arguments ≡ r.arguments → s ≡ r
scope-made s r a b d e f g h = rw (a, b, d, e, f, g, h) refl

pub breaks-in : (file n : ℕ) (s r : Scope) → s ≡ r → (o : Result (Option Refusal) Memory) → IfOk o (λ x. x ≡ least (breaks_in file s n)) → IfOk o (λ x. x ≡ least (breaks_in file r n))
breaks-in file n s r e o h = subst (λ z. IfOk o (λ x. x ≡ least (breaks_in file z n))) e h
