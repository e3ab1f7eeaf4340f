-- What is known where a call stops with a named cause.
use Rattle.std.specs.Prelude.{Result, Ok, Err, ⊤}
use Rattle.eds_base.specs.declared.fail.Fail.{Fail}
use Rattle.eds_base.specs.declared.fail.Fail.TheVariants.{Named, Memory}

-- what a named refusal says; want of memory says nothing
abbrev pub IsWhereNamed : {E : Type 0} → Type 0 → Fail E → Type 0
IsWhereNamed P (Named e) = P
IsWhereNamed P Memory = ⊤

-- it holds where a call stops with a named cause
abbrev pub OnNamed : {A E : Type 0} → Result A (Fail E) → Type 0 → Type 0
OnNamed (Ok x) P = ⊤
OnNamed (Err e) P = IsWhereNamed P e
