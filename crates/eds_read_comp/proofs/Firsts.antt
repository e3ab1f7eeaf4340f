-- What variables start with, as a function tells it.
use Rattle.std.proofs.Common.{◌≡◌, ◌≤◌, ℕ, List, length, Option, Some, None, refl, sym, subst, ◌∙◌}
use Rattle.std.specs.Prelude.{option_map, IfSome, IfNone, IfOk, Result, Ok, Err}
use Rattle.std.proofs.lemmas.Option.{slice_get_past}
use Rattle.eds_base.specs.Reading.{◌>>=◌}
use Rattle.eds_base.specs.declared.fail.Memory.{Memory}
use Rattle.eds_types.specs.declared.row.TypeRow.{TypeRow}
use Rattle.eds_types.specs.declared.value.Value.{Value}
use Rattle.eds_types.specs.Plain.{Plain, plain}
use Rattle.eds_types.specs.Rows.{Table}
use Rattle.eds_types.specs.TextValues.{text_value_of}
use Rattle.eds_pack.specs.Defaults.{DefaultsWithin}
use Rattle.eds_read_comp.specs.FirstValues.{IsFirst, TellsFirsts, WhereTold}

-- a type that isn't there has no value to start with
pub absent : (t : Table) (id : ℕ) (initial : Option (List ℕ)) (v : Plain) → length t ≤ id → IsFirst t id initial v → ⊥
unfolding DefaultsWithin
absent t id None v le h = let no : ◌≡◌ {A = Option TypeRow} None (Some h.is.0) = sym (slice_get_past t id le) ∙ h.is.1 in cc
absent t id (Some text) v le h = let no : ◌≡◌ {A = Option Plain} None (Some v) = subst (λ o. (o >>= λ (row : TypeRow). text_value_of row.kind text) ≡ Some v) (slice_get_past t id le) h.0 in cc

module _ (table : Table) (id : ℕ) (initial : Option (List ℕ)) where
  -- what is found is what a function tells
  told-by : (firsts : ℕ → Option (List ℕ) → Option Plain) → TellsFirsts table firsts → (o : Option Value) → IfSome o (λ v. IsFirst table id initial (plain v))
      → IfNone o ((v : Plain) → IsFirst table id initial v → ⊥) → option_map plain o ≡ firsts id initial
  told-by firsts told (Some v) some none = sym (told.given id initial (plain v) some)
  told-by firsts told None some none = go (firsts id initial) refl
    where
      go : (f : Option Plain) → firsts id initial ≡ f → None ≡ firsts id initial
      go None e = sym e
      go (Some v) e = absurd (none v (told.only id initial v e))

  pub told-ok : (r : Result (Option Value) Memory) → IfOk r (λ o. IfSome o (λ v. IsFirst table id initial (plain v))) → IfOk r (λ o. IfNone o ((v : Plain) → IsFirst table id initial v → ⊥))
      → IfOk r (λ o. WhereTold table (λ firsts. option_map plain o ≡ firsts id initial))
  told-ok (Ok o) some none = λ firsts told. told-by firsts told o some none
  told-ok (Err e) some none = tt
