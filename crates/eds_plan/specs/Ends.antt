-- The ends of components, by their texts.
use Rattle.std.specs.Prelude.{ℕ, ◌+◌, List, [], ◌∷◌, ◌++◌, codes, Option, Some, None, option_map, if◌then◌else◌, slice_get}
use Rattle.eds_base.specs.Reading.{◌>>=◌, same}
use Rattle.eds_types.specs.Rows.{or_else}
use Rattle.eds_plan.specs.declared.component.ComponentPlan.{ComponentPlan}
use Rattle.eds_plan.specs.declared.component.EndPlan.{EndPlan}
use Rattle.eds_plan.specs.declared.run.End.{End}

-- ---- `Qualified/Component:end`

-- the text of an end: the qualified name of its component, a colon, and its own name
abbrev pub end_text : List ℕ → List ℕ → List ℕ
end_text component name = component ++ codes ":" ++ name

-- an end with its text
abbrev pub Called : Type 0
Called = List ℕ × End

-- an end with its text, by the number of its component and its own
abbrev pub called : List ℕ → (comp face : ℕ) → EndPlan → Called
called component comp face e = (end_text component e.name, record { comp = record { 0 = comp }; face = face })

-- the ends of a component from a number on
abbrev pub ends_from : List ℕ → (comp face : ℕ) → List EndPlan → List Called
ends_from component comp face [] = []
ends_from component comp face (e ∷ es) = called component comp face e ∷ ends_from component comp (face + 1) es

-- the ends of all components from a number on, in document order
abbrev pub all_ends : (comp : ℕ) → List ComponentPlan → List Called
all_ends comp [] = []
all_ends comp (c ∷ cs) = ends_from c.name comp 0 c.ends ++ all_ends (comp + 1) cs

-- ---- look-up

-- an end, where this is its text
abbrev pub end_called : Called → List ℕ → Option End
end_called c text = if same text c.0 then Some c.1 else None

-- the first end of that text
abbrev pub first_called : List Called → List ℕ → Option End
first_called [] text = None
first_called (c ∷ cs) text = or_else (end_called c text) (first_called cs text)

-- the end that a text names
abbrev pub end_named : List ComponentPlan → List ℕ → Option End
end_named plan text = first_called (all_ends 0 plan) text

-- what a plan has of an end
abbrev pub end_at : List ComponentPlan → End → Option EndPlan
end_at plan e = slice_get plan e.comp.0 >>= λ c. slice_get c.ends e.face

-- the end that a text names, with what the plan has of it
abbrev pub found_end : List ComponentPlan → List ℕ → Option (End × EndPlan)
found_end plan text = end_named plan text >>= λ e. option_map (λ p. (e, p)) (end_at plan e)
