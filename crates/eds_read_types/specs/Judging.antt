-- Rules that are judged one phase after another.
use Rattle.std.specs.Prelude.{List, [], ◌∷◌, ◌++◌}
use Rattle.eds_base.specs.declared.refusal.Refusal.{Refusal}

-- some breaks, and others that are judged only where there are none of these
abbrev pub judged_first : List Refusal → List Refusal → List Refusal
judged_first [] others = others
judged_first (r ∷ rs) others = r ∷ rs

-- all that breaks the rules of one phase, of which each item lists what breaks one rule
abbrev pub breaks_in_phase : List (List Refusal) → List Refusal
breaks_in_phase [] = []
breaks_in_phase (rule ∷ rules) = rule ++ breaks_in_phase rules

-- the same over all phases, each judged only where no phase before it is broken
abbrev pub breaks_by_phase : List (List (List Refusal)) → List Refusal
breaks_by_phase [] = []
breaks_by_phase (phase ∷ phases) = judged_first (breaks_in_phase phase) (breaks_by_phase phases)
