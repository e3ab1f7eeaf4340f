-- What is told over plans that are seen alike.
use Rattle.std.proofs.Common.{◌≡◌, ℕ, List, [], ◌∷◌, ◌++◌, map, Bool, Option, slice_get, option_map, Result, Ok, refl, sym, ap, ap₂, ◌∙◌}
use Rattle.std.specs.Prelude.{not}
use Rattle.std.specs.List.{flat_map}
use Rattle.std.proofs.Math.Path.{fun_ext, subst₂}
use Rattle.eds_base.specs.Answering.{◌>>=◌, or_stop}
use Rattle.eds_types.specs.Plain.{Plain}
use Rattle.eds_types.specs.Rows.{Table}
use Rattle.eds_plan.specs.Alike.{AreAlike, IsAlike, SeenComponent, SeenMachine, SeenVariable, seen_machine, seen_variable}
use Rattle.eds_plan.specs.Ends.{end_text}
use Rattle.eds_plan.specs.Lines.{Told}
use Rattle.eds_plan.specs.Outs.{left, stopped, refused}
use Rattle.eds_plan.specs.Plans.{component_at}
use Rattle.eds_plan.specs.declared.component.ComponentPlan.{ComponentPlan}
use Rattle.eds_plan.specs.declared.component.EndPlan.{EndPlan}
use Rattle.eds_plan.specs.declared.machine.Machine.{Machine}
use Rattle.eds_plan.specs.declared.run.End.{End}
use Rattle.eds_plan.specs.declared.run.MachineState.{MachineState}
use Rattle.eds_plan.specs.declared.run.Outstanding.{Outstanding}
use Rattle.eds_plan.proofs.Alike.{alike_ends, at_place, by_option, components_alike, ends_alike, firsts_alike, others_alike}
use Rattle.eds_script.specs.declared.why.BadLine.{BadLine}
use Rattle.eds_script.specs.declared.why.LineWhy.{LineWhy}
use Rattle.eds_script.specs.declared.why.LineWhy.TheVariants as why
use Rattle.eds_script.specs.declared.words.Verb.{Verb}
use Rattle.eds_script.specs.Alike.{AlikeEvents, AlikeScripts, AlikeStates}
use Rattle.eds_script.specs.Arrivals.{arrival_told, fits, member_told}
use Rattle.eds_script.specs.Events.{IsSentLine, halt_line, reject_line}
use Rattle.eds_script.specs.Lines.{Numbered, script_lines}
use Rattle.eds_script.specs.Meaning.{Meaning, comes, begun, meaning, saying_meaning, time_of, wired_in}
use Rattle.eds_script.specs.Names.{end_name, machine_name, member_name, or_empty, text_of_end}
use Rattle.eds_script.specs.Pairs.{texts_of}
use Rattle.eds_script.specs.Scripts.{at_line, meanings, plot_of}
use Rattle.eds_script.specs.States.{machine_line, variable_line, wait_line}
use Rattle.eds_script.specs.Stops.{unless_stop}
use Rattle.eds_script.specs.Words.{Saying, ties, ticks, arrives, form}
use Rattle.eds_script.proofs.Starting.{from-start}

-- ---- scripts

module _ (t : Table) (p q : List ComponentPlan) (h : AreAlike p q) (wired : List ℕ → Bool) where
  -- what arrives at an end that is found, or at none
  abbrev arrival_by : Verb → (end name rest : List ℕ) → Option (End × EndPlan) → Result Told LineWhy
  arrival_by verb end name rest found = do
    e ← or_stop why.End found
    free ← unless_stop why.Wired (not (wired end))
    ok ← unless_stop why.Way (fits verb (e.1).required)
    member_told t verb e.0 e.1 name rest

  arrival_alike : (verb : Verb) (end name rest : List ℕ) → arrival_told t p wired verb end name rest ≡ arrival_told t q wired verb end name rest
  unfolding arrival_told
  arrival_alike verb end name rest = ap (arrival_by verb end name rest) (alike_ends p q h end)

  saying_alike : (late : Bool) (time : ℕ) (s : Saying) → saying_meaning t p wired late time s ≡ saying_meaning t q wired late time s
  saying_alike late time (ties lower upper) = refl
  saying_alike late time (ticks number) = refl
  saying_alike late time (arrives verb end name rest) = ap (λ (r : Result Told LineWhy). r >>= λ x. Ok (comes x)) (arrival_alike verb end name rest)

  meaning_alike : (before : List (List ℕ)) (line : List ℕ) → meaning t p wired before line ≡ meaning t q wired before line
  meaning_alike before line =
      from-start t p wired before line ∙ ap (λ (f : Saying → Result Meaning LineWhy). form line >>= f) (fun_ext (saying_alike (begun before) (time_of before)))
      ∙ sym (from-start t q wired before line)

  meanings_alike : (before : List (List ℕ)) (lines : List Numbered) → meanings t p wired before lines ≡ meanings t q wired before lines
  meanings_alike before [] = refl
  meanings_alike before (line ∷ lines) =
      ap₂ (λ (one : Result Meaning LineWhy) (more : Result (List (ℕ × Meaning)) BadLine). at_line line.0 one >>= λ m. more >>= λ ms. Ok ((line.0, m) ∷ ms))
      (meaning_alike before line.1) (meanings_alike (before ++ line.1 ∷ []) lines)

pub alike_scripts : AlikeScripts
unfolding script_lines
alike_scripts t p q h text = ap (λ (r : Result (List (ℕ × Meaning)) BadLine). r >>= λ ms. Ok (plot_of ms)) (meanings_alike t p q h (wired_in (script_lines text)) [] (script_lines text))

-- ---- components

-- a component that has what is so seen, but variables, activities and machines
abbrev bare : SeenComponent → ComponentPlan
bare s = record { name = s.name; ends = s.ends; variables = []; maps = s.maps; activities = []; machines = []; transactions = s.transactions }

machine_names_alike : (c d : ComponentPlan) → IsAlike c d → (machine : ℕ) → machine_name c machine ≡ machine_name d machine
machine_names_alike c d h machine =
    by_option seen_machine (λ o. or_empty (option_map (λ (m : Machine). m.name) o)) (λ o. or_empty (option_map (λ (m : Machine). m.name) o)) refl
    (λ m n same. ap (λ (s : SeenMachine). s.name) same) (slice_get c.machines machine) (slice_get d.machines machine) (at_place seen_machine c.machines d.machines (ap (λ (s : SeenComponent). s.machines) h) machine)

texts_alike : {A B C : Type 0} (see : A → B) (text : A → C → List ℕ) → ((x y : A) → see x ≡ see y → (z : C) → text x z ≡ text y z) → (xs ys : List A) → map see xs ≡ map see ys → (zs : List C) → texts_of text xs zs ≡ texts_of text ys zs
texts_alike see text same [] [] e zs = refl
texts_alike see text same [] (y ∷ ys) e zs = absurd cc
texts_alike see text same (x ∷ xs) [] e zs = absurd cc
texts_alike see text same (x ∷ xs) (y ∷ ys) e [] = refl
texts_alike see text same (x ∷ xs) (y ∷ ys) e (z ∷ zs) = ap₂ (λ one more. one ++ more) (same x y (firsts_alike see x y xs ys e) z) (texts_alike see text same xs ys (others_alike see x y xs ys e) zs)

-- a machine that has what is so seen, but transitions
abbrev still : SeenMachine → Machine
still s = record { name = s.name; states = s.states; entry = s.entry; transitions = [] }

module _ (t : Table) (c d : ComponentPlan) (h : IsAlike c d) where
  machine_lines_alike : (machines : List MachineState) → texts_of (machine_line c.name) c.machines machines ≡ texts_of (machine_line d.name) d.machines machines
  machine_lines_alike machines =
      ap (λ (s : SeenComponent). texts_of (machine_line s.name) c.machines machines) h
      ∙ texts_alike seen_machine (machine_line d.name) (λ m n same z. ap (λ (s : SeenMachine). machine_line d.name (still s) z) same) c.machines d.machines (ap (λ (s : SeenComponent). s.machines) h) machines

  variable_lines_alike : (values : List Plain) → texts_of (variable_line t c.name) c.variables values ≡ texts_of (variable_line t d.name) d.variables values
  variable_lines_alike values =
      ap (λ (s : SeenComponent). texts_of (variable_line t s.name) c.variables values) h
      ∙ texts_alike seen_variable (variable_line t d.name) (λ x y same z. ap (λ (s : SeenVariable). variable_line t d.name (record y { name = s.name }) z) same) c.variables d.variables (ap (λ (s : SeenComponent). s.variables) h) values

  wait_lines_alike : (outstanding : List Outstanding) → flat_map (wait_line c) outstanding ≡ flat_map (wait_line d) outstanding
  wait_lines_alike outstanding = ap (λ (s : SeenComponent). flat_map (wait_line (bare s)) outstanding) h

pub alike_states : AlikeStates
alike_states t c d h machines values outstanding = λ i. machine_lines_alike t c d h machines i ++ variable_lines_alike t c d h values i ++ wait_lines_alike t c d h outstanding i

-- ---- events

texts_of_ends_alike : (p q : List ComponentPlan) → AreAlike p q → (e : End) → text_of_end p e ≡ text_of_end q e
texts_of_ends_alike p q h e = ap (λ (s : SeenComponent). end_text s.name (end_name (bare s) e.face)) (components_alike p q h e.comp.0)

pub alike_events : AlikeEvents
alike_events t p q h (left time s) text is = subst₂ (λ name end. IsSentLine t time name s end text) (texts_of_ends_alike p q h s.end) (ends_alike p q h s.end) is
alike_events t p q h (stopped time component machine halt) text is =
    is ∙ ap₂ (λ name m. halt_line time name m halt) (ap (λ (s : SeenComponent). s.name) (components_alike p q h component)) (machine_names_alike (component_at p component) (component_at q component) (components_alike p q h component) machine)
alike_events t p q h (refused time e member fault) text is =
    is ∙ ap₂ (λ name end. reject_line t time name (member_name end member) fault) (texts_of_ends_alike p q h e) (ends_alike p q h e)
