-- Components that are put behind others.
use Rattle.std.proofs.Common.{◌≡◌, ℕ, List, [], ◌∷◌, ◌++◌, map, Option, Some, None, sym, ap, ◌∙◌, append-nil}
use Rattle.std.specs.Prelude.{slice_get}
use Rattle.std.proofs.lemmas.List.{map-append}
use Rattle.eds_tree.specs.declared.tree.Node.{Node}
use Rattle.eds_names.specs.LookUp.{Names}
use Rattle.eds_names.specs.declared.declared.Declared.{Declared}
use Rattle.eds_types.specs.Plain.{Plain}
use Rattle.eds_types.specs.Rows.{Table}
use Rattle.eds_plan.specs.declared.component.ComponentPlan.{ComponentPlan}
use Rattle.eds_generic.specs.declared.face.Face.{Face}
use Rattle.eds_read_comp.specs.FirstValues.{first_value}
use Rattle.eds_read_comp.specs.Plans.{SaidComponent, said_component, firsts_of, component_in, component_by, component_of, firsts_by, firsts_at, scope_at}
use Rattle.eds_read_comp.specs.Variables.{variable_nodes}

module _ (trees : List (List Node)) (names : Names) (table : Table) (faces : List Face) (d : Declared) where
  pub none-said : (old : List ComponentPlan) → None ≡ slice_get trees d.place.file → map said_component old ≡ map said_component old ++ component_of trees names table faces d
  none-said old h = sym (ap (λ (o : Option (List Node)). map said_component old ++ component_by trees names table faces d o) (sym h) ∙ append-nil (map said_component old))

  pub one-said : (old new : List ComponentPlan) (c : ComponentPlan) (t : List Node) (name : List ℕ) → Some t ≡ slice_get trees d.place.file → new ≡ old ++ c ∷ [] → name ≡ d.name
      → said_component c ≡ component_in name (scope_at trees names table faces t d.place.file d.place.node) d.place.node → map said_component new ≡ map said_component old ++ component_of trees names table faces d
  one-said old new c t name h e named is =
      ap (map said_component) e ∙ map-append said_component old (c ∷ []) ∙ ap (λ (x : SaidComponent). map said_component old ++ x ∷ []) is
      ∙ ap (λ (q : List ℕ). map said_component old ++ component_in q (scope_at trees names table faces t d.place.file d.place.node) d.place.node ∷ []) named
      ∙ ap (λ (o : Option (List Node)). map said_component old ++ component_by trees names table faces d o) h

module _ (firsts : ℕ → Option (List ℕ) → Option Plain) (trees : List (List Node)) (names : Names) (d : Declared) where
  pub none-first : (old : List ComponentPlan) → None ≡ slice_get trees d.place.file → map firsts_of old ≡ map firsts_of old ++ firsts_at firsts trees names d
  none-first old h = sym (ap (λ (o : Option (List Node)). map firsts_of old ++ firsts_by firsts trees names d o) (sym h) ∙ append-nil (map firsts_of old))

  pub one-first : (old new : List ComponentPlan) (c : ComponentPlan) (t : List Node) → Some t ≡ slice_get trees d.place.file → new ≡ old ++ c ∷ []
      → firsts_of c ≡ map (first_value firsts t names d.place.file) (variable_nodes t d.place.node) → map firsts_of new ≡ map firsts_of old ++ firsts_at firsts trees names d
  one-first old new c t h e is =
      ap (map firsts_of) e ∙ map-append firsts_of old (c ∷ []) ∙ ap (λ (x : List (Option Plain)). map firsts_of old ++ x ∷ []) is
      ∙ ap (λ (o : Option (List Node)). map firsts_of old ++ firsts_by firsts trees names d o) h
