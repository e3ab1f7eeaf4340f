-- Parameter maps, one after another.
use Rattle.std.proofs.Common.{◌≡◌, ℕ, ◌+◌, ◌<◌, Bool, List, [], ◌∷◌, ◌||◌, length, drop, get_or, Option, Some, if◌then◌else◌, refl, sym, ap, ◌∙◌, drop-cons, add-one}
use Rattle.eds_base.specs.declared.ids.Place.{Place}
use Rattle.eds_base.specs.declared.refusal.Refusal.{Refusal}
use Rattle.eds_base.specs.Reading.{same}
use Rattle.eds_base.specs.Refusals.{first_of, least}
use Rattle.eds_base.proofs.LeastLaws.{first_assoc, least-append}
use Rattle.eds_tree.specs.declared.tree.Node.{Node}
use Rattle.eds_names.specs.Repeats.{is_among}
use Rattle.eds_names.proofs.RepeatsLemmas.{SameNames}
use Rattle.eds_plan.specs.declared.component.EndPlan.{EndPlan}
use Rattle.eds_plan.specs.declared.instance.Member.{Member}
use Rattle.eds_read_act.specs.declared.variable.VariableHead.{VariableHead}
use Rattle.eds_read_comp.specs.declared.parameter_map.Mapping.{Mapping}
use Rattle.eds_read_comp.specs.ParameterMaps.{is_parameter, parameter_from, mapping_at, mapped_name, map_breaks_by, map_breaks_from}

-- one member more
pub parameter-step : (ms : List Member) (name : List ℕ) (at : ℕ) (m d : Member) → at < length ms → m ≡ get_or ms at d
    → parameter_from at (drop at ms) name ≡ (if is_parameter name m then Some at else parameter_from (at + 1) (drop (at + 1) ms) name)
parameter-step ms name at m d lt is = ap (λ xs. parameter_from at xs name) (drop-cons ms at d lt) ∙ rw (add-one, ← is) refl

module _ (ends : List EndPlan) (variables : List VariableHead) (t : List Node) (file : ℕ) where
  breaks-same : (before others : List (List ℕ)) (ns : List ℕ) → SameNames before others → map_breaks_from ends variables t file before ns ≡ map_breaks_from ends variables t file others ns
  breaks-same before others [] s = refl
  breaks-same before others (n ∷ ns) s =
      rw (s (mapped_name t n), breaks-same (mapped_name t n ∷ before) (mapped_name t n ∷ others) ns (λ q. ap (λ b. same q (mapped_name t n) || b) (s q))) refl

  -- what was found, and the least of what is to come, after one map more
  pub next-map : (before next : List (List ℕ)) (ns : List ℕ) (i n d : ℕ) (p : Place) (second : Bool) (m : Mapping) (found here more whole : Option Refusal)
      → i < length ns → n ≡ get_or ns i d → p ≡ record { file = file; node = n } → second ≡ is_among before (mapped_name t n) → m ≡ mapping_at ends variables t n
      → SameNames next (mapped_name t n ∷ before) → here ≡ least (map_breaks_by ends variables p second m) → more ≡ first_of found here
      → first_of found (least (map_breaks_from ends variables t file before (drop i ns))) ≡ whole
      → first_of more (least (map_breaks_from ends variables t file next (drop (i + 1) ns))) ≡ whole
  next-map before next ns i n d p second m found here more whole lt is pe se me names now joined all =
      let breaks = map_breaks_by ends variables (record { file = file; node = n }) (is_among before (mapped_name t n)) (mapping_at ends variables t n) in
      let rest = map_breaks_from ends variables t file (mapped_name t n ∷ before) (drop (i + 1) ns) in
      let opened : drop i ns ≡ n ∷ drop (i + 1) ns = drop-cons ns i d lt ∙ rw (add-one, ← is) refl in
      let least-here : here ≡ least breaks = now ∙ rw (pe, se, me) refl in
      ap (λ o. first_of o (least (map_breaks_from ends variables t file next (drop (i + 1) ns)))) joined
      ∙ ap (λ bs. first_of (first_of found here) (least bs)) (breaks-same next (mapped_name t n ∷ before) (drop (i + 1) ns) names)
      ∙ first_assoc found here (least rest)
      ∙ ap (λ o. first_of found (first_of o (least rest))) least-here
      ∙ ap (first_of found) (sym (least-append breaks rest))
      ∙ ap (λ xs. first_of found (least (map_breaks_from ends variables t file before xs))) (sym opened)
      ∙ all
