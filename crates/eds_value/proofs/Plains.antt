-- Values that hold others, seen by their trees.
use Rattle.std.proofs.Common.{◌≡◌, List, map, rules, Vec, Global, ap, ◌∙◌}
use Rattle.serde_json.specs.Data.{Data, array}
use Rattle.serde_json.specs.View.{items_of}
use Rattle.eds_base.specs.declared.ids.TypeId.{TypeId}
use Rattle.eds_types.specs.declared.value.Value.{Value, Items, Fields, the_lemmas}
use Rattle.eds_types.specs.Plain.{fields, items, plain, plains_of}
use Rattle.eds_types.specs.Rows.{Table}
use Rattle.eds_value.specs.Entries.{entries_along}
use Rattle.eds_value.specs.JsonOfValue.{fields_data, json_of_value, type_name}
use Rattle.eds_value.proofs.WithValues.{all_listed}

pub plain-Items : (vs : Vec Value Global) → plain (Items vs) ≡ items (plains_of (map plain vs.items))
plain-Items vs = search (rules, the_lemmas)

pub plain-Fields : (id : TypeId) (vs : Vec Value Global) → plain (Fields id vs) ≡ fields id.0 (plains_of (map plain vs.items))
plain-Fields id vs = search (rules, the_lemmas)

pub json_items : (t : Table) (v : Value) (vs : Vec Value Global) → v ≡ Items vs → json_of_value t (plain v) ≡ array (items_of (map (json_of_value t) (map plain vs.items)))
json_items t v vs is = ap (json_of_value t) (ap plain is ∙ plain-Items vs) ∙ ap (λ (ds : List Data). array (items_of ds)) (all_listed t (map plain vs.items))

pub json_fields : (t : Table) (v : Value) (k : TypeId) (vs : Vec Value Global) → v ≡ Fields k vs
    → json_of_value t (plain v) ≡ fields_data (type_name t k.0) (entries_along t k.0) (map (json_of_value t) (map plain vs.items))
json_fields t v k vs is = ap (json_of_value t) (ap plain is ∙ plain-Fields k vs) ∙ ap (fields_data (type_name t k.0) (entries_along t k.0)) (all_listed t (map plain vs.items))
