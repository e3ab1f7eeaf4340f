use Rattle.std.proofs.Common.{◌≡◌, ℕ, List, Option, subst}
use Rattle.std.specs.Prelude.{IfOk, option_map}
use Rattle.eds_types.specs.Plain.{plain}
use Rattle.eds_read_comp.specs.FirstValues.{WhereTold}
use Rattle.eds_read_comp.proofs.Firsts.{told-ok}
use Rattle.eds_read_comp.proofs.first_value.first_value.Goals as goal

pub returns : goal.returns
returns c =
    subst (λ (i : Option (List ℕ)). IfOk c.first_of_type.result (λ o. WhereTold c.args.table.now (λ firsts. option_map plain o ≡ firsts c.args.id.0 i))) c.attribute_at.ensures
    (told-ok c.args.table.now c.args.id.0 (option_map (λ t. t.now) c.attribute_at.result) c.first_of_type.result c.first_of_type.ensures.some c.first_of_type.ensures.none)
