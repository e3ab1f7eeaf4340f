use Rattle.std.proofs.Common.{subst}
use Rattle.eds_types.specs.Plain.{plain}
use Rattle.eds_types.specs.Rules.{KeepsRules}
use Rattle.eds_value.proofs.ReadsBack.{value_held}
use Rattle.eds_value.proofs.json_of_value.put_json.Goals as goal

pub put_value-requires : goal.put_value-requires
put_value-requires c = value_held c.args.layouts.now c.args.id.0 (plain c.args.value.now) (subst KeepsRules c.table.ensures c.keeps_rules.ensures) c.requires.one
