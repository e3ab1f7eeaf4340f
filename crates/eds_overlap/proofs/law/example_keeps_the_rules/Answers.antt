use Rattle.eds_overlap.proofs.ExampleRules.{keeps_rules, clear}
use Rattle.eds_overlap.proofs.law.example_keeps_the_rules.Goals as goal

pub returns : goal.returns
returns c = record { rules = keeps_rules; clear = clear }
