use Rattle.std.proofs.Common.{◌∙◌, sym, subst, ◌≡◌, true}
use Rattle.eds_types.specs.Plain.{Plain, plain}
use Rattle.eds_types.specs.Reading.{same}
use Rattle.eds_types.proofs.SameValues.{same-is, is-same}
use Rattle.eds_types.proofs.value.Value.is.Goals as goal

pub returns : goal.returns
returns c = (
  λ t. same-is (plain c.args.self.now) (plain c.args.other.now) (sym c.is_same.ensures ∙ t),
  λ e. c.is_same.ensures ∙ subst (λ (v : Plain). same (plain c.args.self.now) v ≡ true) e (is-same (plain c.args.self.now)),
)
