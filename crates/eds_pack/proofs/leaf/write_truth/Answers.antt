use Rattle.std.proofs.Common.{◌+◌, ap, ◌∙◌}
use Rattle.eds_types.specs.Plain.{plain}
use Rattle.eds_pack.proofs.Plains.{plain_truth}
use Rattle.eds_pack.proofs.Putting.{truth_put_on}
use Rattle.eds_pack.proofs.leaf.write_truth.Goals as goal

pub returns : goal.returns
returns c =
    truth_put_on c.args.form c.in-Bool.truth (plain c.args.value.now) c.args.at _ c.args.room.now c.write_bool.new.room c.write_bool.result (ap plain c.in-Bool.is ∙ plain_truth c.in-Bool.truth) c.write_bool.ensures.enough c.write_bool.ensures.written
    (ap (λ n. c.args.at + n) c.from.ensures)
