use Rattle.std.proofs.Common.{ℕ, Ok, Err, sym, subst}
use Rattle.eds_base.specs.declared.fail.Fail.{Fail}
use Rattle.eds_base.specs.declared.fault.Fault.{Fault}
use Rattle.eds_bits.specs.Reader.{view_bits}
use Rattle.eds_overlap.specs.Laws.{read_type}
use Rattle.eds_types.specs.declared.value.Value.{Value}
use Rattle.eds_types.specs.Plain.{plain}
use Rattle.eds_unpack.specs.Readers.{Gives, sized}
use Rattle.eds_unpack.proofs.Fronts.{readable, fits_size, is_spelled, only_value, is_fault, only_fault}
use Rattle.eds_unpack.proofs.whole.unpack_in.Goals as goal

pub returns-in-Ok-clause-size : goal.returns-in-Ok-clause-size
returns-in-Ok-clause-size c = fits_size c.reading_is_exact.ensures c.args.table.now c.args.id.0 (readable c.args.table.now c.args.id.0 c.keeps_rules.ensures c.requires.clear c.requires.known) (view_bits c.args.view) (Ok c.in-Ok.found) c.in-Ok.ensures.gives

pub returns-in-Ok-clause-value : goal.returns-in-Ok-clause-value
returns-in-Ok-clause-value c = is_spelled c.reading_is_exact.ensures c.args.table.now c.args.id.0 (readable c.args.table.now c.args.id.0 c.keeps_rules.ensures c.requires.clear c.requires.known) (view_bits c.args.view) (Ok c.in-Ok.found) c.in-Ok.ensures.gives

pub returns-in-Ok-clause-only_value : goal.returns-in-Ok-clause-only_value
returns-in-Ok-clause-only_value c = only_value c.reading_is_exact.ensures c.args.table.now c.args.id.0 (readable c.args.table.now c.args.id.0 c.keeps_rules.ensures c.requires.clear c.requires.known) (view_bits c.args.view) (Ok c.in-Ok.found) c.in-Ok.ensures.gives

pub returns-in-Ok-clause-fault : goal.returns-in-Ok-clause-fault
returns-in-Ok-clause-fault c = is_fault c.reading_is_exact.ensures c.args.table.now c.args.id.0 (readable c.args.table.now c.args.id.0 c.keeps_rules.ensures c.requires.clear c.requires.known) (view_bits c.args.view) (Ok c.in-Ok.found) c.in-Ok.ensures.gives

pub returns-in-Ok-clause-only_fault : goal.returns-in-Ok-clause-only_fault
returns-in-Ok-clause-only_fault c = only_fault c.reading_is_exact.ensures c.args.table.now c.args.id.0 (readable c.args.table.now c.args.id.0 c.keeps_rules.ensures c.requires.clear c.requires.known) (view_bits c.args.view) (Ok c.in-Ok.found) c.in-Ok.ensures.gives

pub returns-in-Err-clause-size : goal.returns-in-Err-clause-size
returns-in-Err-clause-size c = fits_size c.reading_is_exact.ensures c.args.table.now c.args.id.0 (readable c.args.table.now c.args.id.0 c.keeps_rules.ensures c.requires.clear c.requires.known) (view_bits c.args.view) (Err c.stop_in.result) (subst (λ (e : Fail Fault). Gives (λ (x : Value × ℕ). (plain x.0, x.1)) (Err e) (sized (view_bits c.args.view) (read_type c.args.table.now c.args.id.0 (view_bits c.args.view)))) (sym c.stop_in.ensures.stop) c.in-Err.ensures.gives)

pub returns-in-Err-clause-value : goal.returns-in-Err-clause-value
returns-in-Err-clause-value c = is_spelled c.reading_is_exact.ensures c.args.table.now c.args.id.0 (readable c.args.table.now c.args.id.0 c.keeps_rules.ensures c.requires.clear c.requires.known) (view_bits c.args.view) (Err c.stop_in.result) (subst (λ (e : Fail Fault). Gives (λ (x : Value × ℕ). (plain x.0, x.1)) (Err e) (sized (view_bits c.args.view) (read_type c.args.table.now c.args.id.0 (view_bits c.args.view)))) (sym c.stop_in.ensures.stop) c.in-Err.ensures.gives)

pub returns-in-Err-clause-only_value : goal.returns-in-Err-clause-only_value
returns-in-Err-clause-only_value c = only_value c.reading_is_exact.ensures c.args.table.now c.args.id.0 (readable c.args.table.now c.args.id.0 c.keeps_rules.ensures c.requires.clear c.requires.known) (view_bits c.args.view) (Err c.stop_in.result) (subst (λ (e : Fail Fault). Gives (λ (x : Value × ℕ). (plain x.0, x.1)) (Err e) (sized (view_bits c.args.view) (read_type c.args.table.now c.args.id.0 (view_bits c.args.view)))) (sym c.stop_in.ensures.stop) c.in-Err.ensures.gives)

pub returns-in-Err-clause-fault : goal.returns-in-Err-clause-fault
returns-in-Err-clause-fault c = is_fault c.reading_is_exact.ensures c.args.table.now c.args.id.0 (readable c.args.table.now c.args.id.0 c.keeps_rules.ensures c.requires.clear c.requires.known) (view_bits c.args.view) (Err c.stop_in.result) (subst (λ (e : Fail Fault). Gives (λ (x : Value × ℕ). (plain x.0, x.1)) (Err e) (sized (view_bits c.args.view) (read_type c.args.table.now c.args.id.0 (view_bits c.args.view)))) (sym c.stop_in.ensures.stop) c.in-Err.ensures.gives)

pub returns-in-Err-clause-only_fault : goal.returns-in-Err-clause-only_fault
returns-in-Err-clause-only_fault c = only_fault c.reading_is_exact.ensures c.args.table.now c.args.id.0 (readable c.args.table.now c.args.id.0 c.keeps_rules.ensures c.requires.clear c.requires.known) (view_bits c.args.view) (Err c.stop_in.result) (subst (λ (e : Fail Fault). Gives (λ (x : Value × ℕ). (plain x.0, x.1)) (Err e) (sized (view_bits c.args.view) (read_type c.args.table.now c.args.id.0 (view_bits c.args.view)))) (sym c.stop_in.ensures.stop) c.in-Err.ensures.gives)
