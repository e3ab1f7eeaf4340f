use Rattle.std.proofs.Common.{◌≡◌, ◌++◌, length, take, subst, sym}
use Rattle.std.specs.Prelude.{IfOk}
use Rattle.eds_base.specs.declared.fault.Fault.{Fault}
use Rattle.eds_bits.specs.Bits.{Bits}
use Rattle.eds_bits.specs.Reader.{view_bits}
use Rattle.eds_types.specs.Failing.{FailsAt}
use Rattle.eds_types.specs.Overlap.{IsClear}
use Rattle.eds_types.specs.Plain.{Plain}
use Rattle.eds_types.specs.Spelling.{Spells}
use Rattle.eds_unpack.specs.Answers.{IsRecognised, IsOnlyFault}
use Rattle.eds_unpack.specs.Programs.{TypeIn}
use Rattle.eds_unpack.specs.Walks.{type_of}
use Rattle.eds_unpack.proofs.Fronts.{readable, found_spelled, only_found, only_stopped}
use Rattle.eds_unpack.proofs.program.Program.recognise.Goals as goal

pub returns-clause-value : goal.returns-clause-value
returns-clause-value c =
    let is = readable c.self.inside.table.now c.self.inside.id.0 c.keeps_rules.ensures (subst (λ (p : TypeIn). IsClear p.table p.id) (sym c.self.view_is) c.requires.clear) c.self.invariant.there in
    subst (λ (p : TypeIn). IfOk c.recognise_front.result (λ x. (v : Plain) × Spells p.table p.id v (take x.1 (view_bits c.args.view)) × (type_of p.id v ≡ (x.0).0))) c.self.view_is
    (found_spelled c.reading_is_exact.ensures c.self.inside.table.now c.self.inside.id.0 is (view_bits c.args.view) c.recognise_front.result c.recognise_front.ensures.read)

pub returns-clause-only_value : goal.returns-clause-only_value
returns-clause-only_value c =
    let is = readable c.self.inside.table.now c.self.inside.id.0 c.keeps_rules.ensures (subst (λ (p : TypeIn). IsClear p.table p.id) (sym c.self.view_is) c.requires.clear) c.self.invariant.there in
    subst (λ (p : TypeIn). (v : Plain) (b rest : Bits) → view_bits c.args.view ≡ b ++ rest → Spells p.table p.id v b → IsRecognised (type_of p.id v) (length b) c.recognise_front.result) c.self.view_is
    (only_found c.reading_is_exact.ensures c.self.inside.table.now c.self.inside.id.0 is (view_bits c.args.view) c.recognise_front.result c.recognise_front.ensures.read c.recognise_front.ensures.fault)

pub returns-clause-only_fault : goal.returns-clause-only_fault
returns-clause-only_fault c =
    let is = readable c.self.inside.table.now c.self.inside.id.0 c.keeps_rules.ensures (subst (λ (p : TypeIn). IsClear p.table p.id) (sym c.self.view_is) c.requires.clear) c.self.invariant.there in
    subst (λ (p : TypeIn). (g : Fault) → FailsAt p.table p.id (view_bits c.args.view) g → IsOnlyFault g c.recognise_front.result) c.self.view_is
    (only_stopped c.reading_is_exact.ensures c.self.inside.table.now c.self.inside.id.0 is (view_bits c.args.view) c.recognise_front.result c.recognise_front.ensures.read c.recognise_front.ensures.fault)
