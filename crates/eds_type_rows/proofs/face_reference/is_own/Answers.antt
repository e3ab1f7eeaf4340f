use Rattle.std.proofs.Common.{sym, ap, ◌∙◌, string_bytes}
use Rattle.eds_names.proofs.RepeatsLemmas.{among-map}
use Rattle.eds_type_rows.specs.FaceReferences.{generic_names, is_own}
use Rattle.eds_type_rows.proofs.face_reference.is_own.Goals as goal

pub returns-in-BaseInterface : goal.returns-in-BaseInterface
returns-in-BaseInterface c =
    c.contains.ensures ∙ sym (among-map string_bytes c.args.own.now.names.keys c.args.text.now) ∙ c.args.own.now.held c.args.text.now
    ∙ ap (λ s. is_own (generic_names c.args.own.now.trees.now c.args.own.now.interface) s c.args.text.now) (sym c.in-BaseInterface.is)

pub returns-in-MemberType : goal.returns-in-MemberType
returns-in-MemberType c =
    c.contains-in-MemberType.ensures ∙ sym (among-map string_bytes c.args.own.now.names.keys c.args.text.now) ∙ c.args.own.now.held c.args.text.now
    ∙ ap (λ s. is_own (generic_names c.args.own.now.trees.now c.args.own.now.interface) s c.args.text.now) (sym c.in-MemberType.is)
