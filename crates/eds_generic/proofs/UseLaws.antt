-- What the interfaces of a sheet break, under the empty map and as they are used.
use Rattle.std.proofs.Common.{◌≡◌, List, ◌++◌, Option, None, ap, sym, ◌∙◌}
use Rattle.std.specs.List.{flat_map}
use Rattle.eds_base.specs.declared.ids.TypeId.{TypeId}
use Rattle.eds_base.specs.declared.refusal.Refusal.{Refusal}
use Rattle.eds_base.specs.Refusals.{first_of, least}
use Rattle.eds_base.proofs.LeastLaws.{least-append}
use Rattle.eds_generic.specs.declared.face.Face.{Face}
use Rattle.eds_generic.specs.declared.used.FaceUse.{FaceUse}
use Rattle.eds_generic.specs.Every.{own_cycles, alone_breaks}
use Rattle.eds_generic.specs.Resolved.{judged_first}
use Rattle.eds_generic.specs.Uses.{use_breaks, breaks_with_uses}
use Rattle.eds_generic.proofs.NameBreaks.{least-none}

-- where no interface is its own base, the first of both
pub uses-first : (faces : List Face) (types : List (Option TypeId)) (uses : List FaceUse) (alone used first : Option Refusal)
    → least (own_cycles faces) ≡ None → alone ≡ least (alone_breaks faces types) → used ≡ least (flat_map (use_breaks faces types) uses) → first ≡ first_of alone used
    → first ≡ least (breaks_with_uses faces types uses)
uses-first faces types uses alone used first none a u e =
    e ∙ ap (λ o. first_of o used) a ∙ ap (first_of (least (alone_breaks faces types))) u
    ∙ sym (least-append (alone_breaks faces types) (flat_map (use_breaks faces types) uses))
    ∙ ap (λ os. least (judged_first os (alone_breaks faces types ++ flat_map (use_breaks faces types) uses))) (sym (least-none (own_cycles faces) none))
