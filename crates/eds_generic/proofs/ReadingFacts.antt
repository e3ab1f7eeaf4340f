-- An interface is made of what was read of its parts.
use Rattle.std.proofs.Common.{◌≡◌, ℕ, List, map, refl}
use Rattle.std.specs.Prelude.{codes}
use Rattle.eds_base.specs.declared.ids.Place.{Place}
use Rattle.eds_tree.specs.declared.tree.Node.{Node}
use Rattle.eds_names.specs.LookUp.{Names}
use Rattle.eds_generic.specs.declared.face.Base.{Base}
use Rattle.eds_generic.specs.declared.face.Generic.{Generic}
use Rattle.eds_generic.specs.declared.face.OwnMember.{OwnMember}
use Rattle.eds_generic.specs.Reading.{here, own_name, generic_nodes, generic_of, base_of, held_in, members_of, face_at}

pub face-made : (t : List Node) (names : Names) (file : ℕ) (all : List (List (List ℕ))) (n : ℕ) (nodes found : List ℕ) (own : List (List ℕ)) (p : Place) (gs : List Generic) (bs : List Base) (ms : List OwnMember)
    → nodes ≡ generic_nodes t n → own ≡ map (own_name t) nodes → found ≡ held_in t (codes "BaseInterfaceSet") (codes "Base") n
    → p ≡ here t names file n → gs ≡ map (generic_of t names file) nodes → bs ≡ map (base_of t names file all own) found → ms ≡ members_of t names file own n
    → (record { place = p; generics = gs; bases = bs; members = ms }) ≡ face_at t names file all n
face-made t names file all n nodes found own p gs bs ms en eo ef ep eg eb em = rw (ep, eg, eb, em, eo, ef, en) refl
