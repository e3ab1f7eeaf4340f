-- One interface under equal maps, which name nothing but its generic names, has the same members.
use Rattle.std.proofs.Common.{◌≡◌, ℕ, true, List, [], ◌∷◌, map, refl, sym, ap, ◌∙◌}
use Rattle.std.specs.List.{range_with_len}
use Rattle.std.specs.Prelude.{length}
use Rattle.eds_base.specs.declared.ids.FaceId.{FaceId}
use Rattle.eds_base.specs.declared.ids.TypeId.{TypeId}
use Rattle.eds_plan.specs.Interfaces.{same_map}
use Rattle.eds_generic.specs.declared.face.Face.{Face}
use Rattle.eds_generic.specs.declared.pair.Bound.{Bound}
use Rattle.eds_generic.specs.declared.pair.Pair.{Pair}
use Rattle.eds_generic.specs.Faces.{generics, names_of}
use Rattle.eds_generic.specs.Members.{under}
use Rattle.eds_generic.specs.Pairs.{meant_by}
use Rattle.eds_read_comp.proofs.EqualMaps.{told-same}

each-same : (f g : ℕ → Bound) → ((k : ℕ) → f k ≡ g k) → (ks : List ℕ) → map f ks ≡ map g ks
each-same f g e [] = refl
each-same f g e (k ∷ ks) = rw (e k, each-same f g e ks) refl

pair-made : (p q : Pair) → p.face ≡ q.face → p.types ≡ q.types → p.further ≡ q.further → p ≡ q
pair-made p q f t e = rw (f, t, e) refl

pub under-same : (faces : List Face) (face : FaceId) (m n : List (List ℕ × TypeId)) → same_map m n ≡ true → (under faces face m).further ≡ [] → (under faces face n).further ≡ []
    → under faces face m ≡ under faces face n
under-same faces face m n s e h =
    pair-made (under faces face m) (under faces face n) refl
    (each-same _ _ (λ k. ap (meant_by face []) (told-same (names_of (generics faces face.0)) k m n s)) (range_with_len 0 (length (generics faces face.0))))
    (e ∙ sym h)
