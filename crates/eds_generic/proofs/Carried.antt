-- What holds of each type that interfaces and the map of a use name holds of the types of all arguments that are carried there.
use Rattle.std.proofs.Common.{◌≡◌, ℕ, zero, suc, ◌+◌, ◌<◌, Bool, true, false, List, [], ◌∷◌, ◌++◌, length, map, slice_get, Option, Some, sym, subst, ◌∙◌, arith}
use Rattle.std.specs.Prelude.{if◌then◌else◌}
use Rattle.std.specs.List.{AllByRecursion, flat_map, range_with_len}
use Rattle.std.proofs.lemmas.Grind.{flat_map-append}
use Rattle.std.proofs.lemmas.List.FromFn.{length-map-range_with_len}
use Rattle.eds_base.specs.declared.ids.FaceId.{FaceId}
use Rattle.eds_base.specs.declared.ids.Place.{Place}
use Rattle.eds_base.specs.declared.ids.TypeId.{TypeId}
use Rattle.eds_base.specs.declared.rule.Rule.TheVariants.{Unmapped}
use Rattle.eds_plan.specs.Arguments.{OnArguments}
use Rattle.eds_plan.specs.declared.instance.Argument.{Argument}
use Rattle.eds_plan.specs.declared.instance.Member.{Member}
use Rattle.eds_generic.specs.declared.face.Base.{Base}
use Rattle.eds_generic.specs.declared.face.Face.{Face}
use Rattle.eds_generic.specs.declared.face.Generic.{Generic}
use Rattle.eds_generic.specs.declared.face.Mapped.{Mapped}
use Rattle.eds_generic.specs.declared.face.OwnArgument.{OwnArgument}
use Rattle.eds_generic.specs.declared.face.OwnMember.{OwnMember}
use Rattle.eds_generic.specs.declared.face.OwnMember.TheVariants as own_member
use Rattle.eds_generic.specs.declared.face.Source.{Source}
use Rattle.eds_generic.specs.declared.face.Source.TheVariants as source
use Rattle.eds_generic.specs.declared.pair.Bound.{Bound}
use Rattle.eds_generic.specs.declared.pair.Bound.TheVariants as bound
use Rattle.eds_generic.specs.declared.pair.Pair.{Pair}
use Rattle.eds_generic.specs.declared.used.FaceUse.{FaceUse}
use Rattle.eds_generic.specs.Faces.{generics, bases, own, mapped, is_at}
use Rattle.eds_generic.specs.Members.{id_or_first, type_in, argument_of, member_of, members_of, each_once, members, mapped_given, base_given, under}
use Rattle.eds_generic.specs.NameRules.{is_unmapped, unmapped_of, unmapped_at, names_under, keeping, limit_of, duplicates_of, breaks_unmapped, breaks_unknown, breaks_generic_base}
use Rattle.eds_generic.specs.Pairs.{handed, meant, meant_by, below, below_by, gathered, reached, most, is_among, put, put_all}
use Rattle.eds_generic.specs.Resolved.{breaks_given}
use Rattle.eds_generic.specs.Uses.{use_breaks, use_instance}
use Rattle.eds_generic.proofs.Lists.{append-none, map-none, all-joined}

-- ---- putting pairs

-- what holds of some pairs and of a further one holds where that is put among them
put-has : (Q : Pair → Type 0) (found : List Pair) (p : Pair) → AllByRecursion Q found → Q p → AllByRecursion Q (put found p)
put-has Q found p f h = go (is_among found p)
  where
    go : (b : Bool) → AllByRecursion Q (if b then found else found ++ p ∷ [])
    go true = f
    go false = all-joined Q found (p ∷ []) f (h, tt)

put_all-has : (Q : Pair → Type 0) (found ps : List Pair) → AllByRecursion Q found → AllByRecursion Q ps → AllByRecursion Q (put_all found ps)
put_all-has Q found [] f h = f
put_all-has Q found (p ∷ ps) f h = put_all-has Q (put found p) ps (put-has Q found p f h.0) h.1

-- where an interface breaks no rule under a map, none of the names that are reached is unmapped
none-unmapped : (faces : List Face) (types : List (Option TypeId)) (at : Place) (p : Pair) (ms : List Member) → breaks_given faces types at p ms ≡ [] → names_under unmapped_at faces types p ≡ []
none-unmapped faces types at p ms none =
    let few = limit_of at ms ++ duplicates_of at ms in
    let unmapped = breaks_unmapped faces types at p in
    let unknown = breaks_unknown faces types at p in
    let fitting = append-none (few ++ unmapped ++ unknown) (breaks_generic_base faces types at p) none in
    let known = append-none (few ++ unmapped) unknown fitting.0 in
    map-none (keeping Unmapped at) (names_under unmapped_at faces types p) (append-none few unmapped known.0).1

module _ (P : ℕ → Type 0) where
  -- ---- what interfaces name

  -- one of so many generic names, or a type with this
  abbrev pub SourceHas : (generics : ℕ) → Source → Type 0
  SourceHas n (source.Generic k) = k < n
  SourceHas n (source.Sort id) = P id.0

  -- so is what the map of a base names
  abbrev pub BaseHas : ℕ → Base → Type 0
  BaseHas n b = AllByRecursion (λ (m : Mapped). SourceHas n m.source) b.maps

  -- and what the arguments of a member name, if it is a command
  abbrev pub MemberHas : ℕ → OwnMember → Type 0
  MemberHas n (own_member.Parameter name s read_only) = Unit {0}
  MemberHas n (own_member.Command name arguments) = AllByRecursion (λ (a : OwnArgument). SourceHas n a.source) arguments

  -- all that an interface names so
  abbrev pub FaceHas : Face → Type 0
  FaceHas f = AllByRecursion (BaseHas (length f.generics)) f.bases × AllByRecursion (MemberHas (length f.generics)) f.members

  -- ---- what generic names stand for

  -- a type with this
  abbrev BoundHas : Bound → Type 0
  BoundHas bound.Unmapped = ⊥
  BoundHas (bound.Unknown face k) = ⊥
  BoundHas (bound.Sort id) = P id.0

  -- the same, or nothing, where no map gives it a type
  abbrev MayHave : Bound → Type 0
  MayHave bound.Unmapped = Unit {0}
  MayHave (bound.Unknown face k) = ⊥
  MayHave (bound.Sort id) = P id.0

  has-may : (b : Bound) → BoundHas b → MayHave b
  has-may bound.Unmapped h = tt
  has-may (bound.Unknown face k) h = h
  has-may (bound.Sort id) h = h

  handed-has : (face : FaceId) (k : ℕ) (b : Bound) → BoundHas b → BoundHas (handed face k (Some b))
  handed-has face k bound.Unmapped h = absurd h
  handed-has face k (bound.Unknown f j) h = absurd h
  handed-has face k (bound.Sort id) h = h

  place-has : (face : FaceId) (place : ℕ) (types : List Bound) (k : ℕ) → AllByRecursion BoundHas types → k < length types → BoundHas (handed face place (slice_get types k))
  place-has face place [] k h lt = absurd (omega (arith, lt))
  place-has face place (b ∷ types) zero h lt = handed-has face place b h.0
  place-has face place (b ∷ types) (suc k) h lt = place-has face place types k h.1 (omega (arith, lt))

  meant-has : (face : FaceId) (types : List Bound) (s : Source) → AllByRecursion BoundHas types → SourceHas (length types) s → BoundHas (meant face types s)
  meant-has face types (source.Generic k) h s = place-has face k types k h s
  meant-has face types (source.Sort id) h s = s

  mapped-has : (face : FaceId) (types : List Bound) (maps : List Mapped) (k : ℕ) → AllByRecursion BoundHas types → AllByRecursion (λ (m : Mapped). SourceHas (length types) m.source) maps → MayHave (meant_by face types (mapped maps k))
  mapped-has face types [] k h s = tt
  mapped-has face types (m ∷ maps) k h s = go (is_at m.generic k) (mapped-has face types maps k h s.1)
    where
      go : (b : Bool) → MayHave (meant_by face types (mapped maps k)) → MayHave (meant_by face types (if b then Some m.source else mapped maps k))
      go true rest = has-may (meant face types m.source) (meant-has face types m.source h s.0)
      go false rest = rest

  names-have : (face : FaceId) (types : List Bound) (maps : List Mapped) → AllByRecursion BoundHas types → AllByRecursion (λ (m : Mapped). SourceHas (length types) m.source) maps
      → (ks : List ℕ) → AllByRecursion MayHave (map (λ k. meant_by face types (mapped maps k)) ks)
  names-have face types maps h s [] = tt
  names-have face types maps h s (k ∷ ks) = (mapped-has face types maps k h s, names-have face types maps h s ks)

  -- where none of some names is unmapped, each stands for a type with this
  one-mapped : (name : List ℕ) (b : Bound) → (if is_unmapped b then name ∷ [] else []) ≡ [] → MayHave b → BoundHas b
  one-mapped name bound.Unmapped e h = absurd cc
  one-mapped name (bound.Unknown face k) e h = h
  one-mapped name (bound.Sort id) e h = h

  names-mapped : (gs : List Generic) (bs : List Bound) → length bs ≡ length gs → unmapped_of gs bs ≡ [] → AllByRecursion MayHave bs → AllByRecursion BoundHas bs
  names-mapped [] [] l e h = tt
  names-mapped [] (b ∷ bs) l e h = absurd (omega (arith, l))
  names-mapped (g ∷ gs) [] l e h = tt
  names-mapped (g ∷ gs) (b ∷ bs) l e h =
      let parts = append-none (if is_unmapped b then g.name ∷ [] else []) (unmapped_of gs bs) e in
      (one-mapped g.name b parts.0 h.0, names-mapped gs bs (omega (arith, l)) parts.1 h.1)

  -- ---- own members

  bound-has : (b : Bound) → BoundHas b → P (id_or_first (Some b)).0
  bound-has bound.Unmapped h = absurd h
  bound-has (bound.Unknown face k) h = absurd h
  bound-has (bound.Sort id) h = h

  place-type : (types : List Bound) (k : ℕ) → AllByRecursion BoundHas types → k < length types → P (id_or_first (slice_get types k)).0
  place-type [] k h lt = absurd (omega (arith, lt))
  place-type (b ∷ types) zero h lt = bound-has b h.0
  place-type (b ∷ types) (suc k) h lt = place-type types k h.1 (omega (arith, lt))

  type-has : (types : List Bound) (s : Source) → AllByRecursion BoundHas types → SourceHas (length types) s → P (type_in types s).0
  type-has types (source.Generic k) h s = place-type types k h s
  type-has types (source.Sort id) h s = s

  arguments-have : (types : List Bound) (arguments : List OwnArgument) → AllByRecursion BoundHas types → AllByRecursion (λ (a : OwnArgument). SourceHas (length types) a.source) arguments
      → AllByRecursion (λ (a : Argument). P a.id.0) (map (argument_of types) arguments)
  arguments-have types [] h s = tt
  arguments-have types (a ∷ arguments) h s = (type-has types a.source h s.0, arguments-have types arguments h s.1)

  member-has : (types : List Bound) (m : OwnMember) → AllByRecursion BoundHas types → MemberHas (length types) m → OnArguments P (member_of types m)
  member-has types (own_member.Parameter name s read_only) h o = tt
  member-has types (own_member.Command name arguments) h o = arguments-have types arguments h o

  own-have : (types : List Bound) (ms : List OwnMember) → AllByRecursion BoundHas types → AllByRecursion (MemberHas (length types)) ms → AllByRecursion (OnArguments P) (map (member_of types) ms)
  own-have types [] h o = tt
  own-have types (m ∷ ms) h o = (member-has types m h o.0, own-have types ms h o.1)

  -- ---- interfaces by their numbers

  face-bases : (faces : List Face) (f : ℕ) → AllByRecursion FaceHas faces → AllByRecursion (BaseHas (length (generics faces f))) (bases faces f)
  face-bases [] f h = tt
  face-bases (x ∷ faces) zero h = h.0.0
  face-bases (x ∷ faces) (suc f) h = face-bases faces f h.1

  face-members : (faces : List Face) (f : ℕ) → AllByRecursion FaceHas faces → AllByRecursion (MemberHas (length (generics faces f))) (own faces f)
  face-members [] f h = tt
  face-members (x ∷ faces) zero h = h.0.1
  face-members (x ∷ faces) (suc f) h = face-members faces f h.1

  -- ---- interfaces under maps

  -- each own generic name stands for a type with this, or for nothing that a map gives
  abbrev IsReady : List Face → Pair → Type 0
  IsReady faces p = (length p.types ≡ length (generics faces p.face.0)) × AllByRecursion MayHave p.types

  below-ready : (faces : List Face) (face : FaceId) (types : List Bound) (b : Base) → AllByRecursion BoundHas types → BaseHas (length types) b → IsReady faces (below_by faces face types b)
  below-ready faces face types b h s =
      (length-map-range_with_len (λ k. meant_by face types (mapped b.maps k)) 0 (length (generics faces b.face.0)), names-have face types b.maps h s (range_with_len 0 (length (generics faces b.face.0))))

  maps-have : (own_names : List (List ℕ)) (ms : List (List ℕ × TypeId)) → AllByRecursion (λ (m : List ℕ × TypeId). P m.1.0) ms → AllByRecursion (λ (m : Mapped). SourceHas 0 m.source) (map (mapped_given own_names) ms)
  maps-have own_names [] h = tt
  maps-have own_names (m ∷ ms) h = (h.0, maps-have own_names ms h.1)

  module _ (faces : List Face) (types : List (Option TypeId)) (known : AllByRecursion FaceHas faces) where
    -- what the own members of an interface carry under a map
    abbrev PairHas : Pair → Type 0
    PairHas p = AllByRecursion (OnArguments P) (members_of faces p)

    -- none of the own generic names of some interfaces is unmapped
    abbrev AreMapped : List Pair → Type 0
    AreMapped ps = flat_map (unmapped_at faces types) ps ≡ []

    bounds-have : (p : Pair) → IsReady faces p → unmapped_at faces types p ≡ [] → AllByRecursion BoundHas p.types
    bounds-have p ready none = names-mapped (generics faces p.face.0) p.types ready.0 none ready.1

    pair-has : (p : Pair) → IsReady faces p → AllByRecursion BoundHas p.types → PairHas p
    pair-has p ready h = own-have p.types (own faces p.face.0) h (subst (λ n. AllByRecursion (MemberHas n) (own faces p.face.0)) (sym ready.0) (face-members faces p.face.0 known))

    bases-have : (n : ℕ) (face : FaceId) (bounds : List Bound) → ((q : Pair) → IsReady faces q → AreMapped (reached n faces q) → AllByRecursion PairHas (gathered n faces q)) → AllByRecursion BoundHas bounds
        → (bs : List Base) → AllByRecursion (BaseHas (length bounds)) bs → AreMapped (flat_map (reached n faces) (map (below_by faces face bounds) bs)) → AllByRecursion PairHas (flat_map (gathered n faces) (map (below_by faces face bounds) bs))
    bases-have n face bounds each h [] s none = tt
    bases-have n face bounds each h (b ∷ bs) s none =
        let q = below_by faces face bounds b in
        let behind = map (below_by faces face bounds) bs in
        let parts = append-none (flat_map (unmapped_at faces types) (reached n faces q)) (flat_map (unmapped_at faces types) (flat_map (reached n faces) behind))
        (sym (flat_map-append (unmapped_at faces types) (reached n faces q) (flat_map (reached n faces) behind)) ∙ none) in
        all-joined PairHas (gathered n faces q) (flat_map (gathered n faces) behind) (each q (below-ready faces face bounds b h s.0) parts.0) (bases-have n face bounds each h bs s.1 parts.1)

    gathered-has : (n : ℕ) (p : Pair) → IsReady faces p → AreMapped (reached n faces p) → AllByRecursion PairHas (gathered n faces p)
    unfolding gathered reached
    gathered-has zero p ready none = tt
    gathered-has (suc n) p ready none =
        let parts = append-none (unmapped_at faces types p) (flat_map (unmapped_at faces types) (flat_map (reached n faces) (below faces p))) none in
        let h = bounds-have p ready parts.0 in
        let named = subst (λ k. AllByRecursion (BaseHas k) (bases faces p.face.0)) (sym ready.0) (face-bases faces p.face.0 known) in
        all-joined PairHas (flat_map (gathered n faces) (below faces p)) (p ∷ []) (bases-have n p.face p.types (λ q r m. gathered-has n q r m) h (bases faces p.face.0) named parts.1) (pair-has p ready h, tt)

    flat-has : (ps : List Pair) → AllByRecursion PairHas ps → AllByRecursion (OnArguments P) (flat_map (members_of faces) ps)
    flat-has [] h = tt
    flat-has (p ∷ ps) h = all-joined (OnArguments P) (members_of faces p) (flat_map (members_of faces) ps) h.0 (flat-has ps h.1)

    members-have : (face : FaceId) (ms : List (List ℕ × TypeId)) → AllByRecursion (λ (m : List ℕ × TypeId). P m.1.0) ms → names_under unmapped_at faces types (under faces face ms) ≡ []
        → AllByRecursion (OnArguments P) (members faces (under faces face ms))
    unfolding members
    members-have face ms h none =
        let p = under faces face ms in
        let ready = below-ready faces face [] (base_given faces face ms) tt (maps-have _ ms h) in
        flat-has (each_once faces p) (put_all-has PairHas [] (gathered (most faces) faces p) tt (gathered-has (most faces) p ready none))

    -- where a use breaks no rule, its commands carry what its map and the interfaces name
    pub use-has : (u : FaceUse) → AllByRecursion (λ (m : List ℕ × TypeId). P m.1.0) u.map → use_breaks faces types u ≡ [] → AllByRecursion (OnArguments P) (use_instance faces u).members
    use-has u h none = members-have u.face u.map h (none-unmapped faces types u.place (under faces u.face u.map) (members faces (under faces u.face u.map)) none)
