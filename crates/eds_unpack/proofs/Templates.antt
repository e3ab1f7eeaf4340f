-- What a template fills a room with is the value that the bits spell.
use Rattle.std.proofs.Common.{◌-◌, ◌+◌, ◌≡◌, ℕ, zero, suc, ◌<◌, ◌≤◌, pos, ◌+ℤ◌, ◌*ℤ◌, Bool, true, false, not, cond, List, [], ◌∷◌, ◌++◌, length, map, get_or, take, drop, Option, Some, None, Ok, refl, sym, ap, ap₂, subst, ◌∙◌, arith, append_assoc, append-nil, length-drop}
use Rattle.std.specs.Prelude.{slice_get, ◌==◌, ◌&&◌, IfSome}
use Rattle.std.specs.Bool.{OnTrue}
use Rattle.std.specs.List.{All, AllByRecursion, list_all}
use Rattle.std.proofs.lemmas.Bool.{eq-eqb}
use Rattle.std.proofs.lemmas.List.{drop-drop, length-append, length-take-le}
use Rattle.std.proofs.lemmas.List.Elements.{All-from_recursion}
use Rattle.eds_base.specs.declared.fault.Fault.{Fault}
use Rattle.eds_base.specs.declared.ids.TypeId.{TypeId}
use Rattle.eds_bits.specs.Bits.{Bits, octets_for}
use Rattle.eds_bits.specs.IntForms.{number_of}
use Rattle.eds_bits.specs.Scalars.{IsText, check_of}
use Rattle.eds_bits.specs.Style.{any}
use Rattle.eds_types.specs.declared.row.Container.{Container}
use Rattle.eds_types.specs.declared.row.Kind.{Kind}
use Rattle.eds_types.specs.declared.row.Kind.TheVariants as kind
use Rattle.eds_types.specs.declared.row.Part.{Part}
use Rattle.eds_types.specs.declared.row.Part.TheVariants as part
use Rattle.eds_types.specs.declared.row.TypeRow.{TypeRow}
use Rattle.eds_types.specs.Choices.{meets, fits_choice}
use Rattle.eds_types.specs.Failing.{FailsWithin}
use Rattle.eds_types.specs.Families.{first_of}
use Rattle.eds_types.specs.Fields.{Field, type_by, part_at, value_at, values_of, Holds, IsAtOrUnder, constraints_along}
use Rattle.eds_types.specs.Plain.{Plain, num, text, truth, fields, plains_of, list_of}
use Rattle.eds_types.specs.Reading.{Read, judge, read_bits, ranged, named, truth_of, read_within, candidate_under}
use Rattle.eds_types.specs.Rows.{Table, Placed, address, family, id_of, sequence, container_by, container_in, container_of}
use Rattle.eds_types.specs.Rules.{KeepsRules}
use Rattle.eds_types.specs.Spelling.{Progress, started, with_value, with_octets, with_bits, PartPasses, PartsPass, ContainerSpells, KindSpells, SpellsWithin, Spells}
use Rattle.eds_types.proofs.Candidates.{numbers_are, candidate_is_first}
use Rattle.eds_types.proofs.ExactReading.{Is, Exact}
use Rattle.eds_types.proofs.FieldTypes.{IsPlaced, sequence_placed}
use Rattle.eds_types.proofs.ReadingTests.{none_is}
use Rattle.eds_types.proofs.RuleFacts.{table_of}
use Rattle.eds_types.proofs.SameValues.{list_of-plains_of}
use Rattle.eds_types.proofs.ScalarReading.{int_exact, enum_exact, bool_exact}
use Rattle.eds_types.proofs.Tables.{IsOneLabel}
use Rattle.eds_unpack.specs.declared.segment.Operation.{Operation}
use Rattle.eds_unpack.specs.declared.template.Role.{Role}
use Rattle.eds_unpack.specs.declared.template.Role.TheVariants as role
use Rattle.eds_unpack.specs.declared.template.Template.{Template}
use Rattle.eds_unpack.specs.declared.template.TemplatePart.{TemplatePart}
use Rattle.eds_unpack.specs.declared.template.TemplatePart.TheVariants as template
use Rattle.eds_unpack.specs.declared.template.TextPart.{TextPart}
use Rattle.eds_unpack.specs.declared.scalar.Scalar.{Scalar}
use Rattle.eds_unpack.specs.Courses.{fields_at}
use Rattle.eds_unpack.specs.Scalars.{plain_of}
use Rattle.eds_unpack.specs.Segments.{IsOperation, Says, bits_in, scalar_bits, scalar_of, value_in}
use Rattle.eds_unpack.specs.Templates.{AreKeys, AreTemplateParts, IsSmall, IsOfType, IsPartAt, IsTemplateOf, IsTemplatePart, IsTextPart, PartSays, PartsSay, RoleSays, TextSays, begin_of, kept, role_of, size_of, use_of}
use Rattle.eds_unpack.proofs.SegmentReads.{judged_bits}
use Rattle.eds_unpack.proofs.StraightReads.{first_is_none, only_is}

-- ---- making templates

-- one part more
pub parts_more : (t : Table) (at last : ℕ) (ps : List (TypeId × ℕ)) (xs : List TemplatePart) (qs : List (TypeId × ℕ)) (p : TypeId × ℕ) (x : TemplatePart) → AreTemplateParts t at last ps xs qs → begin_of x ≡ last → IsPartAt t (part_at t p) x
    → AreTemplateParts t at (last + size_of x) (ps ++ p ∷ []) (xs ++ x ∷ []) (qs ++ kept (use_of x) p)
parts_more t at last [] [] qs p x h e is = (e ∙ sym h.0, is, ([], ap (λ z. z ++ kept (use_of x) p) h.1 ∙ sym (append-nil (kept (use_of x) p)), (ap (λ k. k + size_of x) h.0, refl)))
parts_more t at last [] (y ∷ xs) qs p x h e is = absurd h
parts_more t at last (q ∷ ps) [] qs p x h e is = absurd h
parts_more t at last (q ∷ ps) (y ∷ xs) qs p x h e is =
    let more = h.2.0 in
    (h.0, h.1, (more ++ kept (use_of x) p, ap (λ z. z ++ kept (use_of x) p) h.2.1 ∙ append_assoc (kept (use_of y) q) more (kept (use_of x) p), parts_more t (at + size_of y) last ps xs more p x h.2.2 e is))

-- ---- what holds of each part

pub ends_behind : (t : Table) (at last : ℕ) (ps : List (TypeId × ℕ)) (xs : List TemplatePart) (qs : List (TypeId × ℕ)) → AreTemplateParts t at last ps xs qs → at ≤ last
ends_behind t at last [] [] qs h = let e = h.0 in omega arith
ends_behind t at last [] (x ∷ xs) qs h = absurd h
ends_behind t at last (p ∷ ps) [] qs h = absurd h
ends_behind t at last (p ∷ ps) (x ∷ xs) qs h = let more = ends_behind t (at + size_of x) last ps xs h.2.0 h.2.2 in omega arith

part_is : (t : Table) (o : Option Part) (x : TemplatePart) → IsPartAt t o x → IsOfType t x × IsSmall (use_of x)
part_is t None x h = absurd h
part_is t (Some p) x h = (h.is, h.near)

are_parts : (t : Table) (at last m : ℕ) (ps : List (TypeId × ℕ)) (xs : List TemplatePart) (qs : List (TypeId × ℕ)) → last ≤ m → AreTemplateParts t at last ps xs qs
    → AllByRecursion (λ (x : TemplatePart). IsOfType t x × IsSmall (use_of x) × (begin_of x + size_of x ≤ m)) xs
are_parts t at last m [] [] qs few h = tt
are_parts t at last m [] (x ∷ xs) qs few h = absurd h
are_parts t at last m (p ∷ ps) [] qs few h = absurd h
are_parts t at last m (p ∷ ps) (x ∷ xs) qs few h =
    let place = h.0 in
    let more = ends_behind t (at + size_of x) last ps xs h.2.0 h.2.2 in
    let is = part_is t (part_at t p) x h.1 in
    ((is.0, is.1, omega arith), are_parts t (at + size_of x) last m ps xs h.2.0 few h.2.2)

-- ---- scalars

full : (c d : Bits) → c ≡ d ++ drop (length c) c → d ≡ c
full c d e = sym (e ∙ ap (λ z. d ++ z) (past c) ∙ append-nil d)
  where
    past : (c : Bits) → drop (length c) c ≡ []
    past [] = refl
    past (x ∷ c) = past c

spelled_by : (P : Plain → Bits → Type 0) (F : Bits → Fault → Type 0) (read : Bits → Read Plain) (n : ℕ) (v : Plain) (c : Bits) → Exact read P F → length c ≡ n → read c ≡ Ok (v, drop n c) → P v c
spelled_by P F read n v c exact l e =
    let h = subst (Is P F c) e (exact.from c) in
    subst (P v) (full c h.front (subst (λ m. c ≡ h.front ++ drop m c) (sym l) h.is)) h.has

all : (c : Bits) (m : ℕ) → length c ≡ m → take m c ≡ c
all c m l = ap (λ n. take n c) (sym l) ∙ whole c
  where
    whole : (c : Bits) → take (length c) c ≡ c
    whole [] = refl
    whole (x ∷ c) = ap (λ d. x ∷ d) (whole c)

-- a scalar's bits spell the value that they have
scalar_spells : (t : Table) → KeepsRules t → (n id m : ℕ) (v : Plain) (c : Bits) → length c ≡ m → bits_in (slice_get t id) ≡ Some m → value_in (slice_get t id) c ≡ Ok v → SpellsWithin (suc n) any t id v c
unfolding SpellsWithin
scalar_spells t rules n id m v c l e k = row (slice_get t id) refl e k
  where
    go : (r : TypeRow) → slice_get t id ≡ Some r → (q : Kind) → r.kind ≡ q → scalar_bits q ≡ Some m → scalar_of q c ≡ Ok v → KindSpells any t (SpellsWithin n any t) id q v c
    go r there (kind.Int form spans) same e k =
        let size : form.bits ≡ m = cc in
        spelled_by (KindSpells any t (SpellsWithin n any t) id (kind.Int form spans)) _ (λ b. judge (λ c. ranged spans (number_of form c)) (read_bits form.bits b)) m v c (int_exact t (read_within n t) (SpellsWithin n any t) (FailsWithin n t) id form spans) l
        (judged_bits (λ c. ranged spans (number_of form c)) form.bits m c v size (omega (arith, l)) (ap (λ b. ranged spans (number_of form b)) (all c m l) ∙ k))
    go r there (kind.Enum form listing) same e k =
        let size : form.bits ≡ m = cc in
        spelled_by (KindSpells any t (SpellsWithin n any t) id (kind.Enum form listing)) _ (λ b. judge (λ c. named listing (number_of form c)) (read_bits form.bits b)) m v c (enum_exact t (read_within n t) (SpellsWithin n any t) (FailsWithin n t) id form listing (subst IsOneLabel same ((table_of t rules).one_label id r there))) l
        (judged_bits (λ c. named listing (number_of form c)) form.bits m c v size (omega (arith, l)) (ap (λ b. named listing (number_of form b)) (all c m l) ∙ k))
    go r there (kind.Bool form) same e k =
        let size : form.bits ≡ m = cc in
        spelled_by (KindSpells any t (SpellsWithin n any t) id (kind.Bool form)) _ (λ b. judge (λ c. Ok (truth (truth_of form c))) (read_bits form.bits b)) m v c (bool_exact t (read_within n t) (SpellsWithin n any t) (FailsWithin n t) id form) l
        (judged_bits (λ c. Ok (truth (truth_of form c))) form.bits m c v size (omega (arith, l)) (ap (λ b. Ok (truth (truth_of form b))) (all c m l) ∙ k))
    go r there (kind.Str form) same e k = absurd cc
    go r there (kind.Bin size free) same e k = absurd cc
    go r there (kind.Arr item size) same e k = absurd cc
    go r there (kind.Con q) same e k = absurd cc

    row : (o : Option TypeRow) → slice_get t id ≡ o → bits_in o ≡ Some m → value_in o c ≡ Ok v → (r : TypeRow) × (slice_get t id ≡ Some r) × KindSpells any t (SpellsWithin n any t) id r.kind v c
    row None f e k = absurd cc
    row (Some r) f e k = (r, f, go r f r.kind refl e k)

-- the same, where at most n types are nested in each other
spells_within : (t : Table) → KeepsRules t → (n : ℕ) → 0 < n → (id m : ℕ) (v : Plain) (c : Bits) → length c ≡ m → bits_in (slice_get t id) ≡ Some m → value_in (slice_get t id) c ≡ Ok v → SpellsWithin n any t id v c
spells_within t rules zero some id m v c l e k = absurd (omega arith)
spells_within t rules (suc n) some id m v c l e k = scalar_spells t rules n id m v c l e k

-- the bits of a text spell it
text_spells : (t : Table) (n : ℕ) (x : TextPart) (s : List ℕ) (c : Bits) → IsTextPart t x → IsText any x.form s c → SpellsWithin (suc n) any t x.id.0 (text s) c
unfolding SpellsWithin
text_spells t n x s c is h = (is.row, is.there, subst (λ q. KindSpells any t (SpellsWithin n any t) x.id.0 q (text s) c) (sym is.kind) (s, refl, h))

text_within : (t : Table) (n : ℕ) → 0 < n → (x : TextPart) (s : List ℕ) (c : Bits) → IsTextPart t x → IsText any x.form s c → SpellsWithin n any t x.id.0 (text s) c
text_within t zero some x s c is h = absurd (omega arith)
text_within t (suc n) some x s c is h = text_spells t n x s c is h

-- ---- parts

nothing : {A : Type 0} (n : ℕ) → ◌≡◌ {A = List A} (take n []) []
nothing zero = refl
nothing (suc n) = refl

take_add : {A : Type 0} (i j : ℕ) (xs : List A) → take (i + j) xs ≡ take i xs ++ take j (drop i xs)
take_add zero j xs = let e : 0 + j ≡ j = omega arith in ap (λ n. take n xs) e
take_add (suc i) j [] = nothing (suc i + j) ∙ sym (nothing j)
take_add (suc i) j (x ∷ xs) = let e : suc i + j ≡ suc (i + j) = omega arith in ap (λ n. take n (x ∷ xs)) e ∙ ap (λ ys. x ∷ ys) (take_add i j xs)

module _ (t : Table) (rules : KeepsRules t) (n : ℕ) (some : 0 < n) (b : Bits) (octets : ℕ) where
  abbrev Inner : ℕ → Plain → Bits → Type 0
  Inner = SpellsWithin n any t

  -- the bits of an operation
  abbrev piece : Operation → Bits
  piece o = take o.bits (drop o.at b)

  -- those of a part
  abbrev piece_of : TemplatePart → Bits
  piece_of x = take (size_of x) (drop (begin_of x) b)

  piece_size : (o : Operation) → o.at + o.bits ≤ length b → length (piece o) ≡ o.bits
  piece_size o few = length-take-le o.bits (drop o.at b) (omega (arith, length-drop o.at b))

  says_spells : (o : Operation) (v : Plain) → IsOperation t o → o.at + o.bits ≤ length b → Says t b o v → Inner o.id.0 v (piece o)
  says_spells o v is few says = spells_within t rules n some o.id.0 o.bits v (piece o) (piece_size o few) is.size says

  -- what is told, if anything is, is as many octets as there are
  abbrev IsTold : Progress → Type 0
  IsTold s = IfSome s.octets (λ k. k ≡ pos octets)

  -- a part leads from one state to another
  record Passed (s u : Progress) (p : Placed) (q : Part) (x : TemplatePart) (us : List Plain) : Type 0 where
    passes : PartPasses any t Inner s p q u (piece_of x)
    fields : u.fields ≡ s.fields ++ fields_at (kept (use_of x) (address p)) us
    before : u.before ≡ s.before ++ piece_of x
    told : IsTold u

  no_field : (fs : List Field) (p : Placed) (r q : Role) (us : List Plain) → kept q (address p) ≡ [] → q ≡ r → us ≡ [] → fs ≡ fs ++ fields_at (kept r (address p)) us
  no_field fs p r q us none e f = sym (append-nil fs) ∙ ap₂ (λ qs vs. fs ++ fields_at qs vs) (sym none ∙ ap (λ x. kept x (address p)) e) (sym f)

  scalar_passes : (s : Progress) (p : Placed) (q : Part) (o : Operation) (r : Role) (us : List Plain) → role_of q ≡ Some r → type_by (Some q) ≡ Some o.id.0 → IsOperation t o → o.at + o.bits ≤ length b
      → s.before ≡ take o.at b → IsTold s → RoleSays t b octets o r us → (u : Progress) × Passed s u p q (template.Scalar o r) us
  scalar_passes s p (part.Plain name id) o r us e y is few before told says =
      let same : role.Field ≡ r = cc in
      let typed : id.0 ≡ o.id.0 = cc in
      let so = subst (λ r. RoleSays t b octets o r us) (sym same) says in (
        with_value s p so.0 (piece o),
        record {
          passes = (so.0, subst (λ i. Inner i so.0 (piece o)) (sym typed) (says_spells o so.0 is few so.1), refl);
          fields = ap₂ (λ x vs. s.fields ++ fields_at (kept x (address p)) vs) same (sym so.2);
          before = refl;
          told = told;
        },
      )
  scalar_passes s p (part.Fixed name id v) o r us e y is few before told says = absurd cc
  scalar_passes s p (part.Pad m) o r us e y is few before told says = absurd cc
  scalar_passes s p (part.List name id z i) o r us e y is few before told says = absurd cc
  scalar_passes s p (part.Length name id c0 c1) o r us e y is few before told says =
      let same : role.Length c0 c1 ≡ r = cc in
      let typed : id.0 ≡ o.id.0 = cc in
      let so = subst (λ r. RoleSays t b octets o r us) (sym same) says in (
        with_octets s (c0 +ℤ (c1 *ℤ so.0)) (piece o),
        record {
          passes = (so.0, subst (λ i. Inner i (num so.0) (piece o)) (sym typed) (says_spells o (num so.0) is few so.1), refl);
          fields = no_field s.fields p r (role.Length c0 c1) us refl same so.3;
          before = refl;
          told = so.2;
        },
      )
  scalar_passes s p (part.Check name id k) o r us e y is few before told says =
      let same : role.Check k ≡ r = cc in
      let typed : id.0 ≡ o.id.0 = cc in
      let so = subst (λ r. RoleSays t b octets o r us) (sym same) says in
      let spelled = says_spells o (num (pos (check_of k (take o.at b)))) is few so.0 in (
        with_bits s (piece o),
        record {
          passes = (subst (λ i. Inner i (num (pos (check_of k s.before))) (piece o)) (sym typed) (subst (λ w. Inner o.id.0 (num (pos (check_of k w))) (piece o)) (sym before) spelled), refl);
          fields = no_field s.fields p r (role.Check k) us refl same so.1;
          before = refl;
          told = told;
        },
      )

  text_passes : (s : Progress) (p : Placed) (q : Part) (x : TextPart) (us : List Plain) → role_of q ≡ Some role.Field → type_by (Some q) ≡ Some x.id.0 → IsTextPart t x → IsTold s → TextSays b x us → (u : Progress) × Passed s u p q (template.Text x) us
  text_passes s p (part.Plain name id) x us e y is told says =
      let typed : id.0 ≡ x.id.0 = cc in
      let c = piece_of (template.Text x) in
      let v = text says.0 in (
        with_value s p v c,
        record {
          passes = (v, subst (λ i. Inner i v c) (sym typed) (text_within t n some x says.0 c is says.1), refl);
          fields = ap (λ vs. s.fields ++ fields_at (address p ∷ []) vs) (sym says.2);
          before = refl;
          told = told;
        },
      )
  text_passes s p (part.Fixed name id v) x us e y is told says = absurd cc
  text_passes s p (part.Pad m) x us e y is told says = absurd cc
  text_passes s p (part.List name id z i) x us e y is told says = absurd cc
  text_passes s p (part.Length name id c0 c1) x us e y is told says = absurd cc
  text_passes s p (part.Check name id k) x us e y is told says = absurd cc

  part_passes : (s : Progress) (p : Placed) (q : Part) (x : TemplatePart) (us : List Plain) → IsTemplatePart t q x → begin_of x + size_of x ≤ length b → s.before ≡ take (begin_of x) b → IsTold s → PartSays t b octets x us → (u : Progress) × Passed s u p q x us
  part_passes s p q (template.Scalar o r) us is few before told says = scalar_passes s p q o r us is.role is.typed is.is few before told says
  part_passes s p q (template.Text x) us is few before told says = text_passes s p q x us is.role is.typed is.is told says

  fields_split : (r : Role) (o : Operation) (p : TypeId × ℕ) (us ws : List Plain) (qs : List (TypeId × ℕ)) → RoleSays t b octets o r us → fields_at (kept r p ++ qs) (us ++ ws) ≡ fields_at (kept r p) us ++ fields_at qs ws
  fields_split role.Field o p us ws qs h = ap (λ vs. fields_at (p ∷ qs) (vs ++ ws)) h.2 ∙ sym (ap (λ vs. fields_at (p ∷ []) vs ++ fields_at qs ws) h.2)
  fields_split (role.Length c0 c1) o p us ws qs h = ap (λ vs. fields_at qs (vs ++ ws)) h.3 ∙ sym (ap (λ vs. fields_at [] vs ++ fields_at qs ws) h.3)
  fields_split (role.Check k) o p us ws qs h = ap (λ vs. fields_at qs (vs ++ ws)) h.1 ∙ sym (ap (λ vs. fields_at [] vs ++ fields_at qs ws) h.1)

  part_split : (x : TemplatePart) (p : TypeId × ℕ) (us ws : List Plain) (qs : List (TypeId × ℕ)) → PartSays t b octets x us → fields_at (kept (use_of x) p ++ qs) (us ++ ws) ≡ fields_at (kept (use_of x) p) us ++ fields_at qs ws
  part_split (template.Scalar o r) p us ws qs h = fields_split r o p us ws qs h
  part_split (template.Text x) p us ws qs h = ap (λ vs. fields_at (p ∷ qs) (vs ++ ws)) h.2 ∙ sym (ap (λ vs. fields_at (p ∷ []) vs ++ fields_at qs ws) h.2)

  -- parts lead from one state to another, through their bits
  record Went (s u : Progress) (at last : ℕ) (ps : List Placed) (qs : List (TypeId × ℕ)) (vs : List Plain) : Type 0 where
    passes : PartsPass any t Inner s ps u (take (last - at) (drop at b))
    fields : u.fields ≡ s.fields ++ fields_at qs vs
    before : u.before ≡ take last b
    told : IsTold u

  parts_pass : (at last : ℕ) (ps : List Placed) (xs : List TemplatePart) (qs : List (TypeId × ℕ)) (vs : List Plain) (s : Progress) → AllByRecursion (IsPlaced t) ps → AreTemplateParts t at last (map address ps) xs qs → PartsSay t b octets xs vs → last ≤ length b
      → s.before ≡ take at b → IsTold s → (u : Progress) × Went s u at last ps qs vs
  parts_pass at last [] [] qs vs s a h k few before told =
      let none : last - at ≡ 0 = (let e = h.0 in omega arith) in (
        s,
        record {
          passes = (refl, ap (λ m. take m (drop at b)) none);
          fields = sym (append-nil s.fields) ∙ sym (ap₂ (λ q v. s.fields ++ fields_at q v) h.1 k);
          before = before ∙ ap (λ m. take m b) h.0;
          told = told;
        },
      )
  parts_pass at last [] (x ∷ xs) qs vs s a h k few before told = absurd h
  parts_pass at last (p ∷ ps) [] qs vs s a h k few before told = absurd h
  parts_pass at last (p ∷ ps) (x ∷ xs) qs vs s a h k few before told =
      let size = size_of x in
      let is : IsTemplatePart t p.part x = subst (λ q. IsPartAt t q x) a.0 h.1 in
      let place = h.0 in
      let end = ends_behind t (at + size) last (map address ps) xs h.2.0 h.2.2 in
      let one = part_passes s p p.part x k.0 is (omega arith) (before ∙ ap (λ m. take m b) (sym place)) told k.3 in
      let m = one.0 in
      let here : piece_of x ≡ take size (drop at b) = ap (λ i. take size (drop i b)) place in
      let come : m.before ≡ take (at + size) b = one.1.before ∙ ap₂ (λ y z. y ++ z) before here ∙ sym (take_add at size b) in
      let rest = parts_pass (at + size) last ps xs h.2.0 k.1 m a.1 h.2.2 k.4 few come one.1.told in
      let left : last - at ≡ size + (last - (at + size)) = omega arith in
      let bits : take (last - at) (drop at b) ≡ piece_of x ++ take (last - (at + size)) (drop (at + size) b) =
      ap (λ i. take i (drop at b)) left ∙ take_add size (last - (at + size)) (drop at b) ∙ ap₂ (λ y z. y ++ take (last - (at + size)) z) (sym here) (drop-drop size at b ∙ ap (λ i. drop i b) (omega arith)) in (
        rest.0,
        record {
          passes = (m, piece_of x, take (last - (at + size)) (drop (at + size) b), bits, one.1.passes, rest.1.passes);
          fields = rest.1.fields ∙ ap (λ fs. fs ++ fields_at h.2.0 k.1) one.1.fields ∙ append_assoc s.fields (fields_at (kept (use_of x) (address p)) k.0) (fields_at h.2.0 k.1)
              ∙ ap (λ fs. s.fields ++ fs) (sym (ap₂ fields_at h.2.1 k.2 ∙ part_split x (address p) k.0 k.1 h.2.0 k.3));
          before = rest.1.before;
          told = rest.1.told;
        },
      )

-- ---- the container

abbrev as_many : List (TypeId × ℕ) → List Plain → Type 0
as_many qs vs = length qs ≡ length vs

one_each : (t : Table) (b : Bits) (octets : ℕ) (r : Role) (o : Operation) (p : TypeId × ℕ) (us : List Plain) → RoleSays t b octets o r us → as_many (kept r p) us
one_each t b octets role.Field o p us h = sym (ap length h.2)
one_each t b octets (role.Length c0 c1) o p us h = sym (ap length h.3)
one_each t b octets (role.Check k) o p us h = sym (ap length h.1)

one_for_part : (t : Table) (b : Bits) (octets : ℕ) (x : TemplatePart) (p : TypeId × ℕ) (us : List Plain) → PartSays t b octets x us → as_many (kept (use_of x) p) us
one_for_part t b octets (template.Scalar o r) p us h = one_each t b octets r o p us h
one_for_part t b octets (template.Text x) p us h = sym (ap length h.2)

-- there is a value for each field
pub each_place : (t : Table) (b : Bits) (octets at last : ℕ) (ps : List (TypeId × ℕ)) (xs : List TemplatePart) (qs : List (TypeId × ℕ)) (vs : List Plain) → AreTemplateParts t at last ps xs qs → PartsSay t b octets xs vs → length qs ≡ length vs
each_place t b octets at last [] [] qs vs h k = ap length h.1 ∙ sym (ap length k)
each_place t b octets at last [] (x ∷ xs) qs vs h k = absurd h
each_place t b octets at last (p ∷ ps) [] qs vs h k = absurd h
each_place t b octets at last (p ∷ ps) (x ∷ xs) qs vs h k =
    let one = one_for_part t b octets x p k.0 k.3 in
    let rest = each_place t b octets (at + size_of x) last ps xs h.2.0 k.1 h.2.2 k.4 in
    ap length h.2.1 ∙ length-append (kept (use_of x) p) h.2.0 ∙ ap₂ (λ i j. i + j) one rest ∙ sym (ap length k.2 ∙ length-append k.0 k.1)

values_at : (qs : List (TypeId × ℕ)) (vs : List Plain) → length qs ≡ length vs → values_of (fields_at qs vs) ≡ vs
values_at [] [] e = refl
values_at [] (v ∷ vs) e = absurd (omega (arith, e))
values_at (q ∷ qs) [] e = absurd (omega (arith, e))
values_at (q ∷ qs) (v ∷ vs) e = ap (λ ws. v ∷ ws) (values_at qs vs (omega (arith, e)))

module _ (t : Table) (rules : KeepsRules t) (k : ℕ) (m : Template) (is : IsTemplateOf t k m) where
  no_candidate : (fs : List Field) → candidate_under t k fs ≡ None
  no_candidate fs =
      let self : fits_choice t k fs k ≡ false = ap (λ c. not c && list_all (meets t k fs) (constraints_along t k)) (eq-eqb k k refl) in
      sym (candidate_is_first t k fs (map id_of (family t k)) refl) ∙ ap (first_of (fits_choice t k fs)) (numbers_are (map id_of (family t k)) (family t k) refl) ∙ first_is_none (fits_choice t k fs) k (family t k) (only_is k (family t k) is.last) self

  module _ (b : Bits) (vs : List Plain) (s : ℕ) (under : IsAtOrUnder t s k) (few : m.bits ≤ length b) (say : PartsSay t b (octets_for m.bits) m.parts.items vs) (hold : AllByRecursion (Holds t (fields_at m.places.items vs)) (constraints_along t k)) where
    container_spells : ContainerSpells any t (SpellsWithin 31 any t) s k (list_of (plains_of vs)) (take m.bits b)
    container_spells =
        let went = parts_pass t rules 31 (omega arith) b (octets_for m.bits) 0 m.bits (sequence t k) m.parts.items m.places.items vs started (sequence_placed t k) is.parts say few refl tt in
        let u = went.0 in
        let whole : m.bits - 0 ≡ m.bits = omega arith in
        let size : length u.before ≡ m.bits = ap length went.1.before ∙ length-take-le m.bits b few in
        record {
          concrete = is.concrete;
          under = under;
          end = u;
          parts = subst (λ i. PartsPass any t (SpellsWithin 31 any t) started (sequence t k) u (take i b)) whole went.1.passes;
          values = list_of-plains_of vs ∙ sym (ap values_of went.1.fields ∙ values_at m.places.items vs (each_place t b (octets_for m.bits) 0 m.bits (map address (sequence t k)) m.parts.items m.places.items vs is.parts say));
          size = subst (λ j. IfSome u.octets (λ n. n ≡ pos (octets_for j))) (sym size) went.1.told;
          constraints = subst (λ fs. AllByRecursion (Holds t fs) (constraints_along t k)) (sym went.1.fields) hold;
          most_derived = λ l ne un c. none_is t k u.fields (no_candidate u.fields) l ne c;
        }

    by_kind : (c : Container) (q : Kind) → container_by q ≡ Some c → KindSpells any t (SpellsWithin 31 any t) s q (fields k (plains_of vs)) (take m.bits b)
    by_kind c (kind.Int form spans) e = absurd cc
    by_kind c (kind.Enum form listing) e = absurd cc
    by_kind c (kind.Bool form) e = absurd cc
    by_kind c (kind.Str form) e = absurd cc
    by_kind c (kind.Bin n free) e = absurd cc
    by_kind c (kind.Arr item n) e = absurd cc
    by_kind c (kind.Con d) e = (k, plains_of vs, refl, container_spells)

    -- the bits spell the container with these values
    pub template_spells : (c : Container) → container_of t s ≡ Some c → Spells t s (fields k (plains_of vs)) (take m.bits b)
    unfolding SpellsWithin
    template_spells c e = row (slice_get t s) refl e
      where
        row : (o : Option TypeRow) → slice_get t s ≡ o → container_in o ≡ Some c → (r : TypeRow) × (slice_get t s ≡ Some r) × KindSpells any t (SpellsWithin 31 any t) s r.kind (fields k (plains_of vs)) (take m.bits b)
        row None f e = absurd cc
        row (Some r) f e = (r, f, by_kind c r.kind e)

-- ---- where fields stand

-- the step leads to another place
abbrev pub IsElsewhere : TypeId × ℕ → TypeId × ℕ → Type 0
IsElsewhere step q = ((q.0).0 == (step.0).0 && q.1 == step.1) ≡ false

-- the value at the first place that a step leads to
pub value_there : (qs : List (TypeId × ℕ)) (vs : List Plain) (i : ℕ) (q step : TypeId × ℕ) → length qs ≡ length vs → i < length qs → AllByRecursion (IsElsewhere step) (take i qs) → ((get_or qs i q).0).0 == (step.0).0 && (get_or qs i q).1 == step.1 ≡ true
    → value_at (fields_at qs vs) (step.0).0 step.1 ≡ slice_get vs i
value_there [] vs i q step l lt h e = absurd (omega arith)
value_there (p ∷ qs) [] i q step l lt h e = absurd (omega (arith, l))
value_there (p ∷ qs) (v ∷ vs) zero q step l lt h e = ap (λ b. cond b (Some v) (value_at (fields_at qs vs) (step.0).0 step.1)) e
value_there (p ∷ qs) (v ∷ vs) (suc i) q step l lt h e = ap (λ b. cond b (Some v) (value_at (fields_at qs vs) (step.0).0 step.1)) h.0 ∙ value_there qs vs i q step (omega (arith, l)) (omega arith) h.1 e

-- ---- filling a room

say_nothing : (t : Table) (b : Bits) (octets : ℕ) (vs : List Plain) → vs ≡ [] → PartsSay t b octets [] vs
say_nothing t b octets vs e = e

-- one part more says its value
pub say_more_parts : (t : Table) (b : Bits) (octets : ℕ) (xs : List TemplatePart) (x : TemplatePart) (vs us : List Plain) → PartsSay t b octets xs vs → PartSays t b octets x us → PartsSay t b octets (xs ++ x ∷ []) (vs ++ us)
say_more_parts t b octets [] x vs us h r = (us, [], ap (λ z. z ++ us) h ∙ sym (append-nil us), r, refl)
say_more_parts t b octets (y ∷ xs) x vs us h r = (h.0, h.1 ++ us, ap (λ z. z ++ us) h.2 ∙ append_assoc h.0 h.1 us, h.3, say_more_parts t b octets xs x h.1 us h.4 r)

-- ---- small facts

pub on_weaker : {P Q : Type 0} (b : Bool) → (P → Q) → OnTrue b P → OnTrue b Q
on_weaker true f h = f h
on_weaker false f h = tt

pub only_one : (xs : List (TypeId × ℕ)) (x : TypeId × ℕ) → 1 ≤ length xs → length xs < 2 → xs ≡ get_or xs 0 x ∷ []
only_one [] x some few = absurd (omega arith)
only_one (y ∷ []) x some few = refl
only_one (y ∷ z ∷ xs) x some few = absurd (omega arith)

pub scalar_there : (xs : List Scalar) (i : ℕ) (x : Scalar) → i < length xs → x ≡ get_or xs i x → slice_get (map plain_of xs) i ≡ Some (plain_of x)
scalar_there [] i x lt e = absurd (omega arith)
scalar_there (y ∷ xs) zero x lt e = ap (λ z. Some (plain_of z)) (sym e)
scalar_there (y ∷ xs) (suc i) x lt e = scalar_there xs i x (omega arith) e

-- ---- keys

pub one_key_more : (t : Table) (each : List (Option Operation)) (o : Option Operation) → AreKeys t each → IfSome o (IsOperation t) → AreKeys t (each ++ o ∷ [])
one_key_more t each o are is = λ id k e. go each (λ i k e. are i k e) id k e
  where
    last : (o : Option Operation) (k : Operation) → IfSome o (IsOperation t) → o ≡ Some k → IsOperation t k
    last o k h e = subst (λ x. IfSome x (IsOperation t)) e h

    go : (each : List (Option Operation)) → ((i : ℕ) (k : Operation) → slice_get each i ≡ Some (Some k) → IsOperation t k) → (i : ℕ) (k : Operation) → slice_get (each ++ o ∷ []) i ≡ Some (Some k) → IsOperation t k
    go [] h zero k e = last o k is cc
    go [] h (suc i) k e = absurd cc
    go (x ∷ each) h zero k e = h zero k e
    go (x ∷ each) h (suc i) k e = go each (λ j k e. h (suc j) k e) i k e

-- ---- reading by a template

-- each part of a template is as it should be, and within so many bits
pub parts_are : (t : Table) (k n : ℕ) (m : Template) → IsTemplateOf t k m → m.bits ≤ n → All (λ (x : TemplatePart). IsOfType t x × IsSmall (use_of x) × (begin_of x + size_of x ≤ n)) m.parts.items
parts_are t k n m is few = All-from_recursion (λ (x : TemplatePart). IsOfType t x × IsSmall (use_of x) × (begin_of x + size_of x ≤ n)) m.parts.items (are_parts t 0 m.bits n (map address (sequence t k)) m.parts.items m.places.items few is.parts)
