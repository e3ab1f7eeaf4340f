-- A default of a type is found where there is one, so that there is a function that tells what variables start with.
use Rattle.std.proofs.Common.{◌≡◌, ◌<◌, ℕ, zero, suc, ℤ, pos, negsuc, nat_abs, int_eq, Bool, true, false, cond, List, [], ◌∷◌, ◌++◌, length, replicate, Option, Some, None, refl, sym, ap, subst, ◌∙◌, inl, inr}
use Rattle.std.specs.Prelude.{slice_get, option_map}
use Rattle.std.proofs.lemmas.Bool.{both_ways, cases_lt}
use Rattle.std.proofs.lemmas.Bool.Decides.{Decides-int_eq}
use Rattle.std.proofs.lemmas.Option.{slice_get_past}
use Rattle.eds_base.specs.declared.spans.Span.{Span}
use Rattle.eds_base.specs.Reading.{same as same_text, ◌>>=◌}
use Rattle.eds_base.specs.Spans.{IsWithin}
use Rattle.eds_bits.specs.Lists.{HasOne}
use Rattle.eds_types.specs.declared.row.Constraint.{Constraint}
use Rattle.eds_types.specs.declared.row.Kind.{Kind}
use Rattle.eds_types.specs.declared.row.Kind.TheVariants as kind
use Rattle.eds_types.specs.declared.row.Part.{Part}
use Rattle.eds_types.specs.declared.row.Part.TheVariants as part
use Rattle.eds_types.specs.declared.row.TypeRow.{TypeRow}
use Rattle.eds_types.specs.Fields.{constraints_along, listed}
use Rattle.eds_types.specs.Overlap.{IsConstrained, IsSolution}
use Rattle.eds_types.specs.PackedSizes.{packs}
use Rattle.eds_types.specs.Plain.{Plain, num, label, truth, text, items, fields, plains_of}
use Rattle.eds_types.specs.Reading.{is_within, number_is}
use Rattle.eds_types.specs.Rows.{Table, Placed, address, is_concrete, sequence}
use Rattle.eds_types.specs.Rules.{KeepsRules}
use Rattle.eds_types.specs.TextValues.{text_value_of}
use Rattle.eds_types.proofs.PackedLaws.{sizes_are_exact}
use Rattle.eds_types.proofs.ReadingTests.{within_from, within_in}
use Rattle.eds_types.proofs.SameValues.{same_text-is}
use Rattle.eds_overlap.specs.FirstOverlap.{FindsOverlaps}
use Rattle.eds_overlap.specs.LeastNumbers.{least_in_all, least_on}
use Rattle.eds_overlap.specs.Pairs.{Steps, same_path}
use Rattle.eds_overlap.proofs.FirstPairs.{overlaps_are_found}
use Rattle.eds_overlap.proofs.LeastInAll.{all_found, all_none}
use Rattle.eds_overlap.proofs.Solutions.{same_is, same_not}
use Rattle.eds_pack.specs.Defaults.{DefaultsWithin, EntryDefaults, IsDefault, IsFirst, IsLeast, KindDefaults, LeastDefaults, PartDefaults, PartsDefault, StandsFor, zero_bits}
use Rattle.eds_pack.specs.Packs.{Packs}
use Rattle.eds_pack.proofs.Entries.{least_same}
use Rattle.eds_pack.proofs.OneDefault.{one_within}
use Rattle.eds_read_comp.specs.FirstValues.{text_value_in}
use Rattle.eds_read_comp.specs.FirstValues as values
use Rattle.eds_sheet.specs.Firsts.{Firsts}
use Rattle.eds_sheet.specs.Laws.{FirstsAreTold}

-- ---- what is found

-- what is found has it, and where nothing is found nothing has it
module _ {A : Type 0} (P : A → Type 0) where
  abbrev pub Found : Option A → Type 0
  Found None = (x : A) → P x → ⊥
  Found (Some x) = P x

-- what has the one has the other
widened : {A : Type 0} (P Q : A → Type 0) (o : Option A) → ((x : A) → P x → Q x) → ((x : A) → Q x → P x) → Found P o → Found Q o
widened P Q None to from none = λ x q. none x (from x q)
widened P Q (Some x) to from p = to x p

-- what is made of it has the other
mapped : {A B : Type 0} (P : A → Type 0) (Q : B → Type 0) (f : A → B) (o : Option A) → ((x : A) → P x → Q (f x)) → ((y : B) → Q y → (x : A) × P x) → Found P o → Found Q (option_map f o)
mapped P Q f None to from none = λ y q. let x = from y q in none x.0 x.1
mapped P Q f (Some x) to from p = to x p

-- two lists, of which each has to be found
abbrev joined : Option (List Plain) → Option (List Plain) → Option (List Plain)
joined None b = None
joined (Some g) None = None
joined (Some g) (Some h) = Some (g ++ h)

joined_found : (P Q : List Plain → Type 0) (a b : Option (List Plain)) → Found P a → Found Q b → Found (λ f. (g : List Plain) × (h : List Plain) × (f ≡ g ++ h) × P g × Q h) (joined a b)
joined_found P Q None b fa fb = λ f k. fa k.0 k.3
joined_found P Q (Some g) None fa fb = λ f k. fb k.1 k.4
joined_found P Q (Some g) (Some h) fa fb = (g, h, refl, fa, fb)

-- ---- numbers

-- 0 where the numbers have it, and else the least of them
abbrev first_number : List Span → Option ℤ
first_number spans = cond (is_within spans (pos 0)) (Some (pos 0)) (least_in_all (spans ∷ []))

first_number_found : (spans : List Span) → Found (IsFirst spans) (first_number spans)
first_number_found spans = go (is_within spans (pos 0)) refl
  where
    least : (o : Option ℤ) → least_in_all (spans ∷ []) ≡ o → (IsWithin spans (pos 0) → ⊥) → Found (IsFirst spans) o
    least None e out = λ n h. elim h [
      | inl k ↦ out k.0
      | inr k ↦ all_none spans [] e n ((k.1).has, tt)
    ]
    least (Some n) e out = let f = all_found spans [] n e in inr (out, record { has = (f.0).0; least = λ m w. f.1 m (w, tt) })

    go : (b : Bool) → is_within spans (pos 0) ≡ b → Found (IsFirst spans) (cond b (Some (pos 0)) (least_in_all (spans ∷ [])))
    go true e = inl (within_from spans (pos 0) e, refl)
    go false e = least (least_in_all (spans ∷ [])) refl (λ w. both_ways (is_within spans (pos 0)) e (within_in spans (pos 0) w))

-- ---- labels

-- the first of some labels whose number in a listing is this one
abbrev labelled : (listing rest : List (List ℕ × ℤ)) → ℤ → Option (List ℕ)
labelled listing [] n = None
labelled listing (e ∷ rest) n = cond (number_is (listed listing e.0) n) (Some e.0) (labelled listing rest n)

-- it is one of the labels, and has the number
abbrev IsLabelled : (listing rest : List (List ℕ × ℤ)) → ℤ → List ℕ → Type 0
IsLabelled listing rest n l = (listed listing l ≡ Some n) × HasOne (λ e. e.0 ≡ l) rest

number_told : (o : Option ℤ) (n : ℤ) → number_is o n ≡ true → o ≡ Some n
number_told None n e = absurd cc
number_told (Some m) n e = ap Some ((Decides-int_eq m n).0 e)

number_not : (o : Option ℤ) (n : ℤ) → number_is o n ≡ false → o ≡ Some n → ⊥
number_not None n e h = absurd cc
number_not (Some m) n e h = let s : m ≡ n = cc in both_ways (int_eq m n) e ((Decides-int_eq m n).1 s)

labelled_found : (listing rest : List (List ℕ × ℤ)) (n : ℤ) → Found (IsLabelled listing rest n) (labelled listing rest n)
labelled_found listing [] n = λ l h. h.1
labelled_found listing (e ∷ rest) n = go (number_is (listed listing e.0) n) refl (labelled listing rest n) (labelled_found listing rest n)
  where
    go : (b : Bool) → number_is (listed listing e.0) n ≡ b → (o : Option (List ℕ)) → Found (IsLabelled listing rest n) o → Found (IsLabelled listing (e ∷ rest) n) (cond b (Some e.0) o)
    go true q o ih = (number_told (listed listing e.0) n q, inl refl)
    go false q None ih = λ l h. elim h.1 [
      | inl k ↦ number_not (listed listing e.0) n q (ap (listed listing) k ∙ h.0)
      | inr k ↦ ih l (h.0, k)
    ]
    go false q (Some l) ih = (ih.0, inr ih.1)

has_label : (listing : List (List ℕ × ℤ)) (l : List ℕ) (n : ℤ) → listed listing l ≡ Some n → HasOne (λ e. e.0 ≡ l) listing
has_label [] l n e = absurd cc
has_label (x ∷ rest) l n e = go (same_text x.0 l) refl e (has_label rest l n)
  where
    go : (b : Bool) → same_text x.0 l ≡ b → cond b (Some x.1) (listed rest l) ≡ Some n → (listed rest l ≡ Some n → HasOne (λ e. e.0 ≡ l) rest) → HasOne (λ e. e.0 ≡ l) (x ∷ rest)
    go true q f ih = inl (same_text-is x.0 l q)
    go false q f ih = inr (ih f)

-- ---- constraints on a path

abbrev is_constrained : List Constraint → Steps → Bool
is_constrained [] path = false
is_constrained (c ∷ cs) path = cond (same_path c.path path) true (is_constrained cs path)

constrained : (cs : List Constraint) (path : Steps) → is_constrained cs path ≡ true → IsConstrained cs path
constrained [] path e = absurd cc
constrained (c ∷ cs) path e = go (same_path c.path path) refl e (constrained cs path)
  where
    go : (b : Bool) → same_path c.path path ≡ b → cond b true (is_constrained cs path) ≡ true → (is_constrained cs path ≡ true → IsConstrained cs path) → IsConstrained (c ∷ cs) path
    go true q f ih = inl (same_is c.path path q)
    go false q f ih = inr (ih f)

unconstrained : (cs : List Constraint) (path : Steps) → is_constrained cs path ≡ false → IsConstrained cs path → ⊥
unconstrained [] path e h = h
unconstrained (c ∷ cs) path e h = go (same_path c.path path) refl e h (unconstrained cs path)
  where
    go : (b : Bool) → same_path c.path path ≡ b → cond b true (is_constrained cs path) ≡ false → IsConstrained (c ∷ cs) path → (is_constrained cs path ≡ false → IsConstrained cs path → ⊥) → ⊥
    go true q f k ih = absurd cc
    go false q f (inl k) ih = same_not c.path path q k
    go false q f (inr k) ih = ih f k

-- ---- the defaults of a type, where those of the types nested in it are given

module _ (t : Table) (inner : ℕ → Option Plain) where
  -- the default of the container with a number
  abbrev numbered : ℤ → Option Plain
  numbered (pos k) = inner k
  numbered (negsuc k) = None

  -- what a number stands for
  abbrev standing : Kind → ℤ → Option Plain
  standing (kind.Int form spans) n = Some (num n)
  standing (kind.Enum form listing) n = option_map label (labelled listing listing n)
  standing (kind.Bool form) n = cond (int_eq n (pos 0)) (Some (truth false)) (cond (int_eq n (pos 1)) (Some (truth true)) None)
  standing (kind.Str form) n = None
  standing (kind.Bin m free) n = None
  standing (kind.Arr item m) n = None
  standing (kind.Con c) n = numbered n

  -- the same of a number that may be there
  abbrev standing_of : Kind → Option ℤ → Option Plain
  standing_of k None = None
  standing_of k (Some n) = standing k n

  -- what constraints leave of an entry of a row
  abbrev least_default : List Constraint → Steps → Option TypeRow → Option Plain
  least_default cs path None = None
  least_default cs path (Some row) = standing_of row.kind (least_on t cs path)

  abbrev entry_default : List Constraint → Placed → ℕ → Option Plain
  entry_default cs p id = cond (is_constrained cs (address p ∷ [])) (least_default cs (address p ∷ []) (slice_get t id)) (inner id)

  abbrev part_default : List Constraint → Placed → Part → Option (List Plain)
  part_default cs p (part.Plain name id) = option_map (λ v. v ∷ []) (entry_default cs p id.0)
  part_default cs p (part.Fixed name id v) = Some []
  part_default cs p (part.Pad n) = Some []
  part_default cs p (part.List name id y i) = Some (items (plains_of []) ∷ [])
  part_default cs p (part.Length name id c0 c1) = Some []
  part_default cs p (part.Check name id check) = Some []

  abbrev parts_default : List Constraint → List Placed → Option (List Plain)
  parts_default cs [] = Some []
  parts_default cs (p ∷ ps) = joined (part_default cs p p.part) (parts_default cs ps)

  abbrev first_label : List (List ℕ × ℤ) → Option Plain
  first_label [] = None
  first_label (e ∷ rest) = Some (label e.0)

  abbrev kind_default : ℕ → Kind → Option Plain
  kind_default id (kind.Int form spans) = option_map num (first_number spans)
  kind_default id (kind.Enum form listing) = first_label listing
  kind_default id (kind.Bool form) = Some (truth false)
  kind_default id (kind.Str form) = Some (text [])
  kind_default id (kind.Bin n free) = Some (zero_bits (cond free 0 n))
  kind_default id (kind.Arr item n) = option_map (λ w. items (plains_of (replicate n w))) (inner item.0)
  kind_default id (kind.Con c) = cond (is_concrete t id) (option_map (λ f. fields id (plains_of f)) (parts_default (constraints_along t id) (sequence t id))) None

  abbrev row_default : ℕ → Option TypeRow → Option Plain
  row_default id None = None
  row_default id (Some row) = kind_default id row.kind

module _ (t : Table) (rules : KeepsRules t) (D : ℕ → Plain → Type 0) (inner : ℕ → Option Plain) (all : (id : ℕ) → Found (D id) (inner id)) where
  finds : FindsOverlaps t []
  finds = overlaps_are_found t [] rules

  numbered_found : (c : ℤ) → Found (λ v. (k : ℕ) × (c ≡ pos k) × D k v) (numbered t inner c)
  numbered_found (pos k) = widened (D k) (λ v. (j : ℕ) × (pos k ≡ pos j) × D j v) (inner k) (λ v d. (k, refl, d)) (λ v h. let e : k ≡ h.0 = ap nat_abs h.1 in subst (λ j. D j v) (sym e) h.2) (all k)
  numbered_found (negsuc k) = λ v h. absurd (let e : negsuc k ≡ pos h.0 = h.1 in cc)

  standing_found : (k : Kind) (n : ℤ) → Found (StandsFor t D k n) (standing t inner k n)
  standing_found (kind.Int form spans) n = refl
  standing_found (kind.Enum form listing) n =
      mapped (IsLabelled listing listing n) (StandsFor t D (kind.Enum form listing) n) label (labelled listing listing n)
      (λ l h. (l, refl, h.0)) (λ v h. (h.0, (h.2, has_label listing h.0 n h.2))) (labelled_found listing listing n)
  standing_found (kind.Bool form) n = go (int_eq n (pos 0)) refl
    where
      is_none : (b : Bool) → n ≡ pos (cond b 1 0) → int_eq n (pos 0) ≡ false → int_eq n (pos 1) ≡ false → ⊥
      is_none true h e f = both_ways (int_eq n (pos 1)) f ((Decides-int_eq n (pos 1)).1 h)
      is_none false h e f = both_ways (int_eq n (pos 0)) e ((Decides-int_eq n (pos 0)).1 h)

      more : (b : Bool) → int_eq n (pos 1) ≡ b → int_eq n (pos 0) ≡ false → Found (StandsFor t D (kind.Bool form) n) (cond b (Some (truth true)) None)
      more true f e = (true, refl, (Decides-int_eq n (pos 1)).0 f)
      more false f e = λ v h. is_none h.0 h.2 e f

      go : (b : Bool) → int_eq n (pos 0) ≡ b → Found (StandsFor t D (kind.Bool form) n) (cond b (Some (truth false)) (cond (int_eq n (pos 1)) (Some (truth true)) None))
      go true e = (false, refl, (Decides-int_eq n (pos 0)).0 e)
      go false e = more (int_eq n (pos 1)) refl e
  standing_found (kind.Str form) n = λ v h. h
  standing_found (kind.Bin m free) n = λ v h. h
  standing_found (kind.Arr item m) n = λ v h. h
  standing_found (kind.Con c) n = numbered_found n

  least_found : (cs : List Constraint) (p : Placed) (id : ℕ) → Found (LeastDefaults t D cs p id) (least_default t inner cs (address p ∷ []) (slice_get t id))
  least_found cs p id = go (slice_get t id) refl
    where
      by_value : (row : TypeRow) → slice_get t id ≡ Some row → (n : ℤ) → IsLeast (IsSolution t cs (address p ∷ [])) n → (o : Option Plain) → Found (StandsFor t D row.kind n) o → Found (LeastDefaults t D cs p id) o
      by_value row e n l None s = λ v h.
          let z : ◌≡◌ {A = Option TypeRow} (Some h.0) (Some row) = sym h.1 ∙ e in
          let r : h.0 ≡ row = cc in
          let m : h.2.0 ≡ n = least_same (IsSolution t cs (address p ∷ [])) h.2.0 n h.2.1 l in
          s v (subst (λ x. StandsFor t D row.kind x v) m (subst (λ (x : TypeRow). StandsFor t D x.kind h.2.0 v) r h.2.2))
      by_value row e n l (Some v) s = (row, e, (n, l, s))

      by_number : (row : TypeRow) → slice_get t id ≡ Some row → (o : Option ℤ) → least_on t cs (address p ∷ []) ≡ o → Found (LeastDefaults t D cs p id) (standing_of t inner row.kind o)
      by_number row e None f = λ v h. finds.unsolved cs (address p ∷ []) f h.2.0 (h.2.1).has
      by_number row e (Some n) f = let l = finds.least cs (address p ∷ []) n f in by_value row e n (record { has = l.0; least = l.1 }) (standing t inner row.kind n) (standing_found row.kind n)

      go : (o : Option TypeRow) → slice_get t id ≡ o → Found (LeastDefaults t D cs p id) (least_default t inner cs (address p ∷ []) o)
      go None e = λ v h. absurd (let z : ◌≡◌ {A = Option TypeRow} None (Some h.0) = sym e ∙ h.1 in cc)
      go (Some row) e = by_number row e (least_on t cs (address p ∷ [])) refl

  entry_found : (cs : List Constraint) (p : Placed) (id : ℕ) → Found (EntryDefaults t D cs p id) (entry_default t inner cs p id)
  entry_found cs p id = go (is_constrained cs (address p ∷ [])) refl
    where
      go : (b : Bool) → is_constrained cs (address p ∷ []) ≡ b → Found (EntryDefaults t D cs p id) (cond b (least_default t inner cs (address p ∷ []) (slice_get t id)) (inner id))
      go true e = widened (LeastDefaults t D cs p id) (EntryDefaults t D cs p id) (least_default t inner cs (address p ∷ []) (slice_get t id)) (λ v h. inl (constrained cs (address p ∷ []) e, h))
          (λ v h. elim h [ inl k ↦ k.1 | inr k ↦ absurd (k.0 (constrained cs (address p ∷ []) e)) ]) (least_found cs p id)
      go false e = widened (D id) (EntryDefaults t D cs p id) (inner id) (λ v h. inr (unconstrained cs (address p ∷ []) e, h))
          (λ v h. elim h [ inl k ↦ absurd (unconstrained cs (address p ∷ []) e k.0) | inr k ↦ k.1 ]) (all id)

  part_found : (cs : List Constraint) (p : Placed) (q : Part) → Found (PartDefaults t D cs p q) (part_default t inner cs p q)
  part_found cs p (part.Plain name id) =
      mapped (EntryDefaults t D cs p id.0) (PartDefaults t D cs p (part.Plain name id)) (λ v. v ∷ []) (entry_default t inner cs p id.0) (λ v h. (v, refl, h)) (λ f h. (h.0, h.2)) (entry_found cs p id.0)
  part_found cs p (part.Fixed name id v) = refl
  part_found cs p (part.Pad n) = refl
  part_found cs p (part.List name id y i) = refl
  part_found cs p (part.Length name id c0 c1) = refl
  part_found cs p (part.Check name id check) = refl

  parts_found : (cs : List Constraint) (ps : List Placed) → Found (PartsDefault t D cs ps) (parts_default t inner cs ps)
  parts_found cs [] = refl
  parts_found cs (p ∷ ps) = joined_found (PartDefaults t D cs p p.part) (PartsDefault t D cs ps) (part_default t inner cs p p.part) (parts_default t inner cs ps) (part_found cs p p.part) (parts_found cs ps)

  kind_found : (id : ℕ) (k : Kind) → Found (KindDefaults t D id k) (kind_default t inner id k)
  kind_found id (kind.Int form spans) = mapped (IsFirst spans) (KindDefaults t D id (kind.Int form spans)) num (first_number spans) (λ n h. (n, refl, h)) (λ v h. (h.0, h.2)) (first_number_found spans)
  kind_found id (kind.Enum form []) = λ v h. absurd (let e = h.3 in cc)
  kind_found id (kind.Enum form (e ∷ rest)) = (e.0, e.1, rest, refl, refl)
  kind_found id (kind.Bool form) = refl
  kind_found id (kind.Str form) = refl
  kind_found id (kind.Bin n free) = refl
  kind_found id (kind.Arr item n) = mapped (D item.0) (KindDefaults t D id (kind.Arr item n)) (λ w. items (plains_of (replicate n w))) (inner item.0) (λ w d. (w, d, refl)) (λ v h. (h.0, h.1)) (all item.0)
  kind_found id (kind.Con c) = go (is_concrete t id) refl
    where
      go : (b : Bool) → is_concrete t id ≡ b → Found (KindDefaults t D id (kind.Con c)) (cond b (option_map (λ f. fields id (plains_of f)) (parts_default t inner (constraints_along t id) (sequence t id))) None)
      go true e = mapped (PartsDefault t D (constraints_along t id) (sequence t id)) (KindDefaults t D id (kind.Con c)) (λ f. fields id (plains_of f)) (parts_default t inner (constraints_along t id) (sequence t id))
          (λ f h. (e, (f, h, refl))) (λ v h. (h.1.0, h.1.1)) (parts_found (constraints_along t id) (sequence t id))
      go false e = λ v h. both_ways (is_concrete t id) e h.0

-- ---- the default of a type

module _ (t : Table) where
  unfoldable default_within : ℕ → ℕ → Option Plain
  default_within zero id = None
  default_within (suc n) id = row_default t (default_within n) id (slice_get t id)

  -- a value that packs
  abbrev if_packs : ℕ → Option Plain → Option Plain
  if_packs id None = None
  if_packs id (Some v) = cond (packs t id v) (Some v) None

  abbrev default_in : ℕ → Option Plain
  default_in id = if_packs id (default_within 32 id)

-- a row that is there
is_there : (t : Table) (id : ℕ) (row : TypeRow) → slice_get t id ≡ Some row → id < length t
is_there t id row e = elim (cases_lt id (length t)) [
  | inl lt ↦ lt
  | inr le ↦ absurd (let z : ◌≡◌ {A = Option TypeRow} None (Some row) = sym (slice_get_past t id le) ∙ e in cc)
]

module _ (t : Table) (rules : KeepsRules t) where
  -- of a row that is there
  row_found : (n id : ℕ) → ((k : ℕ) → Found (DefaultsWithin n t k) (default_within t n k)) → (o : Option TypeRow) → slice_get t id ≡ o
      → Found (λ v. (row : TypeRow) × (slice_get t id ≡ Some row) × KindDefaults t (DefaultsWithin n t) id row.kind v) (row_default t (default_within t n) id o)
  row_found n id all None e = λ v h. absurd (let z : ◌≡◌ {A = Option TypeRow} None (Some h.0) = sym e ∙ h.1 in cc)
  row_found n id all (Some row) e =
      widened (KindDefaults t (DefaultsWithin n t) id row.kind) (λ v. (row : TypeRow) × (slice_get t id ≡ Some row) × KindDefaults t (DefaultsWithin n t) id row.kind v) (kind_default t (default_within t n) id row.kind) (λ v h. (row, e, h))
      (λ v h. let z : ◌≡◌ {A = Option TypeRow} (Some h.0) (Some row) = sym h.1 ∙ e in let r : h.0 ≡ row = cc in subst (λ (x : TypeRow). KindDefaults t (DefaultsWithin n t) id x.kind v) r h.2)
      (kind_found t rules (DefaultsWithin n t) (default_within t n) all id row.kind)

  within_found : (n id : ℕ) → Found (DefaultsWithin n t id) (default_within t n id)
  unfolding DefaultsWithin default_within
  within_found zero id = λ v h. h
  within_found (suc n) id = row_found n id (within_found n) (slice_get t id) refl

  there_within : (id : ℕ) (v : Plain) → DefaultsWithin 32 t id v → id < length t
  unfolding DefaultsWithin
  there_within id v h = is_there t id h.0 h.1

  default_found : (id : ℕ) → Found (IsDefault t id) (default_in t id)
  default_found id = go (default_within t 32 id) (within_found 32 id)
    where
      by_packing : (v : Plain) → DefaultsWithin 32 t id v → (b : Bool) → packs t id v ≡ b → Found (IsDefault t id) (cond b (Some v) None)
      by_packing v d true e = let p = ((sizes_are_exact t id rules (there_within id v d) v).bool).0 e in record { is = d; size = p.0; packs = p.1 }
      by_packing v d false e = λ w h.
          let s : w ≡ v = one_within t rules 32 id w v h.is d in
          both_ways (packs t id v) e (((sizes_are_exact t id rules (there_within id v d) v).bool).1 (h.size, subst (λ x. Packs t id x h.size) s h.packs))

      go : (o : Option Plain) → Found (DefaultsWithin 32 t id) o → Found (IsDefault t id) (if_packs t id o)
      go None none = λ v h. none v h.is
      go (Some v) d = by_packing v d (packs t id v) refl

-- ---- what variables start with

abbrev first_in : Firsts
first_in t id None = default_in t id
first_in t id (Some s) = if_packs t id (text_value_in t id s)

module _ (t : Table) (rules : KeepsRules t) where
  told_default : (id : ℕ) (v : Plain) → IsDefault t id v → default_in t id ≡ Some v
  told_default id v h = go (default_in t id) (default_found t rules id)
    where
      go : (o : Option Plain) → Found (IsDefault t id) o → o ≡ Some v
      go None none = absurd (none v h)
      go (Some w) d = ap Some (one_within t rules 32 id w v d.is h.is)

  only_default : (id : ℕ) (v : Plain) → default_in t id ≡ Some v → IsDefault t id v
  only_default id v e = subst (Found (IsDefault t id)) e (default_found t rules id)

  there_text : (id : ℕ) (s : List ℕ) (v : Plain) → text_value_in t id s ≡ Some v → id < length t
  there_text id s v e = go (slice_get t id) refl e
    where
      go : (o : Option TypeRow) → slice_get t id ≡ o → (o >>= λ (row : TypeRow). text_value_of row.kind s) ≡ Some v → id < length t
      go None q f = absurd cc
      go (Some row) q f = is_there t id row q

  told_first : (id : ℕ) (initial : Option (List ℕ)) (v : Plain) → values.IsFirst t id initial v → first_in t id initial ≡ Some v
  told_first id None v h = told_default id v h
  told_first id (Some s) v h =
      ap (if_packs t id) h.0 ∙ ap (λ b. cond b (Some v) None) (((sizes_are_exact t id rules (there_text id s v h.0) v).bool).1 h.1)

  only_first : (id : ℕ) (initial : Option (List ℕ)) (v : Plain) → first_in t id initial ≡ Some v → values.IsFirst t id initial v
  only_first id None v e = only_default id v e
  only_first id (Some s) v e = go (text_value_in t id s) refl e
    where
      by_packing : (w : Plain) → text_value_in t id s ≡ Some w → (b : Bool) → packs t id w ≡ b → cond b (Some w) None ≡ Some v → values.IsFirst t id (Some s) v
      by_packing w q true f g = let r : w ≡ v = cc in subst (λ x. values.IsFirst t id (Some s) x) r (q, ((sizes_are_exact t id rules (there_text id s w q) w).bool).0 f)
      by_packing w q false f g = absurd cc

      go : (o : Option Plain) → text_value_in t id s ≡ o → if_packs t id o ≡ Some v → values.IsFirst t id (Some s) v
      go None q f = absurd cc
      go (Some w) q f = by_packing w q (packs t id w) refl f

pub firsts-told : FirstsAreTold
firsts-told = (first_in, λ t rules. record { given = told_first t rules; only = only_first t rules })
