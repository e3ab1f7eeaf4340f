-- The parts of a container, written one after the other.
use Rattle.std.proofs.Common.{◌≡◌, ℕ, ℤ, pos, suc, ◌+◌, ◌-◌, ◌*◌, ◌<◌, ◌≤◌, List, [], ◌∷◌, ◌++◌, length, map, drop, take, get_or, reverse, Option, refl, sym, ap, subst, ◌∙◌, append_assoc, append-nil, arith}
use Rattle.std.specs.Prelude.{slice_get, IfSome}
use Rattle.std.specs.List.{flat_map}
use Rattle.std.proofs.Math.Seq.{drop-cons, take-append_seam, take-length, take-suc}
use Rattle.std.proofs.lemmas.List.{drop-append-le, drop-take, length-append, length-take-le, map-append, reverse-append, take-take}
use Rattle.eds_base.specs.declared.ids.TypeId.{TypeId}
use Rattle.eds_bits.specs.Bits.{Bits, bits_of, octets_for}
use Rattle.eds_bits.specs.Style.{canonical}
use Rattle.eds_bits.proofs.OctetLaws.{length-bits_of, take-bits_of}
use Rattle.eds_types.specs.declared.row.Part.{Part}
use Rattle.eds_types.specs.declared.row.Part.TheVariants as part
use Rattle.eds_types.specs.Fields.{Field, field_of, values_of}
use Rattle.eds_types.specs.Plain.{Plain, items}
use Rattle.eds_types.specs.Rows.{Table, Placed, id_of, chain, entries_of, trailers_of, placed_from, placed_entries, placed_trailers, sequence}
use Rattle.eds_types.specs.Rules.{KeepsRules}
use Rattle.eds_types.specs.Spelling.{Progress, started, ContainerSpells, PartPasses, PartsPass, SpellsWithin}
use Rattle.eds_types.proofs.Grown.{only_grown}
use Rattle.eds_types.proofs.LengthChoices.{run_chosen, told_rest}
use Rattle.eds_types.proofs.RuleFacts.{facts_of}
use Rattle.eds_types.proofs.TableFacts.{NoLength, IsLengthOnce}
use Rattle.eds_pack.specs.Putting.{IsPut, HasRoom, Writes, IsSized, PartSpells, RunSpells, between, entry_parts, octets_in, own_octets, trailer_parts}
use Rattle.eds_types.proofs.Seeking.{reverse_map}
use Rattle.eds_pack.specs.Seeking.{values_in}
use Rattle.eds_pack.proofs.Looking.{values_more}
use Rattle.eds_pack.proofs.Putting.{puts_more, puts_none, same_room, found_next, more_values}
use Rattle.eds_pack.proofs.Sized.{own_sized}

-- ---- what stands in a room

-- what was put follows what stood before it
pub between_put : (c : Bits) (start at end : ℕ) (old new : List ℕ) → IsPut c at old new end → start ≤ at → at + length c ≤ 8 * length old → between start end new ≡ between start at old ++ c
between_put c start at end old new h le fits =
    let xs = bits_of old in
    let front = take at xs in
    let long : length front ≡ at = length-take-le at xs (omega (arith, length-bits_of old, fits)) in
    let whole : length (front ++ c) ≡ end = omega (arith, length-append front c, long, h.1) in
    ap (λ z. drop start (take end z)) (h.0 ∙ sym (append_assoc front c (drop (at + length c) xs)))
    ∙ ap (λ n. drop start (take n ((front ++ c) ++ drop (at + length c) xs))) (sym whole)
    ∙ ap (drop start) (take-append_seam (front ++ c) (drop (at + length c) xs))
    ∙ drop-append-le start front c (omega (arith, long, le))

-- nothing stands between a bit and itself
pub between_none : (at : ℕ) (room : List ℕ) → at ≤ 8 * length room → between at at room ≡ []
between_none at room fits =
    let n : at ≡ at + 0 = omega arith in
    ap (λ m. drop at (take m (bits_of room))) n ∙ drop-take at 0 (bits_of room)

-- the same bits, taken from the first octets
pub between_is : (start at k : ℕ) (room : List ℕ) → start ≤ at → at ≤ 8 * k → take (at - start) (drop start (bits_of (take k room))) ≡ between start at room
between_is start at k room le fits =
    let n : start + (at - start) ≡ at = omega (arith, le) in
    sym (drop-take start (at - start) (bits_of (take k room)))
    ∙ ap (λ m. drop start (take m (bits_of (take k room)))) n
    ∙ ap (λ z. drop start (take at z)) (sym (take-bits_of k room))
    ∙ ap (drop start) (take-take at (8 * k) (bits_of room) fits)

-- the first octets have eight bits each
pub front_long : (k : ℕ) (room : List ℕ) → k ≤ length room → length (bits_of (take k room)) ≡ 8 * k
front_long k room few = omega (arith, length-bits_of (take k room), length-take-le k room few)

-- ---- one part after the other

module _ (t : Table) (C : ℕ → Plain → Bits → Type 0) (octets : ℕ) (f : List Plain) where
  abbrev pub Run : ℕ → Bits → List Part → Bits → Type 0
  Run used before ps b = RunSpells t C octets f used before ps b

  -- the first of what is left, and the rest
  pub record Next (P : Bits → Type 0) (before : Bits) (used : ℕ) (left : List Part) (d : Bits) : Type 0 where
    pub one : Bits
    pub two : Bits
    pub is : d ≡ one ++ two
    pub has : P one
    pub rest : RunSpells t C octets f used (before ++ one) left two

  pub next_part : (p : Part) (ps : List Part) (used : ℕ) (before d : Bits) → Run used before (p ∷ ps) d → Next (PartSpells t C octets before p (slice_get f used)) before (used + values_in (p ∷ [])) ps d
  next_part p ps used before d h = record { one = h.0; two = h.1; is = h.2; has = h.3; rest = h.4 }

  pub next_run : (xs ys : List Part) (used : ℕ) (before d : Bits) → Run used before (xs ++ ys) d → Next (Run used before xs) before (used + values_in xs) ys d
  next_run [] ys used before d h = record {
    one = [];
    two = d;
    is = refl;
    has = refl;
    rest = subst (λ z. Run (used + 0) z ys d) (sym (append-nil before)) (subst (λ n. Run n before ys d) (omega arith) h);
  }
  next_run (x ∷ xs) ys used before d h =
      let r = next_run xs ys (used + values_in (x ∷ [])) (before ++ h.0) h.1 h.4 in
      let n : used + values_in (x ∷ []) + values_in xs ≡ used + values_in (x ∷ xs) = omega (arith, values_more (x ∷ []) xs) in
      record {
        one = h.0 ++ r.one;
        two = r.two;
        is = h.2 ∙ ap (λ z. h.0 ++ z) r.is ∙ sym (append_assoc h.0 r.one r.two);
        has = (h.0, r.one, refl, h.3, r.has);
        rest = subst (λ z. Run (used + values_in (x ∷ xs)) z ys r.two) (append_assoc before h.0 r.one) (subst (λ m. Run m ((before ++ h.0) ++ r.one) ys r.two) n r.rest);
      }

  -- some parts are written, and others are left
  pub record RunHalf (before : Bits) (used : ℕ) (left : List Part) (b : Bits) (at : ℕ) (old m : List ℕ) (end : ℕ) : Type 0 where
    pub c : Bits
    pub d : Bits
    pub is : b ≡ c ++ d
    pub rest : RunSpells t C octets f used (before ++ c) left d
    pub put : IsPut c at old m end

  pub run_begin : (before : Bits) (used : ℕ) (left : List Part) (b : Bits) (at : ℕ) (old : List ℕ) → Run used before left b → RunHalf before used left b at old old at
  run_begin before used left b at old h = record { c = []; d = b; is = refl; rest = subst (λ z. Run used z left b) (sym (append-nil before)) h; put = puts_none at old }

  pub run_end : (before : Bits) (used : ℕ) (left : List Part) (b : Bits) (at : ℕ) (old m : List ℕ) (end : ℕ) → left ≡ [] → RunHalf before used left b at old m end → IsPut b at old m end
  run_end before used left b at old m end none h =
      let rest : RunSpells t C octets f used (before ++ h.c) [] h.d = subst (λ ps. RunSpells t C octets f used (before ++ h.c) ps h.d) none h.rest in
      subst (λ x. IsPut x at old m end) (sym (h.is ∙ ap (λ x. h.c ++ x) rest ∙ append-nil h.c)) h.put

  module _ (before : Bits) (used : ℕ) (left : List Part) (b : Bits) (at : ℕ) (old m : List ℕ) (end : ℕ) (h : RunHalf before used left b at old m end) (fits : at + length b ≤ 8 * length old) where
    long : length b ≡ length h.c + length h.d
    long = ap length h.is ∙ length-append h.c h.d

    pub half_room : length m ≡ length old
    half_room = same_room h.c at end old m h.put (omega (arith, long, fits))

    -- where the parts that are left begin
    pub half_between : (start : ℕ) → start ≤ at → before ≡ between start at old → between start end m ≡ before ++ h.c
    half_between start le is = between_put h.c start at end old m h.put le (omega (arith, long, fits)) ∙ ap (λ z. z ++ h.c) (sym is)

    module _ (P : Bits → Type 0) (more : ℕ) (others : List Part) (n : Next P (before ++ h.c) more others h.d) where
      both : length h.d ≡ length n.one + length n.two
      both = ap length n.is ∙ length-append n.one n.two

      pub next_room : at + length b ≤ 524288 → HasRoom P end m
      next_room few = record { bits = n.one; has = n.has; fits = omega (arith, long, both, half_room, fits, (h.put).1); few = omega (arith, long, both, few, (h.put).1) }

      pub next_half : (new : List ℕ) (after : ℕ) → Writes P end m new after → RunHalf before more others b at old new after
      next_half new after w = record {
        c = h.c ++ n.one;
        d = n.two;
        is = h.is ∙ ap (λ x. h.c ++ x) n.is ∙ sym (append_assoc h.c n.one n.two);
        rest = subst (λ z. Run more z others n.two) (append_assoc before h.c n.one) n.rest;
        put = puts_more h.c n.one at end after old m new h.put (w n.one n.has (omega (arith, long, both, half_room, fits, (h.put).1))) (omega (arith, long, both, fits, length-append h.c n.one));
      }

  module _ (used : ℕ) (left : List Part) (b : Bits) (start at : ℕ) (old m : List ℕ) (end : ℕ) (le : start ≤ at) (fits : at + length b ≤ 8 * length old) where
    abbrev front : Bits
    front = between start at old

    -- the next part
    module _ (p : Part) (h : RunHalf front used (p ∷ left) b at old m end) (o : Option Plain) (is : o ≡ slice_get f used) where
      here : (d : Bits) → d ≡ front ++ h.c → between start end m ≡ d
      here d e = half_between front used (p ∷ left) b at old m end h fits start le refl ∙ sym e

      one_next : Next (PartSpells t C octets (front ++ h.c) p (slice_get f used)) (front ++ h.c) (used + values_in (p ∷ [])) left h.d
      one_next = next_part p left used (front ++ h.c) h.d h.rest

      pub part_room : at + length b ≤ 524288 → HasRoom (PartSpells t C octets (between start end m) p o) end m
      part_room few =
          subst (λ z. HasRoom (PartSpells t C octets z p o) end m) (sym (here (front ++ h.c) refl))
          (subst (λ v. HasRoom (PartSpells t C octets (front ++ h.c) p v) end m) (sym is)
          (next_room front used (p ∷ left) b at old m end h fits (PartSpells t C octets (front ++ h.c) p (slice_get f used)) (used + values_in (p ∷ [])) left one_next few))

      pub part_written : (new : List ℕ) (after : ℕ) → Writes (PartSpells t C octets (between start end m) p o) end m new after → RunHalf front (used + values_in (p ∷ [])) left b at old new after
      part_written new after w =
          next_half front used (p ∷ left) b at old m end h fits (PartSpells t C octets (front ++ h.c) p (slice_get f used)) (used + values_in (p ∷ [])) left one_next new after
          (subst (λ v. Writes (PartSpells t C octets (front ++ h.c) p v) end m new after) is (subst (λ z. Writes (PartSpells t C octets z p o) end m new after) (here (front ++ h.c) refl) w))

    -- the next parts
    module _ (xs : List Part) (h : RunHalf front used (xs ++ left) b at old m end) where
      there : between start end m ≡ front ++ h.c
      there = half_between front used (xs ++ left) b at old m end h fits start le refl

      run_next : Next (Run used (front ++ h.c) xs) (front ++ h.c) (used + values_in xs) left h.d
      run_next = next_run xs left used (front ++ h.c) h.d h.rest

      pub run_room : at + length b ≤ 524288 → HasRoom (Run used (between start end m) xs) end m
      run_room few = subst (λ z. HasRoom (Run used z xs) end m) (sym there) (next_room front used (xs ++ left) b at old m end h fits (Run used (front ++ h.c) xs) (used + values_in xs) left run_next few)

      pub run_written : (more : ℕ) → more ≡ used + values_in xs → (new : List ℕ) (after : ℕ) → Writes (Run used (between start end m) xs) end m new after → RunHalf front more left b at old new after
      run_written more e new after w =
          subst (λ n. RunHalf front n left b at old new after) (sym e)
          (next_half front used (xs ++ left) b at old m end h fits (Run used (front ++ h.c) xs) (used + values_in xs) left run_next new after
          (subst (λ z. Writes (Run used z xs) end m new after) there w))

-- ---- containers of a chain

entries_front : (t : Table) (ids : List TypeId) (i : ℕ) (d : TypeId) → i < length ids → entry_parts t (drop i ids) ≡ entries_of t (get_or ids i d).0 ++ entry_parts t (drop (i + 1) ids)
entries_front t ids i d lt = let n : suc i ≡ i + 1 = omega arith in ap (entry_parts t) (drop-cons ids i d lt ∙ ap (λ m. get_or ids i d ∷ drop m ids) n)

-- the entries of the next container
pub entries_first : (t : Table) (ids : List TypeId) (i : ℕ) (d : TypeId) (es : List Part) → i < length ids → es ≡ entries_of t (get_or ids i d).0 → entry_parts t (drop i ids) ≡ es ++ entry_parts t (drop (i + 1) ids)
entries_first t ids i d es lt e = entries_front t ids i d lt ∙ ap (λ ps. ps ++ entry_parts t (drop (i + 1) ids)) (sym e)

-- the trailers of the last container
pub trailers_first : (t : Table) (ids : List TypeId) (d : TypeId) (ts : List Part) → 0 < length ids → ts ≡ trailers_of t (get_or ids (length ids - 1) d).0 → trailer_parts t (reverse ids) ≡ ts ++ trailer_parts t (reverse (take (length ids - 1) ids))
trailers_first t ids d ts lt e =
    let n : suc (length ids - 1) ≡ length ids = omega arith in
    ap (λ ys. trailer_parts t (reverse ys)) (sym (ap (λ m. take m ids) n ∙ take-length ids) ∙ take-suc ids (length ids - 1) d (omega arith))
    ∙ ap (trailer_parts t) (reverse-append (take (length ids - 1) ids) (get_or ids (length ids - 1) d ∷ []))
    ∙ ap (λ ps. ps ++ trailer_parts t (reverse (take (length ids - 1) ids))) (sym e)

-- ---- the parts of a container

parts_of : (y i : ℕ) (ps : List Part) → map (λ (p : Placed). p.part) (placed_from y i ps) ≡ ps
parts_of y i [] = refl
parts_of y i (p ∷ ps) = ap (λ qs. p ∷ qs) (parts_of y (i + 1) ps)

entries_parts : (t : Table) (ks : List ℕ) → map (λ (p : Placed). p.part) (flat_map (placed_entries t) ks) ≡ entry_parts t (map id_of ks)
entries_parts t [] = refl
entries_parts t (k ∷ ks) = map-append (λ (p : Placed). p.part) (placed_entries t k) (flat_map (placed_entries t) ks) ∙ ap (λ ps. ps ++ map (λ (p : Placed). p.part) (flat_map (placed_entries t) ks)) (parts_of k 0 (entries_of t k)) ∙ ap (λ ps. entries_of t k ++ ps) (entries_parts t ks)

trailers_parts : (t : Table) (ks : List ℕ) → map (λ (p : Placed). p.part) (flat_map (placed_trailers t) ks) ≡ trailer_parts t (map id_of ks)
trailers_parts t [] = refl
trailers_parts t (k ∷ ks) = map-append (λ (p : Placed). p.part) (placed_trailers t k) (flat_map (placed_trailers t) ks) ∙ ap (λ ps. ps ++ map (λ (p : Placed). p.part) (flat_map (placed_trailers t) ks)) (parts_of k (length (entries_of t k)) (trailers_of t k)) ∙ ap (λ ps. trailers_of t k ++ ps) (trailers_parts t ks)

sequence_parts : (t : Table) (k : ℕ) → map (λ (p : Placed). p.part) (sequence t k) ≡ entry_parts t (map id_of (chain t k)) ++ trailer_parts t (map id_of (reverse (chain t k)))
sequence_parts t k =
    map-append (λ (p : Placed). p.part) (flat_map (placed_entries t) (chain t k)) (flat_map (placed_trailers t) (reverse (chain t k)))
    ∙ ap (λ ps. ps ++ map (λ (p : Placed). p.part) (flat_map (placed_trailers t) (reverse (chain t k)))) (entries_parts t (chain t k))
    ∙ ap (λ ps. entry_parts t (map id_of (chain t k)) ++ ps) (trailers_parts t (reverse (chain t k)))

module _ (t : Table) (C : ℕ → Plain → Bits → Type 0) (octets : ℕ) (f : List Plain) where
  -- what the length entry tells in the end
  abbrev Told : Option ℤ → Type 0
  Told o = IfSome o (λ n. n ≡ pos octets)

  record PartNext (q : Part) (s m : Progress) (used : ℕ) (b : Bits) : Type 0 where
    spells : PartSpells t C octets s.before q (slice_get f used) b
    count : used + values_in (q ∷ []) ≡ length (values_of m.fields)
    before : m.before ≡ s.before ++ b

  part_next : (p : Placed) (q : Part) (s m : Progress) (gs : List Field) (used : ℕ) (b : Bits) → f ≡ values_of (m.fields ++ gs) → used ≡ length (values_of s.fields) → ((NoLength q → ⊥) → Told m.octets) → PartPasses canonical t C s p q m b → PartNext q s m used b
  part_next p (part.Plain name id) s m gs used b is count told h =
      let grows = ap (λ (x : Progress). x.fields) h.2 in
      record {
        spells = subst (λ o. PartSpells t C octets s.before (part.Plain name id) o b) (sym (found_next f s.fields m.fields gs (field_of p h.0) used grows is count)) h.1;
        count = omega (arith, count, more_values s.fields m.fields (field_of p h.0) grows);
        before = ap (λ (x : Progress). x.before) h.2;
      }
  part_next p (part.Fixed name id v) s m gs used b is count told h = record { spells = h.0; count = omega (arith, count, ap (λ (x : Progress). length (values_of x.fields)) h.1); before = ap (λ (x : Progress). x.before) h.1 }
  part_next p (part.Pad n) s m gs used b is count told h = record { spells = (h.0, h.1); count = omega (arith, count, ap (λ (x : Progress). length (values_of x.fields)) h.2); before = ap (λ (x : Progress). x.before) h.2 }
  part_next p (part.List name id y i) s m gs used b is count told h =
      let grows = ap (λ (x : Progress). x.fields) h.3 in
      record {
        spells = subst (λ o. PartSpells t C octets s.before (part.List name id y i) o b) (sym (found_next f s.fields m.fields gs (field_of p (items h.0)) used grows is count)) (h.0, refl, h.2);
        count = omega (arith, count, more_values s.fields m.fields (field_of p (items h.0)) grows);
        before = ap (λ (x : Progress). x.before) h.3;
      }
  part_next p (part.Length name id c0 c1) s m gs used b is count told h = record {
    spells = (h.0, subst Told (ap (λ (x : Progress). x.octets) h.2) (told (λ z. z)), h.1);
    count = omega (arith, count, ap (λ (x : Progress). length (values_of x.fields)) h.2);
    before = ap (λ (x : Progress). x.before) h.2;
  }
  part_next p (part.Check name id check) s m gs used b is count told h = record { spells = h.0; count = omega (arith, count, ap (λ (x : Progress). length (values_of x.fields)) h.1); before = ap (λ (x : Progress). x.before) h.1 }

  run_of : (ps : List Placed) (s u : Progress) (b : Bits) (used : ℕ) → PartsPass canonical t C s ps u b → f ≡ values_of u.fields → used ≡ length (values_of s.fields) → Told u.octets → IsLengthOnce ps → RunSpells t C octets f used s.before (map (λ (p : Placed). p.part) ps) b
  run_of [] s u b used h is count told once = h.1
  run_of (p ∷ ps) s u b used h is count told once =
      let m = h.0 in
      let grown = only_grown canonical t C ps m u h.2 h.5 in
      let one = part_next p p.part s m grown.0 used h.1 (is ∙ ap values_of grown.1) count (λ some. stays some) h.4 in
      (h.1, h.2, h.3, one.spells, subst (λ z. RunSpells t C octets f (used + values_in (p.part ∷ [])) z (map (λ (q : Placed). q.part) ps) h.2) one.before (run_of ps m u h.2 (used + values_in (p.part ∷ [])) h.5 is one.count told once.1))
    where
      stays : (NoLength p.part → ⊥) → Told (h.0).octets
      stays some =
          let r = run_chosen C t ps h.0 u h.2 h.5 in
          subst Told (r.1 ∙ told_rest C ps (once.0 some) r.0 (h.0).octets) told

  all_before : (ps : List Placed) (s u : Progress) (b : Bits) → PartsPass canonical t C s ps u b → u.before ≡ s.before ++ b
  all_before [] s u b h = ap (λ (x : Progress). x.before) h.0 ∙ sym (ap (λ z. s.before ++ z) h.1 ∙ append-nil s.before)
  all_before (p ∷ ps) s u b h = all_before ps h.0 u h.2 h.5 ∙ ap (λ z. z ++ h.2) (one p.part h.4) ∙ append_assoc s.before h.1 h.2 ∙ ap (λ z. s.before ++ z) (sym h.3)
    where
      one : (q : Part) → PartPasses canonical t C s p q h.0 h.1 → (h.0).before ≡ s.before ++ h.1
      one (part.Plain name id) g = ap (λ (x : Progress). x.before) g.2
      one (part.Fixed name id v) g = ap (λ (x : Progress). x.before) g.1
      one (part.Pad n) g = ap (λ (x : Progress). x.before) g.2
      one (part.List name id y i) g = ap (λ (x : Progress). x.before) g.3
      one (part.Length name id c0 c1) g = ap (λ (x : Progress). x.before) g.2
      one (part.Check name id check) g = ap (λ (x : Progress). x.before) g.1

module _ (t : Table) (rules : KeepsRules t) (n id k : ℕ) (low : rules.rank id < n + 1) (f : List Plain) (b : Bits) (h : ContainerSpells canonical t (SpellsWithin n canonical t) id k f b) where
  octets_are : own_octets t n k f ≡ octets_for (length b)
  octets_are = ap octets_in (own_sized t rules n id k low f b h)

  -- the bits of a container are those of its parts, one after the other
  pub fields_run : RunSpells t (SpellsWithin n canonical t) (own_octets t n k f) f 0 [] (entry_parts t (map id_of (chain t k)) ++ trailer_parts t (map id_of (reverse (chain t k)))) b
  fields_run =
      let before : length ((h.end).before) ≡ length b = ap length (all_before t (SpellsWithin n canonical t) (own_octets t n k f) f (sequence t k) started h.end b h.parts) in
      let same : octets_for (length (h.end).before) ≡ own_octets t n k f = ap octets_for before ∙ sym octets_are in
      subst (λ ps. RunSpells t (SpellsWithin n canonical t) (own_octets t n k f) f 0 [] ps b) (sequence_parts t k)
      (run_of t (SpellsWithin n canonical t) (own_octets t n k f) f (sequence t k) started h.end b 0 h.parts h.values refl (subst (λ m. IfSome (h.end).octets (λ z. z ≡ pos m)) same h.size) ((facts_of t rules).once k))

  pub sized : length b ≤ 524288 → IsSized t n k f
  sized few = record { bits = length b; is = own_sized t rules n id k low f b h; few = few }

-- ---- a whole container

module _ (t : Table) (rules : KeepsRules t) (n id k : ℕ) (low : rules.rank id < n + 1) (f : List Plain) (at : ℕ) (room : List ℕ) (ids again : List TypeId) (is : ids ≡ map id_of (chain t k)) (same : again ≡ map id_of (chain t k)) where
  -- nothing of it is written yet
  pub whole_half : (b : Bits) → ContainerSpells canonical t (SpellsWithin n canonical t) id k f b → at + length b ≤ 8 * length room
      → RunHalf t (SpellsWithin n canonical t) (own_octets t n k f) f (between at at room) 0 (entry_parts t ids ++ trailer_parts t (reverse again)) b at room room at
  whole_half b h fits =
      let parts : entry_parts t (map id_of (chain t k)) ++ trailer_parts t (map id_of (reverse (chain t k))) ≡ entry_parts t ids ++ trailer_parts t (reverse again) =
      ap (λ xs. entry_parts t xs ++ trailer_parts t (map id_of (reverse (chain t k)))) (sym is) ∙ ap (λ xs. entry_parts t ids ++ trailer_parts t xs) (sym (reverse_map (chain t k)) ∙ ap reverse (sym same)) in
      run_begin t (SpellsWithin n canonical t) (own_octets t n k f) f (between at at room) 0 (entry_parts t ids ++ trailer_parts t (reverse again)) b at room
      (subst (λ ps. RunSpells t (SpellsWithin n canonical t) (own_octets t n k f) f 0 (between at at room) ps b) parts
      (subst (λ z. RunSpells t (SpellsWithin n canonical t) (own_octets t n k f) f 0 z (entry_parts t (map id_of (chain t k)) ++ trailer_parts t (map id_of (reverse (chain t k)))) b) (sym (between_none at room (omega (arith, fits)))) (fields_run t rules n id k low f b h)))

module _ (t : Table) (C : ℕ → Plain → Bits → Type 0) (octets : ℕ) (f : List Plain) where
  -- the last parts, and no more
  pub last_half : (before : Bits) (used : ℕ) (ts : List Part) (b : Bits) (at : ℕ) (old m : List ℕ) (end : ℕ) → RunHalf t C octets f before used ts b at old m end → RunHalf t C octets f before used (ts ++ []) b at old m end
  last_half before used ts b at old m end h = subst (λ ps. RunHalf t C octets f before used ps b at old m end) (sym (append-nil ts)) h
