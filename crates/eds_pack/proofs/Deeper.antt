-- What is spelled where few types are nested is spelled so where more may be.
use Rattle.std.proofs.Common.{◌≡◌, ℕ, zero, suc, ◌+◌, ◌-◌, ◌≤◌, List, [], ◌∷◌, length, subst, arith}
use Rattle.eds_bits.specs.Bits.{Bits}
use Rattle.eds_bits.specs.Style.{canonical}
use Rattle.eds_types.proofs.SpellingSizes.{items_any, canon_spells}
use Rattle.eds_types.specs.declared.row.Kind.{Kind}
use Rattle.eds_types.specs.declared.row.Kind.TheVariants as kind
use Rattle.eds_types.specs.declared.row.Part.{Part}
use Rattle.eds_types.specs.declared.row.Part.TheVariants as part
use Rattle.eds_types.specs.Laws.{IsThere, LeastIsLeast}
use Rattle.eds_types.specs.LeastSize.{least_size}
use Rattle.eds_types.specs.Plain.{Plain, list_of}
use Rattle.eds_types.specs.Rows.{Table, Placed, sequence}
use Rattle.eds_types.specs.Spelling.{Progress, started, PartPasses, PartsPass, KindSpells, SpellsWithin}

module _ (t : Table) (E F : ℕ → Plain → Bits → Type 0) (g : (id : ℕ) (v : Plain) (b : Bits) → E id v b → F id v b) where
  part_as : (s : Progress) (p : Placed) (q : Part) (u : Progress) (b : Bits) → PartPasses canonical t E s p q u b → PartPasses canonical t F s p q u b
  part_as s p (part.Plain name id) u b h = (h.0, g id.0 h.0 b h.1, h.2)
  part_as s p (part.Fixed name id v) u b h = (g id.0 _ b h.0, h.1)
  part_as s p (part.Pad n) u b h = h
  part_as s p (part.List name id y i) u b h = (h.0, h.1, items_any (E id.0) (F id.0) (g id.0) (list_of h.0) b h.2, h.3)
  part_as s p (part.Length name id c0 c1) u b h = (h.0, g id.0 _ b h.1, h.2)
  part_as s p (part.Check name id k) u b h = (g id.0 _ b h.0, h.1)

  parts_as : (ps : List Placed) (s u : Progress) (b : Bits) → PartsPass canonical t E s ps u b → PartsPass canonical t F s ps u b
  parts_as [] s u b h = h
  parts_as (p ∷ ps) s u b h = (h.0, h.1, h.2, h.3, part_as s p p.part h.0 h.1 h.4, parts_as ps h.0 u h.2 h.5)

  kind_as : (id : ℕ) (k : Kind) (v : Plain) (b : Bits) → KindSpells canonical t E id k v b → KindSpells canonical t F id k v b
  kind_as id (kind.Int form spans) v b h = h
  kind_as id (kind.Enum form listing) v b h = h
  kind_as id (kind.Bool form) v b h = h
  kind_as id (kind.Str form) v b h = h
  kind_as id (kind.Bin n free) v b h = h
  kind_as id (kind.Arr item n) v b h = (h.0, h.1, h.2, items_any (E item.0) (F item.0) (g item.0) (list_of h.0) b h.3)
  kind_as id (kind.Con c) v b h =
      let sp = h.3 in
      (h.0, h.1, h.2, record { concrete = sp.concrete; under = sp.under; end = sp.end; parts = parts_as (sequence t h.0) started (sp.end) b sp.parts; values = sp.values; size = sp.size; constraints = sp.constraints; most_derived = sp.most_derived })

once_more : (t : Table) (n id : ℕ) (v : Plain) (b : Bits) → SpellsWithin n canonical t id v b → SpellsWithin (suc n) canonical t id v b
unfolding SpellsWithin
once_more t zero id v b h = absurd h
once_more t (suc n) id v b h = (h.0, h.1, kind_as t (SpellsWithin n canonical t) (SpellsWithin (suc n) canonical t) (once_more t n) id (h.0).kind v b h.2)

deeper_by : (t : Table) (j n m id : ℕ) (v : Plain) (b : Bits) → m ≡ n + j → SpellsWithin n canonical t id v b → SpellsWithin m canonical t id v b
deeper_by t zero n m id v b e h = subst (λ k. SpellsWithin k canonical t id v b) (omega arith) h
deeper_by t (suc j) n m id v b e h = deeper_by t j (suc n) m id v b (omega arith) (once_more t n id v b h)

-- a spelling has no fewer bits than the least size of its type
pub least_bits : LeastIsLeast → (t : Table) (n id : ℕ) → IsThere t id → n ≤ 32 → (v : Plain) (b : Bits) → SpellsWithin n canonical t id v b → least_size t id ≤ length b
least_bits law t n id there few v b h = law t id there v b (canon_spells t 32 id v b (deeper_by t (32 - n) n 32 id v b (omega arith) h))
