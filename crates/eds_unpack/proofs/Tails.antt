-- The sizes of tails.
use Rattle.std.proofs.Common.{◌≡◌, ℕ, ◌+◌, ◌-◌, ◌^◌, ◌<◌, ◌≤◌, ℤ, pos, negsuc, nat_abs, cond, min, List, [], ◌∷◌, length, map, reverse, Option, Some, None, refl, sym, ap, ap₂, ◌∙◌, arith, inl, inr}
use Rattle.std.specs.Prelude.{IfSome, unwrap_or, sum_by}
use Rattle.std.specs.List.{flat_map}
use Rattle.std.proofs.lemmas.List.Sums.{sum_by-append, sum_by-cons}
use Rattle.std.proofs.lemmas.Bool.{lt-ltb, cases_lt}
use Rattle.eds_base.specs.declared.ids.TypeId.{TypeId}
use Rattle.eds_bits.specs.Bits.{octets_for}
use Rattle.eds_types.specs.declared.row.Part.{Part}
use Rattle.eds_types.specs.Reading.{octets_left, tail_octets, tail_room}
use Rattle.eds_types.specs.Rows.{Table, Placed, id_of, chain, placed_from, placed_trailers, entries_of, trailers_of}
use Rattle.eds_types.specs.Sizes.{part_size, trailers_size}
use Rattle.eds_types.specs.Spelling.{Progress}
use Rattle.eds_unpack.specs.Entries.{placed}
use Rattle.eds_unpack.specs.Tails.{limit, limited, sizes_of, trailers_sizes}
use Rattle.eds_types.proofs.Seeking.{reverse_map}

placed_sizes : (t : Table) (y i : ℕ) (ps : List Part) → sum_by (λ (p : Placed). unwrap_or (part_size t p.part) 0) (placed_from y i ps) ≡ sizes_of t ps
placed_sizes t y i [] = refl
placed_sizes t y i (p ∷ ps) =
    sum_by-cons (λ (q : Placed). unwrap_or (part_size t q.part) 0) (record { container = y; place = i; part = p }) (placed_from y (i + 1) ps)
    ∙ ap (λ n. unwrap_or (part_size t p) 0 + n) (placed_sizes t y (i + 1) ps)
    ∙ sym (sum_by-cons (λ (q : Part). unwrap_or (part_size t q) 0) p ps)

chain_sizes : (t : Table) (xs : List ℕ) → sum_by (λ (p : Placed). unwrap_or (part_size t p.part) 0) (flat_map (placed_trailers t) xs) ≡ trailers_sizes t (map id_of xs)
chain_sizes t [] = refl
chain_sizes t (x ∷ xs) =
    sum_by-append (λ (p : Placed). unwrap_or (part_size t p.part) 0) (placed_trailers t x) (flat_map (placed_trailers t) xs)
    ∙ ap₂ (λ a b. a + b) (placed_sizes t x (length (entries_of t x)) (trailers_of t x)) (chain_sizes t xs)
    ∙ sym (sum_by-cons (λ (id : TypeId). sizes_of t (trailers_of t id.0)) (id_of x) (map id_of xs))

pub trailers_are_sized : (t : Table) (x : ℕ) (ids : List TypeId) → ids ≡ map id_of (chain t x) → trailers_sizes t (reverse ids) ≡ trailers_size t x
trailers_are_sized t x ids e = ap (λ ys. trailers_sizes t (reverse ys)) e ∙ ap (trailers_sizes t) (reverse_map (chain t x)) ∙ sym (chain_sizes t (reverse (chain t x)))

-- past the limit no length entry leaves room for a tail
none_left : (told : ℤ) (q : ℕ) → nat_abs told < q → octets_left told q ≡ None
none_left (pos c) q h = ap (λ b. cond b None (Some (c - q))) (lt-ltb c q h)
none_left (negsuc c) q h = refl

told_small : (o : Option ℤ) → IfSome o (λ n. nat_abs n ≤ 2 ^ 97) → nat_abs (unwrap_or o (pos 0)) ≤ 2 ^ 97
told_small None h = omega arith
told_small (Some n) h = h

same_left : (told : ℤ) (before size : ℕ) → nat_abs told ≤ 2 ^ 97 → octets_left told (octets_for (before + min size limit)) ≡ octets_left told (octets_for (before + size))
same_left told before size h = elim (cases_lt size limit) [
  | inl lt ↦ (let k : min size limit ≡ size = omega arith in ap (λ m. octets_left told (octets_for (before + m))) k)
  | inr le ↦ none_left told (octets_for (before + min size limit)) (omega arith) ∙ sym (none_left told (octets_for (before + size)) (omega arith))
]

pub room_is : (t : Table) (n x i : ℕ) (p : Part) (s : Progress) (others : ℕ) → IfSome s.octets (λ n. nat_abs n ≤ 2 ^ 97) → others ≡ octets_for (length s.before + limited (trailers_size t x)) → tail_octets n (octets_left (unwrap_or s.octets (pos 0)) others) ≡ tail_room t n s (placed x i p)
room_is t n x i p s others h e =
    ap (λ q. tail_octets n (octets_left (unwrap_or s.octets (pos 0)) q)) e
    ∙ ap (tail_octets n) (same_left (unwrap_or s.octets (pos 0)) (length s.before) (trailers_size t x) (told_small s.octets h))
