-- How a walk over a container goes on from part to part, from container to container of its chain, and back over the
-- trailers.
use Rattle.std.proofs.Common.{◌≡◌, ℕ, suc, ◌+◌, ◌-◌, ◌<◌, ◌≤◌, ℤ, nat_abs, ◌^◌, true, List, [], ◌∷◌, ◌++◌, length, take, get_or, reverse, Option, Some, None, Ok, Err, refl, sym, ap, subst, ◌∙◌, append_assoc, append-nil, arith}
use mathlib.Core.List.{reverse_aux}
use Rattle.std.specs.Prelude.{IsSome, IfSome}
use Rattle.std.specs.List.{AllByRecursion, flat_map}
use Rattle.std.proofs.Math.Seq.{take-suc, take-length}
use Rattle.std.proofs.lemmas.List.{map-append}
use Rattle.eds_base.specs.declared.fault.Fault.{Fault}
use Rattle.eds_base.specs.declared.ids.TypeId.{TypeId}
use Rattle.eds_bits.specs.Bits.{Bits}
use Rattle.eds_bits.specs.Lists.{Has}
use Rattle.eds_bits.specs.Reader.{bits_left}
use Rattle.eds_types.specs.declared.row.Constraint.{Constraint}
use Rattle.eds_types.specs.declared.row.Part.{Part}
use Rattle.eds_types.specs.declared.row.Part.TheVariants as part
use Rattle.eds_types.specs.Fields.{Field, has_value, part_at, value_at, StartsInEntries}
use Rattle.eds_types.specs.Reading.{◌>>=◌, check_all, front as bits_front, read_chain, read_entry, read_parts, read_within}
use Rattle.eds_types.specs.Rows.{Table, Placed, base_of, chain, constraints_of, entries_of, trailers_of, numbers_of, placed_from, placed_entries, placed_trailers}
use Rattle.eds_types.specs.Rules.{KeepsRules, ConstraintKeeps, Follows}
use Rattle.eds_types.specs.Spelling.{Progress, started}
use Rattle.eds_types.proofs.AllOf.{All-weaker, All-at, All-pair}
use Rattle.eds_types.proofs.ChainLaws.{chain_step, front_same, under_is}
use Rattle.eds_types.proofs.RuleFacts.{table_of}
use Rattle.eds_overlap.specs.Common.{each_once}
use Rattle.eds_unpack.specs.Asked.{asked}
use Rattle.eds_unpack.specs.Entries.{IsLow, placed}
use Rattle.eds_unpack.specs.Index.{Among}
use Rattle.eds_overlap.specs.Pairs.{Steps}
use Rattle.eds_unpack.specs.Noted.{IsNoted, IsNotedFor, KeepsOuter}
use Rattle.eds_unpack.specs.Walks.{Goes, IsAt, IsFront, IsTold, IsWalking}
use Rattle.eds_unpack.specs.declared.walk.Walked.{Walked}
use Rattle.eds_unpack.proofs.AskedPaths.{asked_constraint, entry_along, rank_of_chain}
use Rattle.eds_unpack.proofs.Reaches.{parts_append}
use Rattle.eds_unpack.proofs.Walking.{front_new, is_told, keys_kept, some_is}

-- ---- what is noted of the containers that were passed

-- a path begins with an entry
first_step : (t : Table) (p : TypeId × ℕ) (path : Steps) → Follows t (p ∷ path) → (name : List ℕ) × (id : TypeId) × (part_at t p ≡ Some (part.Plain name id))
first_step t p [] f = f
first_step t p (q ∷ path) f = (f.0, f.1, f.2)

-- the number on a path that begins in an entry that was passed is noted
pub head_shown : (t : Table) (paths : List Steps) (x k : ℕ) (w : Walked) (ns : List (Option ℤ)) (b : Bits) (s : Progress) → IsAt t paths x w ns b (flat_map (placed_entries t) (chain t k)) s → (path : Steps) → StartsInEntries t k path → Follows t path → IsNoted t paths ns s.fields path
head_shown t paths x k w ns b s at [] starts f g h = absurd starts
head_shown t paths x k w ns b s at (p ∷ path) starts f g h =
    let first = first_step t p path f in
    let stands = entry_along t (p.0).0 p.1 (part.Plain first.0 first.1) first.2 k starts.0 starts.1 in
    let kept = All-at (λ (q : Placed). has_value q.part ≡ true → IsSome (value_at s.fields q.container q.place)) (flat_map (placed_entries t) (chain t k)) (placed (p.0).0 p.1 (part.Plain first.0 first.1)) stands (keys_kept (flat_map (placed_entries t) (chain t k)) s.fields at.keys) refl in
    let value = some_is (value_at s.fields (p.0).0 p.1) kept in
    at.shows p path value.0 value.1 g h

-- the same where all that is asked for has slots
pub head_noted : (t : Table) (rules : KeepsRules t) (x k : ℕ) (w : Walked) (ns : List (Option ℤ)) (b : Bits) (s : Progress) → IsAt t (each_once (asked t)) x w ns b (flat_map (placed_entries t) (chain t k)) s → (path : Steps) → StartsInEntries t k path → Follows t path → IsNoted t (each_once (asked t)) ns s.fields path
head_noted t rules x k w ns b s at path starts f = head_shown t (each_once (asked t)) x k w ns b s at path starts f

-- all that the next container asks for is noted
pub constraints_noted : (t : Table) (rules : KeepsRules t) (paths : List Steps) → paths ≡ each_once (asked t) → (x id : ℕ) (w : Walked) (ns : List (Option ℤ)) (b : Bits) (s : Progress) (before : List ℕ) (y : ℕ) (after : List ℕ) → chain t id ≡ before ++ y ∷ after
    → IsAt t paths x w ns b (flat_map (placed_entries t) before) s → AllByRecursion (IsNotedFor t paths ns s.fields) (constraints_of t y)
constraints_noted t rules paths notes x id w ns b s before y after e at = go (base_of t y) refl
  where
    own : chain t y ≡ before ++ y ∷ []
    own = (under_is t (table_of t rules) y id before after e).0

    go : (o : Option ℕ) → base_of t y ≡ o → AllByRecursion (IsNotedFor t paths ns s.fields) (constraints_of t y)
    go None k = subst (AllByRecursion (IsNotedFor t paths ns s.fields)) (sym (rules.root_constraints y k)) tt
    go (Some base) k =
        let same : before ≡ chain t base = front_same before (chain t base) y y (sym own ∙ chain_step t (table_of t rules) y (Some base) k) in
        let here = subst (λ ys. IsAt t paths x w ns b (flat_map (placed_entries t) ys) s) same at in
        All-weaker (λ (c : Constraint). Among (each_once (asked t)) c.path × ConstraintKeeps t base y c) (IsNotedFor t paths ns s.fields)
        (λ c h. (subst (λ ps. Among ps c.path) (sym notes) h.0, head_shown t paths x base w ns b s here c.path (h.1).starts (h.1).follows))
        (constraints_of t y)
        (All-pair (λ (c : Constraint). Among (each_once (asked t)) c.path) (ConstraintKeeps t base y) (constraints_of t y) (asked_constraint t rules y) (rules.constraints y base k))

-- ---- containers of one rank

-- a walk over a container of one has come as far as one over another
pub at_other : (t : Table) (paths : List Steps) (x y : ℕ) (w : Walked) (ns : List (Option ℤ)) (b : Bits) (done : List Placed) (s : Progress) → ((rs : KeepsRules t) → rs.rank x ≡ rs.rank y) → IsAt t paths x w ns b done s → IsAt t paths y w ns b done s
at_other t paths x y w ns b done s same at = record {
  before = at.before;
  octets = at.octets;
  shows = at.shows;
  keys = at.keys;
  ints = at.ints;
  ranks = λ rs. All-weaker (λ (p : Placed). rs.rank p.container ≡ rs.rank x) (λ (p : Placed). rs.rank p.container ≡ rs.rank y) (λ p e. e ∙ same rs) done (at.ranks rs);
}

-- what keeps the slots of higher ranks than one of some rank, keeps those of higher ranks than another one of it
pub keeps_other : (t : Table) (paths : List Steps) (x y : ℕ) (old new : List (Option ℤ)) → ((rs : KeepsRules t) → rs.rank x ≡ rs.rank y) → KeepsOuter t paths x old new → KeepsOuter t paths y old new
keeps_other t paths x y old new same keep = record {
  long = keep.long;
  same = λ rs g p path h lt. keep.same rs g p path h (let e = same rs in omega arith);
}

-- no slot was changed
pub keeps_none : (t : Table) (paths : List Steps) (x : ℕ) (ns : List (Option ℤ)) → KeepsOuter t paths x ns ns
keeps_none t paths x ns = record { long = refl; same = λ rs g p path h lt. refl }

-- nor in two steps
pub keeps_then : (t : Table) (paths : List Steps) (x : ℕ) (old mid new : List (Option ℤ)) → KeepsOuter t paths x old mid → KeepsOuter t paths x mid new → KeepsOuter t paths x old new
keeps_then t paths x old mid new one two = record {
  long = two.long ∙ one.long;
  same = λ rs g p path h lt. two.same rs g p path h lt ∙ one.same rs g p path h lt;
}

-- the containers of a chain are nested as low as its last one
pub low_along : (t : Table) (n id y : ℕ) → IsLow t n id → Has (chain t id) y → IsLow t n y
low_along t n id y low h = record { rules = low.rules; low = (let e = rank_of_chain t low.rules id y h in let l = low.low in omega arith) }

-- ---- lists

-- a list by its last item
pub last_item : {A : Type 0} (xs : List A) (d : A) → 0 < length xs → xs ≡ take (length xs - 1) xs ++ get_or xs (length xs - 1) d ∷ []
last_item xs d lt =
    let k : suc (length xs - 1) ≡ length xs = omega arith in
    sym (ap (λ n. take n xs) k ∙ take-length xs) ∙ take-suc xs (length xs - 1) d (omega arith)

-- and one of none
pub no_items : {A : Type 0} (xs : List A) → length xs < 1 → xs ≡ []
no_items [] lt = refl
no_items (x ∷ xs) lt = absurd (omega arith)

last_onto : {A : Type 0} (xs : List A) (y : A) (acc : List A) → reverse_aux (xs ++ y ∷ []) acc ≡ y ∷ reverse_aux xs acc
last_onto [] y acc = refl
last_onto (x ∷ xs) y acc = last_onto xs y (x ∷ acc)

flat_both : {A : Type 0} (f : ℕ → List A) (xs ys : List ℕ) → flat_map f (xs ++ ys) ≡ flat_map f xs ++ flat_map f ys
flat_both f [] ys = refl
flat_both f (x ∷ xs) ys = ap (λ l. f x ++ l) (flat_both f xs ys) ∙ sym (append_assoc (f x) (flat_map f xs) (flat_map f ys))

flat_end : {A : Type 0} (f : ℕ → List A) (xs : List ℕ) (y : ℕ) → flat_map f (xs ++ y ∷ []) ≡ flat_map f xs ++ f y
flat_end f xs y = flat_both f xs (y ∷ []) ∙ ap (λ l. flat_map f xs ++ l) (append-nil (f y))

-- the first parts of a container's first parts
pub front_of : (t : Table) (ps qs : List Placed) → IsFront t (ps ++ qs) → IsFront t ps
front_of t ps qs front = (front.0, qs ++ front.1, front.2 ∙ append_assoc ps qs front.1)

module _ (t : Table) (depth : ℕ) (paths : List Steps) where
  -- ---- parts

  module _ (x first : ℕ) (parts : List Part) (w0 : Walked) (ns0 : List (Option ℤ)) (b0 : Bits) where
    -- the walk has come to the part at a place, from which these parts are left
    abbrev pub PartsAt : Walked → List (Option ℤ) → Bits → ℕ → List Part → Type 0
    PartsAt w ns b place rest =
        (done : List Placed) (s : Progress) → IsAt t paths x w0 ns0 b0 done s → IsFront t (done ++ placed_from x first parts)
        → (front : List Placed) × (u : Progress) × (placed_from x first parts ≡ front ++ placed_from x place rest) × IsAt t paths x w ns b (done ++ front) u
        × (read_parts t (read_within depth t) (placed_from x place rest) u b ≡ read_parts t (read_within depth t) (placed_from x first parts) s b0)

    module _ (w : Walked) (ns : List (Option ℤ)) (b : Bits) (place : ℕ) (p : Part) (later rest : List Part) (is : rest ≡ p ∷ later) (inv : PartsAt w ns b place rest) (rules : KeepsRules t) where
      here : PartsAt w ns b place (p ∷ later)
      here = subst (PartsAt w ns b place) is inv

      next_front : (done before : List Placed) → placed_from x first parts ≡ before ++ placed_from x place (p ∷ later) → IsFront t (done ++ placed_from x first parts) → IsFront t ((done ++ before) ++ placed x place p ∷ placed_from x (place + 1) later)
      next_front done before e front = subst (IsFront t) (ap (λ l. done ++ l) e ∙ sym (append_assoc done before (placed_from x place (p ∷ later)))) front

      -- the part was passed
      pub parts_goes : (v : Walked) (ms : List (Option ℤ)) (d : Bits)
          → ((done : List Placed) (s : Progress) → IsAt t paths x w ns b done s → value_at s.fields x place ≡ None → IsTold s.fields p → Goes t paths x v ms d (done ++ placed x place p ∷ []) (read_entry t (read_within depth t) s (placed x place p) b))
          → PartsAt v ms d (place + 1) later
      unfolding read_parts
      parts_goes v ms d passed done s at front =
          let h = here done s at front in
          let go = passed (done ++ h.0) h.1 h.3 (front_new t rules (done ++ h.0) (placed x place p) (placed_from x (place + 1) later) (h.1).fields (h.3).keys (next_front done h.0 h.2 front)) (is_told t rules (done ++ h.0) (placed x place p) (placed_from x (place + 1) later) (h.1).fields (h.3).keys (next_front done h.0 h.2 front)) in (
            h.0 ++ placed x place p ∷ [],
            go.state,
            h.2 ∙ sym (append_assoc h.0 (placed x place p ∷ []) (placed_from x (place + 1) later)),
            subst (λ l. IsAt t paths x v ms d l go.state) (append_assoc done h.0 (placed x place p ∷ [])) go.at,
            ap (λ r. r >>= λ z. read_parts t (read_within depth t) (placed_from x (place + 1) later) z.0 z.1) (sym go.is) ∙ h.4,
          )

      -- it can't be read
      pub parts_fault : (g : Fault)
          → ((done : List Placed) (s : Progress) → IsAt t paths x w ns b done s → value_at s.fields x place ≡ None → IsTold s.fields p → read_entry t (read_within depth t) s (placed x place p) b ≡ Err g)
          → (done : List Placed) (s : Progress) → IsAt t paths x w0 ns0 b0 done s → IsFront t (done ++ placed_from x first parts) → read_parts t (read_within depth t) (placed_from x first parts) s b0 ≡ Err g
      unfolding read_parts
      parts_fault g fault done s at front =
          let h = here done s at front in
          sym h.4 ∙ ap (λ r. r >>= λ z. read_parts t (read_within depth t) (placed_from x (place + 1) later) z.0 z.1) (fault (done ++ h.0) h.1 h.3 (front_new t rules (done ++ h.0) (placed x place p) (placed_from x (place + 1) later) (h.1).fields (h.3).keys (next_front done h.0 h.2 front)) (is_told t rules (done ++ h.0) (placed x place p) (placed_from x (place + 1) later) (h.1).fields (h.3).keys (next_front done h.0 h.2 front)))

  -- ---- what walking over some parts gives

  -- the parts were passed, whatever was passed before them
  abbrev pub PartsPass : ℕ → Walked → List (Option ℤ) → Bits → Walked → List (Option ℤ) → Bits → List Placed → Type 0
  PartsPass y w ns b v ms d ps = (done : List Placed) (s : Progress) → IsAt t paths y w ns b done s → IsFront t (done ++ ps) → Goes t paths y v ms d (done ++ ps) (read_parts t (read_within depth t) ps s b)

  -- or reading them fails
  abbrev pub PartsFail : ℕ → Walked → List (Option ℤ) → Bits → Fault → List Placed → Type 0
  PartsFail y w ns b g ps = (done : List Placed) (s : Progress) → IsAt t paths y w ns b done s → IsFront t (done ++ ps) → read_parts t (read_within depth t) ps s b ≡ Err g

  -- ---- chains

  module _ (id : ℕ) (b0 : Bits) where
    -- the walk has come to the containers of the chain that are left
    abbrev pub ChainAt : Walked → List (Option ℤ) → Bits → List TypeId → Type 0
    ChainAt w ns b rest =
        (front : List ℕ) × (s : Progress) × (chain t id ≡ front ++ numbers_of rest) × IsAt t paths id w ns b (flat_map (placed_entries t) front) s
        × (read_chain t (read_within depth t) (numbers_of rest) s b ≡ read_chain t (read_within depth t) (chain t id) started b0)

    nothing : {A : Type 0} {x : A} → None ≡ Some x → ⊥
    nothing e = cc

    -- before the first bit
    pub chain_begins : (w : Walked) (ns : List (Option ℤ)) (rest : List TypeId) → numbers_of rest ≡ chain t id → bits_left w.start ≡ b0 → w.octets ≡ None → ChainAt w ns b0 rest
    chain_begins w ns rest e first told = ([], started, sym e, at, ap (λ ys. read_chain t (read_within depth t) ys started b0) e)
      where
        at : IsAt t paths id w ns b0 [] started
        at = record {
          before = (let k : length b0 - length b0 ≡ 0 = omega arith in sym (ap (λ z. bits_front z b0) first ∙ ap (λ n. take n b0) k));
          octets = sym told;
          shows = λ p path v h g i. absurd (nothing h);
          keys = refl;
          ints = tt;
          ranks = λ rs. tt;
        }

    -- the walk is under way there
    pub chain_walks : (w : Walked) → bits_left w.start ≡ b0 → w.octets ≡ None → IsWalking w b0
    chain_walks w first told = record { begun = ([], first); told = subst (λ o. IfSome o (λ n. nat_abs n ≤ 2 ^ 97)) (sym told) tt }

    module _ (w : Walked) (ns : List (Option ℤ)) (b : Bits) (one : TypeId) (later rest : List TypeId) (is : rest ≡ one ∷ later) (inv : ChainAt w ns b rest) where
      so_far : ChainAt w ns b (one ∷ later)
      so_far = subst (ChainAt w ns b) is inv

      -- the next container is one of the chain
      pub chain_has : Has (chain t id) one.0
      chain_has = record { before = so_far.0; after = numbers_of later; is = so_far.2 }

      pub chain_rank : (rs : KeepsRules t) → rs.rank one.0 ≡ rs.rank id
      chain_rank rs = rank_of_chain t rs id one.0 chain_has

      module _ (rules : KeepsRules t) (notes : paths ≡ each_once (asked t)) (cs : List Constraint) (own : cs ≡ constraints_of t one.0) where
        all_noted : AllByRecursion (IsNotedFor t paths ns (so_far.1).fields) cs
        all_noted = subst (AllByRecursion (IsNotedFor t paths ns (so_far.1).fields)) (sym own) (constraints_noted t rules paths notes id id w ns b so_far.1 so_far.0 one.0 (numbers_of later) so_far.2 so_far.3)

        -- a constraint fails
        pub chain_unmet : (g : Fault) → ((u : Table) (fs : List Field) → AllByRecursion (IsNotedFor u paths ns fs) cs → check_all u cs fs ≡ Err g) → read_chain t (read_within depth t) (chain t id) started b0 ≡ Err g
        unfolding read_chain
        chain_unmet g stops =
            sym so_far.4
            ∙ ap (λ r. (r >>= λ u. read_parts t (read_within depth t) (placed_entries t one.0) so_far.1 b) >>= λ z. read_chain t (read_within depth t) (numbers_of later) z.0 z.1) (ap (λ l. check_all t l (so_far.1).fields) (sym own) ∙ stops t (so_far.1).fields all_noted)

        module _ (passes : (u : Table) (fs : List Field) → AllByRecursion (IsNotedFor u paths ns fs) cs → check_all u cs fs ≡ Ok tt) (es : List Part) (entries : es ≡ entries_of t one.0) where
          checked : check_all t (constraints_of t one.0) (so_far.1).fields ≡ Ok tt
          checked = ap (λ l. check_all t l (so_far.1).fields) (sym own) ∙ passes t (so_far.1).fields all_noted

          -- its entries follow those of its bases
          entries_front : IsFront t (flat_map (placed_entries t) so_far.0 ++ placed_entries t one.0)
          entries_front = (
            one.0,
            flat_map (placed_trailers t) (reverse (chain t one.0)),
            ap (λ l. l ++ flat_map (placed_trailers t) (reverse (chain t one.0))) (ap (flat_map (placed_entries t)) (under_is t (table_of t rules) one.0 id so_far.0 (numbers_of later) so_far.2).0 ∙ flat_end (placed_entries t) so_far.0 one.0),
          )

          at_here : IsAt t paths one.0 w ns b (flat_map (placed_entries t) so_far.0) so_far.1
          at_here = at_other t paths id one.0 w ns b (flat_map (placed_entries t) so_far.0) so_far.1 (λ rs. sym (chain_rank rs)) so_far.3

          read_on : read_chain t (read_within depth t) (chain t id) started b0 ≡ (read_parts t (read_within depth t) (placed_entries t one.0) so_far.1 b >>= λ z. read_chain t (read_within depth t) (numbers_of later) z.0 z.1)
          unfolding read_chain
          read_on = sym so_far.4 ∙ ap (λ r. (r >>= λ u. read_parts t (read_within depth t) (placed_entries t one.0) so_far.1 b) >>= λ z. read_chain t (read_within depth t) (numbers_of later) z.0 z.1) checked

          -- its entries can't be read
          pub chain_fault : (g : Fault) → PartsFail one.0 w ns b g (placed_from one.0 0 es) → read_chain t (read_within depth t) (chain t id) started b0 ≡ Err g
          chain_fault g fault =
              let own_fault = subst (λ l. PartsFail one.0 w ns b g (placed_from one.0 0 l)) entries fault in
              read_on ∙ ap (λ r. r >>= λ z. read_chain t (read_within depth t) (numbers_of later) z.0 z.1) (own_fault (flat_map (placed_entries t) so_far.0) so_far.1 at_here entries_front)

          -- its entries were passed
          pub chain_goes : (v : Walked) (ms : List (Option ℤ)) (d : Bits) → PartsPass one.0 w ns b v ms d (placed_from one.0 0 es) → ChainAt v ms d later
          chain_goes v ms d passed =
              let own_passed = subst (λ l. PartsPass one.0 w ns b v ms d (placed_from one.0 0 l)) entries passed in
              let go = own_passed (flat_map (placed_entries t) so_far.0) so_far.1 at_here entries_front in (
                so_far.0 ++ one.0 ∷ [],
                go.state,
                so_far.2 ∙ sym (append_assoc so_far.0 (one.0 ∷ []) (numbers_of later)),
                at_other t paths one.0 id v ms d (flat_map (placed_entries t) (so_far.0 ++ one.0 ∷ [])) go.state chain_rank (subst (λ l. IsAt t paths one.0 v ms d l go.state) (sym (flat_end (placed_entries t) so_far.0 one.0)) go.at),
                sym (read_on ∙ ap (λ r. r >>= λ z. read_chain t (read_within depth t) (numbers_of later) z.0 z.1) go.is),
              )

  -- ---- trailers

  module _ (id : ℕ) (w0 : Walked) (ns0 : List (Option ℤ)) (b0 : Bits) where
    -- the walk has come to the trailers of the containers that are left
    abbrev pub TrailersAt : Walked → List (Option ℤ) → Bits → List TypeId → Type 0
    TrailersAt w ns b rest =
        (done : List Placed) (s : Progress) → IsAt t paths id w0 ns0 b0 done s → IsFront t (done ++ flat_map (placed_trailers t) (reverse (chain t id)))
        → (front : List Placed) × (u : Progress) × (flat_map (placed_trailers t) (reverse (chain t id)) ≡ front ++ flat_map (placed_trailers t) (reverse (numbers_of rest))) × IsAt t paths id w ns b (done ++ front) u
        × (read_parts t (read_within depth t) (flat_map (placed_trailers t) (reverse (numbers_of rest))) u b ≡ read_parts t (read_within depth t) (flat_map (placed_trailers t) (reverse (chain t id))) s b0)

    -- none are left
    pub trailers_passed : (w : Walked) (ns : List (Option ℤ)) (b : Bits) (rest : List TypeId) → rest ≡ [] → TrailersAt w ns b rest
        → (done : List Placed) (s : Progress) → IsAt t paths id w0 ns0 b0 done s → IsFront t (done ++ flat_map (placed_trailers t) (reverse (chain t id))) → Goes t paths id w ns b (done ++ flat_map (placed_trailers t) (reverse (chain t id))) (read_parts t (read_within depth t) (flat_map (placed_trailers t) (reverse (chain t id))) s b0)
    unfolding read_parts
    trailers_passed w ns b rest is inv done s at front =
        let h = subst (TrailersAt w ns b) is inv done s at front in
        record {
          state = h.1;
          is = sym h.4;
          at = subst (λ l. IsAt t paths id w ns b l h.1) (ap (λ l. done ++ l) (sym (h.2 ∙ append-nil h.0))) h.3;
        }

    module _ (w : Walked) (ns : List (Option ℤ)) (b : Bits) (one : TypeId) (init rest : List TypeId) (is : rest ≡ init ++ one ∷ []) (left : (after : List ℕ) × (chain t id ≡ numbers_of rest ++ after)) where
      numbers_split : numbers_of rest ≡ numbers_of init ++ one.0 ∷ []
      numbers_split = ap numbers_of is ∙ map-append (λ (z : TypeId). z.0) init (one ∷ [])

      -- the containers before the last one are the first of the chain
      pub left_before : (after : List ℕ) × (chain t id ≡ numbers_of init ++ after)
      left_before = (one.0 ∷ left.0, left.1 ∙ ap (λ l. l ++ left.0) numbers_split ∙ append_assoc (numbers_of init) (one.0 ∷ []) left.0)

      -- the last one that is left is one of the chain
      pub last_has : Has (chain t id) one.0
      last_has = record { before = numbers_of init; after = left.0; is = left.1 ∙ ap (λ l. l ++ left.0) numbers_split ∙ append_assoc (numbers_of init) (one.0 ∷ []) left.0 }

      pub last_rank : (rs : KeepsRules t) → rs.rank one.0 ≡ rs.rank id
      last_rank rs = rank_of_chain t rs id one.0 last_has

      -- the trailers that are left begin with those of the last container
      last_first : flat_map (placed_trailers t) (reverse (numbers_of rest)) ≡ placed_trailers t one.0 ++ flat_map (placed_trailers t) (reverse (numbers_of init))
      last_first = ap (λ l. flat_map (placed_trailers t) (reverse l)) numbers_split ∙ ap (flat_map (placed_trailers t)) (last_onto (numbers_of init) one.0 [])

      module _ (inv : TrailersAt w ns b rest) (es ts : List Part) (entries : es ≡ entries_of t one.0) (trailers : ts ≡ trailers_of t one.0) where
        own_is : placed_from one.0 (length es) ts ≡ placed_trailers t one.0
        own_is = ap (λ l. placed_from one.0 (length l) ts) entries ∙ ap (λ l. placed_from one.0 (length (entries_of t one.0)) l) trailers

        abbrev more : List Placed
        more = flat_map (placed_trailers t) (reverse (numbers_of init))

        last_front : (done before : List Placed) → flat_map (placed_trailers t) (reverse (chain t id)) ≡ before ++ flat_map (placed_trailers t) (reverse (numbers_of rest)) → IsFront t (done ++ flat_map (placed_trailers t) (reverse (chain t id))) → IsFront t ((done ++ before) ++ placed_trailers t one.0)
        last_front done before e front =
            front_of t ((done ++ before) ++ placed_trailers t one.0) more
            (subst (IsFront t) (ap (λ l. done ++ l) (e ∙ ap (λ l. before ++ l) last_first) ∙ sym (append_assoc done before (placed_trailers t one.0 ++ more)) ∙ sym (append_assoc (done ++ before) (placed_trailers t one.0) more)) front)

        read_last : (u : Progress) → read_parts t (read_within depth t) (flat_map (placed_trailers t) (reverse (numbers_of rest))) u b ≡ (read_parts t (read_within depth t) (placed_trailers t one.0) u b >>= λ z. read_parts t (read_within depth t) more z.0 z.1)
        read_last u = ap (λ ps. read_parts t (read_within depth t) ps u b) last_first ∙ parts_append t (read_within depth t) (placed_trailers t one.0) more u b

        at_last : (done : List Placed) (u : Progress) → IsAt t paths id w ns b done u → IsAt t paths one.0 w ns b done u
        at_last done u at = at_other t paths id one.0 w ns b done u (λ rs. sym (last_rank rs)) at

        -- its trailers can't be read
        pub trailers_fault : (g : Fault) → PartsFail one.0 w ns b g (placed_from one.0 (length es) ts)
            → (done : List Placed) (s : Progress) → IsAt t paths id w0 ns0 b0 done s → IsFront t (done ++ flat_map (placed_trailers t) (reverse (chain t id))) → read_parts t (read_within depth t) (flat_map (placed_trailers t) (reverse (chain t id))) s b0 ≡ Err g
        trailers_fault g fault done s at front =
            let h = inv done s at front in
            let own_fault = subst (PartsFail one.0 w ns b g) own_is fault in
            sym h.4 ∙ read_last h.1 ∙ ap (λ r. r >>= λ z. read_parts t (read_within depth t) more z.0 z.1) (own_fault (done ++ h.0) h.1 (at_last (done ++ h.0) h.1 h.3) (last_front done h.0 h.2 front))

        -- its trailers were passed
        pub trailers_goes : (v : Walked) (ms : List (Option ℤ)) (d : Bits) → PartsPass one.0 w ns b v ms d (placed_from one.0 (length es) ts) → TrailersAt v ms d init
        trailers_goes v ms d passed done s at front =
            let h = inv done s at front in
            let own_passed = subst (PartsPass one.0 w ns b v ms d) own_is passed in
            let go = own_passed (done ++ h.0) h.1 (at_last (done ++ h.0) h.1 h.3) (last_front done h.0 h.2 front) in (
              h.0 ++ placed_trailers t one.0,
              go.state,
              h.2 ∙ ap (λ l. h.0 ++ l) last_first ∙ sym (append_assoc h.0 (placed_trailers t one.0) more),
              at_other t paths one.0 id v ms d (done ++ (h.0 ++ placed_trailers t one.0)) go.state last_rank (subst (λ l. IsAt t paths one.0 v ms d l go.state) (append_assoc done h.0 (placed_trailers t one.0)) go.at),
              ap (λ r. r >>= λ z. read_parts t (read_within depth t) more z.0 z.1) (sym go.is) ∙ sym (read_last h.1) ∙ h.4,
            )
