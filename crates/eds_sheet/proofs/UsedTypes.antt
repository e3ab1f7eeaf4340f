-- The used types of a sheet: all that its types name are among them, and each of them is clear where no two containers overlap.
use Rattle.std.proofs.Common.{◌≡◌, ℕ, zero, suc, List, [], ◌∷◌, ◌++◌, is_some, Option, Some, None, Ok, refl, sym, ap, subst, ◌∙◌, inl, inr}
use Rattle.std.specs.Prelude.{slice_get, flat_map, not, IfSome, option_map}
use Rattle.eds_base.specs.declared.ids.TypeId.{TypeId}
use Rattle.eds_base.specs.Refusals.{least}
use Rattle.eds_bits.specs.Lists.{Has, HasOne}
use Rattle.eds_tree.specs.declared.tree.Node.{Node}
use Rattle.eds_tree.specs.ShapeCheck.{unless_broken}
use Rattle.eds_names.specs.LookUp.{Names}
use Rattle.eds_types.specs.declared.row.TypeRow.{TypeRow}
use Rattle.eds_types.specs.declared.row.Kind.{Kind}
use Rattle.eds_types.specs.declared.row.Kind.TheVariants as kind
use Rattle.eds_types.specs.declared.row.Part.{Part}
use Rattle.eds_types.specs.declared.row.Part.TheVariants as part
use Rattle.eds_types.specs.Fields.{type_by}
use Rattle.eds_types.specs.Overlap.{IsClear}
use Rattle.eds_types.specs.Overlap.Reaches.{itself}
use Rattle.eds_types.specs.Rows.{Table, id_of}
use Rattle.eds_types.specs.Rules.{KeepsRules}
use Rattle.eds_types.specs.Sizes.{open_of}
use Rattle.eds_overlap.specs.FirstOverlap.{Pair, overlap_of, first_pair}
use Rattle.eds_overlap.specs.Pairs.{Named}
use Rattle.eds_overlap.specs.Used.{NamesByKind, HasAllNamed, HasNoOverlap}
use Rattle.eds_overlap.proofs.FirstPairs.{overlaps_are_found}
use Rattle.eds_overlap.proofs.LeastInAll.{In, in_front, in_back, in_filter}
use Rattle.eds_overlap.proofs.Meeting.{has_of_one, one_either}
use Rattle.eds_overlap.proofs.UsedTypes.{used_are_clear}
use Rattle.eds_read_types.specs.declared.table.SheetTypes.{SheetTypes}
use Rattle.eds_type_rows.specs.InnerReferences.{inner_types}
use Rattle.eds_type_rows.specs.ReadTypes.{word_type}
use Rattle.eds_read_types.specs.TableRead.{typed_of}
use Rattle.eds_read_types.specs.SheetTable.{sheet_table}
use Rattle.eds_read_types.specs.Used.{optional, part_type, part_types, types_named, is_open_id, used_types}
use Rattle.eds_sheet.specs.Overlaps.{overlap_refused, broken_by, overlap_verdict}

-- ---- what types name

-- the type of a part stands among those that it names
part_named : (p : Part) (id : ℕ) → type_by (Some p) ≡ Some id → In (optional (part_type p)) (id_of id)
part_named (part.Plain name ty) id e = let same : ty.0 ≡ id = cc in inl (ap id_of same)
part_named (part.Fixed name ty v) id e = let same : ty.0 ≡ id = cc in inl (ap id_of same)
part_named (part.Pad n) id e = absurd cc
part_named (part.List name ty y i) id e = let same : ty.0 ≡ id = cc in inl (ap id_of same)
part_named (part.Length name ty c0 c1) id e = let same : ty.0 ≡ id = cc in inl (ap id_of same)
part_named (part.Check name ty check) id e = let same : ty.0 ≡ id = cc in inl (ap id_of same)

parts_named : (parts : List Part) (id : ℕ) → HasOne (λ p. type_by (Some p) ≡ Some id) parts → In (part_types parts) (id_of id)
parts_named [] id h = absurd h
parts_named (p ∷ parts) id (inl h) = in_front (optional (part_type p)) (part_types parts) (id_of id) (part_named p id h)
parts_named (p ∷ parts) id (inr h) = in_back (optional (part_type p)) (part_types parts) (id_of id) (parts_named parts id h)

kind_named : (k : Kind) (id : ℕ) → NamesByKind k id → In (types_named k) (id_of id)
kind_named (kind.Int form spans) id h = absurd h
kind_named (kind.Enum form listing) id h = absurd h
kind_named (kind.Bool form) id h = absurd h
kind_named (kind.Str form) id h = absurd h
kind_named (kind.Bin size free) id h = absurd h
kind_named (kind.Arr item size) id h = inl (ap id_of (sym h))
kind_named (kind.Con c) id h =
    elim (one_either (λ p. type_by (Some p) ≡ Some id) c.entries c.trailers h) [
      | inl k ↦ in_front (part_types c.entries) (part_types c.trailers) (id_of id) (parts_named c.entries id k)
      | inr k ↦ in_back (part_types c.entries) (part_types c.trailers) (id_of id) (parts_named c.trailers id k)
    ]

row_named : (t : Table) (y : ℕ) (row : TypeRow) (x : TypeId) → slice_get t y ≡ Some row → In (types_named row.kind) x → In (flat_map (λ (r : TypeRow). types_named r.kind) t) x
row_named [] y row x e h = absurd cc
row_named (r ∷ t) zero row x e h = let same : r ≡ row = cc in in_front (types_named r.kind) (flat_map (λ (s : TypeRow). types_named s.kind) t) x (subst (λ (s : TypeRow). In (types_named s.kind) x) (sym same) h)
row_named (r ∷ t) (suc y) row x e h = in_back (types_named r.kind) (flat_map (λ (s : TypeRow). types_named s.kind) t) x (row_named t y row x e h)

-- ---- the used types of a sheet

pub has : (xs : List TypeId) (x : TypeId) → In xs x → Has xs x
has xs x h = let k = has_of_one (λ y. y ≡ x) xs h in subst (Has xs) k.2 k.1

module _ (trees : List (List Node)) (names : Names) (word : Option (List ℕ)) where
  abbrev rows : Table
  rows = sheet_table trees names

  abbrev used : List TypeId
  used = (typed_of trees names word).used

  -- what is named by a type or by the TYPE word, and is no open binary, is used
  named_used : (id : ℕ) → open_of rows id ≡ None → In (flat_map (λ (r : TypeRow). types_named r.kind) rows ++ optional (word_type trees names word)) (id_of id) → Named used id
  named_used id closed h =
      has used (id_of id)
      (in_front (used_types rows (word_type trees names word)) (inner_types trees names) (id_of id)
      (in_filter (λ (u : TypeId). not (is_open_id rows u)) (flat_map (λ (r : TypeRow). types_named r.kind) rows ++ optional (word_type trees names word)) (id_of id) h (ap (λ o. not (is_some o)) closed)))

  pub all_named : HasAllNamed rows used
  all_named y id row e h closed =
      named_used id closed
      (in_front (flat_map (λ (r : TypeRow). types_named r.kind) rows) (optional (word_type trees names word)) (id_of id) (row_named rows y row (id_of id) e (kind_named row.kind id h)))

  -- so is the type that the TYPE word names
  pub word_used : (id : TypeId) → word_type trees names word ≡ Some id → open_of rows id.0 ≡ None → Named used id.0
  word_used id e closed =
      named_used id.0 closed
      (in_back (flat_map (λ (r : TypeRow). types_named r.kind) rows) (optional (word_type trees names word)) id (subst (λ o. In (optional o) id) (sym e) (inl refl)))

-- ---- where no two containers overlap

pub none_overlap : (names : Names) (typed : SheetTypes) → KeepsRules typed.table → overlap_verdict names typed ≡ Ok tt → HasNoOverlap typed.table typed.used
none_overlap names typed keeps h = (overlaps_are_found typed.table typed.used keeps).nothing (go (first_pair typed.table typed.used) h)
  where
    go : (o : Option Pair) → unless_broken (least (broken_by (option_map (overlap_refused typed.table names) (option_map (overlap_of typed.table) o)))) ≡ Ok tt → o ≡ None
    go None e = refl
    go (Some p) e = absurd cc

-- each used type but an open binary is clear
pub used_clear : (trees : List (List Node)) (names : Names) (word : Option (List ℕ)) (typed : SheetTypes) → typed_of trees names word ≡ typed → KeepsRules typed.table → overlap_verdict names typed ≡ Ok tt
    → (id : ℕ) → Named typed.used id → open_of typed.table id ≡ None → IsClear typed.table id
used_clear trees names word typed is keeps apart id u closed =
    let all : HasAllNamed typed.table typed.used = subst (λ (s : SheetTypes). HasAllNamed s.table s.used) is (all_named trees names word) in
    used_are_clear typed.table typed.used keeps all (none_overlap names typed keeps apart) id id u itself closed

-- so is the one that the TYPE word names
pub word_clear : (trees : List (List Node)) (names : Names) (word : Option (List ℕ)) (typed : SheetTypes) → typed_of trees names word ≡ typed → KeepsRules typed.table → overlap_verdict names typed ≡ Ok tt
    → IfSome typed.asked_type (λ id. open_of typed.table id.0 ≡ None) → IfSome typed.asked_type (λ id. IsClear typed.table id.0)
word_clear trees names word typed is keeps apart closed = go (word_type trees names word) refl
  where
    by_word : (id : TypeId) → word_type trees names word ≡ Some id → typed.asked_type ≡ Some id → IfSome (Some id) (λ id. IsClear typed.table id.0)
    by_word id e asked =
        let shut : open_of typed.table id.0 ≡ None = subst (λ o. IfSome o (λ (i : TypeId). open_of typed.table i.0 ≡ None)) asked closed in
        let open_rows = subst (λ (s : SheetTypes). open_of s.table id.0 ≡ None) (sym is) shut in
        used_clear trees names word typed is keeps apart id.0 (subst (λ (s : SheetTypes). Named s.used id.0) is (word_used trees names word id e open_rows)) shut

    go : (o : Option TypeId) → word_type trees names word ≡ o → IfSome typed.asked_type (λ id. IsClear typed.table id.0)
    go None e = subst (λ o. IfSome o (λ id. IsClear typed.table id.0)) (sym e ∙ ap (λ (s : SheetTypes). s.asked_type) is) tt
    go (Some id) e =
        let asked : typed.asked_type ≡ Some id = sym (ap (λ (s : SheetTypes). s.asked_type) is) ∙ e in
        subst (λ o. IfSome o (λ id. IsClear typed.table id.0)) (sym asked) (by_word id e asked)
