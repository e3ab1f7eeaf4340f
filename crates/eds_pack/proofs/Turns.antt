-- The parts of a container, taken by their places one after the other.
use Rattle.std.proofs.Common.{◌≡◌, ℕ, zero, suc, ◌+◌, ◌<◌, ◌≤◌, List, [], ◌∷◌, ◌++◌, length, get_or, take, drop, map, Option, Some, None, Bool, true, false, refl, sym, ap, subst, ◌∙◌, arith}
use Rattle.std.proofs.lemmas.List.{take_more, take_all, take-append-drop, drop_more, length-map}
use Rattle.eds_base.specs.declared.ids.TypeId.{TypeId}
use Rattle.eds_bits.specs.Bits.{Bits}
use Rattle.eds_types.proofs.FieldTypes.{IsPlaced, sequence_placed}
use Rattle.eds_types.proofs.Ranks.{Lower, sequence_lower}
use Rattle.eds_types.specs.declared.row.Constraint.{Constraint}
use Rattle.eds_types.specs.declared.row.Part.{Part}
use Rattle.eds_types.specs.declared.row.Part.TheVariants as part
use Rattle.eds_types.specs.Fields.{part_at, type_by}
use Rattle.eds_types.specs.Plain.{Plain, items, plains_of}
use Rattle.eds_types.specs.Rows.{Table, Placed, address, sequence}
use Rattle.eds_types.specs.Rules.{KeepsRules}
use Rattle.eds_pack.specs.Building.{Built, BuiltBehind, PartHolds, PartsHold}
use Rattle.eds_pack.specs.Defaults.{EntryDefaults, PartDefaults, PartsDefault}
use Rattle.eds_pack.specs.Nesting.{IsLow, Nests}
use Rattle.eds_pack.proofs.Builds.{parts_next, parts_stop, plain_built, plain_none}
use Rattle.eds_pack.proofs.Entries.{under_itself}
use Rattle.eds_pack.proofs.Sized.{ranked}
use Rattle.eds_pack.proofs.Spelt.{all_at}

abbrev nowhere : Placed
nowhere = record { container = 0; place = 0; part = part.Pad 1 }

-- the part at a place of a sequence
abbrev pub part_in : List Placed → ℕ → Placed
part_in xs i = get_or xs i nowhere

pub part_stands : (xs : List Placed) (i : ℕ) (d : TypeId × ℕ) → i < length xs → get_or (map address xs) i d ≡ address (part_in xs i)
part_stands [] i d lt = absurd (omega arith)
part_stands (x ∷ xs) zero d lt = refl
part_stands (x ∷ xs) (suc i) d lt = part_stands xs i d (omega arith)

pub few_places : (xs : List Placed) (i : ℕ) (places : List (TypeId × ℕ)) → places ≡ map address xs → i < length places → i < length xs
few_places xs i places e lt = omega (arith, ap length e, length-map xs address)

pub past_places : (xs : List Placed) (i : ℕ) (places : List (TypeId × ℕ)) → places ≡ map address xs → length places ≤ i → length xs ≤ i
past_places xs i places e le = omega (arith, ap length e, length-map xs address)

pub part_found : (t : Table) (k i : ℕ) → i < length (sequence t k) → part_at t (address (part_in (sequence t k) i)) ≡ Some (part_in (sequence t k) i).part
part_found t k i lt = all_at (IsPlaced t) (sequence t k) i nowhere lt (sequence_placed t k)

-- the type of an entry is nested less deep
pub entry_nests : (t : Table) (rules : KeepsRules t) (n k i : ℕ) → IsLow t (n + 1) k → i < length (sequence t k) → (name : List ℕ) (id : TypeId) → part_at t (address (part_in (sequence t k) i)) ≡ Some (part.Plain name id) → Nests t n id.0
entry_nests t rules n k i low lt name id e =
    let z : ◌≡◌ {A = Option Part} (Some (part_in (sequence t k) i).part) (Some (part.Plain name id)) = sym (part_found t k i lt) ∙ e in
    let is : type_by (Some (part_in (sequence t k) i).part) ≡ Some id.0 = ap type_by z in
    let under = λ (r : KeepsRules t). (all_at (Lower t (ranked t r) k) (sequence t k) i nowhere lt (sequence_lower t (ranked t r) k k (under_itself t k))).lower id.0 is in
    record { known = (under rules).1; rank = λ r. (let l : r.rank id.0 < r.rank k = (under r).0 in let top = low r in omega arith) }

module _ (t : Table) (D : ℕ → Plain → Type 0) (C : ℕ → Plain → Bits → Type 0) (cs : List Constraint) where
  abbrev pub SoFar : List Placed → ℕ → ℕ → List Plain → Type 0
  SoFar ps old new f = Built (PartsDefault t D cs ps) (PartsHold C ps) old new (Some f)

  abbrev pub Behind : Placed → ℕ → ℕ → List Plain → List Plain → Bool → Type 0
  Behind p old new before after done = BuiltBehind (PartDefaults t D cs p p.part) (PartHolds C p.part) old new before after done

  -- one part more is built
  pub turn_goes : (xs : List Placed) (i : ℕ) (old mid new : ℕ) (f g : List Plain) → i < length xs → SoFar (take i xs) old mid f → Behind (part_in xs i) mid new f g true → SoFar (take (i + 1) xs) old new g
  turn_goes xs i old mid new f g lt h k =
      let e : take (i + 1) xs ≡ take i xs ++ part_in xs i ∷ [] = take_more xs i nowhere lt in
      subst (λ ps. SoFar ps old new g) (sym e) (subst (λ vs. SoFar (take i xs ++ part_in xs i ∷ []) old new vs) (sym k.1) (parts_next t D C cs (take i xs) (part_in xs i) old mid new f k.0 h k.2))

  -- a part has no default
  pub turn_stops : (xs : List Placed) (i : ℕ) (old mid new last : ℕ) (f g : List Plain) → i < length xs → SoFar (take i xs) old mid f → Behind (part_in xs i) mid new f g false → Built (PartsDefault t D cs xs) (PartsHold C xs) old last None
  turn_stops xs i old mid new last f g lt h k =
      let e : xs ≡ take i xs ++ part_in xs i ∷ drop (i + 1) xs = sym (take-append-drop i xs) ∙ ap (λ z. take i xs ++ z) (drop_more xs i nowhere lt) in
      parts_stop t D C cs (take i xs) (drop (i + 1) xs) xs (part_in xs i) old mid new last f e h k

  pub turns_end : (xs : List Placed) (i old new : ℕ) (f : List Plain) → length xs ≤ i → SoFar (take i xs) old new f → SoFar xs old new f
  turns_end xs i old new f le h = subst (λ ps. SoFar ps old new f) (take_all i xs le) h

  -- ---- one part

  module _ (p : Placed) (q : Part) (is : p.part ≡ q) where
    by_kind : (old new : ℕ) (before after : List Plain) (done : Bool) → BuiltBehind (PartDefaults t D cs p q) (PartHolds C q) old new before after done → Behind p old new before after done
    by_kind old new before after done h = subst (λ z. BuiltBehind (PartDefaults t D cs p z) (PartHolds C z) old new before after done) (sym is) h

  pub entry_behind : (p : Placed) (name : List ℕ) (id : TypeId) → p.part ≡ part.Plain name id → (old new : ℕ) (before after : List Plain) (v : Plain) → after ≡ before ++ v ∷ [] → Built (EntryDefaults t D cs p id.0) (C id.0) old new (Some v) → Behind p old new before after true
  entry_behind p name id is old new before after v e h = by_kind p (part.Plain name id) is old new before after true (v ∷ [], e, plain_built t D C cs p name id old new v h)

  pub entry_missing : (p : Placed) (name : List ℕ) (id : TypeId) → p.part ≡ part.Plain name id → (old new : ℕ) (before after : List Plain) → Built (EntryDefaults t D cs p id.0) (C id.0) old new None → Behind p old new before after false
  entry_missing p name id is old new before after h = by_kind p (part.Plain name id) is old new before after false (plain_none t D C cs p name id old new h)

  pub list_behind : (p : Placed) (name : List ℕ) (id y : TypeId) (i : ℕ) → p.part ≡ part.List name id y i → (n : ℕ) (before after : List Plain) → after ≡ before ++ items (plains_of []) ∷ [] → Behind p n n before after true
  list_behind p name id y i is n before after e = by_kind p (part.List name id y i) is n n before after true (items (plains_of []) ∷ [], e, (refl, omega arith, λ w b x h. omega arith))

pub same_part : (t : Table) (p : Placed) (q : Part) (place : TypeId × ℕ) → part_at t place ≡ Some p.part → part_at t place ≡ Some q → p.part ≡ q
same_part t p q place e f = let z : ◌≡◌ {A = Option Part} (Some p.part) (Some q) = sym e ∙ f in cc
