-- What is declared in the files of a sheet, and what it holds under names that aren't passed over, are elements that are judged.
use Rattle.std.proofs.Common.{◌≡◌, ℕ, zero, suc, ◌+◌, Bool, true, false, not, List, [], ◌∷◌, length, map, filter, slice_get, Some, None, Ok, refl, sym, ap, subst, ◌∙◌, arith}
use Rattle.std.specs.Prelude.{if◌then◌else◌}
use Rattle.std.specs.List.{AllByRecursion, IsAmong, flat_map}
use Rattle.std.proofs.lemmas.Slice.Eq.{bytes_eq-Decides}
use Rattle.eds_base.specs.declared.ids.Place.{Place}
use Rattle.eds_tree.specs.declared.link.Link.{Link}
use Rattle.eds_tree.specs.declared.tree.Node.{Node}
use Rattle.eds_tree.specs.Reading.{tree_in}
use Rattle.eds_tree.specs.Trees.{name_at, children_at, children_of, counted, is_named, is_passed_over, links_of}
use Rattle.eds_tree.specs.Walks.{Descends}
use Rattle.eds_tree.proofs.Reached.{all_reached}
use Rattle.eds_names.specs.declared.declared.Declared.{Declared}
use Rattle.eds_names.specs.Declarations.{Declaration, declarations_from, declarations_in, declaration_at, declared_as, declared_in, kind_of, none_counted, numbered}
use Rattle.eds_names.specs.Declarations as declarations
use Rattle.eds_names.specs.Standings.{below, standings_from, standings_of}
use Rattle.eds_generic.specs.Reading.{held, held_in}
use Rattle.eds_read_comp.proofs.Lists.{all-joined}
use Rattle.eds_type_rows.proofs.SheetPlaces.{Standing}
use Rattle.eds_sheet.specs.Files.{trees_from, trees_in}
use Rattle.eds_sheet.proofs.Stages.{answered}

-- ---- what is among some numbers

among-first : (n : ℕ) (ns : List ℕ) → IsAmong (n ∷ ns) n
among-first n ns = (0, (omega arith, refl))

among-later : (m n : ℕ) (ns : List ℕ) → IsAmong ns n → IsAmong (m ∷ ns) n
among-later m n ns h = (suc h.0, (omega (arith, h.1.0), h.1.1))

-- what holds of all of some numbers holds of one among them
pub all-among : (P : ℕ → Type 0) (ns : List ℕ) (n : ℕ) → AllByRecursion P ns → IsAmong ns n → P n
all-among P [] n h k = absurd (omega (arith, k.1.0))
all-among P (m ∷ ns) n h (zero, k) = subst P (sym k.1) h.0
all-among P (m ∷ ns) n h (suc i, k) = all-among P ns n h.1 (i, (omega (arith, k.0), k.1))

-- ---- elements that stand below the root

module _ (t : List Node) where
  -- it is the root, or a child of one that stands so, and is not passed over
  abbrev pub Stands : ℕ → Type 0
  Stands n = (ancestors : List ℕ) × Descends t n ancestors

  children-stand : (n : ℕ) → Stands n → (cs : List ℕ) → ((c : ℕ) → IsAmong cs c → IsAmong (children_of t n) c) → AllByRecursion Stands cs
  children-stand n s [] in_all = tt
  children-stand n s (c ∷ cs) in_all = ((n ∷ s.0, (in_all c (among-first c cs), s.1)), children-stand n s cs (λ d k. in_all d (among-later c d cs k)))

  -- so do the children that have a name that isn't passed over
  abbrev pub StandsAs : List ℕ → ℕ → Type 0
  StandsAs name c = Stands c × (name_at t c ≡ name)

  named-stand : (name : List ℕ) → is_passed_over name ≡ false → (cs : List ℕ) → AllByRecursion Stands (counted t cs) → AllByRecursion (StandsAs name) (filter (is_named t name) cs)
  named-stand name kept [] h = tt
  named-stand name kept (c ∷ cs) h = go (is_passed_over (name_at t c)) (is_named t name c) refl refl h (named-stand name kept cs)
    where
      is : is_named t name c ≡ true → name_at t c ≡ name
      is e = (bytes_eq-Decides (name_at t c) name).0 e

      go : (passed named : Bool) → is_passed_over (name_at t c) ≡ passed → is_named t name c ≡ named → AllByRecursion Stands (if not passed then c ∷ counted t cs else counted t cs)
          → (AllByRecursion Stands (counted t cs) → AllByRecursion (StandsAs name) (filter (is_named t name) cs)) → AllByRecursion (StandsAs name) (if named then c ∷ filter (is_named t name) cs else filter (is_named t name) cs)
      go true true e f h rest = let over : true ≡ false = sym e ∙ ap is_passed_over (is f) ∙ kept in absurd cc
      go true false e f h rest = rest h
      go false true e f h rest = ((h.0, is f), rest h.1)
      go false false e f h rest = rest h.1

  pub held-stand : (name : List ℕ) (n : ℕ) → is_passed_over name ≡ false → Stands n → AllByRecursion (StandsAs name) (held t name n)
  held-stand name n kept s = named-stand name kept (children_at t n) (children-stand n s (children_of t n) (λ c k. k))

  pub all-held-stand : (set name : List ℕ) → is_passed_over name ≡ false → (ns : List ℕ) → AllByRecursion (StandsAs set) ns → AllByRecursion (StandsAs name) (flat_map (held t name) ns)
  all-held-stand set name kept [] h = tt
  all-held-stand set name kept (n ∷ ns) h = all-joined (StandsAs name) (held t name n) (flat_map (held t name) ns) (held-stand name n kept h.0.0) (all-held-stand set name kept ns h.1)

  pub set-stands : (set name : List ℕ) (n : ℕ) → is_passed_over set ≡ false → is_passed_over name ≡ false → Stands n → AllByRecursion (StandsAs name) (held_in t set name n)
  set-stands set name n set_kept kept s = all-held-stand set name kept (held t set n) (held-stand set n set_kept s)

  pub all-sets-stand : (owner set name : List ℕ) → is_passed_over set ≡ false → is_passed_over name ≡ false → (ns : List ℕ) → AllByRecursion (StandsAs owner) ns → AllByRecursion (StandsAs name) (flat_map (held_in t set name) ns)
  all-sets-stand owner set name set_kept kept [] h = tt
  all-sets-stand owner set name set_kept kept (n ∷ ns) h = all-joined (StandsAs name) (held_in t set name n) (flat_map (held_in t set name) ns) (set-stands set name n set_kept kept h.0.0) (all-sets-stand owner set name set_kept kept ns h.1)

  -- ---- all elements stand so

  abbrev StandingStands : Standing → Type 0
  StandingStands s = Stands s.node

  standings-over : (depth : ℕ) (s : Standing) → ((r : Standing) → Stands r.node → AllByRecursion StandingStands (standings_from t depth r)) → (cs : List ℕ) → AllByRecursion Stands cs → AllByRecursion StandingStands (flat_map (λ c. standings_from t depth (below t s c)) cs)
  standings-over depth s each [] h = tt
  standings-over depth s each (c ∷ cs) h =
      all-joined StandingStands (standings_from t depth (below t s c)) (flat_map (λ d. standings_from t depth (below t s d)) cs) (each (below t s c) h.0) (standings-over depth s each cs h.1)

  standings-stand : (depth : ℕ) (s : Standing) → Stands s.node → AllByRecursion StandingStands (standings_from t depth s)
  standings-stand zero s h = tt
  standings-stand (suc depth) s h = (h, standings-over depth s (λ r k. standings-stand depth r k) (children_of t s.node) (children-stand s.node h (children_of t s.node) (λ c k. k)))

  all-stand : AllByRecursion StandingStands (standings_of t)
  unfolding standings_of
  all-stand = standings-stand (length t) (record { parent = 0; node = 0; in_package = 0; in_component = 0 }) ([], refl)

-- ---- what is declared

-- the element at a place stands so in its file
abbrev pub IsPlaced : List (List Node) → Place → Type 0
IsPlaced trees at = (t : List Node) → slice_get trees at.file ≡ Some t → Stands t at.node

abbrev Found : {A : Type 0} → List A → Type 0
Found {A} xs = A

module _ (trees : List (List Node)) where
  abbrev IsDeclaredThere : Declaration → Type 0
  IsDeclaredThere d = IsPlaced trees d.place

  declared-one : (t : List Node) (file : ℕ) (s : Standing) → slice_get trees file ≡ Some t → Stands t s.node → AllByRecursion IsDeclaredThere (declaration_at t file s)
  declared-one t file s there h = go (kind_of (name_at t s.node) (name_at t s.parent))
    where
      go : (o : Found (kind_of [] [] ∷ [])) → AllByRecursion IsDeclaredThere (declared_as t file s o)
      go None = tt
      go (Some k) = (λ u e. let same : t ≡ u = let both = sym there ∙ e in cc in subst (λ v. Stands v s.node) same h, tt)

  declared-file : (t : List Node) (file : ℕ) → slice_get trees file ≡ Some t → (ss : List Standing) → AllByRecursion (StandingStands t) ss → AllByRecursion IsDeclaredThere (flat_map (declaration_at t file) ss)
  declared-file t file there [] h = tt
  declared-file t file there (s ∷ ss) h = all-joined IsDeclaredThere (declaration_at t file s) (flat_map (declaration_at t file) ss) (declared-one t file s there h.0) (declared-file t file there ss h.1)

  declared-files : (file : ℕ) (ts : List (List Node)) → ((k : ℕ) (t : List Node) → slice_get ts k ≡ Some t → slice_get trees (file + k) ≡ Some t) → AllByRecursion IsDeclaredThere (declarations_from file ts)
  declared-files file [] there = tt
  declared-files file (t ∷ ts) there =
      let first : file + 0 ≡ file = omega arith in
      let here = subst (λ k. slice_get trees k ≡ Some t) first (there 0 t refl) in
      let next : (k : ℕ) (u : List Node) → slice_get ts k ≡ Some u → slice_get trees (file + 1 + k) ≡ Some u = λ k u e.
      let one : file + suc k ≡ file + 1 + k = omega arith in subst (λ i. slice_get trees i ≡ Some u) one (there (suc k) u e) in
      all-joined IsDeclaredThere (declarations_in file t) (declarations_from (file + 1) ts) (declared-file t file here (standings_of t) (all-stand t)) (declared-files (file + 1) ts next)

  declared-numbered : (c : Found (none_counted ∷ [])) (ds : List Declaration) → AllByRecursion IsDeclaredThere ds → AllByRecursion (λ (d : Declared). IsPlaced trees d.place) (numbered c ds)
  declared-numbered c [] h = tt
  declared-numbered c (d ∷ ds) h = (h.0, declared-numbered (declarations.counted c d.kind) ds h.1)

  -- all that a sheet declares stands so
  pub declared-placed : AllByRecursion (λ (d : Declared). IsPlaced trees d.place) (declared_in trees)
  declared-placed =
      let there : (k : ℕ) (t : List Node) → slice_get trees k ≡ Some t → slice_get trees (0 + k) ≡ Some t = λ k t e. let same : k ≡ 0 + k = omega arith in subst (λ i. slice_get trees i ≡ Some t) same e in
      declared-numbered none_counted (declarations_from 0 trees) (declared-files 0 trees there)

-- ---- files that were read

-- it is the tree of a file
abbrev pub IsRead : List Node → Type 0
IsRead t = (file : ℕ) × (octets : List ℕ) × (tree_in file octets ≡ Ok t)

trees-from : (file : ℕ) (files : List (List ℕ)) (trees : List (List Node)) → trees_from file files ≡ Ok trees → AllByRecursion IsRead trees
trees-from file [] [] h = tt
trees-from file [] (t ∷ trees) h = absurd cc
trees-from file (octets ∷ files) trees h =
    let first = answered (tree_in file octets) _ trees h in
    let rest = answered (trees_from (file + 1) files) _ trees first.2 in
    let is : first.0 ∷ rest.0 ≡ trees = let made = rest.2 in cc in
    subst (AllByRecursion IsRead) is ((file, octets, first.1), trees-from (file + 1) files rest.0 rest.1)

pub trees-read : (files : List (List ℕ)) (trees : List (List Node)) → trees_in files ≡ Ok trees → AllByRecursion IsRead trees
trees-read files trees h = trees-from 0 files trees h

-- what stands so is judged
pub stands-judged : (t : List Node) (n : ℕ) → IsRead t → Stands t n → IsAmong (map (λ (l : Link). l.node) (links_of t)) n
stands-judged t n read s = all_reached read.0 read.1 t n s.0 read.2 s.1
