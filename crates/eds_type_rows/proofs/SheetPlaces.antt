-- The declared types of a sheet are among its elements.
use Rattle.std.proofs.Common.{◌≡◌, ℕ, zero, suc, ◌+◌, Bool, true, false, List, [], ◌∷◌, ◌++◌, map, filter, length, slice_get, Option, Some, None, Ok, refl, sym, ap, subst, ◌∙◌, arith}
use Rattle.std.specs.List.{AllByRecursion, flat_map}
use Rattle.std.proofs.lemmas.List.{map-append}
use Rattle.eds_base.specs.declared.ids.Place.{Place}
use Rattle.eds_base.specs.declared.refusal.Refusal.{Refusal}
use Rattle.eds_base.specs.Refusals.{least}
use Rattle.eds_tree.specs.declared.tree.Node.{Node}
use Rattle.eds_tree.specs.declared.link.Link.{Link}
use Rattle.eds_tree.specs.Breaks.{Judgement, breaks_in, breaks_from, breaks_of}
use Rattle.eds_tree.specs.Trees.{name_at, children_of, links_from, links_of}
use Rattle.eds_names.specs.declared.declared.Declared.{Declared}
use Rattle.eds_names.specs.Standings.{below, standings_from, standings_of}
use Rattle.eds_names.specs.Declarations.{Declaration, kind_of, declared_as, declaration_at, declarations_in, declarations_from, numbered, counted, none_counted, declared_in}
use Rattle.eds_names.specs.LookUp.{Names, duplicates, names_of, unless, names_in}
use Rattle.eds_type_rows.specs.Places.{places_in, places_from, elements, is_type, types, type_places}
use Rattle.eds_type_rows.proofs.ListFacts.{append-none}

-- ---- elements with what stands around them, and their links

-- the type of a list's items; what stands around an element has a type that its crate keeps to itself
abbrev Item : {A : Type 0} → List A → Type 0
Item {A} xs = A

-- an element with what stands around it
abbrev pub Standing : Type 0
Standing = Item (standings_of [])

abbrev pub link_of : Standing → Link
link_of s = record { parent = s.parent; node = s.node }

map-parts : {A B C : Type 0} (f : B → C) (g : A → List B) (h : A → List C) → ((x : A) → map f (g x) ≡ h x) → (xs : List A) → map f (flat_map g xs) ≡ flat_map h xs
map-parts f g h e [] = refl
map-parts f g h e (x ∷ xs) = map-append f (g x) (flat_map g xs) ∙ rw (e x, map-parts f g h e xs) refl

links-from : (t : List Node) (depth : ℕ) (s : Standing) → map link_of (standings_from t depth s) ≡ links_from t depth (link_of s)
links-from t zero s = refl
links-from t (suc depth) s =
    ap (λ links. link_of s ∷ links) (map-parts link_of (λ c. standings_from t depth (below t s c)) (λ c. links_from t depth (record { parent = s.node; node = c })) (λ c. links-from t depth (below t s c)) (children_of t s.node))

pub links : (t : List Node) → map link_of (standings_of t) ≡ links_of t
unfolding standings_of links_of
links t = links-from t (length t) (record { parent = 0; node = 0; in_package = 0; in_component = 0 })

-- ---- what holds of each item of a list

split : {A : Type 0} (P : A → Type 0) (xs ys : List A) → AllByRecursion P (xs ++ ys) → AllByRecursion P xs × AllByRecursion P ys
split P [] ys h = (tt, h)
split P (x ∷ xs) ys h = let rest = split P xs ys h.1 in ((h.0, rest.0), rest.1)

join : {A : Type 0} (P : A → Type 0) (xs ys : List A) → AllByRecursion P xs → AllByRecursion P ys → AllByRecursion P (xs ++ ys)
join P [] ys h k = k
join P (x ∷ xs) ys h k = (h.0, join P xs ys h.1 k)

kept : {A : Type 0} (P : A → Type 0) (q : A → Bool) (xs : List A) → AllByRecursion P xs → AllByRecursion P (filter q xs)
kept P q [] h = tt
kept P q (x ∷ xs) h = go (q x) refl (kept P q xs h.1)
  where
    go : (b : Bool) → q x ≡ b → AllByRecursion P (filter q xs) → AllByRecursion P (filter q (x ∷ xs))
    go true e rest = rw e (h.0, rest)
    go false e rest = rw e rest

pub at_one : {A : Type 0} (P : A → Type 0) (xs : List A) → AllByRecursion P xs → (k : ℕ) (x : A) → slice_get xs k ≡ Some x → P x
at_one P [] h k x e = cc
at_one P (y ∷ ys) h zero x e = let is : y ≡ x = cc in subst P is h.0
at_one P (y ∷ ys) h (suc k) x e = at_one P ys h.1 k x e

pub each-none : {A : Type 0} (f : A → List Refusal) (xs : List A) → flat_map f xs ≡ [] → AllByRecursion (λ x. f x ≡ []) xs
each-none f [] h = tt
each-none f (x ∷ xs) h = let p = append-none (f x) (flat_map f xs) h in (p.0, each-none f xs p.1)

-- ---- from elements to types

module _ (P : Place → Type 0) where
  abbrev OfDeclared : Declaration → Type 0
  OfDeclared d = P d.place

  declared_one : (t : List Node) (file : ℕ) (s : Standing) → P (record { file = file; node = s.node }) → AllByRecursion OfDeclared (declaration_at t file s)
  declared_one t file s h = go (kind_of (name_at t s.node) (name_at t s.parent))
    where
      go : (o : Item (kind_of [] [] ∷ [])) → AllByRecursion OfDeclared (declared_as t file s o)
      go None = tt
      go (Some k) = (h, tt)

  declared_file : (t : List Node) (file : ℕ) (ss : List Standing) → AllByRecursion P (map (λ link. record { file = file; node = link.node }) (map link_of ss)) → AllByRecursion OfDeclared (flat_map (declaration_at t file) ss)
  declared_file t file [] h = tt
  declared_file t file (s ∷ ss) h = join OfDeclared (declaration_at t file s) (flat_map (declaration_at t file) ss) (declared_one t file s h.0) (declared_file t file ss h.1)

  declared_files : (file : ℕ) (ts : List (List Node)) → AllByRecursion P (places_from file ts) → AllByRecursion OfDeclared (declarations_from file ts)
  declared_files file [] h = tt
  declared_files file (t ∷ ts) h =
      let parts = split P (places_in file t) (places_from (file + 1) ts) h in
      join OfDeclared (declarations_in file t) (declarations_from (file + 1) ts)
      (declared_file t file (standings_of t) (subst (λ ls. AllByRecursion P (map (λ link. record { file = file; node = link.node }) ls)) (sym (links t)) parts.0))
      (declared_files (file + 1) ts parts.1)

  declared_numbered : (c : Item (none_counted ∷ [])) (ds : List Declaration) → AllByRecursion OfDeclared ds → AllByRecursion (λ (d : Declared). P d.place) (numbered c ds)
  declared_numbered c [] h = tt
  declared_numbered c (d ∷ ds) h = (h.0, declared_numbered (counted c d.kind) ds h.1)

  placed : (ds : List Declared) → AllByRecursion (λ (d : Declared). P d.place) ds → AllByRecursion P (map (λ d. d.place) ds)
  placed [] h = tt
  placed (d ∷ ds) h = (h.0, placed ds h.1)

  -- what holds of all elements of a sheet holds of its types
  pub of_types : (trees : List (List Node)) (names : Names) → names_in trees ≡ Ok names → AllByRecursion P (elements trees) → AllByRecursion P (type_places names)
  unfolding names_in
  of_types trees names known h = placed (types names) (kept (λ (d : Declared). P d.place) is_type names.declared (go (least (duplicates trees)) known))
    where
      all : AllByRecursion (λ (d : Declared). P d.place) (declared_in trees)
      all = declared_numbered none_counted (declarations_from 0 trees) (declared_files 0 trees h)

      go : (o : Option Refusal) → unless o (names_of trees) ≡ Ok names → AllByRecursion (λ (d : Declared). P d.place) names.declared
      go None e = let is : names_of trees ≡ names = cc in subst (λ (n : Names). AllByRecursion (λ (d : Declared). P d.place) n.declared) is all
      go (Some r) e = cc

-- ---- from rules on elements to elements

module _ (judge : Judgement) (trees : List (List Node)) (P : Place → Type 0) (holds : (file : ℕ) (t : List Node) (link : Link) → slice_get trees file ≡ Some t → judge file t link ≡ [] → P (record { file = file; node = link.node })) where
  in_links : (file : ℕ) (t : List Node) → slice_get trees file ≡ Some t → (ls : List Link) → flat_map (judge file t) ls ≡ [] → AllByRecursion P (map (λ link. record { file = file; node = link.node }) ls)
  in_links file t there [] h = tt
  in_links file t there (l ∷ ls) h = let p = append-none (judge file t l) (flat_map (judge file t) ls) h in (holds file t l there p.0, in_links file t there ls p.1)

  in_files : (file : ℕ) (ts : List (List Node)) → ((k : ℕ) (t : List Node) → slice_get ts k ≡ Some t → (n : ℕ) → file + k ≡ n → slice_get trees n ≡ Some t) → breaks_from judge file ts ≡ [] → AllByRecursion P (places_from file ts)
  in_files file [] there h = tt
  in_files file (t ∷ ts) there h =
      let p = append-none (breaks_in judge file t) (breaks_from judge (file + 1) ts) h in
      join P (places_in file t) (places_from (file + 1) ts)
      (in_links file t (there 0 t refl file (omega arith)) (links_of t) p.0)
      (in_files (file + 1) ts (λ k u e n q. there (suc k) u e n (omega (arith, q))) p.1)

  -- what a rule that is broken nowhere says of each element
  pub at_elements : breaks_of judge trees ≡ [] → AllByRecursion P (elements trees)
  at_elements h = in_files 0 trees (λ k t e n q. let is : k ≡ n = omega (arith, q) in subst (λ i. slice_get trees i ≡ Some t) is e) h
