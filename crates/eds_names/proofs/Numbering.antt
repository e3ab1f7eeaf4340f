-- Declared items have the numbers of their positions, and are found by them.
use Rattle.std.proofs.Common.{◌≡◌, ℕ, zero, suc, ◌+◌, Bool, true, false, List, [], ◌∷◌, map, Some, Ok, unwrap_or, refl, sym, ap, ◌∙◌, subst, slice_get, arith}
use Rattle.std.specs.Prelude.{filter, IsSomeAnd}
use Rattle.std.proofs.lemmas.Slice.Eq.{bytes_eq-Decides}
use Rattle.eds_base.specs.declared.ids.Place.{Place}
use Rattle.eds_base.specs.Reading.{same}
use Rattle.eds_tree.specs.declared.tree.Node.{Node}
use Rattle.eds_names.specs.declared.declared.Kind.{Kind}
use Rattle.eds_names.specs.declared.declared.Kind.TheVariants as kind
use Rattle.eds_names.specs.declared.declared.Item.{Item}
use Rattle.eds_names.specs.declared.declared.Item.TheVariants as item
use Rattle.eds_names.specs.declared.declared.Counts.{Counts}
use Rattle.eds_names.specs.declared.declared.Declared.{Declared}
use Rattle.eds_names.specs.Repeats.{is_among}
use Rattle.eds_names.specs.Declarations.{Declaration, item_of, counted, numbered, none_counted, declarations_from, is_sort, is_face, is_comp, types_in, faces_in, comps_in, IsByPosition, type_at, face_at, comp_at}
use Rattle.eds_names.specs.LookUp.{Names, NamesDiffer, item_named, names_in, AreFound, LeadsToRow}
use Rattle.eds_names.proofs.Differing.{differ, declared_of}
use Rattle.eds_names.proofs.LookUpLemmas.{bytes_eq-sym}

only_one : {A : Type 0} (x y : A) → Some x ≡ Some y → x ≡ y
only_one x y h = ap (λ o. unwrap_or o y) h

-- ---- numbers are positions

-- where so many types come before, the k-th one has the number that follows k more
types-from : (c : Counts) (ds : List Declaration) (k n : ℕ) (d : Declared) → n ≡ c.types + k → slice_get (types_in (numbered c ds)) k ≡ Some d → d.item ≡ type_at n
types-from c [] k n d e h = cc
types-from c (x ∷ xs) k n d e h = go x.kind x.name x.own x.place k (λ more j l g. types-from more xs j n d l g) e h
  where
    go : (which : Kind) (name own : List ℕ) (place : Place) (k : ℕ)
        → ((more : Counts) (j : ℕ) → n ≡ more.types + j → slice_get (types_in (numbered more xs)) j ≡ Some d → d.item ≡ type_at n) → n ≡ c.types + k
        → slice_get (types_in (record { name = name; own = own; place = place; item = item_of c which } ∷ numbered (counted c which) xs)) k ≡ Some d → d.item ≡ type_at n
    go kind.Sort name own place zero rest e h = let first : n ≡ c.types = omega (arith, e) in ap (λ (o : Declared). o.item) (sym (only_one _ d h)) ∙ ap type_at (sym first)
    go kind.Sort name own place (suc k) rest e h = rest (counted c kind.Sort) k (omega (arith, e)) h
    go kind.Face name own place k rest e h = rest (counted c kind.Face) k e h
    go kind.Comp name own place k rest e h = rest (counted c kind.Comp) k e h

faces-from : (c : Counts) (ds : List Declaration) (k n : ℕ) (d : Declared) → n ≡ c.faces + k → slice_get (faces_in (numbered c ds)) k ≡ Some d → d.item ≡ face_at n
faces-from c [] k n d e h = cc
faces-from c (x ∷ xs) k n d e h = go x.kind x.name x.own x.place k (λ more j l g. faces-from more xs j n d l g) e h
  where
    go : (which : Kind) (name own : List ℕ) (place : Place) (k : ℕ)
        → ((more : Counts) (j : ℕ) → n ≡ more.faces + j → slice_get (faces_in (numbered more xs)) j ≡ Some d → d.item ≡ face_at n) → n ≡ c.faces + k
        → slice_get (faces_in (record { name = name; own = own; place = place; item = item_of c which } ∷ numbered (counted c which) xs)) k ≡ Some d → d.item ≡ face_at n
    go kind.Face name own place zero rest e h = let first : n ≡ c.faces = omega (arith, e) in ap (λ (o : Declared). o.item) (sym (only_one _ d h)) ∙ ap face_at (sym first)
    go kind.Face name own place (suc k) rest e h = rest (counted c kind.Face) k (omega (arith, e)) h
    go kind.Sort name own place k rest e h = rest (counted c kind.Sort) k e h
    go kind.Comp name own place k rest e h = rest (counted c kind.Comp) k e h

comps-from : (c : Counts) (ds : List Declaration) (k n : ℕ) (d : Declared) → n ≡ c.comps + k → slice_get (comps_in (numbered c ds)) k ≡ Some d → d.item ≡ comp_at n
comps-from c [] k n d e h = cc
comps-from c (x ∷ xs) k n d e h = go x.kind x.name x.own x.place k (λ more j l g. comps-from more xs j n d l g) e h
  where
    go : (which : Kind) (name own : List ℕ) (place : Place) (k : ℕ)
        → ((more : Counts) (j : ℕ) → n ≡ more.comps + j → slice_get (comps_in (numbered more xs)) j ≡ Some d → d.item ≡ comp_at n) → n ≡ c.comps + k
        → slice_get (comps_in (record { name = name; own = own; place = place; item = item_of c which } ∷ numbered (counted c which) xs)) k ≡ Some d → d.item ≡ comp_at n
    go kind.Comp name own place zero rest e h = let first : n ≡ c.comps = omega (arith, e) in ap (λ (o : Declared). o.item) (sym (only_one _ d h)) ∙ ap comp_at (sym first)
    go kind.Comp name own place (suc k) rest e h = rest (counted c kind.Comp) k (omega (arith, e)) h
    go kind.Sort name own place k rest e h = rest (counted c kind.Sort) k e h
    go kind.Face name own place k rest e h = rest (counted c kind.Face) k e h

pub types-by_position : (trees : List (List Node)) (names : Names) → names_in trees ≡ Ok names → IsByPosition type_at (types_in names.declared)
types-by_position trees names h k d at = types-from none_counted (declarations_from 0 trees) k k d (omega arith) (ap (λ ds. slice_get (types_in ds) k) (declared_of trees names h) ∙ at)

pub faces-by_position : (trees : List (List Node)) (names : Names) → names_in trees ≡ Ok names → IsByPosition face_at (faces_in names.declared)
faces-by_position trees names h k d at = faces-from none_counted (declarations_from 0 trees) k k d (omega arith) (ap (λ ds. slice_get (faces_in ds) k) (declared_of trees names h) ∙ at)

pub comps-by_position : (trees : List (List Node)) (names : Names) → names_in trees ≡ Ok names → IsByPosition comp_at (comps_in names.declared)
comps-by_position trees names h k d at = comps-from none_counted (declarations_from 0 trees) k k d (omega arith) (ap (λ ds. slice_get (comps_in ds) k) (declared_of trees names h) ∙ at)

-- ---- a declared item is found under its name

same-refl : (x : List ℕ) → same x x ≡ true
same-refl x = (bytes_eq-Decides x x).1 refl

-- a row of some kind has no name that none of all has
other_name : (p : Declared → Bool) (ds : List Declared) (name : List ℕ) (k : ℕ) (d : Declared) → is_among (map (λ d. d.name) ds) name ≡ false → slice_get (filter p ds) k ≡ Some d → same name d.name ≡ false
other_name p [] name k d none h = cc
other_name p (x ∷ xs) name k d none h = split (same name x.name) refl none (λ j n g. other_name p xs name j d n g)
  where
    Rest : Type 0
    Rest = (j : ℕ) → is_among (map (λ d. d.name) xs) name ≡ false → slice_get (filter p xs) j ≡ Some d → same name d.name ≡ false

    later : Rest → is_among (map (λ d. d.name) xs) name ≡ false → same name x.name ≡ false → (b : Bool) (k : ℕ) → p x ≡ b → slice_get (filter p (x ∷ xs)) k ≡ Some d → same name d.name ≡ false
    later rest n first true zero e g = let g = rw e at g in ap (λ (o : Declared). same name o.name) (sym (only_one x d g)) ∙ first
    later rest n first true (suc k) e g = let g = rw e at g in rest k n g
    later rest n first false k e g = let g = rw e at g in rest k n g

    split : (b : Bool) → same name x.name ≡ b → is_among (map (λ d. d.name) (x ∷ xs)) name ≡ false → Rest → same name d.name ≡ false
    split true e n rest = let n = rw e at n in cc
    split false e n rest = let n = rw e at n in later rest n e (p x) k refl h

found_by_name : (p : Declared → Bool) (ds : List Declared) (k : ℕ) (d : Declared) → NamesDiffer ds → slice_get (filter p ds) k ≡ Some d → item_named ds d.name ≡ Some d.item
found_by_name p [] k d apart h = cc
found_by_name p (x ∷ xs) k d apart h = go (p x) k refl h (λ j g. found_by_name p xs j d apart.1 g)
  where
    here : x ≡ d → item_named (x ∷ xs) d.name ≡ Some d.item
    here e = let s : same d.name x.name ≡ true = ap (λ (o : Declared). same d.name o.name) e ∙ same-refl d.name in rw s (ap (λ (o : Declared). Some o.item) e)

    Rest : Type 0
    Rest = (j : ℕ) → slice_get (filter p xs) j ≡ Some d → item_named xs d.name ≡ Some d.item

    later : Rest → (k : ℕ) → slice_get (filter p xs) k ≡ Some d → item_named (x ∷ xs) d.name ≡ Some d.item
    later rest k g = let s : same d.name x.name ≡ false = bytes_eq-sym d.name x.name ∙ other_name p xs x.name k d apart.0 g in rw s (rest k g)

    go : (b : Bool) (k : ℕ) → p x ≡ b → slice_get (filter p (x ∷ xs)) k ≡ Some d → Rest → item_named (x ∷ xs) d.name ≡ Some d.item
    go true zero e g rest = let g = rw e at g in here (only_one x d g)
    go true (suc k) e g rest = let g = rw e at g in later rest k g
    go false k e g rest = let g = rw e at g in later rest k g

pub found : (p : Declared → Bool) (item_at : ℕ → Item) (ds : List Declared) → IsByPosition item_at (filter p ds) → NamesDiffer ds → AreFound item_at (filter p ds) ds
found p item_at ds by apart k d h = found_by_name p ds k d apart h ∙ ap Some (by k d h)

-- ---- a name that leads to an item is that of its row

record Row (p : Declared → Bool) (ds : List Declared) (name : List ℕ) (i : Item) : Type 0 where
  position : ℕ
  declared : Declared
  at : slice_get (filter p ds) position ≡ Some declared
  named : declared.name ≡ name
  is : declared.item ≡ i

row_named : (p : Item → Bool) (ds : List Declared) (name : List ℕ) (i : Item) → p i ≡ true → item_named ds name ≡ Some i → Row (λ d. p d.item) ds name i
row_named p [] name i t h = cc
row_named p (x ∷ xs) name i t h = go (same name x.name) refl h (λ g. row_named p xs name i t g)
  where
    behind : (b : Bool) → p x.item ≡ b → Row (λ d. p d.item) xs name i → Row (λ d. p d.item) (x ∷ xs) name i
    behind true e r = record { position = suc r.position; declared = r.declared; at = rw e r.at; named = r.named; is = r.is }
    behind false e r = record { position = r.position; declared = r.declared; at = rw e r.at; named = r.named; is = r.is }

    go : (b : Bool) → same name x.name ≡ b → item_named (x ∷ xs) name ≡ Some i → (item_named xs name ≡ Some i → Row (λ d. p d.item) xs name i) → Row (λ d. p d.item) (x ∷ xs) name i
    go true e g rest =
        let g = rw e at g in
        let is : x.item ≡ i = only_one x.item i g in
        let here : p x.item ≡ true = ap p is ∙ t in
        record { position = 0; declared = x; at = rw here refl; named = sym ((bytes_eq-Decides name x.name).0 e); is = is }
    go false e g rest = let g = rw e at g in behind (p x.item) refl (rest g)

pub leads : (p : Item → Bool) (item_at : ℕ → Item) (ds : List Declared) → ((k : ℕ) → p (item_at k) ≡ true) → ((j k : ℕ) → item_at j ≡ item_at k → j ≡ k)
    → IsByPosition item_at (filter (λ d. p d.item) ds) → LeadsToRow item_at (filter (λ d. p d.item) ds) ds
leads p item_at ds kind differ by name k h =
    let r = row_named p ds name (item_at k) (kind k) h in
    let e : r.position ≡ k = differ r.position k (sym (by r.position r.declared r.at) ∙ r.is) in
    let at : slice_get (filter (λ d. p d.item) ds) k ≡ Some r.declared = ap (slice_get (filter (λ d. p d.item) ds)) (sym e) ∙ r.at in
    subst (λ o. IsSomeAnd o (λ d. d.name ≡ name)) (sym at) r.named

abbrev number_of : Item → ℕ
number_of (item.Sort id) = id.0
number_of (item.Face id) = id.0
number_of (item.Comp id) = id.0

pub types-found : (trees : List (List Node)) (names : Names) → names_in trees ≡ Ok names → AreFound type_at (types_in names.declared) names.declared
types-found trees names h = found (λ d. is_sort d.item) type_at names.declared (types-by_position trees names h) (differ trees names h)

pub faces-found : (trees : List (List Node)) (names : Names) → names_in trees ≡ Ok names → AreFound face_at (faces_in names.declared) names.declared
faces-found trees names h = found (λ d. is_face d.item) face_at names.declared (faces-by_position trees names h) (differ trees names h)

pub comps-found : (trees : List (List Node)) (names : Names) → names_in trees ≡ Ok names → AreFound comp_at (comps_in names.declared) names.declared
comps-found trees names h = found (λ d. is_comp d.item) comp_at names.declared (comps-by_position trees names h) (differ trees names h)

pub type-rows : (trees : List (List Node)) (names : Names) → names_in trees ≡ Ok names → LeadsToRow type_at (types_in names.declared) names.declared
type-rows trees names h = leads is_sort type_at names.declared (λ k. refl) (λ j k e. ap number_of e) (types-by_position trees names h)

pub face-rows : (trees : List (List Node)) (names : Names) → names_in trees ≡ Ok names → LeadsToRow face_at (faces_in names.declared) names.declared
face-rows trees names h = leads is_face face_at names.declared (λ k. refl) (λ j k e. ap number_of e) (faces-by_position trees names h)

pub comp-rows : (trees : List (List Node)) (names : Names) → names_in trees ≡ Ok names → LeadsToRow comp_at (comps_in names.declared) names.declared
comp-rows trees names h = leads is_comp comp_at names.declared (λ k. refl) (λ j k e. ap number_of e) (comps-by_position trees names h)
