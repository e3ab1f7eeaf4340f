-- Arguments and what maps of generic names hold name a type, in a sheet whose elements break no rule.
use Rattle.std.proofs.Common.{◌≡◌, ℕ, zero, suc, ◌+◌, Bool, true, false, not, List, [], ◌∷◌, ◌++◌, map, filter, slice_get, Option, Some, None, is_some, Ok, refl, sym, ap, subst, ◌∙◌}
use Rattle.std.specs.Prelude.{codes, if◌then◌else◌}
use Rattle.std.specs.List.{AllByRecursion}
use Rattle.eds_base.specs.declared.refusal.Refusal.{Refusal}
use Rattle.eds_base.specs.declared.rule.Rule.TheVariants.{MissingAttribute}
use Rattle.eds_base.specs.Refusals.{least}
use Rattle.eds_tree.specs.declared.link.Link.{Link}
use Rattle.eds_tree.specs.declared.tree.Node.{Node}
use Rattle.eds_tree.specs.Attributes.{attribute_name, failing, lacks_attribute}
use Rattle.eds_tree.specs.BadAttribute.{breaks_attribute}
use Rattle.eds_tree.specs.BadName.{breaks_name}
use Rattle.eds_tree.specs.Breaks.{Judgement, breaks_in, breaks_from, breaks_of, refusal_if}
use Rattle.eds_tree.specs.ByteOrder.{first_from, first_in_order, precedes}
use Rattle.eds_tree.specs.ElementTable.{argument_mode, name as name_row, type_ as type_row, table_one, table_two, table_three, table_four, table_five}
use Rattle.eds_tree.specs.Limits.{breaks_limit}
use Rattle.eds_tree.specs.Missing.{attribute_or_child, breaks_missing, missing_attributes, missing_children, missing_in}
use Rattle.eds_tree.specs.Rows.{AttributeRow, ElementShape}
use Rattle.eds_tree.specs.ShapeCheck.{shape_breaks, shape_verdict, unless_broken}
use Rattle.eds_tree.specs.Shapes.{shape_at, shape_named}
use Rattle.eds_tree.specs.Trees.{attribute_at, attributes_at, children_of, links_of, name_at}
use Rattle.eds_tree.specs.Unknown.{breaks_unknown}
use Rattle.eds_tree.specs.Unsupported.{breaks_unsupported}
use Rattle.eds_generic.proofs.NameBreaks.{least-none}
use Rattle.eds_read_comp.proofs.Lists.{all-mapped, all-of, append-none, flat-none, map-none}
use Rattle.eds_sheet.proofs.StandingElements.{IsRead, StandsAs, all-among, stands-judged}

-- ---- what an element lacks

first-some : (text : List ℕ) (texts : List (List ℕ)) → first_from (Some text) texts ≡ None → ⊥
first-some text [] e = absurd cc
first-some text (other ∷ texts) e = go (precedes other text) (first-some other texts) (first-some text texts) e
  where
    go : (b : Bool) → (first_from (Some other) texts ≡ None → ⊥) → (first_from (Some text) texts ≡ None → ⊥) → first_from (if b then Some other else Some text) texts ≡ None → ⊥
    go true h k q = h q
    go false h k q = k q

first-none : (texts : List (List ℕ)) → first_in_order texts ≡ None → texts ≡ []
first-none [] e = refl
first-none (text ∷ texts) e = absurd (first-some text texts e)

no-attribute : (o : Option (List ℕ)) (children : List (List ℕ)) → attribute_or_child o children ≡ None → o ≡ None
no-attribute None children e = refl
no-attribute (Some text) children e = absurd cc

second-kept : (test : AttributeRow → Bool) (x y : AttributeRow) → filter test (x ∷ y ∷ []) ≡ [] → test y ≡ false
second-kept test x y e = go (test x) (test y) e
  where
    go : (a b : Bool) → (if a then x ∷ (if b then y ∷ [] else []) else (if b then y ∷ [] else [])) ≡ [] → b ≡ false
    go true b q = absurd cc
    go false true q = absurd cc
    go false false q = refl

has-attribute : (b : Bool) → not b ≡ false → b ≡ true
has-attribute true e = refl
has-attribute false e = absurd cc

-- an element of a shape that asks for a name and a type has a type, where it lacks nothing
has-type : (t : List Node) (link : Link) (s : ElementShape) → s.required ≡ name_row ∷ type_row ∷ [] → missing_in t link (Some s) ≡ None → is_some (attribute_at t link.node (codes "type")) ≡ true
has-type t link s asks e =
    let name = name_at t link.node in
    let held = attributes_at t link.node in
    let none = first-none (missing_attributes name s held) (no-attribute (first_in_order (missing_attributes name s held)) (missing_children t s (children_of t link.node)) e) in
    let given = append-none (failing (lacks_attribute held) s.required) _ none in
    let both : failing (lacks_attribute held) (name_row ∷ type_row ∷ []) ≡ [] = subst (λ rows. failing (lacks_attribute held) rows ≡ []) asks given.0 in
    has-attribute (is_some (attribute_at t link.node (codes "type"))) (second-kept (lacks_attribute held) name_row type_row (map-none attribute_name (filter (lacks_attribute held) (name_row ∷ type_row ∷ [])) both))

-- ---- the elements that name a type

-- what is to be an argument of a command
argument_shape : (parent : List ℕ) → shape_named parent (codes "Argument") ≡ Some (record { parents = []; required = name_row ∷ type_row ∷ []; optional = argument_mode ∷ []; children = [] })
unfolding table_one table_two table_three table_four table_five
argument_shape parent = refl

-- what is to be a name of a map
map_shape : (parent : List ℕ) → shape_named parent (codes "GenericTypeMap") ≡ Some (record { parents = []; required = name_row ∷ type_row ∷ []; optional = []; children = [] })
unfolding table_one table_two table_three table_four table_five
map_shape parent = refl

-- elements of a name that are described so, whatever holds them
abbrev pub AsksForType : List ℕ → Type 0
AsksForType name = (parent : List ℕ) → (s : ElementShape) × (shape_named parent name ≡ Some s) × (s.required ≡ name_row ∷ type_row ∷ [])

pub arguments-ask : AsksForType (codes "Argument")
arguments-ask parent = (record { parents = []; required = name_row ∷ type_row ∷ []; optional = argument_mode ∷ []; children = [] }, argument_shape parent, refl)

pub maps-ask : AsksForType (codes "GenericTypeMap")
maps-ask parent = (record { parents = []; required = name_row ∷ type_row ∷ []; optional = []; children = [] }, map_shape parent, refl)

-- ---- a file whose elements lack nothing

no-word : (file node : ℕ) (word : Option (List ℕ)) → refusal_if MissingAttribute file node word ≡ [] → word ≡ None
no-word file node None h = refl
no-word file node (Some word) h = absurd cc

abbrev TypeIsThere : List Node → List ℕ → ℕ → Type 0
TypeIsThere t name n = name_at t n ≡ name → is_some (attribute_at t n (codes "type")) ≡ true

typed-link : (t : List Node) (file : ℕ) (name : List ℕ) (link : Link) → AsksForType name → breaks_missing file t link ≡ [] → TypeIsThere t name link.node
typed-link t file name link asks none is =
    let s = asks (name_at t link.parent) in
    let shape : shape_at t link ≡ Some s.0 = ap (shape_named (name_at t link.parent)) is ∙ s.1 in
    has-type t link s.0 s.2 (ap (missing_in t link) (sym shape) ∙ no-word file link.node (missing_in t link (shape_at t link)) none)

-- a file in which the rule is not broken
in-file : (judge : Judgement) (first k : ℕ) (ts : List (List Node)) (t : List Node) → breaks_from judge first ts ≡ [] → slice_get ts k ≡ Some t → (file : ℕ) × (breaks_in judge file t ≡ [])
in-file judge first k [] t h e = absurd cc
in-file judge first zero (u ∷ ts) t h e =
    let is : u ≡ t = cc in
    (first, subst (λ v. breaks_in judge first v ≡ []) is (append-none (breaks_in judge first u) (breaks_from judge (first + 1) ts) h).0)
in-file judge first (suc k) (u ∷ ts) t h e = in-file judge (first + 1) k ts t (append-none (breaks_in judge first u) (breaks_from judge (first + 1) ts) h).1 e

unbroken : (o : Option Refusal) → unless_broken o ≡ Ok tt → o ≡ None
unbroken None h = refl
unbroken (Some r) h = absurd cc

none-missing : (trees : List (List Node)) → shape_verdict trees ≡ Ok tt → breaks_of breaks_missing trees ≡ []
none-missing trees h =
    let all = least-none (shape_breaks trees) (unbroken (least (shape_breaks trees)) h) in
    let known = breaks_of breaks_unknown trees ++ breaks_of breaks_unsupported trees in
    let missing = breaks_of breaks_missing trees in
    let attribute = breaks_of breaks_attribute trees in
    let name = breaks_of breaks_name trees in
    let five = append-none (known ++ missing ++ attribute ++ name) (breaks_limit trees) all in
    let four = append-none (known ++ missing ++ attribute) name five.0 in
    let three = append-none (known ++ missing) attribute four.0 in
    (append-none known missing three.0).1

-- an element that stands below the root and is to name a type does so
pub type-there : (trees : List (List Node)) (file : ℕ) (t : List Node) (name : List ℕ) (n : ℕ) → shape_verdict trees ≡ Ok tt → AllByRecursion IsRead trees → slice_get trees file ≡ Some t → AsksForType name → StandsAs t name n
    → is_some (attribute_at t n (codes "type")) ≡ true
type-there trees file t name n shaped read there asks s =
    let judged = in-file breaks_missing 0 file trees t (none-missing trees shaped) there in
    let none = flat-none (breaks_missing judged.0 t) (links_of t) judged.1 in
    let typed = all-mapped (λ (l : Link). breaks_missing judged.0 t l ≡ []) (TypeIsThere t name) (λ (l : Link). l.node) (λ l e. typed-link t judged.0 name l asks e) (links_of t) none in
    all-among (TypeIsThere t name) (map (λ (l : Link). l.node) (links_of t)) n typed (stands-judged t n (all-of IsRead trees file t read there) s.0) s.1
