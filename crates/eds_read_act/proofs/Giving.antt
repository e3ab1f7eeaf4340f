-- What children give for arguments, found by the names of these.
use Rattle.std.proofs.Common.{◌≡◌, ℕ, Bool, true, false, not, is_some, List, [], ◌∷◌, map, filter, codes, Option, Some, refl, sym, ap, ◌∙◌}
use Rattle.std.specs.List.{list_any}
use Rattle.eds_base.specs.declared.ids.TypeId.{TypeId}
use Rattle.eds_tree.specs.declared.link.Link.{Link}
use Rattle.eds_read_act.specs.BadReference.{is_field, is_the, is_stray}
use Rattle.eds_read_act.specs.Carrying.{field_type}
use Rattle.eds_read_act.specs.Scopes.{Field}
use Rattle.std.specs.Prelude.{slice_get}
use Rattle.eds_base.specs.Reading.{◌>>=◌, same}
use Rattle.eds_names.specs.Positions.{place_among}
use Rattle.eds_tree.specs.declared.tree.Node.{Node}
use Rattle.eds_tree.specs.Trees.{children_at, is_named}
use Rattle.eds_read_act.specs.Given.{given_name}
use Rattle.eds_read_act.specs.Inside.{text_at, first_where, gives, given_for, givers}
use Rattle.eds_read_act.proofs.Numbering.{first_by, first-named, field-there}

-- the first child that gives is the first of those that give
first-giver : (t : List Node) (q : List ℕ) (ns : List ℕ) → first_by (given_name t) (filter (is_named t (codes "ArgumentValue")) ns) q ≡ first_where (gives t q) ns
first-giver t q [] = refl
first-giver t q (n ∷ ns) = go (is_named t (codes "ArgumentValue") n) (same (given_name t n) q) refl refl (first-giver t q ns)
  where
    go : (b d : Bool) → is_named t (codes "ArgumentValue") n ≡ b → same (given_name t n) q ≡ d → first_by (given_name t) (filter (is_named t (codes "ArgumentValue")) ns) q ≡ first_where (gives t q) ns
        → first_by (given_name t) (filter (is_named t (codes "ArgumentValue")) (n ∷ ns)) q ≡ first_where (gives t q) (n ∷ ns)
    go true true e h others = rw (e, h) refl
    go true false e h others = rw (e, h) others
    go false d e h others = rw e others

pub given-first : (t : List Node) (holder : ℕ) (q : List ℕ) (nodes : List ℕ) (names : List (List ℕ)) → nodes ≡ givers t holder → names ≡ map (given_name t) nodes
    → (place_among names q >>= λ k. slice_get nodes k) ≡ given_for t holder q
given-first t holder q nodes names here named =
    ap (λ ns. place_among ns q >>= λ k. slice_get nodes k) named ∙ first-named (given_name t) nodes q _ refl
    ∙ ap (λ ns. first_by (given_name t) ns q) here ∙ first-giver t q (children_at t holder)

-- an element that gives a value to an argument that is there: it is stray where it isn't the first to do so
pub stray-first : (t : List Node) (link : Link) (fields : List Field) (name : List ℕ) (found : Option TypeId) (b first : Bool)
    → name ≡ text_at t link.node (codes "name") → found ≡ field_type fields name → b ≡ is_some found → b ≡ true
    → first ≡ is_the (given_for t link.parent name) link.node → not first ≡ is_stray t link (Some fields)
stray-first t link fields name found b first named typed is holds given =
    let there : list_any (is_field (text_at t link.node (codes "name"))) fields ≡ true =
    ap (λ q. list_any (is_field q) fields) (sym named) ∙ field-there fields name ∙ sym (ap is_some typed) ∙ sym is ∙ holds in
    rw there (ap not (given ∙ ap (λ q. is_the (given_for t link.parent q) link.node) named))

-- an element that gives a value to an argument that isn't there is stray
pub stray-other : (t : List Node) (link : Link) (fields : List Field) (name : List ℕ) (found : Option TypeId) (b : Bool)
    → name ≡ text_at t link.node (codes "name") → found ≡ field_type fields name → b ≡ is_some found → b ≡ false → true ≡ is_stray t link (Some fields)
stray-other t link fields name found b named typed is fails =
    let absent : list_any (is_field (text_at t link.node (codes "name"))) fields ≡ false =
    ap (λ q. list_any (is_field q) fields) (sym named) ∙ field-there fields name ∙ sym (ap is_some typed) ∙ sym is ∙ fails in
    rw absent refl
