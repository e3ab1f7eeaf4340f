-- Members put one after another.
use Rattle.std.proofs.Common.{◌≡◌, ◌+◌, ◌++◌, ℕ, List, [], ◌∷◌, ◌<◌, length, map, drop, get_or, ◌∙◌, min, refl, ap, ap₂, arith}
use Rattle.std.proofs.lemmas.List.{drop_more}
use Rattle.serde_json.specs.Data.{Data, Members, no_members, put}
use Rattle.eds_types.specs.Plain.{Plain, Plains, none, more, list_of, plains_of}
use Rattle.eds_types.specs.Rows.{Table}
use Rattle.eds_value.specs.declared.member.Content.{Content}
use Rattle.eds_value.specs.declared.member.Member.{Member}
use Rattle.eds_value.specs.declared.entry.Entry.{Entry as Held}
use Rattle.eds_value.specs.Entries.{Entry}
use Rattle.eds_value.specs.Seen.{seen}
use Rattle.eds_value.specs.JsonOfValue.{with_values, json_of_value, json_of_all}
use Rattle.eds_value.specs.Members.{content_json, put_all, put_all_by}

pub with_values-done : (es : List Entry) (ds : List Data) (ms : Members) → min (length es) (length ds) ≡ 0 → with_values es ds ms ≡ ms
with_values-done [] ds ms h = refl
with_values-done (e ∷ es) [] ms h = refl
with_values-done (e ∷ es) (d ∷ ds) ms h = absurd (omega arith)

-- one more member
pub with_values-put : (left : List Entry) (e : Entry) (es : List Entry) (others : List Data) (d : Data) (ds : List Data) (old new : Members)
    → left ≡ e ∷ es → others ≡ d ∷ ds → new ≡ put e.name d old → with_values es ds new ≡ with_values left others old
with_values-put left e es others d ds old new is are put_in = rw (put_in, is, are) refl

-- one more member, put last
pub put_all-more : {C : Type 0} (f : C → Data) (ms : List (Member C)) (m : Member C) (found : Members) → put_all_by f (ms ++ m ∷ []) found ≡ put m.name.now (f m.content) (put_all_by f ms found)
put_all-more f [] m found = refl
put_all-more f (x ∷ ms) m found = put_all-more f ms m (put x.name.now (f x.content) found)

-- one more entry's member
pub one_put : (t : Table) (es : List Held) (i : ℕ) (e : Held) (others ds : List Data) (d : Data) (ms new : List (Member Content)) (m : Member Content) (whole : Members) → i < length es → others ≡ d ∷ ds → new ≡ ms ++ m ∷ []
    → m.name.now ≡ (seen (get_or es i e)).name → content_json t m.content ≡ d → with_values (map seen (drop i es)) others (put_all t ms no_members) ≡ whole
    → with_values (map seen (drop (i + 1) es)) ds (put_all t new no_members) ≡ whole
one_put t es i e others ds d ms new m whole lt are pushed name content so_far =
    let found = put_all t ms no_members in
    let put_in : put_all t new no_members ≡ put (seen (get_or es i e)).name d found =
    ap (λ (ns : List (Member Content)). put_all t ns no_members) pushed ∙ put_all-more (content_json t) ms m no_members ∙ ap₂ (λ (n : List ℕ) (x : Data). put n x found) name content in
    with_values-put (map seen (drop i es)) (seen (get_or es i e)) (map seen (drop (i + 1) es)) others d ds found (put_all t new no_members) (ap (map seen) (drop_more es i e lt)) are put_in ∙ so_far

-- the JSON of all values, one by one
pub all_mapped : (t : Table) (vs : Plains) → json_of_all t vs ≡ map (json_of_value t) (list_of vs)
all_mapped t none = refl
all_mapped t (more v vs) = ap (λ ds. json_of_value t v ∷ ds) (all_mapped t vs)

-- the same of a list
pub all_listed : (t : Table) (vs : List Plain) → json_of_all t (plains_of vs) ≡ map (json_of_value t) vs
all_listed t [] = refl
all_listed t (v ∷ vs) = ap (λ ds. json_of_value t v ∷ ds) (all_listed t vs)
