-- The entries of a map of members.
use Rattle.std.proofs.Common.{◌≡◌, ℕ, List, [], ◌∷◌, Bor, Ordering, Less, Equal, Greater, nat_cmp, refl, ◌∙◌}
use Rattle.std.specs.BTreeMap.{insert_entry}
use Rattle.std.specs.Cmp.Lexicographic.{slice_cmp}
use Rattle.std.specs.Ordering.{match_ordering}
use Rattle.serde_json.specs.Data.{put}
use Rattle.eds_types.specs.Rows.{Table}
use Rattle.eds_value.specs.declared.member.Content.{Content}
use Rattle.eds_value.specs.declared.member.Member.{Member}
use Rattle.eds_value.specs.Members.{content_json, entries_in_order, in_order}

abbrev pub Entry : Type 0
Entry = Bor (List ℕ) × Content

-- the members of a map's entries
abbrev pub of_entries : List Entry → List (Member Content)
of_entries [] = []
of_entries (e ∷ es) = record { name = e.0; content = e.1 } ∷ of_entries es

pub entries_same : (t : Table) (es : List Entry) → in_order t (of_entries es) ≡ entries_in_order t es
entries_same t [] = refl
entries_same t (e ∷ es) = rw (entries_same t es) refl

chosen : (t : Table) (o : Ordering) (a b c : List Entry) → entries_in_order t (match_ordering o a b c) ≡ match_ordering o (entries_in_order t a) (entries_in_order t b) (entries_in_order t c)
chosen t Less a b c = refl
chosen t Equal a b c = refl
chosen t Greater a b c = refl

-- one more entry
pub entry_put : (t : Table) (es : List Entry) (k : Bor (List ℕ)) (c : Content)
    → entries_in_order t (insert_entry (λ a b. slice_cmp nat_cmp a.now b.now) es k c) ≡ put k.now (content_json t c) (entries_in_order t es)
entry_put t [] k c = refl
entry_put t (e ∷ es) k c = chosen t (slice_cmp nat_cmp k.now (e.0).now) _ _ _ ∙ rw (entry_put t es k c) refl
