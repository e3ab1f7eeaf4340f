-- How deep the JSON of values nests.
use Rattle.std.proofs.Common.{ℕ, ◌≤◌, nat_cmp, List, [], ◌∷◌, Ordering, Less, Equal, Greater, arith}
use Rattle.std.specs.List.{AllByRecursion}
use Rattle.std.specs.Ordering.{match_ordering}
use Rattle.std.specs.Cmp.Lexicographic.{slice_cmp}
use Rattle.serde_json.specs.Data.{Data, Members, no_members, member, put, depth, items_depth, members_depth}
use Rattle.serde_json.specs.View.{items_of}
use Rattle.eds_value.specs.Entries.{Entry}
use Rattle.eds_value.specs.JsonOfValue.{with_values}

-- each nests at most so deep
abbrev pub AreWithin : ℕ → List Data → Type 0
AreWithin n ds = AllByRecursion (λ (d : Data). depth d ≤ n) ds

chosen_depth : (n : ℕ) (o : Ordering) (a b c : Members) → members_depth a ≤ n → members_depth b ≤ n → members_depth c ≤ n → members_depth (match_ordering o a b c) ≤ n
chosen_depth n Less a b c x y z = x
chosen_depth n Equal a b c x y z = y
chosen_depth n Greater a b c x y z = z

put_depth : (n : ℕ) (k : List ℕ) (d : Data) (ms : Members) → depth d ≤ n → members_depth ms ≤ n → members_depth (put k d ms) ≤ n
put_depth n k d no_members h m = omega arith
put_depth n k d (member l e ms) h m =
    let later = put_depth n k d ms h (omega arith) in
    chosen_depth n (slice_cmp nat_cmp k l) (member k d (member l e ms)) (member l d ms) (member l e (put k d ms)) (omega arith) (omega arith) (omega arith)

pub values_depth : (n : ℕ) (es : List Entry) (ds : List Data) (ms : Members) → AreWithin n ds → members_depth ms ≤ n → members_depth (with_values es ds ms) ≤ n
values_depth n [] ds ms h m = m
values_depth n (e ∷ es) [] ms h m = m
values_depth n (e ∷ es) (d ∷ ds) ms h m = values_depth n es ds _ h.1 (put_depth n e.name d ms h.0 m)

pub items_deep : (n : ℕ) (ds : List Data) → AreWithin n ds → items_depth (items_of ds) ≤ n
items_deep n [] h = omega arith
items_deep n (d ∷ ds) h = let a = h.0 in let b = items_deep n ds h.1 in omega arith
