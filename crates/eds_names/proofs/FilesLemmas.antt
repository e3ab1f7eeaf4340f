-- One file after another.
use Rattle.std.proofs.Common.{◌≡◌, ℕ, ◌+◌, ◌<◌, List, [], ◌∷◌, ◌++◌, length, map, drop, get_or, Option, Some, None, Ok, Err, refl, sym, ap, ◌∙◌, append_assoc, drop-cons, add-one}
use Rattle.eds_base.specs.declared.refusal.Refusal.{Refusal}
use Rattle.eds_base.specs.Refusals.{first_of, least}
use Rattle.eds_base.proofs.LeastLaws.{first_assoc, least-append}
use Rattle.eds_tree.specs.declared.tree.Node.{Node}
use Rattle.eds_names.specs.declared.declared.Counts.{Counts}
use Rattle.eds_names.specs.declared.declared.Declared.{Declared}
use Rattle.eds_names.specs.Declarations.{numbered, counted_all, declarations_in, declarations_from, declared_in, named_of}
use Rattle.eds_names.specs.Repeats.{repeats, repeats_in, repeats_from}
use Rattle.eds_names.specs.Standings.{arounds_of}
use Rattle.eds_names.specs.LookUp.{names_in, names_of, unless, duplicates}
use Rattle.eds_names.proofs.DeclarationsLemmas.{numbered-append}

opened : {A : Type 0} (ts : List A) (i : ℕ) (t d : A) → i < length ts → t ≡ get_or ts i d → drop i ts ≡ t ∷ drop (i + 1) ts
opened ts i t d lt is = drop-cons ts i d lt ∙ rw (add-one, ← is) refl

pub declared-next : (ts : List (List Node)) (i : ℕ) (t d : List Node) (c more : Counts) (old new whole : List Declared)
    → i < length ts → t ≡ get_or ts i d → new ≡ old ++ numbered c (declarations_in i t) → more ≡ counted_all c (declarations_in i t)
    → old ++ numbered c (declarations_from i (drop i ts)) ≡ whole → new ++ numbered more (declarations_from (i + 1) (drop (i + 1) ts)) ≡ whole
declared-next ts i t d c more old new whole lt is n m all =
    let rest = declarations_from (i + 1) (drop (i + 1) ts) in
    ap (λ ys. ys ++ numbered more rest) n ∙ append_assoc old (numbered c (declarations_in i t)) (numbered more rest)
    ∙ ap (λ k. old ++ (numbered c (declarations_in i t) ++ numbered k rest)) m ∙ ap (λ ys. old ++ ys) (sym (numbered-append c (declarations_in i t) rest))
    ∙ ap (λ us. old ++ numbered c (declarations_from i us)) (sym (opened ts i t d lt is)) ∙ all

pub arounds-next : (ts : List (List Node)) (i : ℕ) (t d : List Node) (old new whole : List (List (Option (List ℕ))))
    → i < length ts → t ≡ get_or ts i d → new ≡ old ++ arounds_of t ∷ []
    → old ++ map arounds_of (drop i ts) ≡ whole → new ++ map arounds_of (drop (i + 1) ts) ≡ whole
arounds-next ts i t d old new whole lt is n all =
    ap (λ ys. ys ++ map arounds_of (drop (i + 1) ts)) n ∙ append_assoc old (arounds_of t ∷ []) (map arounds_of (drop (i + 1) ts))
    ∙ ap (λ us. old ++ map arounds_of us) (sym (opened ts i t d lt is)) ∙ all

pub found-next : (ts : List (List Node)) (i : ℕ) (t d : List Node) (found next whole : Option Refusal)
    → i < length ts → t ≡ get_or ts i d → next ≡ first_of found (least (repeats_in i t))
    → first_of found (least (repeats_from i (drop i ts))) ≡ whole → first_of next (least (repeats_from (i + 1) (drop (i + 1) ts))) ≡ whole
found-next ts i t d found next whole lt is n all =
    let rest = repeats_from (i + 1) (drop (i + 1) ts) in
    ap (λ o. first_of o (least rest)) n ∙ first_assoc found (least (repeats_in i t)) (least rest)
    ∙ ap (first_of found) (sym (least-append (repeats_in i t) rest)) ∙ ap (λ us. first_of found (least (repeats_from i us))) (sym (opened ts i t d lt is)) ∙ all

-- ---- the names of a sheet

least_duplicate : (trees : List (List Node)) (declared : List Declared) (repeated found o : Option Refusal) → declared ≡ declared_in trees → repeated ≡ least (repeats [] (map named_of declared)) → found ≡ least (repeats_from 0 trees)
    → o ≡ first_of repeated found → least (duplicates trees) ≡ o
least_duplicate trees declared repeated found o d r f e =
    least-append (repeats [] (map named_of (declared_in trees))) (repeats_from 0 trees)
    ∙ ap (λ p. first_of p (least (repeats_from 0 trees))) (sym (r ∙ ap (λ ds. least (repeats [] (map named_of ds))) d))
    ∙ ap (first_of repeated) (sym f) ∙ sym e

pub names-refused : (trees : List (List Node)) (declared : List Declared) (repeated found : Option Refusal) (r : Refusal) → declared ≡ declared_in trees → repeated ≡ least (repeats [] (map named_of declared)) → found ≡ least (repeats_from 0 trees)
    → Some r ≡ first_of repeated found → names_in trees ≡ Err r
unfolding names_in
names-refused trees declared repeated found r d p f e = ap (λ o. unless o (names_of trees)) (least_duplicate trees declared repeated found (Some r) d p f e)

pub names-taken : (trees : List (List Node)) (declared : List Declared) (arounds : List (List (Option (List ℕ)))) (repeated found : Option Refusal) → declared ≡ declared_in trees → repeated ≡ least (repeats [] (map named_of declared)) → found ≡ least (repeats_from 0 trees)
    → arounds ≡ map arounds_of trees → None ≡ first_of repeated found → names_in trees ≡ Ok (record { declared = declared; arounds = arounds })
unfolding names_in
names-taken trees declared arounds repeated found d p f a e =
    ap (λ o. unless o (names_of trees)) (least_duplicate trees declared repeated found None d p f e) ∙ rw (d, a) refl
