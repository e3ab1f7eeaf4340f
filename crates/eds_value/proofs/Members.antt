-- Values read one after another.
use Rattle.std.proofs.Common.{◌≡◌, ◌+◌, ℕ, List, [], ◌∷◌, ◌++◌, Ok, Err, refl, sym, ap, ◌∙◌, append_assoc}
use Rattle.serde_json.specs.Data.{Data, Items, item}
use Rattle.eds_base.specs.Answering.{◌>>=◌}
use Rattle.eds_base.specs.declared.fault.Step.{Step}
use Rattle.eds_base.specs.declared.fault.Step.TheVariants as step
use Rattle.eds_types.specs.Plain.{Plain}
use Rattle.eds_types.specs.Rows.{Table}
use Rattle.eds_value.specs.Entries.{Entry}
use Rattle.eds_value.specs.ValueOfJson.{Shaped, behind, items_from, member_value, member_values}

-- with some values before them
abbrev pub put_before : List Plain → Shaped (List Plain) → Shaped (List Plain)
put_before front (Ok vs) = Ok (front ++ vs)
put_before front (Err path) = Err path

before_more : (front : List Plain) (v : Plain) (later : Shaped (List Plain)) → put_before (front ++ v ∷ []) later ≡ put_before front (later >>= λ vs. Ok (v ∷ vs))
before_more front v (Ok vs) = ap (λ (l : List Plain). Ok l) (append_assoc front (v ∷ []) vs)
before_more front v (Err path) = refl

module _ (t : Table) (inner : ℕ → Data → Shaped Plain) where
  -- one more value
  pub members-more : (d : Data) (e : Entry) (es : List Entry) (front : List Plain) (v : Plain) → member_value t inner d e ≡ Ok v
      → put_before (front ++ v ∷ []) (member_values t inner d es) ≡ put_before front (member_values t inner d (e ∷ es))
  members-more d e es front v is = before_more front v (member_values t inner d es) ∙ ap (λ (x : Shaped Plain). put_before front (x >>= λ v. member_values t inner d es >>= λ vs. Ok (v ∷ vs))) (sym is)

  -- the first entry that has none
  pub members-none : (d : Data) (e : Entry) (es : List Entry) (front : List Plain) (path : List Step) → member_value t inner d e ≡ Err path → put_before front (member_values t inner d (e ∷ es)) ≡ Err path
  members-none d e es front path is = ap (λ (x : Shaped Plain). put_before front (x >>= λ v. member_values t inner d es >>= λ vs. Ok (v ∷ vs))) is

  -- one more item
  pub items-more : (id j : ℕ) (d : Data) (ds : Items) (front : List Plain) (v : Plain) → inner id d ≡ Ok v
      → put_before (front ++ v ∷ []) (items_from t inner id (j + 1) ds) ≡ put_before front (items_from t inner id j (item d ds))
  items-more id j d ds front v is = before_more front v (items_from t inner id (j + 1) ds) ∙ ap (λ (x : Shaped Plain). put_before front (behind (step.Item j) x >>= λ v. items_from t inner id (j + 1) ds >>= λ vs. Ok (v ∷ vs))) (sym is)

  -- the first item that is none
  pub items-none : (id j : ℕ) (d : Data) (ds : Items) (front : List Plain) (path : List Step) → inner id d ≡ Err path → put_before front (items_from t inner id j (item d ds)) ≡ Err (step.Item j ∷ path)
  items-none id j d ds front path is = ap (λ (x : Shaped Plain). put_before front (behind (step.Item j) x >>= λ v. items_from t inner id (j + 1) ds >>= λ vs. Ok (v ∷ vs))) is
