-- What the first pass finds of a whole value.
use Rattle.std.proofs.Common.{◌≡◌, ◌↔◌, ℕ, ◌+◌, ◌≤◌, ◌^◌, min, cond, List, Result, Ok, Err, refl, sym, ap, subst, ◌∙◌, arith}
use Rattle.std.specs.Prelude.{IfOk, IfErr, nat_le}
use Rattle.std.proofs.lemmas.Bool.{le-leb, leb-true, false_from_ne_true}
use Rattle.eds_base.specs.declared.fault.Step.{Step}
use Rattle.eds_types.specs.declared.reason.PackReason.{PackReason}
use Rattle.eds_types.specs.declared.reason.PackReason.TheVariants as reason
use Rattle.eds_types.specs.Packing.{PackFault, pack_fault_at, pack_fault_here, most_bits}
use Rattle.eds_types.specs.PackedSizes.{Size, not_long}
use Rattle.eds_pack.specs.declared.fail.PackFail.{PackFail}
use Rattle.eds_pack.specs.Packs.{where_of, fail_at}
use Rattle.eds_pack.specs.Counting.{added, given}
use Rattle.eds_pack.proofs.Counts.{Counted, added_ok, added_err}

below : (n total top : ℕ) → total ≡ min (0 + n) top → total ≤ 524288 → 524288 + 1 ≤ top → n ≡ total
below n total top e few high = omega arith

above : (n total top : ℕ) → total ≡ min (0 + n) top → 524288 + 1 ≤ total → 524288 + 1 ≤ n
above n total top e many = omega arith

pub packed_ok : (total size : ℕ) (r : Size) → ◌≡◌ {A = Counted} (Ok total) (added 0 r) → size ≡ total → size ≤ most_bits → Ok size ≡ given (not_long r)
packed_ok total size r e same few =
    let h = added_ok 0 total r e in
    let n : h.0 ≡ size = below h.0 total (2 ^ 100) h.2 (omega arith) (omega arith) ∙ sym same in
    sym (ap (λ s. given (not_long s)) (h.1 ∙ ap (λ m. Ok m) n) ∙ ap (λ b. given (cond b (Ok size) (Err (pack_fault_here reason.TooLong)))) (le-leb size most_bits few))

pub packed_long : (total : ℕ) (r : Size) → ◌≡◌ {A = Counted} (Ok total) (added 0 r) → most_bits + 1 ≤ total → Err (fail_at (pack_fault_here reason.TooLong)) ≡ given (not_long r)
packed_long total r e many =
    let h = added_ok 0 total r e in
    let long = above h.0 total (2 ^ 100) h.2 many in
    sym (ap (λ s. given (not_long s)) h.1 ∙ ap (λ b. given (cond b (Ok h.0) (Err (pack_fault_here reason.TooLong)))) (false_from_ne_true (nat_le h.0 most_bits) (λ t. let few = leb-true h.0 most_bits t in omega arith)))

pub packed_err : (why : PackReason) (path : List Step) (r : Size) → ◌≡◌ {A = Counted} (Err (pack_fault_at why path)) (added 0 r) → Err (fail_at (pack_fault_at why path)) ≡ given (not_long r)
packed_err why path r e = sym (ap (λ s. given (not_long s)) (added_err 0 (pack_fault_at why path) r e))

-- ---- the clauses

ok_is : (m n : ℕ) → ◌≡◌ {A = Result ℕ PackFail} (Ok m) (Ok n) → m ≡ n
ok_is m n e = cc

err_is : (f g : PackFail) → ◌≡◌ {A = Result ℕ PackFail} (Err f) (Err g) → f ≡ g
err_is f g e = cc

not_both : {P : Type 0} (n : ℕ) (f : PackFail) → ◌≡◌ {A = Result ℕ PackFail} (Ok n) (Err f) → P
not_both n f e = absurd cc

pub as_size : (P : ℕ → Type 0) (q : Result ℕ PackFail) (s : Size) → q ≡ given s → ((n : ℕ) → (s ≡ Ok n) ↔ P n) → IfOk q P
as_size P (Ok m) (Ok n) e h = subst P (sym (ok_is m n e)) ((h n).0 refl)
as_size P (Ok m) (Err g) e h = not_both m (fail_at g) e
as_size P (Err f) s e h = tt

pub as_packs : (P : ℕ → Type 0) (q : Result ℕ PackFail) (s : Size) → q ≡ given s → ((n : ℕ) → (s ≡ Ok n) ↔ P n) → (n : ℕ) → P n → q ≡ Ok n
as_packs P q s e h n p = e ∙ ap given ((h n).1 p)

pub as_fault : (Q : PackFault → Type 0) (q : Result ℕ PackFail) (s : Size) → q ≡ given s → ((g : PackFault) → (s ≡ Err g) ↔ Q g) → IfErr q (λ f. Q (where_of f))
as_fault Q (Ok m) s e h = tt
as_fault Q (Err f) (Ok n) e h = not_both n f (sym e)
as_fault Q (Err f) (Err g) e h = subst (λ x. Q (where_of x)) (sym (err_is f (fail_at g) e)) ((h g).0 refl)

pub as_fails : (Q : PackFault → Type 0) (q : Result ℕ PackFail) (s : Size) → q ≡ given s → ((g : PackFault) → (s ≡ Err g) ↔ Q g) → (g : PackFault) → Q g → q ≡ Err (fail_at g)
as_fails Q q s e h g p = e ∙ ap given ((h g).1 p)
