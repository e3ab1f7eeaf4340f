-- What is left of a report.
use Rattle.std.proofs.Common.{◌≡◌, ◌≢◌, ℕ, List, Bool, true, false, nat_le, length, refl, sym, ap, inl, inr, ⊎_elim, ◌⊎◌, ◌∙◌, arith}
use Rattle.eds_cmd.specs.Outcome.{IsFault}
use Rattle.eds_cmd.specs.Status.{number_of}
use Rattle.eds_cmd.specs.declared.status.Status.{Status}
use Rattle.eds_cmd.specs.declared.status.Status.TheVariants.{Done, Sheet, Usage, Data, ReadFault, WriteFault, Memory, Limit, NoFile}
use Rattle.eds_c.specs.Calls.{Left, left_by, too_small}

by_test : (b : Bool) (status : ℕ) (l : Left) (report room : List ℕ) → nat_le (length report) (length room) ≡ b → l ≡ left_by status report room → (l.status ≡ status) ⊎ (l.status ≡ too_small)
by_test true status l report room e is = inl (ap (λ (x : Left). x.status) (rw e at is))
by_test false status l report room e is = inr (ap (λ (x : Left). x.status) (rw e at is))

-- a report is there, or the room is too small for it
pub two_ends : (status : ℕ) (l : Left) (report room : List ℕ) → l ≡ left_by status report room → (l.status ≡ status) ⊎ (l.status ≡ too_small)
two_ends status l report room is = by_test (nat_le (length report) (length room)) status l report room refl is

calm_number : (s : Status) → (IsFault s → ⊥) → (number_of s ≢ 4) × (number_of s ≢ 5)
calm_number Done calm = (λ e. omega (arith, e), λ e. omega (arith, e))
calm_number (Sheet refusal) calm = (λ e. omega (arith, e), λ e. omega (arith, e))
calm_number Usage calm = (λ e. omega (arith, e), λ e. omega (arith, e))
calm_number (Data fault) calm = (λ e. omega (arith, e), λ e. omega (arith, e))
calm_number (ReadFault name) calm = absurd (calm tt)
calm_number WriteFault calm = absurd (calm tt)
calm_number Memory calm = absurd (calm tt)
calm_number (Limit what most) calm = (λ e. omega (arith, e), λ e. omega (arith, e))
calm_number (NoFile name) calm = (λ e. omega (arith, e), λ e. omega (arith, e))

-- neither is a read fault, nor a write fault
pub no_fault : (s : Status) (number : ℕ) → (IsFault s → ⊥) → (number ≡ number_of s) ⊎ (number ≡ too_small) → (number ≢ 4) × (number ≢ 5)
no_fault s number calm ends =
    ⊎_elim
    (λ e. (λ four. (calm_number s calm).0 (sym e ∙ four), λ five. (calm_number s calm).1 (sym e ∙ five)))
    (λ e. (λ four. omega (arith, e, four), λ five. omega (arith, e, five)))
    ends
