-- What counts as a fault of the real files and of standard output.
use Rattle.std.specs.Prelude.{◌==◌, ℕ, if◌then◌else◌}
use Rattle.eds_io.specs.Counts.{counted}
use Rattle.eds_io.specs.declared.shelf.Got.{Got}
use Rattle.eds_io.specs.declared.shelf.Got.TheVariants as got
use Rattle.eds_io.specs.declared.sink.Wrote.{Wrote}
use Rattle.eds_io.specs.declared.sink.Wrote.TheVariants as wrote

-- how many reads have failed after one more, of which there were so many before
abbrev pub faults_after_read : Got → ℕ → ℕ
faults_after_read (got.Bytes n) before = before
faults_after_read got.NoFile before = before
faults_after_read got.Failed before = counted before

-- how many writes have failed after one more, of a piece of so many octets: one that takes nothing of octets has failed too
abbrev pub faults_after_write : Wrote → ℕ → ℕ → ℕ
faults_after_write (wrote.Took n) size before = if n == 0 then (if size == 0 then before else counted before) else before
faults_after_write wrote.Failed size before = counted before
