-- What a call leaves.
use Rattle.std.specs.Prelude.{ℕ, nat_le, List, ◌++◌, length, drop, if◌then◌else◌, ⊤}
use Rattle.eds_base.specs.declared.fail.Fail.{Fail}
use Rattle.eds_base.specs.declared.fail.Fail.TheVariants.{Named, Memory}
use Rattle.eds_c.specs.declared.block.NoRequest.{NoRequest}

-- the claim holds where the blocks spell no request
abbrev pub OnNoRequest : Fail NoRequest → Type 0 → Type 0
OnNoRequest (Named cause) claim = claim
OnNoRequest Memory claim = ⊤

-- how a call ended, how many octets its report has, and the room for the report
pub record Left : Type 0 where
  pub status : ℕ
  pub length : ℕ
  pub room : List ℕ

-- the statuses of a call that no program ends with: the room is too small, and the blocks spell no request
abbrev pub too_small : ℕ
too_small = 9

abbrev pub no_request : ℕ
no_request = 10

-- the status of a call, and of the program, for which there was no memory
abbrev pub no_memory : ℕ
no_memory = 6

-- A report stands at the front of the room, and behind it nothing is changed. Where the room is too small, nothing in it is, and
-- the length says how many octets are wanted.
abbrev pub left_by : ℕ → List ℕ → List ℕ → Left
left_by status report room =
    if nat_le (length report) (length room)
    then record { status = status; length = length report; room = report ++ drop (length report) room }
    else record { status = too_small; length = length report; room = room }

-- nothing is written
abbrev pub unwritten : ℕ → List ℕ → Left
unwritten status room = record { status = status; length = 0; room = room }
