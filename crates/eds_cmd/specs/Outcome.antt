-- The status and the report of a command over a shelf, some of whose reads may fail.
use Rattle.std.specs.Prelude.{◌≡◌, ℕ, List, Bool, true, false, IsSomeAnd, ⊤, ◌⊎◌}
use Rattle.eds_io.specs.Files.{Files}
use Rattle.eds_sheet.specs.Firsts.{Firsts}
use Rattle.eds_cmd.specs.declared.status.Status.{Status}
use Rattle.eds_cmd.specs.declared.status.Status.TheVariants.{Done, Sheet, Usage, Data, ReadFault, WriteFault, Memory, Limit, NoFile}
use Rattle.eds_cmd.specs.Answer.{Answer, AnswersCommand, IsReached}
use Rattle.eds_cmd.specs.Command.{CommandWords, command_of}
use Rattle.eds_cmd.specs.Reports.{read_fault_line}

-- a fault of the outside, or want of memory
abbrev pub IsFault : Status → Type 0
IsFault Done = ⊥
IsFault (Sheet refusal) = ⊥
IsFault Usage = ⊥
IsFault (Data fault) = ⊥
IsFault (ReadFault name) = ⊤
IsFault WriteFault = ⊤
IsFault Memory = ⊤
IsFault (Limit what most) = ⊥
IsFault (NoFile name) = ⊥

-- a status whose report is to be written whole
abbrev pub has_report : Status → Bool
has_report Done = true
has_report (Sheet refusal) = true
has_report Usage = true
has_report (Data fault) = true
has_report (ReadFault name) = true
has_report WriteFault = false
has_report Memory = false
has_report (Limit what most) = true
has_report (NoFile name) = true

-- whether the status is that of words that are no command
abbrev pub is_usage : Status → Bool
is_usage Done = false
is_usage (Sheet refusal) = false
is_usage Usage = true
is_usage (Data fault) = false
is_usage (ReadFault name) = false
is_usage WriteFault = false
is_usage Memory = false
is_usage (Limit what most) = false
is_usage (NoFile name) = false

-- a read of a file of the command failed: no case of the answer stands before that file, and the report is its line
pub record IsUnread (firsts : Firsts) (Rises : List ℕ → Type 0) (files : Files) (c : CommandWords) (status : Status) (report : List ℕ) : Type 0 where
  pub name : List ℕ
  pub status_is : status ≡ ReadFault name
  pub report_is : report ≡ read_fault_line name
  pub risen : Rises name
  pub reached : IsReached firsts files c name

-- over told files, a command comes to its answer, or to a read fault
abbrev pub ComesTo : Firsts → (List ℕ → Type 0) → Files → CommandWords → Status → List ℕ → Type 0
ComesTo firsts Rises files c status report = AnswersCommand firsts c files status report ⊎ IsUnread firsts Rises files c status report

-- what is to be written for the words: the report of the answer, or the line of a read fault
abbrev pub IsReport : Firsts → (List ℕ → Type 0) → List (List ℕ) → Files → List ℕ → Type 0
IsReport firsts Rises words files report = (status : Status) × (Answer firsts words files status report ⊎ IsSomeAnd (command_of words) (λ c. IsUnread firsts Rises files c status report))
