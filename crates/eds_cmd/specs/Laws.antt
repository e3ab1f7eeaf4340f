-- Words have one answer over files, whatever function tells what variables start with.
use Rattle.std.specs.Prelude.{◌≡◌, ℕ, List, true, Some, Ok}
use Rattle.eds_io.specs.Files.{Files}
use Rattle.eds_sheet.specs.Compiled.{SeenSheet}
use Rattle.eds_sheet.specs.Firsts.{Firsts}
use Rattle.eds_cmd.specs.declared.status.Status.{Status}
use Rattle.eds_cmd.specs.declared.status.Status.TheVariants.{Done}
use Rattle.eds_cmd.specs.Answer.{Answer, AnswersCommand, IsValid, accepted}
use Rattle.eds_cmd.specs.Command.{CommandWords, JobWords, command_of, demo_of, on_input, runs_script}
use Rattle.eds_cmd.specs.Demonstrated.{IsDemonstrated}
use Rattle.eds_cmd.specs.Run.{HasPlan}

-- where the words are to run a script over the components of an accepted sheet, there is a plan of these that may be run
abbrev pub HasPlanToRun : Firsts → List (List ℕ) → Files → Type 0
HasPlanToRun firsts words files = (c : CommandWords) (job : JobWords) (sheet : SeenSheet) → command_of words ≡ Some c → c.work ≡ on_input job → runs_script job.task ≡ true → accepted firsts files c ≡ Ok sheet → HasPlan sheet

-- where the words ask for a demonstration, the sheet of it may be compiled and its script be run
abbrev pub HasDemonstration : Firsts → List (List ℕ) → Type 0
HasDemonstration firsts words = (n : ℕ) → demo_of words ≡ Some n → (report : List ℕ) × IsDemonstrated firsts n Done report

-- there is an answer to any words over any files; where they run a script, there is one if there is a plan to be run, and where
-- they ask for a demonstration, if there is one
abbrev pub SomeAnswer : Type 0
SomeAnswer = (firsts : Firsts) (words : List (List ℕ)) (files : Files) → HasPlanToRun firsts words files → HasDemonstration firsts words → (status : Status) × (report : List ℕ) × Answer firsts words files status report

-- two answers to the same words over the same files are the same
abbrev pub OneAnswer : Type 0
OneAnswer = (firsts : Firsts) (words : List (List ℕ)) (files : Files) (status other : Status) (report line : List ℕ)
    → Answer firsts words files status report → Answer firsts words files other line → (status ≡ other) × (report ≡ line)

-- a valid command has no other answer than that it is done
abbrev pub ValidIsDone : Type 0
ValidIsDone = (firsts : Firsts) (files : Files) (c : CommandWords) (status : Status) (report : List ℕ) → IsValid firsts files c → AnswersCommand firsts c files status report → status ≡ Done
