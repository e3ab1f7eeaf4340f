-- What a command answers over files.
use Rattle.std.specs.Prelude.{◌≡◌, ℕ, ◌+◌, ◌<◌, ◌≤◌, nat_le, List, [], ◌∷◌, ◌++◌, length, Bool, true, false, if◌then◌else◌, Option, Some, None, Result, Ok, Err, IsOk, sum_by, ⊤, ◌⊎◌}
use Rattle.eds_base.specs.Answering.{◌>>=◌}
use Rattle.eds_base.specs.declared.refusal.Refusal.{Refusal}
use Rattle.eds_bits.specs.Bits.{Bits, bits_of}
use Rattle.eds_io.specs.Files.{Files, file_named}
use Rattle.eds_types.specs.Packing.{most_bits}
use Rattle.eds_types.specs.Plain.{Plain}
use Rattle.eds_types.specs.Spelling.{Canon}
use Rattle.eds_unpack.specs.Packets.{AreCut, Packet}
use Rattle.eds_value.specs.Json.{value_in}
use Rattle.eds_sheet.specs.Firsts.{Firsts}
use Rattle.eds_sheet.specs.Compiled.{SeenSheet, compiled}
use Rattle.eds_cmd.specs.declared.command.Verb.{Verb}
use Rattle.eds_cmd.specs.declared.command.Verb.TheVariants.{Unpack, Pack, Split}
use Rattle.eds_cmd.specs.Limits.{frame_octets, report_octets, sheet_count, sheet_octets, sheets_octets}
use Rattle.eds_cmd.specs.declared.status.Status.{Status}
use Rattle.eds_cmd.specs.declared.status.Status.TheVariants as statuses
use Rattle.eds_cmd.specs.declared.status.What.{What}
use Rattle.eds_cmd.specs.declared.status.What.TheVariants as what
use Rattle.eds_cmd.specs.declared.stop.Stop.{Stop}
use Rattle.eds_cmd.specs.Command.{CommandWords, JobWords, TaskWords, WorkWords, by_type, check, command_of, demo_of, input_most, layout, on_input, replay, run, type_name_of}
use Rattle.eds_cmd.specs.Demonstrated.{IsDemonstrated}
use Rattle.eds_cmd.specs.Hex.{hex_octets}
use Rattle.eds_cmd.specs.Layout.{LaysOut}
use Rattle.eds_cmd.specs.Pack.{Packs}
use Rattle.eds_cmd.specs.Replay.{IsValidReplay, ReplaysSheet}
use Rattle.eds_cmd.specs.Reports.{counts_line, usage_line}
use Rattle.eds_cmd.specs.Run.{IsValidRun, RunsSheet}
use Rattle.eds_cmd.specs.Split.{Splits, framing_of}
use Rattle.eds_cmd.specs.Stops.{IsStop, limited, missing, refused}
use Rattle.eds_cmd.specs.Target.{TypeIn, type_of}
use Rattle.eds_cmd.specs.Unpack.{Begins, Unpacks}

-- ---- what stands before the work

-- the octets of a file that may be there, which are at most so many
abbrev pub whole_from : Option (List ℕ) → List ℕ → What → ℕ → Result (List ℕ) Stop
whole_from None name what most = Err (missing name)
whole_from (Some file) name what most = if nat_le (length file) most then Ok file else Err (limited what most)

-- the octets of the file of a name, which are at most so many
abbrev pub whole_file : Files → List ℕ → What → ℕ → Result (List ℕ) Stop
whole_file files name what most = whole_from (file_named name files) name what most

-- octets behind files of so many octets: together they are no more than all sheet files may have
abbrev pub within_sheets : ℕ → List ℕ → Result (List ℕ) Stop
within_sheets before octets = if nat_le (before + length octets) sheets_octets then Ok octets else Err (limited what.Sheets sheets_octets)

-- the octets of a sheet file, behind files of so many octets
abbrev pub sheet_file : Files → ℕ → List ℕ → Result (List ℕ) Stop
sheet_file files before name = whole_file files name what.File sheet_octets >>= within_sheets before

-- the octets of sheet files in order, behind files of so many octets
abbrev pub sheet_files : Files → ℕ → List (List ℕ) → Result (List (List ℕ)) Stop
sheet_files files before [] = Ok []
sheet_files files before (name ∷ names) = do
  octets ← sheet_file files before name
  others ← sheet_files files (before + length octets) names
  Ok (octets ∷ others)

-- a compiled sheet, or the stop for its refusal
abbrev pub or_refused : Result SeenSheet Refusal → Result SeenSheet Stop
or_refused (Ok sheet) = Ok sheet
or_refused (Err refusal) = Err (refused refusal)

-- the sheet of a command, with the type that the command names, where a function tells what variables start with
abbrev pub accepted : Firsts → Files → CommandWords → Result SeenSheet Stop
accepted firsts files c = sheet_files files 0 c.sheets >>= λ octets. or_refused (compiled firsts octets (type_name_of c))

-- the octets of the input file
abbrev pub input_for : Files → JobWords → Result (List ℕ) Stop
input_for files job = whole_file files job.input what.Input (input_most job.task)

-- a report that is no longer than a report may be
abbrev pub within_report : List ℕ → Result (List ℕ) Stop
within_report report = if nat_le (length report) report_octets then Ok report else Err (limited what.Report report_octets)

-- ---- the answer

-- what is done with an input by a type comes to this status and report
abbrev pub Works : Verb → TypeIn → List ℕ → Status → List ℕ → Type 0
Works Unpack type input status report = Unpacks type input status report
Works Pack type input status report = Packs type input status report
Works Split type input status report = Splits type input status report

-- what is done with an input by a sheet comes to this status and report
abbrev pub Does : TaskWords → SeenSheet → List ℕ → Status → List ℕ → Type 0
Does (by_type verb type_name) sheet input status report = Works verb (type_of sheet) input status report
Does run sheet input status report = RunsSheet sheet input status report
Does replay sheet input status report = ReplaysSheet sheet input status report

-- the same, where the input file may have ended the command
abbrev pub DoesOn : TaskWords → SeenSheet → Result (List ℕ) Stop → Status → List ℕ → Type 0
DoesOn task sheet (Ok input) status report = Does task sheet input status report
DoesOn task sheet (Err stop) status report = IsStop stop status report

-- the counts of an accepted sheet are reported
pub record IsCounted (sheet : SeenSheet) (status : Status) (report : List ℕ) : Type 0 where
  pub status_is : status ≡ statuses.Done
  pub report_is : report ≡ counts_line sheet.counts

-- what is done by an accepted sheet comes to this status and report
abbrev pub DoesBy : WorkWords → Files → SeenSheet → Status → List ℕ → Type 0
DoesBy check files sheet status report = IsCounted sheet status report
DoesBy (layout type_name) files sheet status report = LaysOut (type_of sheet) status report
DoesBy (on_input job) files sheet status report = DoesOn job.task sheet (input_for files job) status report

-- what is done by an accepted sheet comes to this status and report, and the report is no longer than a report may be
pub record IsWithin (work : WorkWords) (files : Files) (sheet : SeenSheet) (status : Status) (report : List ℕ) : Type 0 where
  pub does : DoesBy work files sheet status report
  pub within : status ≡ statuses.Done → length report ≤ report_octets

-- what is done by an accepted sheet comes to a report that is longer than a report may be, so that limit is passed
pub record IsPast (work : WorkWords) (files : Files) (sheet : SeenSheet) (status : Status) (report : List ℕ) : Type 0 where
  pub whole : List ℕ
  pub does : DoesBy work files sheet statuses.Done whole
  pub past : report_octets < length whole
  pub stop : IsStop (limited what.Report report_octets) status report

-- what a command comes to by its sheet, which may have ended it
abbrev pub AnswersBy : WorkWords → Files → Result SeenSheet Stop → Status → List ℕ → Type 0
AnswersBy work files (Ok sheet) status report = IsWithin work files sheet status report ⊎ IsPast work files sheet status report
AnswersBy work files (Err stop) status report = IsStop stop status report

-- what a command comes to, given whether its sheet files are no more than there may be
abbrev pub AnswersFew : Firsts → Bool → CommandWords → Files → Status → List ℕ → Type 0
AnswersFew firsts true c files status report = AnswersBy c.work files (accepted firsts files c) status report
AnswersFew firsts false c files status report = IsStop (limited what.Files sheet_count) status report

-- what a command over files comes to
abbrev pub AnswersCommand : Firsts → CommandWords → Files → Status → List ℕ → Type 0
AnswersCommand firsts c files status report = AnswersFew firsts (nat_le (length c.sheets) sheet_count) c files status report

-- what the command over files comes to that words are, or the demonstration that they ask for, where they are one of these
abbrev pub AnswersWords : Firsts → Option CommandWords → (packets : Option ℕ) → Files → Status → List ℕ → Type 0
AnswersWords firsts (Some c) packets files status report = AnswersCommand firsts c files status report
AnswersWords firsts None (Some n) files status report = IsDemonstrated firsts n status report
AnswersWords firsts None None files status report = (status ≡ statuses.Usage) × (report ≡ usage_line)

-- The answer to words over files is this status and report, where a function tells what the variables of sheets start with.
abbrev pub Answer : Firsts → List (List ℕ) → Files → Status → List ℕ → Type 0
Answer firsts words files status report = AnswersWords firsts (command_of words) (demo_of words) files status report

-- ---- a read fault, and a command that is done

-- a sheet file has the name, and the sheet files before it are there and within their limits
pub record IsReachedSheet (files : Files) (names : List (List ℕ)) (name : List ℕ) : Type 0 where
  pub before : List (List ℕ)
  pub behind : List (List ℕ)
  pub split : names ≡ before ++ name ∷ behind
  pub are_read : IsOk (sheet_files files 0 before)

-- the input file has the name, and the sheet is accepted
pub record IsReachedInput (firsts : Firsts) (files : Files) (c : CommandWords) (name : List ℕ) : Type 0 where
  pub job : JobWords
  pub job_is : c.work ≡ on_input job
  pub name_is : name ≡ job.input
  pub is_accepted : IsOk (accepted firsts files c)

-- no case of the answer stands before the reading of a file of that name
pub record IsReached (firsts : Firsts) (files : Files) (c : CommandWords) (name : List ℕ) : Type 0 where
  pub few : length c.sheets ≤ sheet_count
  pub reached : IsReachedSheet files c.sheets name ⊎ IsReachedInput firsts files c name

-- the text is hex of a frame that isn't too long, whose bits begin with a spelling and have at most 7 bits after it
pub record IsValidFrame (type : TypeIn) (text : List ℕ) : Type 0 where
  pub frame : List ℕ
  pub hex : hex_octets text ≡ Some frame
  pub within : length frame ≤ frame_octets
  pub value : Plain
  pub front : Bits
  pub rest : Bits
  pub begins : Begins type value front rest (bits_of frame)
  pub few : length rest ≤ 7

-- the text gives a value of the type, which has a canonical spelling that isn't too long
pub record IsValidValue (type : TypeIn) (text : List ℕ) : Type 0 where
  pub value : Plain
  pub given : value_in type.table type.id text ≡ Ok value
  pub bits : Bits
  pub canonical : Canon type.table type.id value bits
  pub within : length bits ≤ most_bits

-- the input is valid for what is done with it by a type
abbrev pub IsValidInput : Verb → TypeIn → List ℕ → Type 0
IsValidInput Unpack type text = IsValidFrame type text
IsValidInput Pack type text = IsValidValue type text
IsValidInput Split type octets = (packets : List Packet) × AreCut (framing_of type) packets octets

-- the input is valid for what is done with it by a sheet
abbrev pub IsValidTask : TaskWords → SeenSheet → List ℕ → Type 0
IsValidTask (by_type verb type_name) sheet input = IsValidInput verb (type_of sheet) input
IsValidTask run sheet text = IsValidRun sheet text
IsValidTask replay sheet text = IsValidReplay sheet text

-- the input file is there and within its limit, and valid for the sheet
pub record IsValidJob (files : Files) (job : JobWords) (sheet : SeenSheet) : Type 0 where
  pub input : List ℕ
  pub there : file_named job.input files ≡ Some input
  pub within : length input ≤ input_most job.task
  pub valid : IsValidTask job.task sheet input

-- the input is valid for what is done by the sheet, where there is one
abbrev pub IsValidFor : Files → WorkWords → SeenSheet → Type 0
IsValidFor files check sheet = ⊤
IsValidFor files (layout type_name) sheet = ⊤
IsValidFor files (on_input job) sheet = IsValidJob files job sheet

-- each sheet file is there and within its limit
abbrev pub AreThere : Files → List (List ℕ) → List (List ℕ) → Type 0
AreThere files [] [] = ⊤
AreThere files [] (octets ∷ others) = ⊥
AreThere files (name ∷ names) [] = ⊥
AreThere files (name ∷ names) (octets ∷ others) = (file_named name files ≡ Some octets) × (length octets ≤ sheet_octets) × AreThere files names others

-- The files of the command are there and within their limits, the sheet is accepted, the input is valid, and the report
-- of what is done is within its limit.
pub record IsValid (firsts : Firsts) (files : Files) (c : CommandWords) : Type 0 where
  pub few : length c.sheets ≤ sheet_count
  pub octets : List (List ℕ)
  pub there : AreThere files c.sheets octets
  pub within : sum_by length octets ≤ sheets_octets
  pub sheet : SeenSheet
  pub sheet_accepted : compiled firsts octets (type_name_of c) ≡ Ok sheet
  pub input_valid : IsValidFor files c.work sheet
  pub short : (report : List ℕ) → DoesBy c.work files sheet statuses.Done report → length report ≤ report_octets
