-- The words of a command.
use Rattle.std.specs.Prelude.{◌≡◌, ℕ, List, [], ◌∷◌, codes, length, nat_eq, nat_le, not, ◌&&◌, Bool, true, false, Option, Some, None, if◌then◌else◌, ◌⊎◌}
use Rattle.std.specs.Char.{is_ascii_digit}
use Rattle.std.specs.List.{Contains, list_all}
use Rattle.eds_base.specs.Numbers.{decimal_value}
use Rattle.eds_base.specs.Reading.{◌>>=◌, only, same}
use Rattle.eds_cmd.specs.declared.command.Verb.{Verb}
use Rattle.eds_cmd.specs.declared.command.Verb.TheVariants.{Unpack, Pack, Split}
use Rattle.eds_cmd.specs.declared.command.Task.{Task}
use Rattle.eds_cmd.specs.declared.command.Task.TheVariants as tasks
use Rattle.eds_cmd.specs.declared.command.Job.{Job}
use Rattle.eds_cmd.specs.declared.command.Work.{Work}
use Rattle.eds_cmd.specs.declared.command.Work.TheVariants as works
use Rattle.eds_cmd.specs.declared.command.Command.{Command}
use Rattle.eds_cmd.specs.Limits.{hex_octets, json_octets, packets_octets, script_octets}

-- what is to be done with an input file: something by the type of a name, or it is a script that is run over the components, or a
-- session that is compared with the run of its script
pub data TaskWords : Type 0 where
  by_type : Verb → (type_name : List ℕ) → TaskWords
  run : TaskWords
  replay : TaskWords

-- what is to be done with an input file, and the name of the file
pub record JobWords : Type 0 where
  pub task : TaskWords
  pub input : List ℕ

-- what is to be done by a sheet: it is only checked, the layout of the type of a name is told, or something with an input file
pub data WorkWords : Type 0 where
  check : WorkWords
  layout : (type_name : List ℕ) → WorkWords
  on_input : (job : JobWords) → WorkWords

-- what is to be done by a sheet, and the names of its files
pub record CommandWords : Type 0 where
  pub work : WorkWords
  pub sheets : List (List ℕ)

-- the words of a task, of a job, of a work and of a command, as they stand in memory
abbrev pub task_words : Task → TaskWords
task_words (tasks.ByType verb type_name) = by_type verb type_name.now
task_words tasks.Run = run
task_words tasks.Replay = replay

abbrev pub job_words : Job → JobWords
job_words j = record { task = task_words j.task; input = j.input.now }

abbrev pub work_words : Work → WorkWords
work_words works.Check = check
work_words (works.Layout type_name) = layout type_name.now
work_words (works.OnInput job) = on_input (job_words job)

-- a command by its words alone
abbrev pub words_of : Command → CommandWords
words_of c = record { work = work_words c.work; sheets = c.sheets.now }

-- the verb that a word is
abbrev pub verb_of : List ℕ → Option Verb
verb_of word =
    if same word (codes "unpack") then Some Unpack else
    if same word (codes "pack") then Some Pack else
    if same word (codes "split") then Some Split else None

-- `FILE...`, one name or more
abbrev pub check_of : List (List ℕ) → Option CommandWords
check_of [] = None
check_of (name ∷ names) = Some (record { work = check; sheets = name ∷ names })

-- `TYPE FILE...`, one FILE or more
abbrev pub layout_of : List (List ℕ) → Option CommandWords
layout_of [] = None
layout_of (type_name ∷ []) = None
layout_of (type_name ∷ name ∷ names) = Some (record { work = layout type_name; sheets = name ∷ names })

-- `TYPE INPUT FILE...`, one FILE or more
abbrev pub job_of : Verb → List (List ℕ) → Option CommandWords
job_of verb [] = None
job_of verb (type_name ∷ []) = None
job_of verb (type_name ∷ input ∷ []) = None
job_of verb (type_name ∷ input ∷ name ∷ names) = Some (record { work = on_input (record { task = by_type verb type_name; input = input }); sheets = name ∷ names })

-- `SCRIPT FILE...` or `SESSION FILE...`, one FILE or more
abbrev pub script_job_of : TaskWords → List (List ℕ) → Option CommandWords
script_job_of task [] = None
script_job_of task (script ∷ []) = None
script_job_of task (script ∷ name ∷ names) = Some (record { work = on_input (record { task = task; input = script }); sheets = name ∷ names })

-- `check FILE...`, `layout TYPE FILE...`, `unpack TYPE HEXFILE FILE...`, `pack TYPE JSONFILE FILE...`, `split TYPE BINFILE FILE...`,
-- `run SCRIPT FILE...` or `replay SESSION FILE...`
abbrev pub command_of : List (List ℕ) → Option CommandWords
command_of [] = None
command_of (first ∷ words) =
    if same first (codes "check") then check_of words else
    if same first (codes "layout") then layout_of words else
    if same first (codes "run") then script_job_of run words else
    if same first (codes "replay") then script_job_of replay words else
    (verb_of first >>= λ verb. job_of verb words)

-- digits, the first of them no 0
abbrev pub is_plain_number : List ℕ → Bool
is_plain_number [] = false
is_plain_number (c ∷ cs) = not (nat_eq c 48) && list_all is_ascii_digit (c ∷ cs)

-- a number of packets of a demonstration: 1 to 500
abbrev pub up_to_packets : ℕ → Option ℕ
up_to_packets n = only (nat_le 1 n && nat_le n 500) n

-- the number of packets that a word is, in digits of which the first is no 0
abbrev pub packets_of : List ℕ → Option ℕ
packets_of word = if is_plain_number word && nat_le (length word) 3 then up_to_packets (decimal_value 0 word) else None

-- `demo N`, a demonstration with N packets, which reads no file
abbrev pub demo_of : List (List ℕ) → Option ℕ
demo_of [] = None
demo_of (first ∷ []) = None
demo_of (first ∷ number ∷ []) = if same first (codes "demo") then packets_of number else None
demo_of (first ∷ number ∷ other ∷ words) = None

-- the most octets of the input file
abbrev pub input_most : TaskWords → ℕ
input_most (by_type Unpack type_name) = hex_octets
input_most (by_type Pack type_name) = json_octets
input_most (by_type Split type_name) = packets_octets
input_most run = script_octets
input_most replay = script_octets

-- whether a task runs a script over the components of the sheet
abbrev pub runs_script : TaskWords → Bool
runs_script (by_type verb type_name) = false
runs_script run = true
runs_script replay = true

-- the name of the type by which a task is done, if it is by one
abbrev pub task_type : TaskWords → Option (List ℕ)
task_type (by_type verb type_name) = Some type_name
task_type run = None
task_type replay = None

-- the name of the type by which a work is done, if it is by one
abbrev pub work_type : WorkWords → Option (List ℕ)
work_type check = None
work_type (layout type_name) = Some type_name
work_type (on_input job) = task_type job.task

-- the name of the type, where the command names one
abbrev pub type_name_of : CommandWords → Option (List ℕ)
type_name_of c = work_type c.work

-- the input file of a work has the name
abbrev pub ReadsInput : WorkWords → List ℕ → Type 0
ReadsInput check name = ⊥
ReadsInput (layout type_name) name = ⊥
ReadsInput (on_input job) name = name ≡ job.input

-- the command reads the file of that name
abbrev pub ReadsFile : CommandWords → List ℕ → Type 0
ReadsFile c name = Contains c.sheets name ⊎ ReadsInput c.work name
