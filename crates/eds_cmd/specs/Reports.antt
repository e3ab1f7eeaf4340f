-- The lines that are reported.
use Rattle.std.specs.Prelude.{ℕ, List, [], ◌∷◌, ◌++◌, codes, decimal}
use Rattle.std.specs.Fmt.{signed_decimal}
use Rattle.eds_base.specs.Rules.{rule_number, rule_name}
use Rattle.eds_base.specs.declared.ids.Place.{Place}
use Rattle.eds_base.specs.declared.rule.Rule.{Rule}
use Rattle.eds_base.specs.declared.refusal.CommonNumber.{CommonNumber}
use Rattle.eds_base.specs.declared.refusal.Kept.{Kept}
use Rattle.eds_base.specs.declared.refusal.Kept.TheVariants.{Nothing, Word, Overlap}
use Rattle.eds_base.specs.declared.refusal.Refusal.{Refusal}
use Rattle.eds_host.specs.declared.wiring.WireWhy.{WireWhy}
use Rattle.eds_host.specs.declared.wiring.WireWhy.TheVariants.{WireEnd, WireType, WireTwice}
use Rattle.eds_script.specs.declared.why.LineWhy.{LineWhy}
use Rattle.eds_script.specs.declared.why.LineWhy.TheVariants as line_why
use Rattle.eds_cmd.specs.declared.status.What.{What}
use Rattle.eds_cmd.specs.declared.status.What.TheVariants.{Files, File, Sheets, Input, Frame, Report, Deliveries}
use Rattle.eds_cmd.specs.declared.tally.Tally.{Tally}
use Rattle.eds_sheet.specs.declared.sheet.Counts.{Counts}

-- ---- refusals

-- ` PATH=NUMBER` for each
abbrev pub common_text : List CommonNumber → List ℕ
common_text [] = []
common_text (c ∷ cs) = (codes " " ++ c.path ++ codes "=" ++ signed_decimal c.number) ++ common_text cs

-- a space and the kept text, where there is one
abbrev pub kept_text : Kept → List ℕ
kept_text Nothing = []
kept_text (Word word) = codes " " ++ word
kept_text (Overlap note) = codes " " ++ note.first ++ codes " " ++ note.second ++ common_text note.common

-- `NUMBER RULE`
abbrev pub rule_text : Rule → List ℕ
rule_text rule = decimal (rule_number rule) ++ codes " " ++ rule_name rule

-- `FILE:NODE`
abbrev pub place_text : Place → List ℕ
place_text place = decimal place.file ++ codes ":" ++ decimal place.node

-- `refused NUMBER RULE at FILE:NODE`, and the kept text
abbrev pub refusal_line : Refusal → List ℕ
refusal_line r = codes "refused " ++ rule_text r.rule ++ codes " at " ++ place_text r.place ++ kept_text r.kept ++ codes "\n"

-- ---- files and limits

-- `no file NAME`
abbrev pub no_file_line : List ℕ → List ℕ
no_file_line name = codes "no file " ++ name ++ codes "\n"

-- `read fault NAME`
abbrev pub read_fault_line : List ℕ → List ℕ
read_fault_line name = codes "read fault " ++ name ++ codes "\n"

-- the word of a limit
abbrev pub what_text : What → List ℕ
what_text Files = codes "files"
what_text File = codes "file"
what_text Sheets = codes "sheets"
what_text Input = codes "input"
what_text Frame = codes "frame"
what_text Report = codes "report"
what_text Deliveries = codes "deliveries"

-- `limit WHAT MOST`
abbrev pub limit_line : What → ℕ → List ℕ
limit_line what most = codes "limit " ++ what_text what ++ codes " " ++ decimal most ++ codes "\n"

-- what words that are no command are told
abbrev pub usage_line : List ℕ
usage_line = codes "usage: eds COMMAND ARGUMENTS\n"

-- ---- an accepted sheet

-- ` NAME COUNT`
unfoldable pub count_text : List ℕ → ℕ → List ℕ
count_text name count = codes " " ++ name ++ codes " " ++ decimal count

-- `accepted types T containers C interfaces I components M`
abbrev pub counts_line : Counts → List ℕ
counts_line c =
    codes "accepted" ++ count_text (codes "types") c.types ++ count_text (codes "containers") c.containers
    ++ count_text (codes "interfaces") c.interfaces ++ count_text (codes "components") c.components ++ codes "\n"

-- ---- faults

-- `fault REASON at PATH`
abbrev pub fault_line : List ℕ → List ℕ → List ℕ
fault_line reason path = codes "fault " ++ reason ++ codes " at " ++ path ++ codes "\n"

-- `fault REASON at PATH`, without the end of the line
abbrev pub fault_words : (reason path : List ℕ) → List ℕ
fault_words reason path = codes "fault " ++ reason ++ codes " at " ++ path

-- ` in packet K`
abbrev pub packet_words : (packet : ℕ) → List ℕ
packet_words packet = codes " in packet " ++ decimal packet ++ codes "\n"

-- `fault REASON at PATH in packet K`
abbrev pub packet_fault_line : (reason path : List ℕ) → (packet : ℕ) → List ℕ
packet_fault_line reason path packet = fault_words reason path ++ packet_words packet

-- ---- a value that was read or written

-- the text of a value or its octets, and how many bits there were
abbrev pub bits_report : List ℕ → ℕ → List ℕ
bits_report text count = text ++ codes "\nbits " ++ decimal count ++ codes "\n"

-- ---- scripts

-- why a line means nothing
abbrev pub line_why_text : LineWhy → List ℕ
line_why_text line_why.Text = codes "Text"
line_why_text line_why.Words = codes "Words"
line_why_text line_why.Late = codes "Late"
line_why_text line_why.Number = codes "Number"
line_why_text line_why.Time = codes "Time"
line_why_text line_why.End = codes "End"
line_why_text line_why.Wired = codes "Wired"
line_why_text line_why.Way = codes "Way"
line_why_text line_why.Member = codes "Member"
line_why_text line_why.ReadOnly = codes "ReadOnly"
line_why_text line_why.Args = codes "Args"
line_why_text line_why.Hex = codes "Hex"
line_why_text line_why.Json = codes "Json"
line_why_text line_why.Shape = codes "Shape"
line_why_text line_why.Value = codes "Value"

-- why a wire ties nothing
abbrev pub wire_why_text : WireWhy → List ℕ
wire_why_text WireEnd = codes "WireEnd"
wire_why_text WireType = codes "WireType"
wire_why_text WireTwice = codes "WireTwice"

-- `bad line N WHY`
abbrev pub bad_line_line : (line : ℕ) → (why : List ℕ) → List ℕ
bad_line_line line why = codes "bad line " ++ decimal line ++ codes " " ++ why ++ codes "\n"

-- `limit deliveries 10000 at line N`
abbrev pub deliveries_line : (line : ℕ) → List ℕ
deliveries_line line = codes "limit deliveries 10000 at line " ++ decimal line ++ codes "\n"

-- `end T`, the time in nanoseconds
abbrev pub end_line : (time : ℕ) → List ℕ
end_line time = codes "end " ++ decimal time ++ codes "\n"

-- ---- sessions

-- `agrees E respelled R`
abbrev pub agrees_line : (agreed otherwise : ℕ) → List ℕ
agrees_line agreed otherwise = codes "agrees " ++ decimal agreed ++ codes " respelled " ++ decimal otherwise ++ codes "\n"

-- `differs at line N want WANT got GOT`
abbrev pub differs_line : (line : ℕ) → (want got : List ℕ) → List ℕ
differs_line line want got = codes "differs at line " ++ decimal line ++ codes " want " ++ want ++ codes " got " ++ got ++ codes "\n"

-- ---- demonstrations

-- `demo N types T containers C`
abbrev pub sheet_words : (packets : ℕ) → Counts → List ℕ
sheet_words n c = codes "demo " ++ decimal n ++ count_text (codes "types") c.types ++ count_text (codes "containers") c.containers

-- ` sent S rejects R end E`
abbrev pub run_words : Tally → (end : ℕ) → List ℕ
run_words tally end = count_text (codes "sent") tally.sent ++ count_text (codes "rejects") tally.rejects ++ codes " " ++ end_line end

-- `demo N types T containers C sent S rejects R end E`
abbrev pub demo_line : (packets : ℕ) → Counts → Tally → (end : ℕ) → List ℕ
demo_line n c tally end = sheet_words n c ++ run_words tally end
