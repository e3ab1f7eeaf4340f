-- The most that a command takes.
use Rattle.std.specs.Prelude.{ℕ}

-- the sheet files
abbrev pub sheet_count : ℕ
sheet_count = 64

-- the octets of one sheet file
abbrev pub sheet_octets : ℕ
sheet_octets = 4194304

-- the octets of all sheet files
abbrev pub sheets_octets : ℕ
sheets_octets = 16777216

-- the octets of the text of a frame
abbrev pub hex_octets : ℕ
hex_octets = 1048576

-- the octets of the text of a value
abbrev pub json_octets : ℕ
json_octets = 4194304

-- the octets of a script
abbrev pub script_octets : ℕ
script_octets = 4194304

-- the octets of a file of packets
abbrev pub packets_octets : ℕ
packets_octets = 16777216

-- the octets of one packet of such a file
abbrev pub packet_octets : ℕ
packet_octets = 65536

-- the octets of a frame
abbrev pub frame_octets : ℕ
frame_octets = 65536

-- the octets of a report
abbrev pub report_octets : ℕ
report_octets = 67108864
