-- The checks of error controls by their words (CCSDS 876.0-B, error control entries).
use Rattle.std.specs.Prelude.{ℕ, List, codes, if◌then◌else◌, Option, Some, None}
use Rattle.std.specs.Option.{unwrap_or}
use Rattle.eds_base.specs.Reading.{◌>>=◌, same}
use Rattle.eds_base.specs.declared.ids.Place.{Place}
use Rattle.eds_bits.specs.declared.forms.CheckKind.{CheckKind}
use Rattle.eds_bits.specs.declared.forms.CheckKind.TheVariants.{Checksum, Longitudinal, Crc8, Crc16Ccitt}
use Rattle.eds_tree.specs.declared.tree.Node.{Node}
use Rattle.eds_type_rows.specs.Places.{attribute}

-- the check that a word names
abbrev pub check_named : List ℕ → Option CheckKind
check_named word =
    if same word (codes "CHECKSUM") then Some Checksum else
    if same word (codes "CHECKSUM_LONGITUDINAL") then Some Longitudinal else
    if same word (codes "CRC8") then Some Crc8 else
    if same word (codes "CRC16_CCITT") then Some Crc16Ccitt else None

-- the check of an error control, the sum where it names none; in a sheet that is not refused each names one
abbrev pub check_at : List (List Node) → Place → CheckKind
check_at trees at = unwrap_or (attribute trees (codes "errorControlType") at >>= check_named) Checksum
