-- What is known of the octets of a text that come block by block.
use Rattle.std.specs.Prelude.{List, ℕ, Bool, true, false, ◌↔◌, IsTrue, IsAscii}
use Rattle.simdutf8.specs.Tracks.{HasRead}
use Rattle.eds_codec.specs.declared.coding.Coding.{Coding}
use Rattle.eds_codec.specs.declared.coding.Coding.TheVariants.{Ascii, Utf8}

-- these octets have come: they are ASCII exactly where it says so; or the checker of UTF-8 has read them
abbrev pub HasSeen : Bool → Coding → List ℕ → Type 0
HasSeen true (Ascii plain) seen = IsTrue plain ↔ IsAscii seen
HasSeen false (Utf8 checker) seen = HasRead checker seen
HasSeen true (Utf8 checker) seen = ⊥
HasSeen false (Ascii plain) seen = ⊥
