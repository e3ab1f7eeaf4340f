use Rattle.std.proofs.Common.{List, ℕ, ◌++◌, ◌∷◌, [], ap, ◌∙◌, sym}
use Rattle.hex.specs.Hex.{encode_lower}
use Rattle.eds_bits.specs.Bits.{octets_of}
use Rattle.eds_script.specs.Frames.{Framed, framed}
use Rattle.eds_replay.proofs.HexText.{no-space}
use Rattle.eds_replay.proofs.Respelling.{holds-respelled, never-respelled, only-respelled, other-letters}
use Rattle.eds_replay.proofs.spelling.respells.Goals as goal

pub returns-in_default-clause-only : goal.returns-in_default-clause-only
returns-in_default-clause-only c h =
    let f : Framed = framed c.args.frame.now in
    let is = c.requires.line in
    let both = c.parted.ensures f.head (encode_lower (octets_of is.bits)) (no-space (octets_of is.bits)) is.line in
    absurd (c.in_default.ensures.none h.hex (h.line ∙ ap (λ (head : List ℕ). (head ++ 32 ∷ []) ++ h.hex) (sym both.0)))

pub returns-then-eq_ignore_ascii_case-clause-holds : goal.returns-then-eq_ignore_ascii_case-clause-holds
returns-then-eq_ignore_ascii_case-clause-holds c h =
    let f : Framed = framed c.args.frame.now in
    let is = c.requires.line in
    let both = c.parted.ensures f.head (encode_lower (octets_of is.bits)) (no-space (octets_of is.bits)) is.line in
    let split = c.in-Some.ensures.some ∙ ap (λ (head : List ℕ). (head ++ 32 ∷ []) ++ c.in-Some.hex.now) both.0 in
    other-letters c.args.table.now f c.args.line.now c.args.text.now c.in-Some.hex.now c.parted.result.1.now c.frames_read.ensures is both.1 (c.if-eq_ignore_ascii_case.ensures.test.0 h) split

pub returns-in_default-2-clause-only : goal.returns-in_default-2-clause-only
returns-in_default-2-clause-only c h =
    let f : Framed = framed c.args.frame.now in
    let is = c.requires.line in
    let both = c.parted.ensures f.head (encode_lower (octets_of is.bits)) (no-space (octets_of is.bits)) is.line in
    let split = c.in-Some.ensures.some ∙ ap (λ (head : List ℕ). (head ++ 32 ∷ []) ++ c.in-Some.hex.now) both.0 in
    absurd (never-respelled c.args.table.now f c.args.text.now c.in-Some.hex.now split (sym c.in_ok-octets.ensures.octets ∙ c.in_default-2.is) h)

pub returns-clause-holds : goal.returns-clause-holds
returns-clause-holds c =
    let f : Framed = framed c.args.frame.now in
    let is = c.requires.line in
    let both = c.parted.ensures f.head (encode_lower (octets_of is.bits)) (no-space (octets_of is.bits)) is.line in
    let split = c.in-Some.ensures.some ∙ ap (λ (head : List ℕ). (head ++ 32 ∷ []) ++ c.in-Some.hex.now) both.0 in
    holds-respelled c.args.table.now f c.args.text.now c.in-Some.hex.now split c.holds_value.result c.in-Some-2.octets (sym c.in_ok-octets.ensures.octets ∙ c.in-Some-2.is) (rw c.as_slice.ensures at c.holds_value.ensures.holds)

pub returns-clause-only : goal.returns-clause-only
returns-clause-only c =
    let f : Framed = framed c.args.frame.now in
    let is = c.requires.line in
    let both = c.parted.ensures f.head (encode_lower (octets_of is.bits)) (no-space (octets_of is.bits)) is.line in
    let split = c.in-Some.ensures.some ∙ ap (λ (head : List ℕ). (head ++ 32 ∷ []) ++ c.in-Some.hex.now) both.0 in
    only-respelled c.args.table.now f c.args.text.now c.in-Some.hex.now split c.holds_value.result c.in-Some-2.octets (sym c.in_ok-octets.ensures.octets ∙ c.in-Some-2.is) (rw c.as_slice.ensures at c.holds_value.ensures.only)
