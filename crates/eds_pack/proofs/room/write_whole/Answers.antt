use Rattle.std.proofs.Common.{◌≡◌, length, ap, ◌∙◌, arith}
use Rattle.std.proofs.lemmas.List.{get_or_default}
use Rattle.eds_types.specs.Plain.{plain}
use Rattle.eds_types.specs.Laws.{IsThere}
use Rattle.eds_pack.proofs.Filling.{octets_in_room}
use Rattle.eds_pack.proofs.room.write_whole.Goals as goal

pub write_value-requires-clause-nests : goal.write_value-requires-clause-nests
write_value-requires-clause-nests c = record { known = c.requires.known; rank = λ r. r.nesting c.args.id.0 }

pub write_value-requires-clause-room : goal.write_value-requires-clause-room
write_value-requires-clause-room c =
    let packs = c.requires.packs in
    record { bits = packs.0; has = packs.1; fits = let size = packs.2 in let room = c.requires.fits in omega arith; few = let size = packs.2 in let few = packs.3 in omega arith }

pub returns : goal.returns
returns c b canon =
    let t = c.args.table.now in let id = c.args.id.0 in let v = plain c.args.value.now in
    let is : IsThere t id = record { rules = c.keeps_rules.ensures; there = c.requires.known } in
    let packs = c.requires.packs in
    let size : length b ≡ c.args.size = ap length (c.canonical_spelling.ensures.one t id is v b packs.0 canon packs.1) ∙ packs.2 in
    let room = c.requires.fits in
    octets_in_room b c.args.size c.args.room.now c.write_value.new.room c.fill.new.room size (omega (arith, room)) c.requires.octets
    (λ k d h. rw (get_or_default c.fill.new.room k d 0 h) (omega (arith, c.type_inv.room k)))
    (c.write_value.ensures b canon (omega (arith, size, room))).0 c.fill.ensures
