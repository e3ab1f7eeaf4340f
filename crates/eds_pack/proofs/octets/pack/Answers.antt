use Rattle.std.proofs.Common.{◌≡◌, ◌++◌, ℕ, List, length, drop, sym, ap, ◌∙◌, arith}
use Rattle.eds_bits.specs.Bits.{oct, octets_of}
use Rattle.eds_types.specs.Plain.{plain}
use Rattle.eds_types.specs.Laws.{IsThere}
use Rattle.eds_pack.proofs.Rooms.{no_size, all_replaced, none_left}
use Rattle.eds_pack.proofs.octets.pack.Goals as goal

pub returns-in-Err-clause-packs : goal.returns-in-Err-clause-packs
returns-in-Err-clause-packs c n p = no_size _ n (c.in-Err.ensures.packs n p)

pub returns-in_err-room-clause-fails : goal.returns-in_err-room-clause-fails
returns-in_err-room-clause-fails c g f = no_size _ _ (sym (c.in-Ok.ensures.fails g f))

pub returns-clause-octets : goal.returns-clause-octets
returns-clause-octets c b canon =
    let t = c.args.table.now in let id = c.args.id.0 in let v = plain c.args.value.now in
    let is : IsThere t id = record { rules = c.keeps_rules.ensures; there = c.requires.known } in
    let packs = c.in-Ok.ensures.size in
    let size : length b ≡ c.in-Ok.size = ap length (c.canonical_spelling.ensures.one t id is v b packs.0 canon packs.1) ∙ packs.2 in
    let room = c.write_whole.new.room in
    c.from_vec.ensures
    ∙ all_replaced room c.in_ok-room.room.items c.in_ok-room.room.len (c.write_whole.auto.room ∙ c.as_mut_slice.ensures.len) (ap length (sym c.as_mut_slice.ensures.value) ∙ c.as_mut_slice.ensures.len)
    ∙ c.write_whole.ensures b canon ∙ ap (λ (os : List ℕ). octets_of b ++ drop (oct b) os) (c.as_mut_slice.ensures.value ∙ c.in_ok-room.ensures)
    ∙ none_left (octets_of b) (oct b) c.div_ceil.result (omega (arith, c.div_ceil.ensures, size))

pub returns-clause-fails : goal.returns-clause-fails
returns-clause-fails c g f = no_size _ _ (sym (c.in-Ok.ensures.fails g f))
