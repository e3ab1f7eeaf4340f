use Rattle.eds_script.proofs.event.packed.Goals as goal

pub pack-requires : goal.pack-requires
pack-requires c = record { known = c.requires.known }

-- a value that packs is packed, or memory is refused
pub unreachable-requires : goal.unreachable-requires
unreachable-requires c = let memory = c.in-Err-Named.ensures.packs c.requires.size c.requires.packs in cc

pub returns-in-Ok : goal.returns-in-Ok
returns-in-Ok c =
    let spelled = c.requires.packs in
    (spelled.0, spelled.1, c.in-Ok.ensures.octets spelled.0 spelled.1)
