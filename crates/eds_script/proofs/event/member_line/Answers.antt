use Rattle.eds_script.proofs.event.member_line.Goals as goal

pub parameter_line-requires : goal.parameter_line-requires
parameter_line-requires c =
    let fits = rw c.in-Parameter.is at c.requires in
    rw c.as_slice-values.ensures fits

pub sent_command-requires : goal.sent_command-requires
sent_command-requires c =
    let fits = rw c.in-Command.is at c.requires in
    rw c.as_slice.ensures fits.1
