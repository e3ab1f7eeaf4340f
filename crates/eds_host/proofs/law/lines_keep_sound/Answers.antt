use Rattle.eds_host.proofs.Sounding.{lines_have_courses, lines_keep_sound}
use Rattle.eds_host.proofs.law.lines_keep_sound.Goals as goal

pub returns : goal.returns
returns c = record { sound = lines_keep_sound c.packed_sizes.ensures; some = lines_have_courses c.packed_sizes.ensures c.one_outcome.ensures }
