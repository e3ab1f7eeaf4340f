use Rattle.eds_snap.proofs.Finding.{all-named}
use Rattle.eds_snap.proofs.ReadAgain.{texts-read}
use Rattle.eds_snap.proofs.Rowing.{texts-are-lines}
use Rattle.eds_snap.proofs.Values.{is-known}
use Rattle.eds_snap.proofs.Wording.{texts-have-lines}
use Rattle.eds_snap.proofs.law.texts_are_read.Goals as goal

pub returns : goal.returns
returns c t plan s rules bare names whole utf8 =
    texts-read t plan
    (λ id v k. (c.packed_sizes.ensures t id rules (is-known t id v k) v).bool.1 k)
    (λ id v k u. (record { feed = c.texts_are_one_line.ensures t id v rules (k.1.0, k.1.1); utf8 = u }, c.texts_read_back.ensures t id v rules bare (k.1.0, k.1.1) u))
    (all-named plan names) s whole texts-have-lines texts-are-lines utf8
