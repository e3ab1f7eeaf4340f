use Rattle.eds_c.proofs.Written.{files-read, words-read}
use Rattle.eds_c.proofs.law.blocks_are_read.Goals as goal

pub returns-clause-words : goal.returns-clause-words
returns-clause-words c = words-read

pub returns-clause-files : goal.returns-clause-files
returns-clause-files c = files-read

pub returns-clause-requests : goal.returns-clause-requests
returns-clause-requests c = λ ws fs are names own. record { words_are = words-read ws are; files_are = files-read fs names; own_names = own }
