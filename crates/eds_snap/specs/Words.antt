-- The words of a line.
use Rattle.std.specs.Prelude.{ℕ, List, codes, Bool, true, false, if◌then◌else◌, Option, Some, None, option_map, Result, Err}
use Rattle.std.specs.Str.{is_utf8}
use Rattle.eds_base.specs.Answering.{or_stop}
use Rattle.eds_base.specs.Reading.{◌>>=◌, only, same}
use Rattle.eds_script.specs.Words.{last_word, two_words, word_and_rest}
use Rattle.eds_snap.specs.Lines.{Line}
use Rattle.eds_snap.specs.declared.why.SnapWhy.{SnapWhy}
use Rattle.eds_snap.specs.declared.why.SnapWhy.TheVariants.{Text, Words}

-- what a line says, in words: `snapshot 1`, `end T`, `wire END END`, `machine COMPONENT MACHINE STATE ENTERED PASSED`,
-- `var COMPONENT VARIABLE JSON`, or `wait END MEMBER NAME`
pub data Saying : Type 0 where
  begins : Saying
  ends : (number : List ℕ) → Saying
  ties : (lower upper : List ℕ) → Saying
  stands : (component machine state entered passed : List ℕ) → Saying
  holds : (component variable json : List ℕ) → Saying
  waits : (end member name : List ℕ) → Saying

-- ---- lines

-- `END END`
abbrev pub ties_in : List ℕ → Option Saying
ties_in rest = option_map (λ p. ties p.0 p.1) (two_words rest)

-- `COMPONENT MACHINE STATE ENTERED PASSED`
abbrev pub stands_in : List ℕ → Option Saying
stands_in rest = do
  c ← word_and_rest rest
  m ← word_and_rest c.1
  s ← word_and_rest m.1
  option_map (λ p. stands c.0 m.0 s.0 p.0 p.1) (two_words s.1)

-- `COMPONENT VARIABLE`, and the rest of the line, in which spaces may stand
abbrev pub holds_in : List ℕ → Option Saying
holds_in rest = word_and_rest rest >>= λ p. option_map (λ q. holds p.0 q.0 q.1) (word_and_rest p.1)

-- `END MEMBER NAME`
abbrev pub waits_in : List ℕ → Option Saying
waits_in rest = word_and_rest rest >>= λ p. option_map (λ q. waits p.0 q.0 q.1) (two_words p.1)

-- `1`
abbrev pub begins_in : List ℕ → Option Saying
begins_in rest = only (same rest (codes "1")) begins

-- what a line says by its first word and the rest behind it, if a line may begin with that word
abbrev pub said_by : List ℕ → List ℕ → Option Saying
said_by word rest =
    if same word (codes "snapshot") then begins_in rest else
    if same word (codes "end") then option_map ends (last_word rest) else
    if same word (codes "wire") then ties_in rest else
    if same word (codes "machine") then stands_in rest else
    if same word (codes "var") then holds_in rest else
    if same word (codes "wait") then waits_in rest else None

-- what a line says, where its first word is known and it has the right number of words
unfoldable pub said : List ℕ → Option Saying
said text = word_and_rest text >>= λ p. said_by p.0 p.1

-- what a line says that a line feed ends
abbrev pub said_in : Bool → List ℕ → Option Saying
said_in ended text = if ended then said text else None

-- what a line says, where it is UTF-8
abbrev pub form : Line → Result Saying SnapWhy
form l = if is_utf8 l.text then or_stop Words (said_in l.ended l.text) else Err Text
