-- What the octets of a file say.
use Rattle.std.proofs.Common.{◌≡◌, ℕ, List, Bool, true, false, cond, Some, None, refl}
use Rattle.std.specs.Str.{is_utf8, IsUtf8}
use Rattle.std.proofs.lemmas.Str.{is_utf8-from_IsUtf8, IsUtf8-from_is_utf8}
use Rattle.serde_json.specs.Data.{Data}
use Rattle.serde_json.specs.Read.{read}
use Rattle.eds_tree.specs.Reading.{data_in}

pub data-read : (octets : List ℕ) (d : Data) → IsUtf8 octets → read octets ≡ Some d → data_in octets ≡ Some d
data-read octets d u e = rw (is_utf8-from_IsUtf8 octets u) e

pub data-none : (octets : List ℕ) → (IsUtf8 octets → read octets ≡ None) → data_in octets ≡ None
data-none octets h = go (is_utf8 octets) refl
  where
    go : (b : Bool) → is_utf8 octets ≡ b → cond b (read octets) None ≡ None
    go true e = h (IsUtf8-from_is_utf8 octets e)
    go false e = refl
