-- Values, seen by their trees.
use Rattle.std.proofs.Common.{◌≡◌, ℕ, ℤ, List, map, sym, ap, ◌∙◌, rules, Vec, Global}
use Rattle.eds_base.specs.declared.ids.TypeId.{TypeId}
use Rattle.eds_types.specs.declared.value.Value.{Value, Num, the_lemmas}
use Rattle.eds_types.specs.declared.value.Value.TheVariants.{rolls-Text, rolls-Items, rolls-Fields}
use Rattle.eds_types.specs.declared.value.Value.TheVariants as value
use Rattle.eds_types.specs.declared.value.Value.TheOpen.{Value-F}
use Rattle.eds_types.specs.declared.value.Value.TheFolds.{fold-roll-Value}
use Rattle.eds_types.specs.Plain.{Plain, plain, plain_step, num, text, items, fields, plains_of}

pub plain_num : (n : ℤ) → plain (Num n) ≡ num n
plain_num n = search (rules, the_lemmas)

pub plain_text : (s : List ℕ) → plain (value.Text s) ≡ text s
plain_text s = ap plain (sym (rolls-Text s)) ∙ fold-roll-Value Plain plain_step (Value-F.Text s)

pub plain_items : (vs : Vec Value Global) → plain (value.Items vs) ≡ items (plains_of (map plain vs.items))
plain_items vs = ap plain (sym (rolls-Items vs)) ∙ fold-roll-Value Plain plain_step (Value-F.Items vs)

pub plain_fields : (k : TypeId) (vs : Vec Value Global) → plain (value.Fields k vs) ≡ fields k.0 (plains_of (map plain vs.items))
plain_fields k vs = ap plain (sym (rolls-Fields k vs)) ∙ fold-roll-Value Plain plain_step (Value-F.Fields k vs)
