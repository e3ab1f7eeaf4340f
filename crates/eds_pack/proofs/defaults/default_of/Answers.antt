use Rattle.std.proofs.Common.{◌<◌, Some, None, length, subst, arith}
use Rattle.std.specs.Prelude.{option_map}
use Rattle.std.proofs.lemmas.Bool.{both_ways}
use Rattle.eds_bits.specs.Style.{canonical}
use Rattle.eds_types.specs.Plain.{plain}
use Rattle.eds_types.specs.Spelling.{SpellsWithin}
use Rattle.eds_pack.specs.Building.{Built}
use Rattle.eds_pack.specs.Defaults.{DefaultsWithin}
use Rattle.eds_pack.specs.Packs.{Packs}
use Rattle.eds_pack.proofs.OneDefault.{one_within}
use Rattle.eds_pack.proofs.defaults.default_of.Goals as goal

pub returns-then-conforms-clause-some : goal.returns-then-conforms-clause-some
returns-then-conforms-clause-some c =
    let t = c.args.table.now in let id = c.args.id.0 in
    let h : Built (DefaultsWithin 32 t id) (SpellsWithin 32 canonical t id) 524288 c.default_within.new.left (Some (plain c.in-Some.value)) = subst (λ o. Built (DefaultsWithin 32 t id) (SpellsWithin 32 canonical t id) 524288 c.default_within.new.left (option_map plain o)) c.in-Some.is c.in_ok-value.ensures.built in
    let p = c.conforms.ensures.0 c.if-conforms.true in
    record { is = h.0; size = p.0; packs = p.1 }

pub returns-else-conforms-clause-none : goal.returns-else-conforms-clause-none
returns-else-conforms-clause-none c v d =
    let t = c.args.table.now in let id = c.args.id.0 in
    let h : Built (DefaultsWithin 32 t id) (SpellsWithin 32 canonical t id) 524288 c.default_within.new.left (Some (plain c.in-Some.value)) = subst (λ o. Built (DefaultsWithin 32 t id) (SpellsWithin 32 canonical t id) 524288 c.default_within.new.left (option_map plain o)) c.in-Some.is c.in_ok-value.ensures.built in
    both_ways c.conforms.result c.if-conforms.false (c.conforms.ensures.1 (d.size, subst (λ x. Packs t id x d.size) (one_within t c.keeps_rules.ensures 32 id v (plain c.in-Some.value) d.is h.0) d.packs))

pub returns-in-None-clause-none : goal.returns-in-None-clause-none
returns-in-None-clause-none c v d =
    let t = c.args.table.now in let id = c.args.id.0 in
    let h : Built (DefaultsWithin 32 t id) (SpellsWithin 32 canonical t id) 524288 c.default_within.new.left None = subst (λ o. Built (DefaultsWithin 32 t id) (SpellsWithin 32 canonical t id) 524288 c.default_within.new.left (option_map plain o)) c.in-None.is c.in_ok-value.ensures.built in
    let b = d.packs.0 in
    let l : 524288 < length b = h v b d.is d.packs.1 in
    let e = d.packs.2 in let m = d.packs.3 in
    absurd (omega arith)
