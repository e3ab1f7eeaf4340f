use Rattle.std.proofs.Common.{◌≡◌, map, [], ap, sym, ◌∙◌}
use Rattle.eds_base.specs.Refusals.{least}
use Rattle.eds_names.specs.Declarations.{declared_in, named_of}
use Rattle.eds_names.specs.Repeats.{repeats, repeats_from}
use Rattle.eds_names.specs.Standings.{arounds_of}
use Rattle.eds_names.specs.LookUp.{item_named, slashes, is_marked}
use Rattle.eds_names.proofs.Differing.{apart_by_least}
use Rattle.eds_names.proofs.FilesLemmas.{names-refused, names-taken}
use Rattle.eds_names.proofs.space.Space.build.Goals as goal

pub returns-in-Some : goal.returns-in-Some
returns-in-Some c =
    names-refused c.args.trees.now c.in_ok-register.register.declared.items c.in_ok-repeated.repeated c.in_ok-register.register.found c.in-Some.refusal
    (c.in_ok-register.ensures.declared ∙ ap declared_in c.as_slice.ensures)
    (c.in_ok-repeated.ensures ∙ ap (λ ds. least (repeats [] (map named_of ds))) c.deref.ensures.value)
    (c.in_ok-register.ensures.found ∙ ap (λ ts. least (repeats_from 0 ts)) c.as_slice.ensures)
    c.in-Some.ensures.first

pub returns-in_ok-depths-in-None : goal.returns-in_ok-depths-in-None
returns-in_ok-depths-in-None c =
    names-taken c.args.trees.now c.from_vec.result c.in_ok-register.register.arounds c.in_ok-repeated.repeated c.in_ok-register.register.found
    (c.from_vec.ensures ∙ c.in_ok-register.ensures.declared ∙ ap declared_in c.as_slice.ensures)
    (c.in_ok-repeated.ensures ∙ ap (λ ds. least (repeats [] (map named_of ds))) (c.deref.ensures.value ∙ sym c.from_vec.ensures))
    (c.in_ok-register.ensures.found ∙ ap (λ ts. least (repeats_from 0 ts)) c.as_slice.ensures)
    (c.in_ok-register.ensures.arounds ∙ ap (map arounds_of) c.as_slice.ensures)
    c.in-None.ensures.first

pub invariant_of-result : goal.invariant_of-result
invariant_of-result c =
    let all : c.from_vec.result ≡ c.in_ok-register.register.declared.items = c.from_vec.ensures in (
      λ q. c.in_ok-index-in-None.ensures q ∙ ap (λ ds. item_named ds q) (c.deref-in-None.ensures.value ∙ sym all),
      apart_by_least c.from_vec.result c.in_ok-repeated.repeated c.in_ok-register.register.found c.in-None.ensures.first (c.in_ok-repeated.ensures ∙ ap (λ ds. least (repeats [] (map named_of ds))) (c.deref.ensures.value ∙ sym all)),
      λ q h. ap (λ ds. item_named ds q) (all ∙ sym c.deref-in-None-2.ensures.value) ∙ c.in_ok-depths-in-None.ensures q (sym (ap (λ table. is_marked table (slashes q)) c.from_vec-in-None.ensures) ∙ h),
    )
