use Rattle.std.proofs.Common.{Some, sym, ap, ◌∙◌, ◌++◌, drop, lit<}
use Rattle.std.proofs.lemmas.Str.{encode_ascii}
use Rattle.std.proofs.lemmas.Str.Pattern.{NoCharPasses-char}
use Rattle.eds_names.specs.LookUp.{longest}
use Rattle.eds_names.proofs.LookUpLemmas.{fronts-none, longest-split}
use Rattle.eds_names.proofs.space.shorter.Goals as goal

pub returns-in_err-front-clause-longest : goal.returns-in_err-front-clause-longest
returns-in_err-front-clause-longest c = rw c.from_residual.ensures (sym (ap longest (fronts-none c.args.name.now (λ i lt. NoCharPasses-char 47 c.args.name.now i c.in_err-front.ensures.cases (lit< tt) lt))))

pub returns-clause-longest : goal.returns-clause-longest
returns-clause-longest c =
    let h = c.in_ok-front.ensures.cases in
    ap Some h.3 ∙ sym (longest-split c.args.name.now h.0 h.1 (h.2.1.split ∙ ap (λ one. one ++ drop h.1 c.args.name.now) (encode_ascii 47 (lit< tt))) (λ i lt. NoCharPasses-char 47 (drop h.1 c.args.name.now) i h.2.0 (lit< tt) lt))
