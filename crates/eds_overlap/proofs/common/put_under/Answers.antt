use Rattle.std.proofs.Common.{◌≡◌, ap, subst, sym, ◌∙◌}
use Rattle.std.specs.List.{AllByRecursion}
use Rattle.std.specs.Prelude.{string_bytes}
use Rattle.eds_overlap.specs.Common.{all_under}
use Rattle.eds_overlap.specs.PathTexts.{path_text}
use Rattle.eds_overlap.proofs.UnderTexts.{entries_put, own_put, put_under}
use Rattle.eds_overlap.proofs.common.put_under.Goals as goal

pub returns-clause-texts : goal.returns-clause-texts
returns-clause-texts c t h p =
    let is = entries_put c.args.text.now c.in_ok-key.key c.args.one c.args.gathered.now.entries c.take_under-numbers.new.gathered.entries c.insert.new.self.entries c.take_under-numbers.result c.push.new.self c.take_under-numbers.ensures.entries c.take_under-numbers.ensures.numbers c.in_ok-push.ensures.ok c.in_ok-insert.ensures.entries in
    record {
      rise = c.in_ok-insert.ensures.ordered;
      own = subst (λ es. AllByRecursion (λ e. AllByRecursion (λ d. path_text t d.path ≡ string_bytes e.0) e.1) es) (sym is) (own_put t c.args.text.now c.in_ok-key.key c.args.one c.args.gathered.now.entries c.in_ok-key.ensures.ok p h);
    }

pub returns-clause-put : goal.returns-clause-put
returns-clause-put c t h p =
    let is = entries_put c.args.text.now c.in_ok-key.key c.args.one c.args.gathered.now.entries c.take_under-numbers.new.gathered.entries c.insert.new.self.entries c.take_under-numbers.result c.push.new.self c.take_under-numbers.ensures.entries c.take_under-numbers.ensures.numbers c.in_ok-push.ensures.ok c.in_ok-insert.ensures.entries in
    ap all_under is ∙ put_under t c.args.text.now c.in_ok-key.key c.args.one c.args.gathered.now.entries c.in_ok-key.ensures.ok p h
