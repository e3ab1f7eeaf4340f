use Rattle.eds_type_rows.proofs.items.count_at.Goals as goal

pub returns-in-Some : goal.returns-in-Some
returns-in-Some c = c.args.first.now.counted c.args.id c.in-Some.values c.in-Some.ensures
