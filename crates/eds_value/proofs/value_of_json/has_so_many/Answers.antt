use Rattle.std.proofs.Common.{ap, nat_eq, ℕ}
use Rattle.serde_json.proofs.Views.{members_len-members_view}
use Rattle.eds_value.proofs.value_of_json.has_so_many.Goals as goal

pub returns-in-Some : goal.returns-in-Some
returns-in-Some c = rw (← c.in-Some.ensures, members_len-members_view c.in-Some.members.now.entries) (ap (λ (n : ℕ). nat_eq n c.args.count) c.len.ensures.len)
