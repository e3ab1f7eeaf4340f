-- What an event carries, by what the event is.
use Rattle.std.proofs.Common.{◌≡◌, ℕ, Bool, true, false, List, Option, refl, sym, ◌∙◌, codes}
use Rattle.std.specs.Prelude.{option_map}
use Rattle.eds_tree.specs.Trees.{is_named}
use Rattle.eds_plan.specs.Carried.{arriving}
use Rattle.eds_read_act.specs.declared.sending.Taker.{Taker}
use Rattle.eds_read_act.specs.Events.{value_carried, carried_at}
use Rattle.eds_read_act.specs.Scopes.{Scope, Field}
use Rattle.eds_read_act.specs.Sending.{command_of}

pub by-command : (s : Scope) (e : ℕ) (b : Bool) (fs : Option (List Field)) → b ≡ is_named s.tree (codes "OnCommandPrimitive") e → b ≡ true
    → fs ≡ option_map (λ (c : Taker). c.fields) (command_of arriving s e) → fs ≡ carried_at s e
by-command s e b fs is holds here = let named : is_named s.tree (codes "OnCommandPrimitive") e ≡ true = sym is ∙ holds in here ∙ sym (rw named refl)

pub by-value : (s : Scope) (e : ℕ) (b : Bool) (fs : Option (List Field)) → b ≡ is_named s.tree (codes "OnCommandPrimitive") e → b ≡ false → fs ≡ value_carried s e → fs ≡ carried_at s e
by-value s e b fs is no_command here = let other : is_named s.tree (codes "OnCommandPrimitive") e ≡ false = sym is ∙ no_command in here ∙ sym (rw other refl)
