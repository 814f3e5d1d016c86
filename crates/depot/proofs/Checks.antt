-- The order of a depot's checks, as `check_all` makes them: 16 comes last.
use mathlib.Core.Path.{◌≡◌}
use mathlib.Core.Bool.{Bool, true, false}
use mathlib.Core.Option.{Option, none, some}
use Rattle.rules.specs.Refusal.{refusal, refuse, ◌or_else◌}
use Rattle.rules.specs.declared.Refusal.{Refusal}
use Rattle.table.specs.Checking.{answer}
use Rattle.std.specs.Prelude.{Ok, Err}

module _ {o : Option Refusal} (short : Bool) where
  pub refused_before : {r : Refusal} → o ≡ some r → answer (o or_else refuse short 16 0) ≡ Err r
  unfolding ◌or_else◌ answer
  refused_before e = rw e

  module _ (unrefused : o ≡ none) where
    pub refused_room : short ≡ true → answer (o or_else refuse short 16 0) ≡ Err (refusal 16 0)
    unfolding ◌or_else◌ answer refuse
    refused_room e = rw (unrefused, e)

    pub all_checked : short ≡ false → answer (o or_else refuse short 16 0) ≡ Ok tt
    unfolding ◌or_else◌ answer refuse
    all_checked e = rw (unrefused, e)
