-- What the answer of a check tells its callers: the refusal behind it, or that there is none.
use mathlib.Core.Path.{◌≡◌, refl, sym, ◌∙◌}
use mathlib.Core.List.{List}
use mathlib.Core.Option.{Option, none, some}
use Prim.Native.Nat.{ℕ}
use Rattle.rules.specs.Table.{table_refusal, Accepted}
use Rattle.rules.specs.declared.Refusal.{Refusal}
use Rattle.table.specs.Checking.{answer, checking}
use Rattle.rules.specs.Answer.{Answer}
use Rattle.std.specs.Prelude.{Ok, Err}

pub answer_done : (o : Option Refusal) → Ok tt ≡ answer o → o ≡ none
unfolding answer
answer_done (some r) e = cc
answer_done none e = refl

pub answer_refused : (o : Option Refusal) (r : Refusal) → Err r ≡ answer o → o ≡ some r
unfolding answer
answer_refused (some q) r e = cc
answer_refused none r e = cc

-- what the answer c of `check` told
module _ (t : List ℕ) {c : Answer (Unit {0})} (told : c ≡ checking t) where
  pub accepted : c ≡ Ok tt → Accepted t
  unfolding checking
  accepted e = answer_done (table_refusal t) (sym e ∙ told)

  pub refused : (r : Refusal) → c ≡ Err r → table_refusal t ≡ some r
  unfolding checking
  refused r e = answer_refused (table_refusal t) r (sym e ∙ told)
