-- `tokens::scan::consider` meets its contract.
use mathlib.Core.Path.{sym, ◌∙◌}
use borrow.Author.Rules.{rules}
use Rattle.tokens.proofs.Entries.{spelled_length}
use Rattle.tokens.proofs.BestLaws.{best_nothing, best_shorter, best_refused, best_whole, best_further, best_level}
use Rattle.tokens.proofs.scan.consider.Goals as goal

pub returns-then-l-eq0 : goal.returns-then-l-eq0
returns-then-l-eq0 c =
    record { few = c.requires.few; best = best_nothing _ _ _ _ _ c.requires.best c.common_length-l.ensures c.if-l-eq0.true }

pub returns-then-l-best : goal.returns-then-l-best
returns-then-l-best c =
    let common-length = c.common_length-l in
    record { few = c.requires.few; best = best_shorter _ _ _ _ _ c.requires.best common-length.ensures c.if-l-best.true }

pub returns-then-not-allowed : goal.returns-then-not-allowed
returns-then-not-allowed c =
    let allowed = c.allowed in
    record { few = c.requires.few; best = best_refused _ _ _ _ _ c.requires.best (sym allowed.ensures ∙ c.if-not-allowed.true) }

pub returns-then-l-length_of : goal.returns-then-l-length_of
returns-then-l-length_of c =
    let allowed = c.allowed in
    let if3 = c.if-not-allowed in
    let common-length = c.common_length-l in
    let length-of = c.length_of in
    let k = c.requires.token in
    let l = spelled_length _ k ∙ sym length-of.ensures in
    let m = sym allowed.ensures ∙ if3.false in
    record {
      few = c.requires.token;
      best = best_whole _ _ _ _ _ c.requires.best k common-length.ensures l (search rules) (search rules) m
          c.if-l-length_of.true;
    }

pub returns-then-best-l : goal.returns-then-best-l
returns-then-best-l c =
    let length-of = c.length_of in
    let allowed = c.allowed in
    let if3 = c.if-not-allowed in
    let common-length = c.common_length-l in
    let if4 = c.if-l-length_of in
    let k = c.requires.token in
    let l = spelled_length _ k ∙ sym length-of.ensures in
    let m = sym allowed.ensures ∙ if3.false in
    record { few = tt; best = best_further _ _ _ _ _ c.requires.best k common-length.ensures l c.if-best-l.true m if4.false }

pub returns : goal.returns
returns c =
    let length-of = c.length_of in
    let common-length = c.common_length-l in
    let if4 = c.if-l-length_of in
    let k = c.requires.token in
    let l = spelled_length _ k ∙ sym length-of.ensures in
    record { few = c.requires.few; best = best_level _ _ _ _ _ c.requires.best common-length.ensures l (search rules) if4.false }
