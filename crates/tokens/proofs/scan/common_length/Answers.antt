-- `tokens::scan::common_length` meets its contract. The loop's invariant: the first `j` bytes are the same.
use mathlib.Core.Path.{◌≡◌, refl, ◌∙◌}
use native.Mathlib.Omega.{arith}
use Rattle.tokens.proofs.Entries.{spelled_few}
use Rattle.tokens.proofs.CodeLaws.{match_start, match_on, match_long, match_end, match_not}
use Rattle.tokens.proofs.scan.common_length.Goals as goal

pub loop-j-init : goal.loop-j-init
loop-j-init c = match_start _ _ _

pub returns-then-left-j : goal.returns-then-left-j
returns-then-left-j c =
    match_end _ _ _ c.loop-j.j _ refl c.loop-j.invariant c.if-left-j.true

pub letter_of-requires : goal.letter_of-requires
letter_of-requires c =
    let few = spelled_few _ c.requires.1 in (c.requires.1, omega arith)

pub returns-then-text-at : goal.returns-then-text-at
returns-then-text-at c =
    match_not _ _ _ c.loop-j.j _ c.requires.1 c.loop-j.invariant c.letter_of.ensures c.if-text-at.true

pub loop-j-preserved : goal.loop-j-preserved
loop-j-preserved c =
    match_on _ _ _ c.loop-j.j _ _ _ c.requires.1 c.requires.0 c.length_of-len.ensures refl c.loop-j.invariant c.loop-j-test.true
    c.if-left-j.false c.letter_of.ensures c.if-text-at.false

pub returns : goal.returns
returns c =
    let e : c.length_of-len.result ≡ c.loop-j.j = omega arith in
    e ∙ match_long _ _ _ c.loop-j.j _ c.requires.1 c.length_of-len.ensures c.loop-j.invariant c.loop-j-test.false
