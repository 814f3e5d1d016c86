-- What the scanner's functions ask and promise, part by part.
use Rattle.std.specs.Prelude.{◌≡◌, ℕ, ◌+◌, ◌<◌, ◌≤◌, Bool, true, false, List, eqb, length, get_or, drop, unwrap_or, IfSome}
use Rattle.grammar.specs.Spelling.{is_digit, in_word, is_blank}
use Rattle.tokens.specs.declared.moves.Standing.{Standing}
use Rattle.tokens.specs.Arrays.{standing}
use Rattle.tokens.specs.declared.scan.Furthest.{Furthest}
use Rattle.tokens.specs.Scan.{Best}

pub record Turn (text : List ℕ) (at : ℕ) (st : List ℕ) (s : Standing) (k : ℕ) (f : Furthest) : Type 0 where
  pub fits : s.top ≤ 1600
  pub inside : at ≤ length text
  pub token : k < 27
  pub best : Best (standing st s) (drop at text) k f.best (unwrap_or f.found 27)
  pub few : IfSome f.found (λ i. i < 27)

pub record Considered (text : List ℕ) (at : ℕ) (st : List ℕ) (s : Standing) (k : ℕ) (r : Furthest) : Type 0 where
  pub best : Best (standing st s) (drop at text) (k + 1) r.best (unwrap_or r.found 27)
  pub few : IfSome r.found (λ i. i < 27)

pub record Furthermost (text : List ℕ) (at : ℕ) (st : List ℕ) (s : Standing) (r : Furthest) : Type 0 where
  pub best : Best (standing st s) (drop at text) 27 r.best (unwrap_or r.found 27)
  pub few : IfSome r.found (λ i. i < 27)
  pub inside : at + r.best ≤ length text

pub record WordNext (text : List ℕ) (end : ℕ) (r : Bool) : Type 0 where
  pub goes : r ≡ true → (end < length text) × (in_word (get_or text end 0) ≡ true)
  pub stops : r ≡ false → end < length text → in_word (get_or text end 0) ≡ false

pub record DigitAt (text : List ℕ) (at : ℕ) : Type 0 where
  pub inside : at < length text
  pub byte : is_digit (get_or text at 0) ≡ true

pub record VAt (text : List ℕ) (at : ℕ) : Type 0 where
  pub inside : at < length text
  pub byte : get_or text at 0 ≡ 118

pub record AtFixed (text : List ℕ) (at : ℕ) (s : Standing) : Type 0 where
  pub fits : s.top ≤ 1600
  pub inside : at < length text
  pub no_digit : is_digit (get_or text at 0) ≡ false
  pub no_v : eqb (get_or text at 0) 118 ≡ false
  pub no_blank : is_blank (get_or text at 0) ≡ false

pub record AtByte (text : List ℕ) (at : ℕ) (s : Standing) : Type 0 where
  pub fits : s.top ≤ 1600
  pub inside : at < length text
  pub no_blank : is_blank (get_or text at 0) ≡ false
