-- A fixed token scanned: the machine on bytes is led over the best that is there, and either a token is there whole, or it is stuck.
use mathlib.Core.Path.{◌≡◌, refl, sym, ap, ◌∙◌, subst}
use mathlib.Core.Bool.{Bool, true, false, ◌&&◌}
use mathlib.Core.List.{List, [], ◌∷◌, ◌++◌}
use mathlib.Core.Option.{Option, none, some}
use Prim.Native.Nat.{ℕ, zero, suc, ◌-◌, ◌<◌, ◌≤◌}
use native.Mathlib.Omega.{arith}
use lib.Dec.{eqb, ltb}
use lib.ListN.{length, get_or, take, drop}
use lib.Seq.{drop-cons, take-suc, length-take-le}
use borrow.Author.Tests.{ltb-true, ltb-false, eqb-true}
use Rattle.rules.proofs.ListLaws.{and_true, true_and}
use Rattle.rules.specs.Expression.{less}
use Rattle.grammar.specs.Token.{Token, mark, skip, relation}
use Rattle.grammar.specs.Spelling.{spell, relation_spelled, is_digit, is_word, in_word, is_blank, begins_in_word}
use Rattle.grammar.specs.machine.Reader.{State, step}
use Rattle.grammar.specs.machine.Bytes.{Pending, letters, spot, fixed, begins, find, taking, allows, some_begins, begin, grow}
use Rattle.grammar.specs.machine.Bytes.{shut, shut_token}
use Rattle.grammar.proofs.bytes.Fixed.{Fixed, begins_self, begins_both, all_fixed, any_fixed, find_fixed, any_at, placed}
use Rattle.grammar.proofs.bytes.Fixed.{fixed_in_range, found as find-by-spelling}
use Rattle.grammar.proofs.bytes.ByteRuns.{Leads, here, on, leads_then, pick_true, pick_false}
use Rattle.grammar.proofs.bytes.TokenBytes.{goes}
use Rattle.grammar.proofs.bytes.TokenLaw.{Same, stuck_begin, equal_next, token_same}
use Rattle.tokens.specs.Shape.{Shape, may, shape_of}
use Rattle.tokens.specs.Stand.{kind_of, relation_kind}
use Rattle.tokens.proofs.ShapeLaws.{allows_may}
use Rattle.tokens.specs.Scan.{spelled_at, common, common_by, Best, is_word_kind}
use Rattle.tokens.proofs.Entries.{entry_at, entry_kind, entry_fixed, entry_word}
use Rattle.tokens.proofs.Common.{common_begins, begins_common, common_first, common_second, whole_there}
use Rattle.tokens.proofs.Halts.{Halts, leads_halts, stuck_at}

pub allowed_at : {limit : ℕ} (S : State limit) (sh : Shape) → shape_of S ≡ sh → (k : ℕ) → k < 27
    → allows S (get_or fixed k (mark skip)) ≡ may sh k
allowed_at S sh e k h = let q = entry_kind (entry_at k h) in let r = allows_may S (get_or fixed k (mark skip)) in rw (e, q) at r

not_taken : {limit : ℕ} (o : Option (State limit)) → (taking o ≡ true → ⊥) → o ≡ none
unfolding taking
not_taken none h = refl
not_taken (some R) h = absurd (h refl)

not_true : (b : Bool) → (b ≡ true → ⊥) → b ≡ false
not_true true h = absurd (h refl)
not_true false h = refl

either_none : {limit : ℕ} (w : Bool) (o : Option (State limit)) → o ≡ none
    → ◌≡◌ {A = Option (State limit)} (elim w [ true ↦ none | false ↦ o ]) none
either_none true o e = refl
either_none false o e = e

word_open : {limit : ℕ} (S : State limit) {t : Token} → Fixed t → is_word t ≡ true → shut S true (letters (spell t)) ≡ none
unfolding shut shut_token
word_open S f e = rw (find-by-spelling f, shut_token) (rw (e, shut_token))

less_kind : kind_of (relation less) ≡ 24
unfolding kind_of relation_kind
less_kind = refl

less_length : length (spell (relation less)) ≡ 1
unfolding spell relation_spelled
less_length = refl

at_most_there : (ys : List ℕ) → common (spelled_at 23) (60 ∷ 61 ∷ ys) ≡ 2
unfolding common common_by spelled_at fixed spell relation_spelled
at_most_there ys = refl

less_first : (x : ℕ) (xs : List ℕ) → common (spell (relation less)) (x ∷ xs) ≡ 1 → 60 ≡ x
unfolding common common_by spell relation_spelled
less_first x xs e = by (eqb 60 x) refl e
  where
    by : (t : Bool) → eqb 60 x ≡ t → common_by t (common [] xs) ≡ 1 → 60 ≡ x
    by true q h = eqb-true 60 x q
    by false q h = absurd (omega arith)

no_equal_next : (bs : List ℕ) → common (spell (relation less)) bs ≡ 1 → common (spelled_at 23) bs < 2
    → equal_next (drop 1 bs) ≡ false
unfolding equal_next
no_equal_next [] c u = refl
no_equal_next (x ∷ []) c u = refl
no_equal_next (x ∷ y ∷ ys) c u =
    not_true (eqb y 61)
    (λ e. let q = eqb-true y 61 e in
    let l = less_first x (y ∷ ys) c in
    let z : common (spelled_at 23) (x ∷ y ∷ ys) ≡ 2 = rw (← l, q) (at_most_there ys) in
    omega arith)

take_drop_whole : (n : ℕ) (l : List ℕ) → take n l ++ drop n l ≡ l
take_drop_whole zero l = refl
take_drop_whole (suc n) [] = refl
take_drop_whole (suc n) (y ∷ l) = ap (λ (m : List ℕ). y ∷ m) (take_drop_whole n l)

-- ---- a fixed token that is there whole

-- < where = is next is <=
less_alone : (k : ℕ) → k < 27 → (bs : List ℕ) → common (spelled_at k) bs ≡ length (spelled_at k)
    → (k ≡ 24 → common (spelled_at 23) bs < 2)
    → get_or fixed k (mark skip) ≡ relation less → equal_next (drop (length (spelled_at k)) bs) ≡ false
unfolding spelled_at
less_alone k h bs c u e =
    let q : k ≡ 24 = sym (entry_kind (entry_at k h)) ∙ ap kind_of e ∙ less_kind in
    let n : length (spell (get_or fixed k (mark skip))) ≡ 1 = ap (λ (t : Token). length (spell t)) e ∙ less_length in
    let d : common (spell (relation less)) bs ≡ 1 = rw e at c ∙ less_length in
    rw n (no_equal_next bs d (u q))

pub there_same : {limit : ℕ} (S R : State limit) (k : ℕ) → k < 27 → (bs : List ℕ) → common (spelled_at k) bs ≡ length (spelled_at k)
    → (k ≡ 24 → common (spelled_at 23) bs < 2) → (is_word_kind k ≡ true → begins_in_word (drop (length (spelled_at k)) bs) ≡ false)
    → step S (get_or fixed k (mark skip)) ≡ some R
    → Same (spot S Pending.nothing) bs (spot R Pending.nothing) (drop (length (spelled_at k)) bs)
unfolding spelled_at
there_same S R k h bs c u w e =
    let t = get_or fixed k (mark skip) in
    let n = length (spell t) in
    let i = entry_at k h in
    let p : take n bs ≡ spell t = whole_there (spell t) bs (omega arith) in
    let d : spell t ++ drop n bs ≡ bs = ap (λ (l : List ℕ). l ++ drop n bs) (sym p) ∙ take_drop_whole n bs in
    rw d at (token_same S R t (drop n bs) (fixed_in_range (entry_fixed i)) (λ j. w (sym (entry_word i) ∙ j))
    (less_alone k h bs c u) e)

module _ {limit : ℕ} (S : State limit) (sh : Shape) (shaped : shape_of S ≡ sh) (x : ℕ) (xs : List ℕ) (best found : ℕ)
    (b : Best sh (x ∷ xs) 27 best found) (no_digit : is_digit x ≡ false) (no_v : eqb x 118 ≡ false) where
  some_begun : 0 < best → (n : ℕ) → n ≤ best → some_begins S (take n (x ∷ xs)) ≡ true
  unfolding some_begins fixed spelled_at
  some_begun z n h =
      let r = b.reached z in
      let k = r.0 in
      let c = r.3 in
      let t = get_or fixed k (mark skip) in
      let p = common_begins (spell t) (x ∷ xs) n (omega arith) in
      let a : allows S t ≡ true = allowed_at S sh shaped k r.1 ∙ r.2 in
      any_at (λ u. begins (take n (x ∷ xs)) (spell u) && allows S u) fixed (mark skip) k r.1
      (true_and (begins (take n (x ∷ xs)) (spell t)) (allows S t) p a)

  -- a fixed token that is allowed, and how far it is there
  fixed_upper : (t : Token) → Fixed t → allows S t ≡ true → common (spell t) (x ∷ xs) ≤ best
  unfolding fixed spelled_at
  fixed_upper t f a =
      let p = placed f in
      let q = p.2 in
      let m : may sh p.0 ≡ true = sym (allowed_at S sh shaped p.0 p.1) ∙ (rw q a) in
      rw q at (b.upper p.0 p.1 m)

  none_begun : (n : ℕ) → best < n → n ≤ length (x ∷ xs) → some_begins S (take n (x ∷ xs)) ≡ false
  unfolding some_begins
  none_begun n h l =
      not_true (some_begins S (take n (x ∷ xs)))
      (λ e. let r = any_fixed (λ u. begins (take n (x ∷ xs)) (spell u) && allows S u) all_fixed e in
      let t = r.0 in
      let k = and_true (begins (take n (x ∷ xs)) (spell t)) (allows S t) r.2 in
      let c = begins_common (spell t) (x ∷ xs) n l k.0 in
      let u = fixed_upper t r.1 k.1 in
      omega arith)

  pub best_within : best ≤ length (x ∷ xs)
  best_within = by best refl
    where
      by : (m : ℕ) → best ≡ m → best ≤ length (x ∷ xs)
      by zero e = omega arith
      by (suc m) e =
          let r = b.reached (omega arith) in
          let c = r.3 in
          let l = common_second (spelled_at r.0) (x ∷ xs) in
          omega arith

  first_leads : 0 < best → Leads (spot S Pending.nothing) (x ∷ xs) (spot S (letters (x ∷ []))) xs
  unfolding grow begin
  first_leads z =
      let s : some_begins S (x ∷ []) ≡ true = some_begun z 1 (omega arith) in
      let g : grow S Pending.nothing x ≡ some (letters (x ∷ [])) =
      rw (no_digit, no_v, begin) (pick_true (some_begins S (x ∷ [])) (letters (x ∷ [])) s) in
      on (goes g) here

  letters_leads : 0 < best → (n : ℕ) → suc n ≤ best
      → Leads (spot S Pending.nothing) (x ∷ xs) (spot S (letters (take (suc n) (x ∷ xs)))) (drop (suc n) (x ∷ xs))
  unfolding grow
  letters_leads z zero h = first_leads z
  letters_leads z (suc n) h =
      let w = best_within in
      let s = some_begun z (suc (suc n)) h in
      let l : suc n < length (x ∷ xs) = omega arith in
      let e = take-suc (x ∷ xs) (suc n) 0 l in
      let c = get_or (x ∷ xs) (suc n) 0 in
      let g : grow S (letters (take (suc n) (x ∷ xs))) c ≡ some (letters (take (suc (suc n)) (x ∷ xs))) =
      rw e (pick_true (some_begins S (take (suc n) (x ∷ xs) ++ (c ∷ []))) (letters (take (suc n) (x ∷ xs) ++ (c ∷ [])))
      (rw e at s)) in
      leads_then (letters_leads z n (omega arith)) (rw (drop-cons (x ∷ xs) (suc n) 0 l) (on (goes g) here))

  pub best_leads : 0 < best → Leads (spot S Pending.nothing) (x ∷ xs) (spot S (letters (take best (x ∷ xs)))) (drop best (x ∷ xs))
  best_leads z =
      let e : suc (best - 1) ≡ best = omega arith in
      subst (λ (m : ℕ). Leads (spot S Pending.nothing) (x ∷ xs) (spot S (letters (take m (x ∷ xs)))) (drop m (x ∷ xs))) e
      (letters_leads z (best - 1) (omega arith))

  no_growth : best < length (x ∷ xs) → grow S (letters (take best (x ∷ xs))) (get_or (x ∷ xs) best 0) ≡ none
  unfolding grow
  no_growth l =
      let e = take-suc (x ∷ xs) best 0 l in
      let n = none_begun (suc best) (omega arith) l in
      pick_false _ _ (rw e at n)

  -- ---- stuck within a token

  broken_token : 27 ≤ found → 0 < best → (t : Token) → Fixed t → take best (x ∷ xs) ≡ spell t → allows S t ≡ true → ⊥
  unfolding fixed spelled_at
  broken_token f z t g e a =
      let p = placed g in
      let q = p.2 in
      let w = best_within in
      let m : may sh p.0 ≡ true = sym (allowed_at S sh shaped p.0 p.1) ∙ (rw q a) in
      let l : length (spell t) ≡ best = sym (ap length e) ∙ length-take-le best (x ∷ xs) w in
      let s : begins (take best (x ∷ xs)) (spell t) ≡ true = rw e (begins_self (spell t)) in
      let c = begins_common (spell t) (x ∷ xs) best w s in
      let d = common_first (spell t) (x ∷ xs) in
      let same : common (spell t) (x ∷ xs) ≡ best = omega arith in
      b.broken f p.0 p.1 m (rw q same) z (rw q l)

  shut_found : 27 ≤ found → 0 < best → (goes : Bool) (o : Option Token)
      → find (λ t. begins (take best (x ∷ xs)) (spell t) && begins (spell t) (take best (x ∷ xs))) fixed ≡ o
      → shut_token S goes o ≡ none
  unfolding shut_token
  shut_found f z goes none e = refl
  shut_found f z goes (some t) e =
      let r = find_fixed (λ u. begins (take best (x ∷ xs)) (spell u) && begins (spell u) (take best (x ∷ xs))) all_fixed e in
      let k = and_true (begins (take best (x ∷ xs)) (spell t)) (begins (spell t) (take best (x ∷ xs))) r.1 in
      let q = begins_both (take best (x ∷ xs)) (spell t) k.0 k.1 in
      either_none (is_word t && goes) (step S t) (not_taken (step S t) (broken_token f z t r.0 q))

  shut_none : 27 ≤ found → 0 < best → (goes : Bool) → shut S goes (letters (take best (x ∷ xs))) ≡ none
  unfolding shut
  shut_none f z goes = shut_found f z goes _ refl

  nothing_begins : best ≡ 0 → begin S x ≡ none
  unfolding begin
  nothing_begins z =
      let s : some_begins S (x ∷ []) ≡ false = none_begun 1 (omega arith) (omega arith) in
      rw (no_digit, no_v, begin) (pick_false (some_begins S (x ∷ [])) (letters (x ∷ [])) s)

  pub broken_halts : 27 ≤ found → is_blank x ≡ false → Halts (spot S Pending.nothing) (x ∷ xs) best
  broken_halts f k = by (ltb 0 best) refl
    where
      by : (t : Bool) → ltb 0 best ≡ t → Halts (spot S Pending.nothing) (x ∷ xs) best
      by true e =
          let z = ltb-true 0 best e in
          leads_halts (x ∷ xs) best best_within (best_leads z)
          (stuck_at S (letters (take best (x ∷ xs))) (x ∷ xs) best no_growth
          (λ l. shut_none f z (in_word (get_or (x ∷ xs) best 0))) (λ l. shut_none f z false))
      by false e =
          let z = ltb-false 0 best e in
          let s = stuck_begin S x xs (nothing_begins (omega arith)) k in
          let n : best ≡ 0 = omega arith in
          rw n (record { reads = s.reads; place = s.place })

  -- ---- a token that is there whole

  module _ (f : found < 27) where
    -- the token
    abbrev token : Token
    token = get_or fixed found (mark skip)

    token_there : take best (x ∷ xs) ≡ spell token
    unfolding spelled_at
    token_there =
        let w = b.whole f in
        let c = w.1 in
        let l = w.2 in
        rw l at (whole_there (spell token) (x ∷ xs) (omega arith))

    -- a letter or digit goes on with a word
    pub word_halts : is_word_kind found ≡ true → best < length (x ∷ xs) → in_word (get_or (x ∷ xs) best 0) ≡ true
        → Halts (spot S Pending.nothing) (x ∷ xs) best
    word_halts w l i =
        let z = (b.whole f).3 in
        let t = token_there in
        let o : shut S true (letters (take best (x ∷ xs))) ≡ none =
        rw t (word_open S (entry_fixed (entry_at found f)) (entry_word (entry_at found f) ∙ w)) in
        leads_halts (x ∷ xs) best best_within (best_leads z)
        (stuck_at S (letters (take best (x ∷ xs))) (x ∷ xs) best no_growth (λ h. rw i o) (λ h. absurd (omega arith)))
