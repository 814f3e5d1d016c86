-- `write` and `make`: a node is made of the last nodes that arrays hold, if it is not the 1,025th.
use mathlib.Core.Path.{◌≡◌, refl, sym, ap, ◌∙◌}
use mathlib.Core.Bool.{Bool, true, false, cond}
use mathlib.Core.List.{List, [], ◌∷◌}
use Prim.Native.Nat.{ℕ, suc, ◌+◌, ◌-◌, ◌<◌, ◌≤◌}
use native.Mathlib.Omega.{arith}
use lib.Dec.{eqb}
use lib.ListN.{length, get_or, set}
use borrow.Author.Tests.{eqb-true}
use Rattle.rules.specs.Table.{Kind}
use Rattle.grammar.specs.Written.{Node, node, Word, plain, child, kind_number, size, size_below, depth, depth_below}
use Rattle.tokens.specs.Flat.{move_at, Form, no_node, leaf, one, two, three, numbered, form_of, make, arity, sizes}
use Rattle.tokens.proofs.NodeLaws.{adds, make_size}
use Rattle.rule.specs.declared.nodes.Form as Code
use Rattle.rule.specs.declared.nodes.Form.TheVariants.{Leaf, One, Two, Three, Numbered}
use Rattle.rule.specs.declared.nodes.Nodes.{Nodes}
use Rattle.rule.specs.inside.Nodes.{depths_of, Holds, Held, form_is, first, second, third, below, Put, Writing, NodeWritten, Making, Made}
use Rattle.rule.proofs.HoldLaws.{length_least, depth_is, Last, last, holds_make}

-- ---- what `make` needs

-- no node is deeper than there are nodes, so that one more than a depth is a small number
mutual
  unfolding depth depth_below size size_below

  depth_most : (n : Node) → depth n ≤ size n
  depth_most (node k p q r) =
      let a = below_most p in
      let b = below_most q in
      let c = below_most r in
      omega arith

  below_most : (w : Word) → depth_below w ≤ size_below w
  below_most (plain w) = omega arith
  below_most (child n) = depth_most n

below_few : (form : Form) (ns : List Node) (roots deep words : List ℕ) (base count : ℕ)
    → Holds ns roots deep words (base + arity form) count
    → arity form ≤ length ns → below form (get_or deep base 0) (get_or deep (base + 1) 0) (get_or deep (base + 2) 0) ≤ count
unfolding below arity depths_of sizes
below_few no_node ns roots deep words base count H h = omega arith
below_few leaf ns roots deep words base count H h = omega arith
below_few one [] roots deep words base count H h = absurd (omega arith)
below_few one (A ∷ ms) roots deep words base count H h =
    let la : Last A ms roots deep base = last H.roots_are H.depths_are (omega arith) in
    let d0 = la.depth_is in
    let m0 = depth_most A in
    let t = H.count_is in
    omega arith
below_few two [] roots deep words base count H h = absurd (omega arith)
below_few two (B ∷ []) roots deep words base count H h = absurd (omega arith)
below_few two (B ∷ A ∷ ms) roots deep words base count H h =
    let lb : Last B (A ∷ ms) roots deep (base + 1) = last H.roots_are H.depths_are (omega arith) in
    let la : Last A ms roots deep base = last lb.roots_below lb.depths_below (omega arith) in
    let d0 = la.depth_is in
    let d1 = lb.depth_is in
    let m0 = depth_most A in
    let m1 = depth_most B in
    let t = H.count_is in
    omega arith
below_few three [] roots deep words base count H h = absurd (omega arith)
below_few three (C ∷ []) roots deep words base count H h = absurd (omega arith)
below_few three (C ∷ B ∷ []) roots deep words base count H h = absurd (omega arith)
below_few three (C ∷ B ∷ A ∷ ms) roots deep words base count H h =
    let lc : Last C (B ∷ A ∷ ms) roots deep (base + 2) = last H.roots_are H.depths_are (omega arith) in
    let lb : Last B (A ∷ ms) roots deep (base + 1) = last lc.roots_below lc.depths_below (omega arith) in
    let la : Last A ms roots deep base = last lb.roots_below lb.depths_below (omega arith) in
    let d0 = la.depth_is in
    let d1 = lb.depth_is in
    let d2 = lc.depth_is in
    let m0 = depth_most A in
    let m1 = depth_most B in
    let m2 = depth_most C in
    let t = H.count_is in
    omega arith
below_few numbered [] roots deep words base count H h = absurd (omega arith)
below_few numbered (A ∷ ms) roots deep words base count H h =
    let la : Last A ms roots deep base = last H.roots_are H.depths_are (omega arith) in
    let d0 = la.depth_is in
    let m0 = depth_most A in
    let t = H.count_is in
    omega arith

-- ---- `write`

module _ {Ns : Nodes} {base n : ℕ} {form : Form} (W : Writing Ns base n form) where
  pub root_asks : (i : ℕ) → (eqb n (suc i) ≡ true → 0 < Ns.count) × (Ns.count ≤ 1024)
  root_asks i = let f = W.free in (λ e. let q = eqb-true n (suc i) e in W.some (omega arith), omega arith)

  -- a number that is not read back from the stack is the one that is there
  pub root_is : (i j : ℕ) → j ≡ base + i → {r : ℕ} → r ≡ cond (eqb n (suc i)) (Ns.count - 1) (get_or Ns.roots j 0) → r ≡ get_or Ns.roots j 0
  root_is i j e {r} q = by (eqb n (suc i)) refl
    where
      by : (b : Bool) → eqb n (suc i) ≡ b → r ≡ get_or Ns.roots j 0
      by true t =
          let l = W.last i (eqb-true n (suc i) t) in
          let k : r ≡ Ns.count - 1 = rw t at q in
          k ∙ sym l ∙ ap (λ (k : ℕ). get_or Ns.roots k 0) (sym e)
      by false t = rw t at q

pub written_is : {Ns : Nodes} {words₂ : List ℕ} {form : Form} {base kind x p q r d e f g : ℕ}
    → p ≡ first form x (get_or Ns.roots base 0)
    → q ≡ second form (get_or Ns.roots base 0) (get_or Ns.roots (base + 1) 0) → r ≡ third form (get_or Ns.roots (base + 2) 0)
    → d ≡ below form (get_or Ns.deep base 0) (get_or Ns.deep (base + 1) 0) (get_or Ns.deep (base + 2) 0) → e ≡ d + 1
    → Put Ns.words Ns.count kind p q r words₂ → f ≡ base + 1 → g ≡ Ns.count + 1
    → NodeWritten Ns base form kind x
    (record { words = words₂; roots = set Ns.roots base Ns.count; deep = set Ns.deep base e; depth = f; count = g })
written_is pe qe re de ee P f g =
    record { roots_are = refl; depths_are = rw (ee, de); put = rw (← pe, ← qe, ← re) P; depth_is = f; count_is = g }

-- ---- `make`

-- each form of the code's has a node
some_node : (F : Code.Form) → form_is F ≡ no_node → ⊥
some_node Leaf e = let z : ◌≡◌ {A = ℕ} 0 1 = cc in omega arith
some_node One e = let z : ◌≡◌ {A = ℕ} 0 1 = cc in omega arith
some_node Two e = let z : ◌≡◌ {A = ℕ} 0 1 = cc in omega arith
some_node Three e = let z : ◌≡◌ {A = ℕ} 0 1 = cc in omega arith
some_node Numbered e = let z : ◌≡◌ {A = ℕ} 0 1 = cc in omega arith

some_node_adds : (F : Code.Form) → adds (form_is F) ≡ 1
unfolding adds
some_node_adds Leaf = refl
some_node_adds One = refl
some_node_adds Two = refl
some_node_adds Three = refl
some_node_adds Numbered = refl

pub make_base : {Ns : Nodes} {form : Form} {m : ℕ} → Making Ns form → Ns.count < 1024 → m ≡ arity form → m ≤ Ns.depth
make_base M h e = let S = M.some (omega arith) in let d = depth_is S.held in let p = S.parts in omega arith

-- the last node is the last that was written
last_root : (ns : List Node) {roots deep words : List ℕ} {d count : ℕ} → Holds ns roots deep words d count → (i : ℕ) → d ≡ suc i
    → get_or roots i 0 ≡ count - 1
unfolding sizes
last_root [] H i e = let z = depth_is H in absurd (omega arith)
last_root (N ∷ ms) H i e =
    let l = (last H.roots_are H.depths_are e).root in
    let c = H.count_is in
    omega arith

pub make_writes : {Ns : Nodes} {form : Form} {m base : ℕ} → Making Ns form → Ns.count < 1024 → m ≡ arity form → base ≡ Ns.depth - m
    → Writing Ns base m form
make_writes {Ns} {form} {m} {base} M h me be =
    let S = M.some (omega arith) in
    let H = S.held in
    let d = depth_is H in
    let p = S.parts in
    let z : Ns.depth ≡ base + arity form = omega arith in
    let G = holds_at z H in
    let l = length_least S.nodes in
    let t = H.count_is in
    let few = below_few form S.nodes Ns.roots Ns.deep Ns.words base Ns.count G p in
    record {
      some = λ g. omega arith;
      last = λ i e. last_root S.nodes H (base + i) (omega arith);
      base_few = omega arith;
      free = h;
      depth_few = omega arith;
    }
  where
    holds_at : {ns : List Node} {d e : ℕ} → d ≡ e → Holds ns Ns.roots Ns.deep Ns.words d Ns.count
        → Holds ns Ns.roots Ns.deep Ns.words e Ns.count
    holds_at q H = rw q at H

-- where no node is made
pub make_none : {Ns : Nodes} {form : Form} {kind x : ℕ} → Making Ns form → form ≡ no_node → Made Ns form kind x Ns
unfolding make
make_none M z =
    record {
      become = λ k ns e h. record { held = λ f H. rw z H; full = λ f H. rw z (let t = H.count_is in omega arith) };
      kept = record { most = M.most; same = λ e. e };
    }

module _ {Ns : Nodes} (F : Code.Form) {kind x : ℕ} (M : Making Ns (form_is F)) where
  pub make_full : 1024 ≤ Ns.count
      → Made Ns (form_is F) kind x (record { words = Ns.words; roots = Ns.roots; deep = Ns.deep; depth = Ns.depth; count = 1025 })
  make_full e =
      record {
        become = λ k ns q h. record {
          held = λ f H. absurd (omega arith);
          full = λ f H.
              let t = H.count_is in
              let m = make_size (form_is F) k x ns h in
              let a = some_node_adds F in
              omega arith;
        };
        kept = record { most = omega arith; same = λ f. absurd (omega arith) };
      }

  pub make_made : {Ns₂ : Nodes} {m base : ℕ} → length Ns.roots ≡ 1028 → length Ns.deep ≡ 1028 → Ns.count < 1024 → m ≡ arity (form_is F) → base ≡ Ns.depth - m
      → NodeWritten Ns base (form_is F) kind x Ns₂ → Made Ns (form_is F) kind x Ns₂
  make_made {Ns₂} {m} {base} rl dl h me be N =
      let W = make_writes M h me be in
      let S = M.some (omega arith) in
      let d = depth_is S.held in
      let p = S.parts in
      let re = N.roots_are in
      let de = N.depths_are in
      let fe = N.depth_is in
      let ce = N.count_is in
      let bf = W.base_few in
      record {
        become = λ k ns q g. record {
          held = λ f H. rw (re, de, fe, ce)
              (holds_make k x Ns.roots Ns.deep Ns.words Ns₂.words base Ns.count (omega arith) (omega arith) (form_is F) ns (at_base ns g H) g
              (some_node F) (put_as k q N.put));
          full = λ f H. absurd (omega arith);
        };
        kept = record { most = omega arith; same = λ f. omega arith };
      }
    where
      at_base : (ns : List Node) → arity (form_is F) ≤ length ns → Held ns Ns
          → Holds ns Ns.roots Ns.deep Ns.words (base + arity (form_is F)) Ns.count
      at_base ns g H = let e = depth_is H in let z : Ns.depth ≡ base + arity (form_is F) = omega arith in rw z at H

      put_as : (k : Kind) → kind_number k ≡ kind → {p q r : ℕ} → Put Ns.words Ns.count kind p q r Ns₂.words
          → Put Ns.words Ns.count (kind_number k) p q r Ns₂.words
      put_as k q P = rw q P

-- ---- the node of a move

pub own_makes : {Ns : Nodes} {a k : ℕ} {form : Form} → a ≡ k → form_of (move_at k 8) ≡ form → Making Ns (form_of (move_at a 8)) → Making Ns form
own_makes e f M = rw (e, f) at M

pub own_made : {Ns Ns₂ : Nodes} {a k kind x : ℕ} {form : Form} → a ≡ k → form_of (move_at k 8) ≡ form → move_at k 9 ≡ kind
    → Made Ns form kind x Ns₂ → Made Ns (form_of (move_at a 8)) (move_at a 9) x Ns₂
own_made e f k M = rw (e, f, k) M

pub own_less : {Ns : Nodes} {a k kind x : ℕ} → a ≡ k → form_of (move_at k 8) ≡ no_node → Making Ns (form_of (move_at a 8))
    → Made Ns (form_of (move_at a 8)) kind x Ns
own_less e z M = make_none M (ap (λ (a : ℕ). form_of (move_at a 8)) e ∙ z)
