-- The sequences of a row, one after the other: `make_row`'s invariant, at its start, with one sequence more, and at its end.
use mathlib.Core.Path.{◌≡◌, refl, sym, ap, ◌∙◌}
use mathlib.Core.Bool.{Bool, true, false}
use mathlib.Core.List.{List}
use Prim.Native.Nat.{ℕ, suc, ◌+◌, ◌-◌, ◌<◌, ◌≤◌}
use native.Mathlib.Omega.{arith}
use lib.Dec.{ltb}
use lib.ListN.{length}
use borrow.Author.Tests.{ltb-true, ltb-false}
use Rattle.rules.specs.Table.{sequence}
use Rattle.grammar.specs.Written.{Node, kind_number}
use Rattle.tokens.specs.Flat.{two, make, arity, sizes, sequences}
use Rattle.tokens.proofs.NodeLaws.{adds, make_length, sequences_grown}
use Rattle.rule.specs.declared.nodes.Nodes.{Nodes}
use Rattle.rule.specs.inside.Nodes.{Held, Making, Kept, Made, Rowing, RowMade}

pub record Grouping (Ns₀ : Nodes) (k : ℕ) (Ns : Nodes) (i : ℕ) : Type 0 where
  pub going : Ns.count ≤ 1024 → (ns : List Node) → k < length ns → Held ns Ns₀
      → (ms : List Node) × Held ms Ns × (sequences (k - i) ms ≡ sequences k ns)
      × (length ms + i ≡ length ns)
  pub crowd : 1024 < Ns.count → (ns : List Node) → k < length ns → Held ns Ns₀
      → 1024 < sizes (sequences k ns)
  pub kept : Kept Ns₀ Ns
  pub at_most : i ≤ k

-- one sequence more
grouped : (k i : ℕ) (ms : List Node) → i < k → k < length ms + i
    → (sequences (k - i) ms ≡ sequences (k - (i + 1)) (make two sequence 0 ms))
    × (length (make two sequence 0 ms) + (i + 1) ≡ length ms + i)
    × (sizes (make two sequence 0 ms) ≤ sizes (sequences (k - i) ms))
unfolding sequences arity adds
grouped k i ms h p =
    let q : k - i ≡ suc (k - (i + 1)) = omega arith in
    let l = make_length two sequence 0 ms (omega arith) in
    let g = (sequences_grown (k - (i + 1)) (make two sequence 0 ms) (omega arith)).size_most in
    (rw q, omega arith, rw q g)

module _ {Ns₀ : Nodes} {k : ℕ} where
  pub grouping_starts : Rowing Ns₀ k → Grouping Ns₀ k Ns₀ 0
  grouping_starts R =
      let z : k - 0 ≡ k = omega arith in
      record {
        going = λ h ns p H. (ns, H, rw z, omega arith);
        crowd = λ h ns p H. let t = H.count_is in let g = (sequences_grown k ns p).size_most in omega arith;
        kept = record { most = R.most; same = λ e. e };
        at_most = omega arith;
      }

  module _ {Ns : Nodes} {i : ℕ} (G : Grouping Ns₀ k Ns i) where
    pub grouping_makes : Rowing Ns₀ k → i < k → Making Ns two
    unfolding arity
    grouping_makes R h =
        record {
          most = G.kept.most;
          some = λ f.
              let S = R.some (G.kept.same f) in
              let p = S.parts in
              let g = G.going f S.nodes (omega arith) S.held in
              let l = g.3 in
              record { nodes = g.0; held = g.1; parts = omega arith };
        }

    pub grouping_on : {Ns₂ : Nodes} → i < k → Made Ns two 34 0 Ns₂
        → Grouping Ns₀ k Ns₂ (i + 1)
    unfolding kind_number arity
    grouping_on {Ns₂ = Ns₂} h M =
        record {
          going = λ f ns p H.
              let g = G.going (M.kept.same f) ns p H in
              let ms = g.0 in
              let l = g.3 in
              let o = grouped k i ms h (omega arith) in
              (make two sequence 0 ms, (M.become sequence ms refl (omega arith)).held f g.1, sym o.0 ∙ g.2, o.1 ∙ l);
          crowd = λ f ns p H. by f ns p H (ltb 1024 Ns.count) refl;
          kept = record { most = M.kept.most; same = λ e. G.kept.same (M.kept.same e) };
          at_most = omega arith;
        }
      where
        by : 1024 < Ns₂.count → (ns : List Node) → k < length ns → Held ns Ns₀
            → (v : Bool) → ltb 1024 Ns.count ≡ v → 1024 < sizes (sequences k ns)
        by f ns p H true e = G.crowd (ltb-true 1024 Ns.count e) ns p H
        by f ns p H false e =
            let g = G.going (ltb-false 1024 Ns.count e) ns p H in
            let ms = g.0 in
            let l = g.3 in
            let o = grouped k i ms h (omega arith) in
            let big = (M.become sequence ms refl (omega arith)).full f g.1 in
            let grown = o.2 in
            let same = ap sizes g.2 in
            omega arith

    pub grouping_ends : k ≤ i → RowMade Ns₀ k Ns
    unfolding sequences
    grouping_ends h =
        let z : k - i ≡ 0 = omega arith in
        record {
          become = λ ns p. record {
            held = λ e H. let g = G.going e ns p H in let q = rw z at g.2 in rw (← q) g.1;
            full = λ e H. G.crowd e ns p H;
          };
          kept = G.kept;
        }
