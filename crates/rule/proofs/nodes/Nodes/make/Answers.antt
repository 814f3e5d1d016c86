-- `rule::nodes::Nodes::make` meets its contract.
use mathlib.Core.Path.{refl}
use native.Mathlib.Omega.{arith}
use borrow.Author.Rules.{rules}
use Rattle.rule.proofs.MakeLaws.{make_base, make_full, make_writes, make_made}
use Rattle.rule.proofs.nodes.Nodes.make.Goals as goal

pub returns-then-full : goal.returns-then-full
returns-then-full c = make_full c.args.form c.requires c.if-full.true

pub overflow_sub-base : goal.overflow_sub-base
overflow_sub-base c = let l = c.if-full.false in make_base c.requires (omega arith) c.arity-n.ensures

pub write-requires : goal.write-requires
write-requires c = let l = c.if-full.false in make_writes c.requires (omega arith) c.arity-n.ensures refl

pub returns : goal.returns
returns c = let l = c.if-full.false in make_made c.args.form c.requires (search rules) (search rules) (omega arith) c.arity-n.ensures refl c.write.ensures
