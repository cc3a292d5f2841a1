use Rattle.std.proofs.Common.{◌≡◌, [], ◌∷◌, Some, arith, refl, rules, sym, subst}
use Rattle.vrl_value.specs.View.{tree_of}
use Rattle.vrl_store.specs.Kept.{trees_of, AreKept, IsShallow}
use Rattle.vrl_store.proofs.FirstVariable.{some_named}
use Rattle.vrl_store.proofs.Started.{IsAlone, alone_first, alone_more, kept_started, started}
use Rattle.vrl_store.proofs.store.Store.start.Goals as goal

pub loop-init : goal.loop-init
loop-init c = record {
  alone =
      let is : c.push.new.self.items ≡ Some c.args.metadata ∷ [] = search rules in
      subst (IsAlone c.args.metadata) (sym is) (alone_first c.args.metadata);
  as_many = search rules;
  event = refl;
}

pub loop-preserved : goal.loop-preserved
loop-preserved c = record {
  alone = subst (IsAlone c.args.metadata) (sym c.in_ok-push-2.ensures.items) (alone_more c.args.metadata c.loop.variables.items c.loop.invariant.alone);
  as_many = search rules;
  event = c.loop.invariant.event;
}

pub returns : goal.returns
returns c = λ names as_many distinct begins.
    let some = some_named names begins in (
      started names _ c.args.event c.args.metadata c.loop.variables.items begins c.loop.invariant.alone c.loop.invariant.event,
      record { as_many = omega arith; distinct = distinct; first = begins },
    )

pub invariant_of-result : goal.invariant_of-result
invariant_of-result c =
    let items = c.loop.variables.items in
    let none : c.new.result.items ≡ [] = search rules in
    record {
      kept = subst (λ ps. AreKept c.args.are_shallow (trees_of items) (0 ∷ ps)) (sym none) (kept_started c.args.are_shallow c.args.metadata items c.loop.invariant.alone (λ marked. (c.requires marked).1));
      within = λ marked. subst (λ v. IsShallow (tree_of v)) (sym c.loop.invariant.event) (c.requires marked).0;
      nothing = refl;
    }
