use Rattle.std.proofs.Common.{◌≡◌, ◌<◌, [], ◌∷◌, ◌++◌, length, None, rules, sym, subst, arith}
use Rattle.vrl_store.specs.Kept.{trees_of, AreKept, ArePresent}
use Rattle.vrl_store.specs.StoreView.{Stay}
use Rattle.vrl_store.proofs.LastEnded.{kept_ended, last_within, stay_ended}
use Rattle.vrl_store.proofs.StoreReads.{length_map, map_set}
use Rattle.vrl_store.proofs.store.Store.end_last.Goals as goal

pub index_mut-requires : goal.index_mut-requires
index_mut-requires c =
    let s = c.args.self.now in
    let is : s.present.items ≡ c.pop.new.self.items ++ c.in-Some.number ∷ [] = search rules in
    let within = last_within (trees_of s.variables.items) (0 ∷ c.pop.new.self.items) c.in-Some.number (subst (λ ps. ArePresent (trees_of s.variables.items) (0 ∷ ps)) is c.args.self.now.kept.present) in
    let mapped = length_map s.variables.items in
    let is_length : c.in-Some.number < length s.variables.items = omega arith in
    search rules

pub returns-in-Some-clause-stay : goal.returns-in-Some-clause-stay
returns-in-Some-clause-stay c =
    let s = c.args.self.now in
    let vs = trees_of s.variables.items in
    let is : s.present.items ≡ c.pop.new.self.items ++ c.in-Some.number ∷ [] = search rules in
    let stay = stay_ended vs (0 ∷ c.pop.new.self.items) c.in-Some.number (subst (λ ps. ArePresent vs (0 ∷ ps)) is c.args.self.now.kept.present) in
    subst (λ ws. Stay vs ws (0 ∷ c.pop.new.self.items)) (sym (map_set s.variables.items c.in-Some.number None)) stay

pub invariant_of-self : goal.invariant_of-self
invariant_of-self c =
    let s = c.args.self.now in
    let is : s.present.items ≡ c.pop.new.self.items ++ c.in-Some.number ∷ [] = search rules in
    let kept = kept_ended s.are_shallow s.variables.items (0 ∷ c.pop.new.self.items) c.in-Some.number (subst (λ ps. AreKept s.are_shallow (trees_of s.variables.items) (0 ∷ ps)) is s.kept) in
    record { kept = kept; within = s.within; nothing = s.nothing }
