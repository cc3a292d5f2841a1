use Rattle.std.proofs.Common.{◌≡◌, true, [], ◌∷◌, ◌++◌, set, Some, rules, sym, subst}
use Rattle.vrl_store.specs.Kept.{trees_of, AreKept}
use Rattle.vrl_store.proofs.Kept.{both_marked, kept_more}
use Rattle.vrl_store.proofs.store.Store.begin.Goals as goal

pub invariant_of-self-2 : goal.invariant_of-self-2
invariant_of-self-2 c =
    let s = c.args.self.now in
    let items = s.variables.items in
    let is : c.push.new.self.items ≡ s.present.items ++ c.args.number ∷ [] = search rules in
    let marked : c.both-self.result ≡ true → (s.are_shallow ≡ true) × (c.args.is_shallow ≡ true) = λ now. both_marked s.are_shallow c.args.is_shallow c.both-self.result c.both-self.ensures now in
    let kept = kept_more s.are_shallow c.both-self.result items (0 ∷ s.present.items) c.args.number c.args.value (λ now. (marked now).0) s.kept c.requires.known c.requires.absent (λ now. c.requires.shallow (marked now).1) in
    record { kept = subst (λ ps. AreKept c.both-self.result (trees_of (set items c.args.number (Some c.args.value))) (0 ∷ ps)) (sym is) kept; within = s.within; nothing = s.nothing }
