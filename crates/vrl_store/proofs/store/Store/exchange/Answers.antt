use Rattle.std.proofs.Common.{◌≡◌, true, ◌∷◌, get_or, set, option_map, rules, sym, ap, ◌∙◌, subst}
use Rattle.std.specs.Prelude.{IfSome}
use Rattle.vrl_value.specs.View.{tree_of}
use Rattle.vrl_store.specs.Kept.{trees_of, AreKept, IsShallow}
use Rattle.vrl_store.proofs.Kept.{both_marked, kept_set}
use Rattle.vrl_store.proofs.StoreReads.{found_map}
use Rattle.vrl_store.proofs.Written.{shallow_found}
use Rattle.vrl_store.proofs.store.Store.exchange.Goals as goal

pub of-requires : goal.of-requires
of-requires c = λ marked.
    let s = c.args.self.now in
    let items = s.variables.items in
    let x = c.index_mut.result.now in
    let here : x ≡ get_or items c.args.number x = search rules in
    subst (λ v. IfSome (option_map tree_of v) IsShallow) (sym c.replace-hidden.ensures.value) (shallow_found items c.args.number x c.requires.known here (s.kept.shallow marked))

pub returns-clause-given : goal.returns-clause-given
returns-clause-given c =
    let items = c.args.self.now.variables.items in
    let x = c.index_mut.result.now in
    let here : x ≡ get_or items c.args.number x = search rules in
    c.of.ensures ∙ ap (option_map tree_of) c.replace-hidden.ensures.value ∙ sym (found_map items c.args.number x c.requires.known here)

pub returns-clause-value : goal.returns-clause-value
returns-clause-value c = ap (set c.args.self.now.variables.items c.args.number) c.replace-hidden.ensures.after

pub invariant_of-self : goal.invariant_of-self
invariant_of-self c =
    let s = c.args.self.now in
    let items = s.variables.items in
    let n = c.args.number in
    let marked : c.both-self.result ≡ true → (s.are_shallow ≡ true) × (c.args.is_shallow ≡ true) = λ now. both_marked s.are_shallow c.args.is_shallow c.both-self.result c.both-self.ensures now in
    let kept = kept_set s.are_shallow c.both-self.result items (0 ∷ s.present.items) n c.args.value (λ now. (marked now).0) s.kept c.requires.there (λ now. c.requires.shallow (marked now).1) in
    record {
      kept = subst (λ x. AreKept c.both-self.result (trees_of (set items n x)) (0 ∷ s.present.items)) (sym c.replace-hidden.ensures.after) kept;
      within = s.within;
      nothing = s.nothing;
    }
