use Rattle.std.proofs.Common.{Option, true≢false, IsOk, IsSome, sym, subst, IsTrue}
use Rattle.vrl_value.specs.Tree.{Tree, members_are_json}
use Rattle.vrl_value.specs.View.{members_of, tree_of}
use Rattle.vrl_value.proofs.Find.{none_found}
use Rattle.vrl_value.proofs.Put.{members_of-insert_entry, members_are_json-put}
use Rattle.vrl_value.proofs.value.Fields.insert.Goals as goal

pub returns-clause-ok : goal.returns-clause-ok
returns-clause-ok c = members_of-insert_entry c.args.self.now c.insert.new.self c.into_string.result c.args.name c.args.value c.in_ok-insert.ensures.entries c.into_string.ensures

pub returns-clause-json : goal.returns-clause-json
returns-clause-json c = λ new before.
    let entries = members_of-insert_entry c.args.self.now c.insert.new.self c.into_string.result c.args.name c.args.value c.in_ok-insert.ensures.entries c.into_string.ensures in
    subst (λ ms. IsTrue (members_are_json ms)) (sym entries) (members_are_json-put c.args.name (tree_of c.args.value) (members_of c.args.self.now) new before)

pub returns-in_err-insert-clause-there : goal.returns-in_err-insert-clause-there
returns-in_err-insert-clause-there c =
    subst (λ (found : Option Tree). IsSome found → IsOk c.from_residual.result) (sym (none_found c.args.name c.args.self.now c.into_string.result c.in_err-insert.ensures.absent c.into_string.ensures)) (λ none. absurd (true≢false (sym none)))
