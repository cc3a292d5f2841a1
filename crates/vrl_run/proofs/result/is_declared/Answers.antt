use Rattle.std.proofs.Common.{◌≡◌, ◌∙◌, refl, rules, sym}
use Rattle.vrl_value.specs.Tree.{object}
use Rattle.vrl_value.specs.View.{members_of, tree_of}
use Rattle.vrl_value.specs.declared.value.Value.{the_lemmas}
use Rattle.vrl_run.proofs.JsonObjects.{object_is_taken}
use Rattle.vrl_run.proofs.result.is_declared.Goals as goal

pub returns-then-takes_json_objects : goal.returns-then-takes_json_objects
returns-then-takes_json_objects c =
    let whole : tree_of c.args.event.now ≡ object (members_of c.in-Object._members) = search (rules, the_lemmas) in
    let taken = object_is_taken _ _ c.args.declared.now whole c.requires.json (sym c.takes_json_objects.ensures ∙ c.if-takes_json_objects.true) in
    (λ is. taken, λ inhabits. refl)
