use Rattle.std.proofs.Common.{◌≡◌, ◌∙◌, ap, rules, sym, true}
use Rattle.vrl_kind.specs.Canonical.{object_tree}
use Rattle.vrl_kind.specs.KindTree.{object_part}
use Rattle.vrl_kind.specs.View.{fields_of, rest_of}
use Rattle.vrl_run.specs.JsonObjects.{are_json_objects, is_json_rest}
use Rattle.vrl_run.proofs.JsonObjects.{no_field_known}
use Rattle.vrl_run.proofs.result.takes_json_objects.Goals as goal

pub returns : goal.returns
returns c =
    let rest = rest_of c.in-Some.rest.now in
    let told : object_tree c.args.declared.now ≡ object_part (fields_of c.in-Some.fields.now) rest = search rules in
    let holds : is_json_rest rest ≡ true = search rules in
    no_field_known c.as_slice.result.now rest c.is_empty.result c.is_empty.ensures holds
    ∙ ap (λ fields. are_json_objects (object_part fields rest)) c.as_slice.ensures
    ∙ ap are_json_objects (sym told)
