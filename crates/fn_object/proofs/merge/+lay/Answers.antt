use Rattle.std.proofs.Common.{◌∙◌}
use Rattle.vrl_value.specs.View.{members_of, tree_of}
use Rattle.vrl_path.proofs.Options.{from_some, on_ok}
use Rattle.fn_object.proofs.Laid.{laid_field}
use Rattle.fn_object.proofs.merge.+lay.Goals as goal

pub lay_field-returns-in-Some : goal.lay_field-returns-in-Some
lay_field-returns-in-Some t c =
    let w = c.lay_over.new.old in
    let lent = from_some c.get_mut.result c.in-Some.part _ c.in-Some.is (c.get_mut.follows.holds w) in
    on_ok c.lay_over.result _ _ (λ laid. lent ∙ laid_field c.args.name.now (members_of c.args.fields.now) (tree_of c.args.value.now) (tree_of c.in-Some.part.now) (tree_of w) c.in-Some.ensures.value laid) c.lay_over.ensures
