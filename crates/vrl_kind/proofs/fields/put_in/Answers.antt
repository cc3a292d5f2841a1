use Rattle.std.proofs.Common.{◌≡◌, refl, sym, ap, ◌∙◌}
use Rattle.vrl_kind.specs.Canonical.{rest_kind}
use Rattle.vrl_kind.specs.View.{rest_of}
use Rattle.vrl_kind.proofs.Inclusion.{none}
use Rattle.vrl_kind.proofs.Placing.{canonical_left, canonical_put, object_left, object_put}
use Rattle.vrl_kind.proofs.fields.put_in.Goals as goal

pub returns-then-is_as_seen-clause-put : goal.returns-then-is_as_seen-clause-put
returns-then-is_as_seen-clause-put c =
    let rest = rest_of c.args.part.now.rest in
    let same : c.args.kind ≡ rest_kind rest = c.if-is_as_seen.ensures.0 refl ∙ c.of_rest.ensures.tree ∙ ap rest_kind c.as_part.ensures in
    object_left c.args.name.now c.args.kind _ _ rest same c.leave_out.ensures

pub returns-then-is_as_seen-clause-canonical : goal.returns-then-is_as_seen-clause-canonical
returns-then-is_as_seen-clause-canonical c = canonical_left c.args.name.now _ _ (rest_of c.args.part.now.rest) c.leave_out.ensures c.requires.objects

pub returns-clause-put : goal.returns-clause-put
returns-clause-put c =
    let rest = rest_of c.args.part.now.rest in
    object_put c.args.name.now c.args.kind _ _ rest (c.in_ok-put_known.ensures.put.at (rest_kind rest))

pub returns-clause-canonical : goal.returns-clause-canonical
returns-clause-canonical c =
    let rest = rest_of c.args.part.now.rest in
    canonical_put c.args.name.now c.args.kind _ _ rest
    (λ e. none _ (c.if-is_as_seen.ensures.1 (e ∙ sym (c.of_rest.ensures.tree ∙ ap rest_kind c.as_part.ensures)))) c.in_ok-put_known.ensures.put c.requires.objects
