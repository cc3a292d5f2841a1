use Rattle.std.proofs.Common.{ap, ◌∙◌}
use Rattle.std.specs.List.{list_all}
use Rattle.fn_object.specs.Paths.{is_writable}
use Rattle.fn_object.specs.Unflatten.{pieces_of}
use Rattle.fn_object.proofs.Splitting.{all_writable}
use Rattle.fn_object.proofs.unflatten.put_name.Goals as goal

pub put_at-requires : goal.put_at-requires
put_at-requires c = ap (list_all is_writable) (c.new-path.ensures ∙ c.in_ok-steps_of.ensures) ∙ all_writable (pieces_of c.args.separator.now c.args.name.now)
