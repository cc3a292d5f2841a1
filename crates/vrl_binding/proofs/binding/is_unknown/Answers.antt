use Rattle.vrl_binding.proofs.Keywords.{unknown}
use Rattle.vrl_binding.proofs.binding.is_unknown.Goals as goal

pub returns-in-Some : goal.returns-in-Some
returns-in-Some c = rw (c.in-Some.is, c.some_is_name.ensures) (unknown c.args.parameters.now _ _ c.as_str.ensures)
