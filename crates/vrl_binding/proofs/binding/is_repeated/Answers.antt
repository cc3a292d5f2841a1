use Rattle.vrl_binding.proofs.Keywords.{repeated}
use Rattle.vrl_binding.proofs.binding.is_repeated.Goals as goal

pub returns-in-Some : goal.returns-in-Some
returns-in-Some c = rw (c.in-Some.is, c.some_has_keyword.ensures) (repeated c.args.others.now _ _ c.as_str.ensures)
