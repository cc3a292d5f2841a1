use Rattle.std.proofs.Common.{true, false, sym, ◌∙◌}
use Rattle.fn_object.proofs.Faults.{removal_told}
use Rattle.fn_object.proofs.paths.removal_fault.Goals as goal

pub returns-then-are_plain : goal.returns-then-are_plain
returns-then-are_plain c = removal_told c.args.elements.now true (sym c.is_empty.ensures ∙ c.if-is_empty.false) (sym c.are_plain.ensures ∙ c.if-are_plain.true)

pub returns-else-are_plain : goal.returns-else-are_plain
returns-else-are_plain c = removal_told c.args.elements.now false (sym c.is_empty.ensures ∙ c.if-is_empty.false) (sym c.are_plain.ensures ∙ c.if-are_plain.false)
