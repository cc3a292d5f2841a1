use Rattle.std.proofs.Common.{true, false, sym, ◌∙◌}
use Rattle.fn_object.proofs.Faults.{write_told}
use Rattle.fn_object.proofs.paths.write_fault.Goals as goal

pub returns-then-are_writable : goal.returns-then-are_writable
returns-then-are_writable c =
    write_told c.args.elements.now true (sym c.is_empty.ensures ∙ c.if-is_empty.false) c.if-elements-gt-STEP_LIMIT.false (sym c.are_writable.ensures ∙ c.if-are_writable.true)

pub returns-else-are_writable : goal.returns-else-are_writable
returns-else-are_writable c =
    write_told c.args.elements.now false (sym c.is_empty.ensures ∙ c.if-is_empty.false) c.if-elements-gt-STEP_LIMIT.false (sym c.are_writable.ensures ∙ c.if-are_writable.false)
