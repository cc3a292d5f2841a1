use Rattle.std.proofs.Common.{◌∙◌}
use Rattle.vrl_syntax.specs.View.{exprs_of}
use Rattle.vrl_resolve.specs.Linked.{parts_view}
use Rattle.vrl_resolve.specs.Program.{program_of}
use Rattle.vrl_resolve.proofs.LinkedPrograms.{linked_is_program, linked_is_ready}
use Rattle.vrl_resolve.proofs.program.Program.link.Goals as goal

pub invariant_of-result : goal.invariant_of-result
invariant_of-result c =
    record {
      ready = linked_is_ready c.in_ok-linker.linker c.items.new.self _ c.in_ok-names.names (exprs_of c.args.script.items) (parts_view c.in_ok-items.items.items) c.args.script.patterns c.args.patterns
          c.in_ok-items.ensures c.in_ok-linker.ensures.names c.in_ok-names.ensures.names c.in_ok-names.ensures.distinct c.requires.patterns c.requires.limits c.requires.regexes;
    }

pub returns : goal.returns
unfolding program_of
returns c =
    linked_is_program c.in_ok-linker.linker c.items.new.self _ c.in_ok-names.names c.args.empties.now (exprs_of c.args.script.items) (parts_view c.in_ok-items.items.items) c.args.patterns
    c.in_ok-items.ensures c.in_ok-names.ensures.names (c.in_ok-linker.ensures.tags ∙ c.as_slice.ensures)
