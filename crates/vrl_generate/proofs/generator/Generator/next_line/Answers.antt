use Rattle.std.proofs.Common.{sym, ◌∙◌, arith}
use Rattle.vrl_generate.proofs.Coming.{none_behind, one_behind}
use Rattle.vrl_generate.proofs.generator.Generator.next_line.Goals as goal

pub returns-then-self-eq0-clause-next : goal.returns-then-self-eq0-clause-next
returns-then-self-eq0-clause-next c =
    let none = none_behind c.self.inside.made c.self.inside.state c.self.inside.left c.if-self-eq0.true in
    (sym c.self.view_is ∙ none, sym c.self.view_is ∙ none)

pub returns-clause-next : goal.returns-clause-next
returns-clause-next c =
    let one = one_behind c.self.inside.made c.self.inside.state c.self.inside.left (omega arith) in
    rw (c.in_ok-line.ensures, c.state_after-state.ensures) (sym c.self.view_is ∙ one)
