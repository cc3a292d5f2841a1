use Rattle.std.proofs.Common.{◌≡◌, [], ap, length, sym, ◌∙◌, subst}
use Rattle.std.proofs.lemmas.Bool.{eqb-true}
use Rattle.vrl_judge.specs.Rules.{IsReadAt}
use Rattle.vrl_judge.proofs.Deleted.{empty_list}
use Rattle.vrl_judge.proofs.RootKinds.{read_whole}
use Rattle.vrl_judge.proofs.kinds.read_root.Goals as goal

pub returns-then-is_empty : goal.returns-then-is_empty
returns-then-is_empty c =
    let none : length c.as_slice.result.now ≡ 0 = eqb-true (length c.as_slice.result.now) 0 (sym c.is_empty.ensures ∙ c.if-is_empty.true) in
    let empty : c.args.path.now ≡ [] = empty_list c.args.path.now (ap length (sym c.as_slice.ensures) ∙ none) in
    subst (IsReadAt c.args.kind.value c.args.path.now) (sym c.of.ensures) (subst (λ path. IsReadAt c.args.kind.value path c.args.kind.value) (sym empty) (read_whole c.args.kind.value c.requires))
