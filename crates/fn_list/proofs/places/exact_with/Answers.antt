use Rattle.std.proofs.Common.{rules, [], ◌∷◌, ◌≡◌, ◌++◌}
use Rattle.std.proofs.lemmas.Result.{IfOk-weaker}
use Rattle.vrl_kind.specs.KindTree.{KindTree}
use Rattle.fn_list.proofs.Widening.{exact_told}
use Rattle.fn_list.proofs.places.exact_with.Goals as goal

pub returns : goal.returns
returns c =
    let last : c.push.new.self.items ≡ c.push_kinds.new.kinds.items ++ c.args.last.now ∷ [] = search rules in
    IfOk-weaker c.list.result _ _
    (λ (kind : KindTree) same. exact_told c.args.first.now (c.args.last.now ∷ []) c.in_ok-kinds.kinds.items c.push_kinds.new.kinds.items c.push.new.self.items kind (search rules) (search rules) last same) c.list.ensures
