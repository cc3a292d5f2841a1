use Rattle.std.proofs.Common.{rules, ◌≡◌, [], ◌∷◌}
use Rattle.std.proofs.lemmas.Result.{IfOk-weaker}
use Rattle.vrl_kind.specs.KindTree.{KindTree}
use Rattle.fn_list.proofs.Widening.{pair_told}
use Rattle.fn_list.proofs.zip.pair_kind.Goals as goal

pub returns : goal.returns
returns c =
    let both : c.push-2.new.self.items ≡ c.args.first ∷ c.args.second ∷ [] = search rules in
    IfOk-weaker c.list.result _ _ (λ (kind : KindTree) same. pair_told c.args.first c.args.second kind c.push-2.new.self.items both same) c.list.ensures
