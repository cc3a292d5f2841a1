use Rattle.std.proofs.Common.{IsTrue, length, sym, subst}
use Rattle.vrl_value.specs.Regexes.{items_regexes_below}
use Rattle.vrl_builtin.specs.View.{arguments_of}
use Rattle.fn_search.proofs.Below.{parts_below}
use Rattle.fn_search.proofs.match_any.MatchAnyOneTag.apply.Goals as goal

pub answer-requires : goal.answer-requires
answer-requires c =
    let count = length c.args.setting.now.searches.now in
    subst (λ ts. IsTrue (items_regexes_below count ts)) (sym c.items.ensures) (parts_below count 1 (arguments_of c.args.arguments.now) c.requires.regexes)
