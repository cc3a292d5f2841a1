use Rattle.std.proofs.Common.{IsTrue, length, sym, subst}
use Rattle.vrl_value.specs.Regexes.{regexes_below}
use Rattle.vrl_builtin.specs.View.{arguments_of}
use Rattle.fn_search.proofs.Below.{value_below}
use Rattle.fn_search.proofs.matches.MatchOneTag.apply.Goals as goal

pub is_match-requires : goal.is_match-requires
is_match-requires c =
    let count = length c.args.setting.now.searches.now in
    subst (λ v. IsTrue (regexes_below count v)) (sym c.value.ensures) (value_below count 1 (arguments_of c.args.arguments.now) c.requires.regexes)
