use Rattle.std.proofs.Common.{◌<◌, IfSome, length, sym, subst}
use Rattle.vrl_builtin.specs.View.{givens_of}
use Rattle.fn_search.proofs.Below.{literal_below}
use Rattle.fn_search.proofs.parse_regex.ParseRegexBuiltin.result_kind.Goals as goal

pub object_kind-requires : goal.object_kind-requires
object_kind-requires c =
    let count = length c.args.patterns.now in
    subst (λ number. IfSome number (λ n. n < count)) (sym c.pattern_given.ensures) (literal_below count 1 (givens_of c.args.given.now) c.requires.regexes)
