use Rattle.std.proofs.Common.{◌<◌, IfSome, length, sym, subst}
use Rattle.vrl_builtin.specs.View.{arguments_of}
use Rattle.fn_search.proofs.Below.{regex_below}
use Rattle.fn_search.proofs.parse_regex.ParseRegexAllBuiltin.apply.Goals as goal

pub all_parsed-requires : goal.all_parsed-requires
all_parsed-requires c =
    let count = length c.args.setting.now.searches.now in
    subst (λ number. IfSome number (λ n. n < count)) (sym c.optional_regex-pattern.ensures) (regex_below count 1 (arguments_of c.args.arguments.now) c.requires.regexes)
