use Rattle.std.proofs.Common.{◌<◌, IfSome, length, sym, subst}
use Rattle.std.proofs.lemmas.Result.{IfOk-weaker}
use Rattle.vrl_kind.specs.KindTree.{KindTree}
use Rattle.vrl_kind.specs.Kinds.{tags_at}
use Rattle.vrl_kind.specs.Sets.{SameSets}
use Rattle.vrl_builtin.specs.Rows.{literal_at, regex_given}
use Rattle.vrl_builtin.specs.View.{givens_of}
use Rattle.vrl_builtin.proofs.Containers.{array_made}
use Rattle.fn_search.specs.Fields.{fields_kind}
use Rattle.fn_search.specs.ParseRegex.{names_given, object_kind}
use Rattle.fn_search.proofs.Below.{literal_below}
use Rattle.fn_search.proofs.parse_regex.ParseRegexAllBuiltin.result_kind.Goals as goal

pub object_kind-requires : goal.object_kind-requires
object_kind-requires c =
    let count = length c.args.patterns.now in
    subst (λ number. IfSome number (λ n. n < count)) (sym c.pattern_given.ensures) (literal_below count 1 (givens_of c.args.given.now) c.requires.regexes)

pub returns : goal.returns
returns c =
    let sources = c.args.patterns.now in
    let givens = givens_of c.args.given.now in
    let part = c.in_ok-object.object in
    let same : SameSets (tags_at part) (object_kind sources (literal_at 1 givens) (literal_at 2 givens)) =
    subst (λ numbered. SameSets (tags_at part) (fields_kind (names_given sources (regex_given (literal_at 1 givens))) numbered)) c.numbered_given.ensures
    (subst (λ number. SameSets (tags_at part) (fields_kind (names_given sources number) c.numbered_given.result)) c.pattern_given.ensures c.in_ok-object.ensures) in
    IfOk-weaker c.array_of.result _ _ (λ (kind : KindTree) made. array_made (tags_at part) (object_kind sources (literal_at 1 givens) (literal_at 2 givens)) kind same made) c.array_of.ensures
