use Rattle.std.proofs.Common.{length, map, sym, subst}
use Rattle.vrl_builtin.specs.View.{arguments_of, setting_of}
use Rattle.vrl_table.specs.Table.{row_of}
use Rattle.vrl_store.specs.StoreView.{store_in}
use Rattle.vrl_resolve.specs.Linked.{linked_of}
use Rattle.vrl_resolve.specs.Looks.{AreReadable}
use Rattle.vrl_resolve.proofs.Called.{arguments_fit, readable_are, regexes_below_all}
use Rattle.vrl_resolve.proofs.calls.call_function.Goals as goal

pub arguments-requires-clause-readable : goal.arguments-requires-clause-readable
arguments-requires-clause-readable c =
    let nodes = map linked_of c.args.args.now in
    let names = c.args.context.now.names.now in
    let readable : AreReadable (length names) nodes = readable_are (length names) (length c.args.context.now.setting.searches.now) nodes c.requires.fits in
    subst (λ count. AreReadable count nodes) (sym c.requires.names.as_many) readable

pub answer-requires-clause-arguments : goal.answer-requires-clause-arguments
answer-requires-clause-arguments c = λ fit.
    let names = c.args.context.now.names.now in
    let one = c.in_ok-arguments.ensures names c.requires.names in
    arguments_fit (row_of c.args.function) names (store_in names c.args.store.now) c.args.run.now c.args.args.now c.args.places.now (arguments_of c.in_ok-arguments.arguments)
    c.requires.of_args c.requires.given one fit

pub answer-requires-clause-regexes : goal.answer-requires-clause-regexes
answer-requires-clause-regexes c =
    let names = c.args.context.now.names.now in
    let one = c.in_ok-arguments.ensures names c.requires.names in
    regexes_below_all c.meanings_stay_well_formed.ensures names (setting_of c.args.context.now.setting) (store_in names c.args.store.now) c.args.run.now c.args.args.now c.args.places.now
    (arguments_of c.in_ok-arguments.arguments) c.requires.fits c.requires.plain c.requires.run c.requires.formed one
