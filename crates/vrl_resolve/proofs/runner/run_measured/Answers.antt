use Rattle.std.proofs.Common.{length, sym, ap, subst}
use Rattle.std.specs.Prelude.{IfOk}
use Rattle.vrl_value.specs.Tree.{null}
use Rattle.vrl_value.specs.View.{tree_of}
use Rattle.vrl_builtin.specs.Rows.{SettingTree}
use Rattle.vrl_store.specs.Outcomes.{Ended}
use Rattle.vrl_store.specs.StoreView.{store_in}
use Rattle.vrl_store.specs.WellFormed.{IsWellFormed}
use Rattle.vrl_resolve.specs.Fits.{AllFit}
use Rattle.vrl_resolve.specs.Linked.{parts_view}
use Rattle.vrl_resolve.specs.LinkedMeaning.{items_mean}
use Rattle.vrl_resolve.specs.Program.{program_of, IsWellFormedRan}
use Rattle.vrl_resolve.specs.Walking.{EndsAsked}
use Rattle.vrl_resolve.proofs.RunsWellFormed.{left_is, start_is}
use Rattle.vrl_resolve.proofs.WellFormedValues.{null_is}
use Rattle.vrl_resolve.proofs.runner.run_measured.Goals as goal

pub items-end-requires-clause-ready : goal.items-end-requires-clause-ready
unfolding program_of
items-end-requires-clause-ready c =
    let names = c.args.program.now.names in
    let ready = c.args.program.now.ready in
    let started = c.in_ok-store.ensures names (ap length (sym c.as_slice-count.ensures)) ready.distinct ready.first in
    let event = subst (λ sources. IsWellFormed (length sources) (tree_of c.args.event)) (sym c.requires.searches) c.requires.event in
    let beside = subst (λ sources. IsWellFormed (length sources) (tree_of c.args.metadata)) (sym c.requires.searches) c.requires.metadata in record {
      names = started.1;
      formed = start_is (length c.args.searches.now) (tree_of c.args.event) (tree_of c.args.metadata) (store_in names c.in_ok-store.store) started.0 event beside;
    }

pub returns-clause-below : goal.returns-clause-below
unfolding program_of
returns-clause-below c =
    let names = c.args.program.now.names in
    let ready = c.args.program.now.ready in
    let count = length c.args.searches.now in
    let started = c.in_ok-store.ensures names (ap length (sym c.as_slice-count.ensures)) ready.distinct ready.first in
    let event = subst (λ sources. IsWellFormed (length sources) (tree_of c.args.event)) (sym c.requires.searches) c.requires.event in
    let beside = subst (λ sources. IsWellFormed (length sources) (tree_of c.args.metadata)) (sym c.requires.searches) c.requires.metadata in
    let formed = start_is count (tree_of c.args.event) (tree_of c.args.metadata) (store_in names c.in_ok-store.store) started.0 event beside in
    let setting : SettingTree = record { moment = c.args.moment; sources = c.args.searches.now } in
    let fits = subst (λ sources. AllFit (length names) (length sources) (parts_view c.deref.result.now)) (sym c.requires.searches)
    (subst (λ ns. AllFit (length names) (length c.args.program.now.patterns) (parts_view ns)) (sym c.deref.ensures.value) ready.fits) in
    let meant : Ended = items_mean names setting null (parts_view c.deref.result.now) (store_in names c.in_ok-store.store) in
    let well = c.meanings_stay_well_formed.ensures.items names setting (length names) null (parts_view c.deref.result.now) (store_in names c.in_ok-store.store) (null_is count) fits formed in
    subst (λ sources. IfOk c.left.result (IsWellFormedRan (length sources))) c.requires.searches
    (left_is count c.args.is_asked (λ m. EndsAsked c.args.is_asked m (store_in names c.items-end.new.store) c.items-end.result) c.left.result meant c.left.ensures.ran c.left.ensures.told c.items-end.ensures.ended well)
