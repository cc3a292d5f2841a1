use Rattle.std.proofs.Common.{◌∙◌, Some, None, refl, sym, ap, map}
use Rattle.std.specs.declared.result.Result.TheVariants.{Ok}
use Rattle.vrl_builtin.specs.View.{parameter_row}
use Rattle.vrl_binding.specs.Binding.{first_missing, names_of}
use Rattle.vrl_binding.proofs.Keywords.{bound_seen, known_bound, places_bound, unknown_place, wrong_bound}
use Rattle.vrl_binding.proofs.binding.bind_to.Goals as goal

pub returns-then-is_wrong_number : goal.returns-then-is_wrong_number
returns-then-is_wrong_number c =
    let ps = c.args.parameters.now in
    let gs = c.as_slice-arguments.result.now in
    sym (bound_seen _ _ ps gs refl c.as_slice-arguments.ensures
    ∙ wrong_bound (map parameter_row ps) (names_of gs) (sym c.is_wrong_number.ensures ∙ c.if-is_wrong_number.true))

pub returns-in-Some : goal.returns-in-Some
returns-in-Some c =
    let ps = c.args.parameters.now in
    let gs = c.as_slice-arguments.result.now in
    sym (bound_seen _ _ ps gs refl c.as_slice-arguments.ensures
    ∙ known_bound (map parameter_row ps) (names_of gs) (Some c.in-Some.place) (sym c.is_wrong_number.ensures ∙ c.if-is_wrong_number.false)
    (sym (unknown_place ps gs) ∙ sym c.first_unknown.ensures ∙ c.in-Some.is))

pub returns-in-Some-first_missing : goal.returns-in-Some-first_missing
returns-in-Some-first_missing c =
    let ps = c.args.parameters.now in
    let gs = c.as_slice-arguments.result.now in
    sym (bound_seen _ _ ps gs refl c.as_slice-arguments.ensures
    ∙ places_bound (map parameter_row ps) (names_of gs) (Some c.in-Some-first_missing.place) c.in_ok-places.places.items
    (sym c.is_wrong_number.ensures ∙ c.if-is_wrong_number.false)
    (sym (unknown_place ps gs) ∙ sym c.first_unknown.ensures ∙ c.in_default.is)
    c.in_ok-places.ensures
    (ap (λ found. first_missing (map parameter_row ps) found) (sym c.deref.ensures.value) ∙ sym c.first_missing.ensures ∙ c.in-Some-first_missing.is))

pub returns-in-None : goal.returns-in-None
returns-in-None c =
    let ps = c.args.parameters.now in
    let gs = c.as_slice-arguments.result.now in
    ap Ok c.new.ensures
    ∙ sym (bound_seen _ _ ps gs refl c.as_slice-arguments.ensures
    ∙ places_bound (map parameter_row ps) (names_of gs) None c.in_ok-places.places.items
    (sym c.is_wrong_number.ensures ∙ c.if-is_wrong_number.false)
    (sym (unknown_place ps gs) ∙ sym c.first_unknown.ensures ∙ c.in_default.is)
    c.in_ok-places.ensures
    (ap (λ found. first_missing (map parameter_row ps) found) (sym c.deref.ensures.value) ∙ sym c.first_missing.ensures ∙ c.in-None.is))
