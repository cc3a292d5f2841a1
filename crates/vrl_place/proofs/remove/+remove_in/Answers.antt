use Rattle.std.proofs.Common.{◌≡◌, [], ◌∷◌, false, length, refl, sym, ◌∙◌, subst, true, arith}
use Rattle.std.proofs.lemmas.Bool.{true≢false}
use Rattle.std.proofs.lemmas.Bool.Decides.{nat_tests}
use Rattle.std.proofs.lemmas.Result.{on_err_weaker, on_ok_weaker}
use Rattle.std.specs.Result.{OnErr, OnOk}
use Rattle.vrl_value.specs.Look.{field}
use Rattle.vrl_value.specs.declared.value.Tag.TheVariants as tag
use Rattle.vrl_path.specs.declared.path.Step.{Step as CodeStep}
use Rattle.vrl_path.specs.declared.path.Step.TheVariants.{Field}
use Rattle.vrl_kind.specs.Fields.{knows_field, put_at}
use Rattle.vrl_kind.specs.Kinds.{tags_at}
use Rattle.vrl_kind.specs.Sets.{SameSets}
use Rattle.vrl_place.specs.Remove.{IsRemoval}
use Rattle.vrl_place.proofs.InPlace.{removed_known, restored, taken_root}
use Rattle.vrl_place.proofs.Removing.{kept_field, taken_last}
use Rattle.vrl_place.proofs.remove.+remove_in.Goals as goal

pub remove_behind-returns-then-not-has-clause-ok : goal.remove_behind-returns-then-not-has-clause-ok
remove_behind-returns-then-not-has-clause-ok t c = kept_field (tags_at c.args.kind.now) c.args.name.now c.args.behind.now c.args.kind.now (sym c.has.ensures ∙ c.if-not-has.true) (λ p u. refl)

pub remove_behind-returns-then-is_empty-clause-ok : goal.remove_behind-returns-then-is_empty-clause-ok
remove_behind-returns-then-is_empty-clause-ok t c =
    let none : length {A = CodeStep} c.args.behind.now ≡ 0 = grind (arith, nat_tests, c.is_empty.ensures, c.if-is_empty.true) in
    on_ok_weaker c.remove_whole_field.result
    (λ same. taken_last (tags_at c.args.kind.now) (tags_at c.remove_whole_field.new.kind) (field c.args.name.now) c.args.behind.now (λ part left. IsRemoval part c.args.behind.now left) none same) c.remove_whole_field.ensures.ok

pub remove_part-remove_in_known-requires : goal.remove_part-remove_in_known-requires
remove_part-remove_in_known-requires t c =
    (omega (arith, c.decreases), (c.requires.some, (c.in-Some.ensures.known, taken_root c.args.name.now c.args.kind.now c.take_field.new.self c.in-Some.part tag.Object c.in-Some.ensures c.requires.object)))

pub remove_part-returns-in-Some-clause-ok : goal.remove_part-returns-in-Some-clause-ok
remove_part-returns-in-Some-clause-ok t c = on_ok_weaker c.remove_in_known.result (λ f. f c.args.kind.now c.in-Some.ensures) c.remove_in_known.ensures.ok

pub remove_part-returns-in-Some-clause-err : goal.remove_part-returns-in-Some-clause-err
remove_part-returns-in-Some-clause-err t c = on_err_weaker c.remove_in_known.result (λ f. f c.args.kind.now c.kind_is_canonical.ensures c.in-Some.ensures) c.remove_in_known.ensures.err

pub remove_in_known-returns-clause-ok : goal.remove_in_known-returns-clause-ok
remove_in_known-returns-clause-ok t c = on_ok_weaker c.remove_in-removed.result
    (λ inner whole taken. removed_known whole c.args.kind.now c.args.part (tags_at c.remove_in-removed.new.kind) (tags_at c.put_field.new.self) c.args.behind.now c.args.name.now c.requires.some taken inner c.in_ok-put_field.ensures.put)
    c.remove_in-removed.ensures.ok

pub remove_in_known-returns-clause-err : goal.remove_in_known-returns-clause-err
remove_in_known-returns-clause-err t c = on_err_weaker c.remove_in-removed.result
    (λ same whole canonical taken. c.equal_tags_are_one_kind.ensures c.put_field.new.self whole c.kind_is_canonical.ensures canonical
    (restored c.args.name.now whole c.args.kind.now c.args.part c.put_field.new.self taken
    (subst (λ P. SameSets (tags_at c.put_field.new.self) (put_at c.args.name.now (tags_at P) (tags_at c.args.kind.now))) same c.in_ok-put_field.ensures.put)))
    c.remove_in-removed.ensures.err

pub remove_behind-remove_whole_field-requires : goal.remove_behind-remove_whole_field-requires
remove_behind-remove_whole_field-requires t c = sym c.has.ensures ∙ c.if-not-has.false

pub remove_part-remove_in_others-requires-clause-object : goal.remove_part-remove_in_others-requires-clause-object
remove_part-remove_in_others-requires-clause-object t c = subst (λ T. tags_at T [] tag.Object ≡ true) (sym c.in-None.ensures.0) c.requires.object

pub remove_part-remove_in_others-requires-clause-unknown : goal.remove_part-remove_in_others-requires-clause-unknown
remove_part-remove_in_others-requires-clause-unknown t c = subst (λ T. knows_field c.args.name.now T ≡ false) (sym c.in-None.ensures.0) c.in-None.ensures.1

pub remove_part-returns-in-None-clause-ok : goal.remove_part-returns-in-None-clause-ok
remove_part-returns-in-None-clause-ok t c =
    subst (λ T. OnOk c.remove_in_others.result (IsRemoval (tags_at T) (Field c.args.name.now ∷ c.args.behind.now) (tags_at c.remove_in_others.new.kind))) c.in-None.ensures.0 c.remove_in_others.ensures.ok

pub remove_part-returns-in-None-clause-err : goal.remove_part-returns-in-None-clause-err
remove_part-returns-in-None-clause-err t c = subst (λ T. OnErr c.remove_in_others.result (c.remove_in_others.new.kind ≡ T)) c.in-None.ensures.0 c.remove_in_others.ensures.err

pub remove_in_known-returns-in_err-put_field-clause-err : goal.remove_in_known-returns-in_err-put_field-clause-err
remove_in_known-returns-in_err-put_field-clause-err t c = absurd (true≢false (sym (c.in_err-put_field.ensures.known c.requires.known)))
