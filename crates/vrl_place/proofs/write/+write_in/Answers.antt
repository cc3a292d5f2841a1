use Rattle.std.proofs.Common.{◌≡◌, [], ◌∷◌, ap, false, length, refl, sym, ◌∙◌, subst, true, arith}
use Rattle.std.proofs.lemmas.Bool.{true≢false}
use Rattle.std.proofs.lemmas.Bool.Decides.{nat_tests}
use Rattle.std.proofs.lemmas.Result.{on_err_weaker, on_ok_weaker}
use Rattle.std.specs.Result.{OnErr, OnOk}
use Rattle.vrl_value.specs.declared.value.Tag.TheVariants as tag
use Rattle.vrl_path.specs.declared.path.Step.{Step as CodeStep}
use Rattle.vrl_path.specs.declared.path.Step.TheVariants.{Field}
use Rattle.vrl_kind.specs.Fields.{knows_field, put_at}
use Rattle.vrl_kind.specs.Kinds.{tags_at}
use Rattle.vrl_kind.specs.Sets.{SameSets}
use Rattle.vrl_place.specs.Inner.{spot_sets}
use Rattle.vrl_place.specs.Sets.{is_alone}
use Rattle.vrl_place.specs.Write.{IsWrite}
use Rattle.vrl_place.proofs.InPlace.{alone_as, alone_there, restored, taken_root, written_alone, written_known}
use Rattle.vrl_place.proofs.Removing.{no_steps}
use Rattle.vrl_place.proofs.write.+write_in.Goals as goal

pub write_in-write_in_field-requires : goal.write_in-write_in_field-requires
write_in-write_in_field-requires t c = (
  omega (arith, c.decreases, c.in-Some-Field-default.ensures.cases.1),
  alone_as (spot_sets c.of.result) (tags_at c.args.kind.now) tag.Object _ c.of.ensures c.is_alone.ensures c.if-not-is_alone.false,
)

pub write_in-returns-else-not-is_alone-clause-ok : goal.write_in-returns-else-not-is_alone-clause-ok
write_in-returns-else-not-is_alone-clause-ok t c =
    let behind = c.in-Some-Field-default.behind.now in
    let whole : c.args.steps.now ≡ Field c.in-Some-Field-default.name ∷ behind = c.in-Some-Field-default.ensures.cases.0 ∙ ap (λ s. s ∷ behind) c.in-Some-Field-default.field-0-0-is in
    subst (λ p. OnOk c.write_in_field.result (IsWrite (tags_at c.args.kind.now) p (tags_at c.args.new) (tags_at c.write_in_field.new.kind))) (sym whole) c.write_in_field.ensures.ok

pub write_in_field-put_field-requires : goal.write_in_field-put_field-requires
write_in_field-put_field-requires t c = alone_there (tags_at c.args.kind.now []) tag.Object c.requires

pub write_in_field-returns-then-is_empty-clause-ok : goal.write_in_field-returns-then-is_empty-clause-ok
write_in_field-returns-then-is_empty-clause-ok t c =
    let none : length {A = CodeStep} c.args.behind.now ≡ 0 = grind (arith, nat_tests, c.is_empty.ensures, c.if-is_empty.true) in
    subst (λ r. IsWrite (tags_at c.args.kind.now) (Field c.args.name.now ∷ r) (tags_at c.args.new) (tags_at c.put_field.new.self)) (sym (no_steps c.args.behind.now none))
    (written_alone c.args.kind.now (tags_at c.args.new) (tags_at c.args.new) (tags_at c.put_field.new.self) [] c.args.name.now c.requires (λ p u. refl) c.in_ok-put_field.ensures.put)

pub write_in_field-write_known_field-requires : goal.write_in_field-write_known_field-requires
write_in_field-write_known_field-requires t c =
    (omega (arith, c.decreases), (c.in-Some.ensures.known, taken_root c.args.name.now c.args.kind.now c.take_field.new.self c.in-Some.part tag.Object c.in-Some.ensures (alone_there (tags_at c.args.kind.now []) tag.Object c.requires)))

pub write_in_field-returns-in-Some-clause-ok : goal.write_in_field-returns-in-Some-clause-ok
write_in_field-returns-in-Some-clause-ok t c = on_ok_weaker c.write_known_field.result (λ f. f c.args.kind.now c.in-Some.ensures c.requires) c.write_known_field.ensures.ok

pub write_in_field-returns-in-Some-clause-err : goal.write_in_field-returns-in-Some-clause-err
write_in_field-returns-in-Some-clause-err t c = on_err_weaker c.write_known_field.result (λ f. f c.args.kind.now c.kind_is_canonical.ensures c.in-Some.ensures) c.write_known_field.ensures.err

pub write_known_field-returns-clause-ok : goal.write_known_field-returns-clause-ok
write_known_field-returns-clause-ok t c = on_ok_weaker c.write_in-written.result
    (λ inner whole taken alone. written_known whole c.args.kind.now c.args.part (tags_at c.args.new) (tags_at c.write_in-written.new.kind) (tags_at c.put_field.new.self) c.args.behind.now c.args.name.now alone taken inner c.in_ok-put_field.ensures.put)
    c.write_in-written.ensures.ok

pub write_known_field-returns-clause-err : goal.write_known_field-returns-clause-err
write_known_field-returns-clause-err t c = on_err_weaker c.write_in-written.result
    (λ same whole canonical taken. c.equal_tags_are_one_kind.ensures c.put_field.new.self whole c.kind_is_canonical.ensures canonical
    (restored c.args.name.now whole c.args.kind.now c.args.part c.put_field.new.self taken
    (subst (λ P. SameSets (tags_at c.put_field.new.self) (put_at c.args.name.now (tags_at P) (tags_at c.args.kind.now))) same c.in_ok-put_field.ensures.put)))
    c.write_in-written.ensures.err

pub write_in_field-write_new_field-requires-clause-alone : goal.write_in_field-write_new_field-requires-clause-alone
write_in_field-write_new_field-requires-clause-alone t c = subst (λ T. is_alone (tags_at T []) tag.Object ≡ true) (sym c.in-None.ensures.0) c.requires

pub write_in_field-write_new_field-requires-clause-unknown : goal.write_in_field-write_new_field-requires-clause-unknown
write_in_field-write_new_field-requires-clause-unknown t c = subst (λ T. knows_field c.args.name.now T ≡ false) (sym c.in-None.ensures.0) c.in-None.ensures.1

pub write_in_field-returns-in-None-clause-ok : goal.write_in_field-returns-in-None-clause-ok
write_in_field-returns-in-None-clause-ok t c =
    subst (λ T. OnOk c.write_new_field.result (IsWrite (tags_at T) (Field c.args.name.now ∷ c.args.behind.now) (tags_at c.args.new) (tags_at c.write_new_field.new.kind))) c.in-None.ensures.0 c.write_new_field.ensures.ok

pub write_in_field-returns-in-None-clause-err : goal.write_in_field-returns-in-None-clause-err
write_in_field-returns-in-None-clause-err t c = subst (λ T. OnErr c.write_new_field.result (c.write_new_field.new.kind ≡ T)) c.in-None.ensures.0 c.write_new_field.ensures.err

pub write_known_field-returns-in_err-put_field-clause-err : goal.write_known_field-returns-in_err-put_field-clause-err
write_known_field-returns-in_err-put_field-clause-err t c = absurd (true≢false (sym (c.in_err-put_field.ensures.known c.requires.known)))
