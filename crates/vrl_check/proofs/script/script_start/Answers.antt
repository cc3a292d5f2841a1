use Rattle.std.proofs.Common.{refl, sym, subst, ◌∙◌}
use Rattle.std.proofs.lemmas.List.Elements.{All-nil}
use Rattle.vrl_path.specs.Steps.{IsWritable, IsWritableStep}
use Rattle.vrl_state.specs.States.{IsPresent}
use Rattle.vrl_check.proofs.Starting.{metadata_written}
use Rattle.vrl_check.proofs.script.script_start.Goals as goal

pub assign-requires-clause-writable : goal.assign-requires-clause-writable
assign-requires-clause-writable c = subst IsWritable (sym (c.new-whole.ensures ∙ c.new-2.ensures.items)) (All-nil IsWritableStep)

pub assign-requires-clause-present : goal.assign-requires-clause-present
assign-requires-clause-present c = subst IsPresent (sym (c.as_shared.ensures ∙ c.in_ok-shared.ensures ∙ c.in_ok-object.ensures)) refl

pub returns : goal.returns
returns c =
    metadata_written c.equal_tags_are_one_kind.ensures c.args.start.now c.as_shared.result.now.value c.in_ok-root.root c.new-whole.result c.in_ok-state.state c.assign.new.self c.in_ok-root.ensures (c.new-whole.ensures ∙ c.new-2.ensures.items)
    (c.as_shared.ensures ∙ c.in_ok-shared.ensures ∙ c.in_ok-object.ensures) c.in_ok-state.ensures.state c.in_ok-assign.ensures.written c.assign.ensures.scopes
