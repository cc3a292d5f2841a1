use Rattle.std.proofs.Common.{◌∙◌, ap, length}
use Rattle.vrl_syntax.specs.Calls.{for_names}
use Rattle.vrl_resolve.proofs.ClosureCalls.{shape_length}
use Rattle.vrl_resolve.proofs.link.Linker.numbered.Goals as goal

pub two_slots-requires : goal.two_slots-requires
two_slots-requires c =
    ap length c.as_slice-names.ensures ∙ shape_length c.args.form c.args.names.now c.requires.shape ∙ ap (λ f. length (for_names {A = Unit {0}} f tt tt)) c.in-ForEach.is

pub two_slots-requires-in-Filter : goal.two_slots-requires-in-Filter
two_slots-requires-in-Filter c =
    ap length c.as_slice-names.ensures ∙ shape_length c.args.form c.args.names.now c.requires.shape ∙ ap (λ f. length (for_names {A = Unit {0}} f tt tt)) c.in-Filter.is

pub one_slot-requires : goal.one_slot-requires
one_slot-requires c =
    ap length c.as_slice-names.ensures ∙ shape_length c.args.form c.args.names.now c.requires.shape ∙ ap (λ f. length (for_names {A = Unit {0}} f tt tt)) c.in-MapValues.is

pub one_slot-requires-in-MapKeys : goal.one_slot-requires-in-MapKeys
one_slot-requires-in-MapKeys c =
    ap length c.as_slice-names.ensures ∙ shape_length c.args.form c.args.names.now c.requires.shape ∙ ap (λ f. length (for_names {A = Unit {0}} f tt tt)) c.in-MapKeys.is
