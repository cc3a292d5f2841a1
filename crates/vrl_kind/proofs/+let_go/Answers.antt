use Rattle.std.proofs.Common.{◌+◌, ◌*◌, ◌≤◌, List, [], ◌∷◌, arith, rules}
use denote.Param.Weighed.{most}
use Rattle.vrl_kind.specs.declared.kind.Kind.{Kind}
use Rattle.vrl_kind.specs.declared.kind.Kind.TheDeep.{size-Kind, size-KindField, deep-KindField}
use Rattle.vrl_kind.specs.declared.kind.Kind.TheView.{size}
use Rattle.vrl_kind.specs.declared.kind.KindField.{KindField}
use Rattle.vrl_kind.proofs.+let_go.Goals as goal

-- the measure of the cycle is four times the size, and a little
kinds_weigh : (ks : List Kind) → most size-Kind ks ≤ 4 * most (λ k. size k + 1) ks
kinds_weigh [] = omega arith
kinds_weigh (k ∷ ks) = omega (arith, kinds_weigh ks)

fields_weigh : (fs : List KindField) → most size-KindField fs ≤ 4 * most deep-KindField fs + 1
fields_weigh [] = omega arith
fields_weigh (f ∷ fs) = omega (arith, fields_weigh fs)

pub kind::let_list_go-drop-list-requires : goal.kind::let_list_go-drop-list-requires
kind::let_list_go-drop-list-requires t c κs = ((omega (arith, c.decreases, kinds_weigh c.args._list.places.kinds.items), tt), search rules)

pub kind::let_object_go-drop-object-requires : goal.kind::let_object_go-drop-object-requires
kind::let_object_go-drop-object-requires t c κs = ((omega (arith, c.decreases, fields_weigh c.args._object.fields.fields.items), tt), search rules)
