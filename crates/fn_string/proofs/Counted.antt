-- The fields that a map stands for are as many as its entries.
use Rattle.std.proofs.Common.{◌≡◌, suc, List, [], ◌∷◌, String, length, refl, ap}
use Rattle.std.specs.declared.alloc.Global.{Global}
use Rattle.vrl_value.specs.Parts.{members_count}
use Rattle.vrl_value.specs.View.{members_view}
use Rattle.vrl_value.specs.declared.value.Value.{Value}

pub members_count-view : (es : List (String Global × Value)) → length es ≡ members_count (members_view es)
members_count-view [] = refl
members_count-view (e ∷ es) = ap suc (members_count-view es)
