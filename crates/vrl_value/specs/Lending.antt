-- What arrays and objects end as after a part of them was lent.
use Rattle.std.specs.Prelude.{◌≡◌, ℕ, List, Option, OnSome}
use Rattle.std.specs.Borrow.{Fml, LendsSo, MutBor}
use Rattle.vrl_value.specs.Parts.{replace, replace_item}
use Rattle.vrl_value.specs.View.{items_of, members_of, tree_of}
use Rattle.vrl_value.specs.declared.value.Value.{Value}
use Rattle.vrl_value.specs.declared.value.Items.{Items}
use Rattle.vrl_value.specs.declared.value.Fields.{Fields}
use Rattle.vrl_value.specs.contracts.value.Value as value
use Rattle.vrl_value.specs.contracts.value.Items as items
use Rattle.vrl_value.specs.contracts.value.Fields as fields

-- the fields end with the last value behind r at the name, or as they were where there is no r
abbrev pub LendsField : MutBor Fields → List ℕ → Option (MutBor Value) → Fml
LendsField f name r = LendsSo fields.the_row value.the_row f r
    (λ new part. OnSome r (members_of new ≡ replace name (tree_of part) (members_of f.now)))
    (λ new. members_of new ≡ members_of f.now)

-- the items end with the last value behind r at the place, or as they were where there is no r
abbrev pub LendsItem : MutBor Items → ℕ → Option (MutBor Value) → Fml
LendsItem i place r = LendsSo items.the_row value.the_row i r
    (λ new part. OnSome r (items_of new ≡ replace_item place (tree_of part) (items_of i.now)))
    (λ new. items_of new ≡ items_of i.now)
