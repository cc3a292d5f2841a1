-- Which lists of roots with their kinds tell what is known.
use Rattle.std.specs.Prelude.{◌≡◌, ◌&&◌, Bool, true, false, All, IsTrue, List, [], ◌∷◌, Option, Some, None}
use Rattle.std.specs.Cmp.Lexicographic.{slice_cmp}
use Rattle.std.specs.Ordering.{is_lt, nat_cmp}
use Rattle.vrl_syntax.specs.declared.root.Root.{Root}
use Rattle.vrl_syntax.specs.declared.root.Root.TheVariants.{Event, Name}
use Rattle.vrl_state.specs.States.{IsPresent}
use Rattle.vrl_state.specs.declared.known.RootKind.{RootKind}

abbrev pub first_root : List RootKind → Option Root
first_root [] = None
first_root (r ∷ rs) = Some r.root

-- the event comes before each variable, and variables by the bytes of their names
abbrev pub is_before : Root → Root → Bool
is_before Event Event = false
is_before Event (Name y) = true
is_before (Name x) Event = false
is_before (Name x) (Name y) = is_lt (slice_cmp nat_cmp x y)

-- each comes before the next one, behind this root
abbrev pub rise_from : Root → List RootKind → Bool
rise_from root [] = true
rise_from root (r ∷ rs) = is_before root r.root && rise_from r.root rs

abbrev pub rise : List RootKind → Bool
rise [] = true
rise (r ∷ rs) = rise_from r.root rs

-- the event first, then each variable once, by the bytes of its name, and no kind that allows
-- absent
pub record IsRootList (roots : List RootKind) : Type 0 where
  pub event : first_root roots ≡ Some Event
  pub order : IsTrue (rise roots)
  pub present : All (λ r. IsPresent r.kind) roots
