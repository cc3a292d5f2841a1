-- Answers whose kinds say no more than their tags.
use Rattle.std.specs.Prelude.{◌≡◌, Bool, true, false, List, Option, Some, IsTrue}
use Rattle.vrl_value.specs.Tag.{tag_of}
use Rattle.vrl_value.specs.Tree.{Tree, array, object}
use Rattle.vrl_kind.specs.Canonical.{any_kind}
use Rattle.vrl_kind.specs.KindTree.{KindTree}
use Rattle.vrl_kind.specs.Sets.{IsAllowed}
use Rattle.vrl_kind.proofs.Inhabiting.{any_inhabits}
use Rattle.vrl_builtin.specs.AnyParts.{any_of, containers_in}
use Rattle.vrl_builtin.specs.Law.{IsLawful, IsOfGiven}
use Rattle.vrl_builtin.specs.Rows.{value}
use Rattle.vrl_builtin.specs.TagSets.{allows, containers}
use Rattle.vrl_builtin.specs.declared.tags.Tags.{Tags}
use Rattle.vrl_builtin.proofs.AnswerParts.{answered, IsPart}
use Rattle.vrl_builtin.proofs.GivenTags.{no}
use Rattle.vrl_builtin.proofs.Lawful.{cut_is_of, tag_is_given}

-- what has one of the tags
pub loosely_allowed : (T : Tags) (v : Tree) → allows T (tag_of v) ≡ true → IsAllowed v (any_of T)
loosely_allowed T v allowed = cut_is_of T any_kind v (any_inhabits false v) allowed

-- an array or an object has a tag that its kind allows
pub container_tag : (K : Option KindTree) (v : Tree) → IsTrue (allows containers (tag_of v)) → IsOfGiven K (Some v) → allows (containers_in K) (tag_of v) ≡ true
container_tag K (array ts) allowed of = tag_is_given K (array ts) of
container_tag K (object ms) allowed of = tag_is_given K (object ms) of
container_tag K v allowed of = no allowed

-- a value that has the tag of an array or an object that is given
pub container_lawful : (K : Option KindTree) (fails : Bool) (arguments : List (Option Tree)) (v w : Tree) → IsTrue (allows containers (tag_of v)) → IsOfGiven K (Some v) → tag_of w ≡ tag_of v → IsPart arguments w →
    IsLawful (any_of (containers_in K)) fails arguments (value w)
container_lawful K fails arguments v w allowed of same part = answered (any_of (containers_in K)) fails arguments w (loosely_allowed (containers_in K) w (rw same (container_tag K v allowed of))) part
