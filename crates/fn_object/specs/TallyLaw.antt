-- `tally` keeps the law.
use Rattle.std.specs.Prelude.{◌≡◌, ℕ, pos, Bool, List, [], ◌∷◌, Option, Some, None, codes, IsTrue, IfSome, refl}
use Rattle.vrl_value.specs.Tree.{Tree, string, integer, boolean, null, timestamp, regex, array, object, Members, IsOrdered, MembersAreOrdered}
use Rattle.vrl_value.specs.declared.value.Tag.{Tag}
use Rattle.vrl_value.specs.declared.value.Tag.TheVariants as tag
use Rattle.vrl_value.proofs.Order.{put_ordered}
use Rattle.vrl_kind.specs.Kinds.{only_at}
use Rattle.vrl_builtin.specs.Containers.{object_of}
use Rattle.vrl_builtin.specs.Law.{KeepsLaw, IsLawful, IsOfGiven}
use Rattle.vrl_builtin.specs.Rows.{named, argument_at, kind_at, value_or}
use Rattle.vrl_builtin.specs.TagSets.{strings}
use Rattle.vrl_builtin.specs.Words.{first_other, unless_other}
use Rattle.vrl_builtin.proofs.Containers.{each_put, object_is_lawful, plain_part, EachMember, IsLawfulPart}
use Rattle.vrl_builtin.proofs.GivenTags.{arrays_only}
use Rattle.vrl_builtin.specs.Listed.{trees_in}
use Rattle.vrl_builtin.proofs.OtherParts.{other_given}
use Rattle.vrl_builtin.specs.PartKinds.{part_allows_other}
use Rattle.fn_object.specs.Tally.{count_in, counted, put_count, tallied, tally_row}

record AreCounts (arguments : List (Option Tree)) (ms : Members) : Type 0 where
  pub each : EachMember (IsLawfulPart (only_at tag.Int) arguments) ms
  pub ordered : MembersAreOrdered ms

put_one : (arguments : List (Option Tree)) (all : List Tree) (t : Tree) (ms : Members) → AreCounts arguments ms
    → AreCounts arguments (put_count all t ms)
put_one arguments all (string s) ms are =
    let count = integer (pos (count_in s all)) in
    record {
      each = each_put (IsLawfulPart (only_at tag.Int) arguments) s count ms
          (plain_part (only_at tag.Int) arguments count tt refl) are.each;
      ordered = put_ordered s count ms tt
          are.ordered;
    }
put_one arguments all (integer n) ms are = are
put_one arguments all (boolean b) ms are = are
put_one arguments all null ms are = are
put_one arguments all (timestamp n) ms are = are
put_one arguments all (regex n) ms are = are
put_one arguments all (array ts) ms are = are
put_one arguments all (object ns) ms are = are

counts : (arguments : List (Option Tree)) (all ts : List Tree) → AreCounts arguments (counted all ts)
counts arguments all [] = record { each = tt; ordered = tt }
counts arguments all (t ∷ ts) = put_one arguments all t (counted all ts) (counts arguments all ts)

tallied_lawful : (o : Option (ℕ × Tag)) (fails : Bool) (arguments : List (Option Tree)) (ms : Members)
    → IfSome o (λ other. IsTrue fails) → AreCounts arguments ms →
    IsLawful (object_of (only_at tag.Int)) fails arguments (named (codes "tally") (unless_other o (object ms)))
tallied_lawful (Some other) fails arguments ms fail are = fail
tallied_lawful None fails arguments ms fail are =
    object_is_lawful (only_at tag.Int) fails arguments ms are.each are.ordered

pub tally-law : KeepsLaw tally_row
tally-law = record {
  present = λ givens sources given below. refl;
  lawful = λ givens arguments setting given fit instances below.
      let K = kind_at 0 givens in
      arrays_only (λ a. argument_at 0 arguments ≡ a → IsOfGiven K a → IfSome a IsOrdered
      → IsLawful (object_of (only_at tag.Int)) (part_allows_other strings K) arguments
      (named (codes "tally") (tallied (value_or null a))))
      (argument_at 0 arguments) fit.0.there fit.0.allowed
      (λ ts first of ordered. tallied_lawful (first_other strings ts) (part_allows_other strings K) arguments
      (counted (trees_in ts) (trees_in ts)) (other_given K strings 0 ts arguments first of ordered)
      (counts arguments (trees_in ts) (trees_in ts)))
      refl (instances.kinds 0) (instances.ordered 0);
}
