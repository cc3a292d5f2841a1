-- Kinds that may be absent too, or that have null where they could be absent.
use Rattle.std.proofs.Common.{◌≡◌, Bool, true, false, ◌||◌, ◌&&◌, List, [], ◌∷◌, refl}
use Rattle.vrl_value.specs.Look.{Step, field, place}
use Rattle.vrl_value.specs.declared.value.Tag.{Tag}
use Rattle.vrl_value.specs.declared.value.Tag.TheVariants as tag
use Rattle.vrl_kind.specs.KindTree.{kind, ListTree, ObjectTree}
use Rattle.vrl_kind.specs.declared.scalars.Scalars.{Scalars}
use Rattle.vrl_kind.specs.Change.{null_for_absent, scalars_filled}
use Rattle.vrl_kind.specs.Kinds.{tags_at, has_list, has_object, or_absent}
use Rattle.vrl_kind.specs.Scalars.{scalar_union, scalars_only}

or_false : (a : Bool) → a ≡ (a || false)
or_false true = refl
or_false false = refl

kept : (a b : Bool) → a ≡ ((a && true) || (b && false))
kept true true = refl
kept true false = refl
kept false true = refl
kept false false = refl

filled : (a b : Bool) → (a || b) ≡ ((a && true) || (b && true))
filled true true = refl
filled true false = refl
filled false true = refl
filled false false = refl

gone : (a : Bool) → false ≡ ((a && false) || (a && false))
gone true = refl
gone false = refl

-- what may be absent too
pub absent_added : (s : Scalars) (l : ListTree) (o : ObjectTree) (p : List Step) (t : Tag) → tags_at (kind (scalar_union s (scalars_only tag.Absent)) l o) p t ≡ or_absent p (tags_at (kind s l o) p) t
absent_added s l o [] tag.Text = refl
absent_added s l o [] tag.Int = refl
absent_added s l o [] tag.Bool = refl
absent_added s l o [] tag.Null = refl
absent_added s l o [] tag.Time = refl
absent_added s l o [] tag.Pattern = refl
absent_added s l o [] tag.List = or_false (has_list l)
absent_added s l o [] tag.Object = or_false (has_object o)
absent_added s l o [] tag.Absent = refl
absent_added s l o (place i ∷ p) t = refl
absent_added s l o (field n ∷ p) t = refl

-- what has null where it could be absent
pub null_filled : (s : Scalars) (l : ListTree) (o : ObjectTree) (p : List Step) (t : Tag) → tags_at (kind (scalars_filled s) l o) p t ≡ null_for_absent (tags_at (kind s l o)) p t
null_filled s l o [] tag.Text = kept s.string s.absent
null_filled s l o [] tag.Int = kept s.integer s.absent
null_filled s l o [] tag.Bool = kept s.boolean s.absent
null_filled s l o [] tag.Null = filled s.null s.absent
null_filled s l o [] tag.Time = kept s.timestamp s.absent
null_filled s l o [] tag.Pattern = kept s.regex s.absent
null_filled s l o [] tag.List = kept (has_list l) s.absent
null_filled s l o [] tag.Object = kept (has_object o) s.absent
null_filled s l o [] tag.Absent = gone s.absent
null_filled s l o (place i ∷ p) t = refl
null_filled s l o (field n ∷ p) t = refl
