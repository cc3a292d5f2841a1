-- Sets of scalars, and of absent.
use Rattle.std.specs.Prelude.{◌||◌, ◌&&◌, not, IsTrue}
use Rattle.vrl_value.specs.declared.value.Tag.{Tag}
use Rattle.vrl_value.specs.declared.value.Tag.TheVariants as tag
use Rattle.vrl_kind.specs.Tags.{same_tag}
use Rattle.vrl_kind.specs.declared.scalars.Scalars.{Scalars}

-- what either has
abbrev pub scalar_union : Scalars → Scalars → Scalars
scalar_union s u = record {
  string = s.string || u.string;
  integer = s.integer || u.integer;
  boolean = s.boolean || u.boolean;
  null = s.null || u.null;
  timestamp = s.timestamp || u.timestamp;
  regex = s.regex || u.regex;
  absent = s.absent || u.absent;
}

-- without this tag
abbrev pub scalars_without : Scalars → Tag → Scalars
scalars_without s t = record {
  string = s.string && not (same_tag tag.Text t);
  integer = s.integer && not (same_tag tag.Int t);
  boolean = s.boolean && not (same_tag tag.Bool t);
  null = s.null && not (same_tag tag.Null t);
  timestamp = s.timestamp && not (same_tag tag.Time t);
  regex = s.regex && not (same_tag tag.Pattern t);
  absent = s.absent && not (same_tag tag.Absent t);
}

-- this tag alone, if it is one of them
abbrev pub scalars_only : Tag → Scalars
scalars_only t = record {
  string = same_tag tag.Text t;
  integer = same_tag tag.Int t;
  boolean = same_tag tag.Bool t;
  null = same_tag tag.Null t;
  timestamp = same_tag tag.Time t;
  regex = same_tag tag.Pattern t;
  absent = same_tag tag.Absent t;
}

-- what the first has, the second has
pub record ScalarsAreWithin (s u : Scalars) : Type 0 where
  pub string : IsTrue s.string → IsTrue u.string
  pub integer : IsTrue s.integer → IsTrue u.integer
  pub boolean : IsTrue s.boolean → IsTrue u.boolean
  pub null : IsTrue s.null → IsTrue u.null
  pub timestamp : IsTrue s.timestamp → IsTrue u.timestamp
  pub regex : IsTrue s.regex → IsTrue u.regex
  pub absent : IsTrue s.absent → IsTrue u.absent
