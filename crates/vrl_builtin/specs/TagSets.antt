-- Sets of the tags that values have.
use Rattle.std.specs.Prelude.{Bool, true, false}
use Rattle.vrl_value.specs.declared.value.Tag.{Tag}
use Rattle.vrl_value.specs.declared.value.Tag.TheVariants as tag
use Rattle.vrl_kind.specs.Tags.{same_tag}
use Rattle.vrl_builtin.specs.declared.tags.Tags.{Tags}

-- whether a tag is in the set; absent is in none
abbrev pub allows : Tags → Tag → Bool
allows T tag.Text = T.string
allows T tag.Int = T.integer
allows T tag.Bool = T.boolean
allows T tag.Null = T.null
allows T tag.Time = T.timestamp
allows T tag.Pattern = T.regex
allows T tag.List = T.array
allows T tag.Object = T.object
allows T tag.Absent = false

abbrev pub no_tags : Tags
no_tags = record {
  string = false;
  integer = false;
  boolean = false;
  null = false;
  timestamp = false;
  regex = false;
  array = false;
  object = false;
}

abbrev pub any_tags : Tags
any_tags = record {
  string = true;
  integer = true;
  boolean = true;
  null = true;
  timestamp = true;
  regex = true;
  array = true;
  object
      = true;
}

abbrev pub strings : Tags
strings = record no_tags { string = true }

abbrev pub integers : Tags
integers = record no_tags { integer = true }

abbrev pub booleans : Tags
booleans = record no_tags { boolean = true }

abbrev pub timestamps : Tags
timestamps = record no_tags { timestamp = true }

abbrev pub regexes : Tags
regexes = record no_tags { regex = true }

abbrev pub arrays : Tags
arrays = record no_tags { array = true }

abbrev pub objects : Tags
objects = record no_tags { object = true }

abbrev pub containers : Tags
containers = record no_tags { array = true; object = true }

-- one tag alone; none at absent
abbrev pub only_tag : Tag → Tags
only_tag t = record {
  string = same_tag tag.Text t;
  integer = same_tag tag.Int t;
  boolean = same_tag tag.Bool t;
  null = same_tag
      tag.Null t;
  timestamp = same_tag tag.Time t;
  regex = same_tag tag.Pattern t;
  array = same_tag tag.List t;
  object =
      same_tag tag.Object t;
}
