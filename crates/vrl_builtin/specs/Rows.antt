-- The row of a function: what it takes, what is known of its result before it is called, and what
-- it answers.
use Rattle.std.specs.Prelude.{ℕ, ℤ, Bool, true, false, List, [], ◌++◌, Option, Some, None, codes, option_map, slice_get}
use Rattle.vrl_value.specs.Tree.{Tree, string, integer, boolean, null, timestamp, regex, array, object, Items, no_items, Members}
use Rattle.vrl_value.specs.declared.value.Tag.{Tag}
use Rattle.vrl_kind.specs.KindTree.{KindTree}
use Rattle.vrl_kind.specs.Kinds.{tags_at}
use Rattle.vrl_kind.specs.Sets.{Sets}
use Rattle.vrl_builtin.specs.declared.tags.Tags.{Tags}

-- a parameter: its name, the tags that an argument may have, whether one must be given, and whether
-- it must be written as a literal
pub record ParameterRow : Type 0 where
  pub name : List ℕ
  pub allowed : Tags
  pub required : Bool
  pub literal : Bool

-- one whose argument must be given, and one whose argument may be left out; neither wants a literal
abbrev pub parameter : List ℕ → Tags → ParameterRow
parameter name T = record { name = name; allowed = T; required = true; literal = false }

abbrev pub optional_parameter : List ℕ → Tags → ParameterRow
optional_parameter name T = record { name = name; allowed = T; required = false; literal = false }

-- the same two for arguments that must be written as literals
abbrev pub literal_parameter : List ℕ → Tags → ParameterRow
literal_parameter name T = record { name = name; allowed = T; required = true; literal = true }

abbrev pub optional_literal_parameter : List ℕ → Tags → ParameterRow
optional_literal_parameter name T = record { name = name; allowed = T; required = false; literal = true }

-- what is known of an argument before the call: its kind, where one is given, and its value, where
-- it is written as a literal
pub record GivenTree : Type 0 where
  pub kind : Option KindTree
  pub literal : Option Tree

-- what a call finds beside its arguments: the moment of the line, and the sources of the script's
-- regexes
pub record SettingTree : Type 0 where
  pub moment : ℤ
  pub sources : List (List ℕ)

-- what a call answers
pub data Answer : Type 0 where
  value : Tree → Answer
  -- the text of an error
  failure : List ℕ → Answer

pub record Row : Type 0 where
  pub name : List ℕ
  pub parameters : List ParameterRow
  -- the literals that are allowed at a parameter which wants one, by its place
  pub accepts : ℕ → Tree → Bool
  -- the tags of the result at each path, by what is known of the arguments and by the sources of
  -- the script's regexes
  pub kind : List GivenTree → List (List ℕ) → Sets
  -- whether the call may fail though its arguments fit
  pub may_fail : List GivenTree → Bool
  -- what it answers to arguments that fit
  pub means : List (Option Tree) → SettingTree → Answer

-- a row without parameters that want literals
abbrev pub any_literal : ℕ → Tree → Bool
any_literal place v = true

-- a text that passes the test, which is what a literal may have to be
abbrev pub is_text_of : (List ℕ → Bool) → Tree → Bool
is_text_of test (string s) = test s
is_text_of test (integer n) = false
is_text_of test (boolean b) = false
is_text_of test null = false
is_text_of test (timestamp nanos) = false
is_text_of test (regex n) = false
is_text_of test (array ts) = false
is_text_of test (object ms) = false

-- the text of a function's error
abbrev pub error_text : List ℕ → List ℕ → List ℕ
error_text name words = name ++ (codes ": " ++ words)

abbrev pub failed : List ℕ → List ℕ → Answer
failed name words = failure (error_text name words)

-- an answer whose error has these words alone, with the function's name before them
abbrev pub named : List ℕ → Answer → Answer
named name (value v) = value v
named name (failure words) = failed name words

-- a value, or the words of an error where there is none
abbrev pub told : {A : Type 0} → (A → Tree) → List ℕ → Option A → Answer
told make words None = failure words
told make words (Some a) = value (make a)

abbrev pub held : {A : Type 0} → Option (Option A) → Option A
held None = None
held (Some a) = a

-- the kind, and the literal, that is given at a place
abbrev pub kind_at : ℕ → List GivenTree → Option KindTree
kind_at place givens = held (option_map (λ g. g.kind) (slice_get givens place))

abbrev pub literal_at : ℕ → List GivenTree → Option Tree
literal_at place givens = held (option_map (λ g. g.literal) (slice_get givens place))

abbrev pub allows_tag : Tag → Option KindTree → Bool
allows_tag t None = false
allows_tag t (Some K) = tags_at K [] t

-- whether an argument is given at a place whose kind allows the tag
abbrev pub allowed_at : ℕ → Tag → List GivenTree → Bool
allowed_at place t givens = allows_tag t (kind_at place givens)

-- the argument at a place
abbrev pub argument_at : ℕ → List (Option Tree) → Option Tree
argument_at place arguments = held (slice_get arguments place)

abbrev pub integer_or : ℤ → Option Tree → ℤ
integer_or n (Some (integer m)) = m
integer_or n argument = n

-- the whole number where one is given
abbrev pub integer_given : Option Tree → Option ℤ
integer_given (Some (integer m)) = Some m
integer_given argument = None

abbrev pub text_or : List ℕ → Option Tree → List ℕ
text_or s (Some (string t)) = t
text_or s argument = s

abbrev pub value_or : Tree → Option Tree → Tree
value_or v None = v
value_or v (Some u) = u

-- the whole number at a place, the text there, or the value, and what stands for it where none is
-- given
abbrev pub integer_at : ℕ → ℤ → List (Option Tree) → ℤ
integer_at place n arguments = integer_or n (argument_at place arguments)

abbrev pub optional_integer : ℕ → List (Option Tree) → Option ℤ
optional_integer place arguments = integer_given (argument_at place arguments)

abbrev pub text_at : ℕ → List ℕ → List (Option Tree) → List ℕ
text_at place s arguments = text_or s (argument_at place arguments)

abbrev pub value_at : ℕ → List (Option Tree) → Tree
value_at place arguments = value_or null (argument_at place arguments)

-- what is given, where it has the tag: a moment, a regex's number, and the members of an object
abbrev pub moment_given : Option Tree → Option ℤ
moment_given (Some (timestamp nanos)) = Some nanos
moment_given argument = None

abbrev pub regex_given : Option Tree → Option ℕ
regex_given (Some (regex n)) = Some n
regex_given argument = None

abbrev pub members_given : Option Tree → Option Members
members_given (Some (object ms)) = Some ms
members_given argument = None

-- the same at a place
abbrev pub optional_moment : ℕ → List (Option Tree) → Option ℤ
optional_moment place arguments = moment_given (argument_at place arguments)

abbrev pub optional_regex : ℕ → List (Option Tree) → Option ℕ
optional_regex place arguments = regex_given (argument_at place arguments)

abbrev pub optional_members : ℕ → List (Option Tree) → Option Members
optional_members place arguments = members_given (argument_at place arguments)

-- the boolean at a place, and what stands for it where none is given
abbrev pub boolean_or : Bool → Option Tree → Bool
boolean_or b (Some (boolean c)) = c
boolean_or b argument = b

abbrev pub boolean_at : ℕ → Bool → List (Option Tree) → Bool
boolean_at place b arguments = boolean_or b (argument_at place arguments)

-- the parts of the array at a place, and none where none is given
abbrev pub items_given : Option Tree → Items
items_given (Some (array ts)) = ts
items_given argument = no_items

abbrev pub items_at : ℕ → List (Option Tree) → Items
items_at place arguments = items_given (argument_at place arguments)
