-- Paths: the segments of which their spelling is made, and the steps that these stand for.
use Rattle.std.specs.Prelude.{◌≡◌, ℕ, ◌<◌, ◌⊎◌, Bool, true, false, FitsSigned, List, [], ◌∷◌, ◌++◌, length}
use Rattle.std.specs.List.{AllByRecursion}
use Rattle.std.specs.Int.{w64}
use Rattle.vrl_path.specs.declared.path.Step.{Step}
use Rattle.vrl_path.specs.declared.path.Step.TheVariants.{Field, Place}
use Rattle.vrl_token.specs.Lexical.{BeginsOutside, IsDigit, IsFieldPart}
use Rattle.vrl_token.specs.Characters.{Character, IsInside, IsKnown, spelling_of, text_of}
use Rattle.vrl_token.specs.Numbers.{decimal_value, signed}

-- a field as it is, a field in quotes, or an index, whose flag says whether it has a minus
pub data Segment : Type 0 where
  field : List ℕ → Segment
  quoted : List Character → Segment
  index : Bool → List ℕ → Segment

-- a minus, where there is one
abbrev pub minus_text : Bool → List ℕ
minus_text true = 45 ∷ []
minus_text false = []

-- a segment with no dot before a field, and what follows it
abbrev pub undotted : Segment → List ℕ → List ℕ
undotted (field name) rest = name ++ rest
undotted (quoted characters) rest = 34 ∷ (spelling_of characters ++ 34 ∷ rest)
undotted (index negative digits) rest = 91 ∷ (minus_text negative ++ (digits ++ 93 ∷ rest))

-- a segment with the dot before a field, and what follows it
abbrev pub dotted : Segment → List ℕ → List ℕ
dotted (field name) rest = 46 ∷ undotted (field name) rest
dotted (quoted characters) rest = 46 ∷ undotted (quoted characters) rest
dotted (index negative digits) rest = undotted (index negative digits) rest

abbrev pub IsSegment : Segment → Type 0
IsSegment (field name) = (0 < length name) × AllByRecursion IsFieldPart name
IsSegment (quoted characters) = AllByRecursion (IsInside 34) characters
IsSegment (index negative digits) = (0 < length digits) × AllByRecursion IsDigit digits

-- a field without quotes is as long as it can be
abbrev pub Ends : Segment → List ℕ → Type 0
Ends (field name) rest = BeginsOutside IsFieldPart rest
Ends (quoted characters) rest = Unit {0}
Ends (index negative digits) rest = Unit {0}

-- the text is this segment, as long as it can be, and a rest: without its dot, and with it
pub record BeginsUndotted (text : List ℕ) (segment : Segment) (rest : List ℕ) : Type 0 where
  pub parts : text ≡ undotted segment rest
  pub is_segment : IsSegment segment
  pub ends : Ends segment rest

pub record BeginsDotted (text : List ℕ) (segment : Segment) (rest : List ℕ) : Type 0 where
  pub parts : text ≡ dotted segment rest
  pub is_segment : IsSegment segment
  pub ends : Ends segment rest

-- the text is these segments and a rest that is no further segment
abbrev pub Segments : List ℕ → List Segment → List ℕ → Type 0
Segments text [] rest = (text ≡ rest) × ((segment : Segment) (behind : List ℕ) → ¬ BeginsDotted text segment behind)
Segments text (segment ∷ segments) rest = (next : List ℕ) × BeginsDotted text segment next × Segments next segments rest

-- The text is a sign, the segments of a path from the root that the sign stands for, and a rest.
-- Behind the sign the first segment has no dot of its own; the sign alone is the whole root.
abbrev pub RootSegments : ℕ → List ℕ → List Segment → List ℕ → Type 0
RootSegments sign text [] rest =
    (text ≡ sign ∷ rest) × ((segment : Segment) (behind : List ℕ) → ¬ BeginsUndotted rest segment behind)
RootSegments sign text (segment ∷ segments) rest = (behind : List ℕ) × (next : List ℕ) × (text ≡ sign ∷ behind)
    × BeginsUndotted behind segment next × Segments next segments rest

-- ---- steps

-- the escapes of a quoted field are known
abbrev pub IsReadable : Segment → Type 0
IsReadable (field name) = Unit {0}
IsReadable (quoted characters) = AllByRecursion IsKnown characters
IsReadable (index negative digits) = Unit {0}

-- an index has at most 64 bits with its sign
abbrev pub IsInRange : Segment → Type 0
IsInRange (field name) = Unit {0}
IsInRange (quoted characters) = Unit {0}
IsInRange (index negative digits) = FitsSigned w64 (signed negative (decimal_value 0 digits))

abbrev pub step_of : Segment → Step
step_of (field name) = Field name
step_of (quoted characters) = Field (text_of characters)
step_of (index negative digits) = Place (signed negative (decimal_value 0 digits))

abbrev pub steps_of : List Segment → List Step
steps_of [] = []
steps_of (segment ∷ segments) = step_of segment ∷ steps_of segments

-- the steps that segments without a fault stand for
pub record HasSteps (segments : List Segment) (steps : List Step) : Type 0 where
  pub readable : AllByRecursion IsReadable segments
  pub in_range : AllByRecursion IsInRange segments
  pub gives : steps ≡ steps_of segments

-- the code of what is wrong with segments: an escape that isn't known (203), else an index out of
-- range (1002)
abbrev pub HasFlaw : List Segment → ℕ → Type 0
HasFlaw segments code = ((code ≡ 203) × ¬ AllByRecursion IsReadable segments)
    ⊎ ((code ≡ 1002) × AllByRecursion IsReadable segments × ¬ AllByRecursion IsInRange segments)
