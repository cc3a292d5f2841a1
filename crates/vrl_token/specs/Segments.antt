-- Words of the code for cutting a path into segments; the segments are those of `Paths`.
use Rattle.std.specs.Prelude.{◌≡◌, ◌≢◌, ℕ, ℤ, Bool, true, false, List, ◌∷◌, Option, Some, None, MatchOption, Result, Ok, Err, MatchResult}
use denote.Ref.{Bor}
use Rattle.vrl_path.specs.declared.path.Step.{Step}
use Rattle.vrl_path.specs.declared.path.Step.TheVariants.{Field, Place}
use Rattle.vrl_token.specs.declared.segment.Segment.{Segment as Cut}
use Rattle.vrl_token.specs.declared.segment.Segment.TheVariants as cut
use Rattle.vrl_token.specs.declared.segment.Flaw.{Flaw}
use Rattle.vrl_token.specs.declared.segment.Flaw.TheVariants.{Escape, Range}
use Rattle.vrl_token.specs.Characters.{Character}
use Rattle.vrl_token.specs.Quoted.{IsInner}
use Rattle.vrl_token.specs.Paths.{BeginsDotted, BeginsUndotted, IsInRange, IsReadable, IsSegment, Segment, field, index, quoted, step_of}

-- the code's segment is this one
abbrev pub IsSaid : Cut → Segment → Type 0
IsSaid (cut.Field name) segment = (segment ≡ field name.now) × IsSegment segment
IsSaid (cut.Quoted inner) segment =
    (characters : List Character) × (segment ≡ quoted characters) × IsInner 34 inner.now characters
IsSaid (cut.Index negative digits) segment = (segment ≡ index negative digits.now) × IsSegment segment

abbrev pub CutsDotted : List ℕ → Option (Cut × Bor (List ℕ)) → Type 0
CutsDotted text found = MatchOption found ((segment : Segment) (behind : List ℕ) → ¬ BeginsDotted text segment behind)
    (λ c. (segment : Segment) × IsSaid c.0 segment × BeginsDotted text segment c.1.now)

abbrev pub CutsUndotted : List ℕ → Option (Cut × Bor (List ℕ)) → Type 0
CutsUndotted text found =
    MatchOption found ((segment : Segment) (behind : List ℕ) → ¬ BeginsUndotted text segment behind)
    (λ c. (segment : Segment) × IsSaid c.0 segment × BeginsUndotted text segment c.1.now)

abbrev pub IsIndexSegment : Segment → Type 0
IsIndexSegment (field name) = ⊥
IsIndexSegment (quoted characters) = ⊥
IsIndexSegment (index negative digits) = Unit {0}

abbrev pub IsFieldSegment : Segment → Type 0
IsFieldSegment (field name) = Unit {0}
IsFieldSegment (quoted characters) = Unit {0}
IsFieldSegment (index negative digits) = ⊥

abbrev pub CutsIndex : List ℕ → Option (Cut × Bor (List ℕ)) → Type 0
CutsIndex text found = MatchOption found ((segment : Segment) (behind : List ℕ) → IsIndexSegment segment
    → ¬ BeginsUndotted text segment behind)
    (λ c. (segment : Segment) × IsSaid c.0 segment × IsIndexSegment segment × BeginsUndotted text segment c.1.now)

abbrev pub IsCutField : List ℕ → Option (Cut × Bor (List ℕ)) → Type 0
IsCutField text found = MatchOption found ((segment : Segment) (behind : List ℕ) → IsFieldSegment segment
    → ¬ BeginsUndotted text segment behind)
    (λ c. (segment : Segment) × IsSaid c.0 segment × IsFieldSegment segment × BeginsUndotted text segment c.1.now)

-- what is wrong with a segment
abbrev pub IsFlawOf : Segment → Flaw → Type 0
IsFlawOf segment Escape = ¬ IsReadable segment
IsFlawOf segment Range = IsReadable segment × ¬ IsInRange segment

-- the step that a segment stands for, or what is wrong with it
abbrev pub StepOf : Segment → Result Step Flaw → Type 0
StepOf segment found =
    MatchResult found (λ step. IsReadable segment × IsInRange segment × (step ≡ step_of segment)) (IsFlawOf segment)

-- the step of what was read of a quoted name, and of an index; None where it can't be read
abbrev pub field_step : Option (List ℕ) → Result Step Flaw
field_step None = Err Escape
field_step (Some name) = Ok (Field name)

abbrev pub place_step : Option ℤ → Result Step Flaw
place_step None = Err Range
place_step (Some place) = Ok (Place place)

-- what follows an optional minus: the flag says whether it is there
abbrev pub IsUnsigned : Bool → List ℕ → List ℕ → Type 0
IsUnsigned true text unsigned = text ≡ 45 ∷ unsigned
IsUnsigned false text unsigned = (text ≡ unsigned) × ((rest : List ℕ) → text ≢ 45 ∷ rest)
