-- Segments read one behind another.
use Rattle.std.proofs.Common.{◌≡◌, ◌≢◌, ℕ, Option, Some, None, MatchOption, option_map, List, [], ◌∷◌, ◌++◌, length, inl, inr, refl, sym, ap, ◌∙◌, subst, append_assoc, arith}
use Rattle.std.proofs.lemmas.List.{append-nil}
use Rattle.std.specs.List.{AllByRecursion}
use Rattle.vrl_path.specs.declared.path.Step.{Step}
use Rattle.vrl_token.specs.declared.path.Gathering.{Gathering}
use Rattle.vrl_token.specs.declared.segment.Flaw.{Flaw}
use Rattle.vrl_token.specs.declared.segment.Flaw.TheVariants.{Escape, Range}
use Rattle.vrl_token.specs.Gathering.{code_of, IsFlawOfAll, IsGathered, Keeps}
use Rattle.vrl_token.specs.Segments.{IsFlawOf}
use Rattle.vrl_token.specs.Paths.{BeginsDotted, HasFlaw, HasSteps, IsInRange, IsReadable, IsSegment, Segment, Segments, dotted, field, index, minus_text, quoted, step_of, steps_of, undotted}
use Rattle.vrl_token.specs.Characters.{spelling_of}
use Rattle.vrl_token.specs.Words.{IsNonempty, NoSegment}
use Rattle.vrl_token.proofs.Ends.{EndsWith, Takes, ends_on, is_end, is_no_longer, is_shorter, first_byte, front_of, same_end, takes_on}
use Rattle.vrl_token.proofs.Quotes.{all-append}

-- the segments between two places, and what was gathered of them behind others
pub record IsWalked (before : List Segment) (text rest : List ℕ) (found : Gathering) : Type 0 where
  pub so_far : List Segment
  pub leads : (later : List Segment) (last : List ℕ) → Segments rest later last → Segments text (so_far ++ later) last
  pub gathered : IsGathered (before ++ so_far) found

pub walked_more : {before : List Segment} {text rest next : List ℕ} {found new : Gathering} (segment : Segment) (walked : IsWalked before text rest found) → BeginsDotted rest segment next
    → IsGathered ((before ++ walked.so_far) ++ segment ∷ []) new → IsWalked before text next new
walked_more {before} {text} {rest} {next} {found} {new} segment walked begins gathered = record {
  so_far = walked.so_far ++ segment ∷ [];
  leads = λ later last h. subst (λ ss. Segments text ss last) (sym (append_assoc walked.so_far (segment ∷ []) later)) (walked.leads (segment ∷ later) last (next, begins, h));
  gathered = subst (λ ss. IsGathered ss new) (append_assoc before walked.so_far (segment ∷ [])) gathered;
}

pub walked_all : {before : List Segment} {text rest : List ℕ} {found : Gathering} → IsWalked before text rest found → ((segment : Segment) (behind : List ℕ) → ¬ BeginsDotted rest segment behind)
    → (segments : List Segment) × Segments text segments rest × IsGathered (before ++ segments) found
walked_all {before} {text} {rest} {found} walked none =
    (walked.so_far, subst (λ ss. Segments text ss rest) (append-nil walked.so_far) (walked.leads [] rest (refl, none)), walked.gathered)

-- ---- one more segment

steps_of-append : (ss : List Segment) (s : Segment) → steps_of (ss ++ s ∷ []) ≡ steps_of ss ++ step_of s ∷ []
steps_of-append [] s = refl
steps_of-append (r ∷ rs) s = ap (λ t. step_of r ∷ t) (steps_of-append rs s)

all_front : (P : Segment → Type 0) (ss : List Segment) (s : Segment) → AllByRecursion P (ss ++ s ∷ []) → AllByRecursion P ss × P s
all_front P [] s all = (tt, all.0)
all_front P (r ∷ rs) s all = let more = all_front P rs s all.1 in ((all.0, more.0), more.1)

pub more_steps : {ss : List Segment} {steps : List Step} {step : Step} (s : Segment) → HasSteps ss steps → IsReadable s × IsInRange s × (step ≡ step_of s) → HasSteps (ss ++ s ∷ []) (steps ++ step ∷ [])
more_steps {ss} {steps} {step} s has is = record {
  readable = all-append IsReadable ss (s ∷ []) has.readable (is.0, tt);
  in_range = all-append IsInRange ss (s ∷ []) has.in_range (is.1, tt);
  gives = ap (λ t. t ++ step ∷ []) has.gives ∙ ap (λ t. steps_of ss ++ t ∷ []) is.2 ∙ sym (steps_of-append ss s);
}

-- what is wrong with segments, told by its code
pub coded : (segments : List Segment) (steps : List Step) (flaw : Option Flaw) → MatchOption flaw (HasSteps segments steps) (IsFlawOfAll segments) → MatchOption (option_map code_of flaw) (HasSteps segments steps) (HasFlaw segments)
coded segments steps None is = is
coded segments steps (Some Escape) is = is
coded segments steps (Some Range) is = is

-- what was wrong stays wrong, a segment with an unknown escape apart
pub flaw_stays : (ss : List Segment) (s : Segment) (flaw : Flaw) → IsFlawOfAll ss flaw → IsReadable s → IsFlawOfAll (ss ++ s ∷ []) flaw
flaw_stays ss s Escape wrong readable = elim wrong [ inl escape ↦ inl (refl, λ all. escape.1 (all_front IsReadable ss s all).0) | inr range ↦ absurd (omega (arith, range.0)) ]
flaw_stays ss s Range wrong readable = elim wrong [ inl escape ↦ absurd (omega (arith, escape.0)) | inr range ↦ inr (refl, all-append IsReadable ss (s ∷ []) range.1 (readable, tt), λ all. range.2 (all_front IsInRange ss s all).0) ]

escape_stays : (ss : List Segment) (s : Segment) → IsFlawOfAll ss Escape → IsFlawOfAll (ss ++ s ∷ []) Escape
escape_stays ss s wrong = elim wrong [ inl escape ↦ inl (refl, λ all. escape.1 (all_front IsReadable ss s all).0) | inr range ↦ absurd (omega (arith, range.0)) ]

-- one more segment that has a step
pub step_taken : (before : List Segment) (old new : Option Flaw) (steps more : List Step) (step : Step) (s : Segment) → new ≡ old → more ≡ steps ++ step ∷ [] → IsReadable s × IsInRange s × (step ≡ step_of s)
    → MatchOption old (HasSteps before steps) (IsFlawOfAll before) → MatchOption new (HasSteps (before ++ s ∷ []) more) (IsFlawOfAll (before ++ s ∷ []))
step_taken before None new steps more step s same pushed is has = rw (same, pushed) (more_steps s has is)
step_taken before (Some flaw) new steps more step s same pushed is has = rw same (flaw_stays before s flaw has is.0)

-- one more segment that has a flaw
new_flaw : (before : List Segment) (s : Segment) (flaw : Flaw) → AllByRecursion IsReadable before → IsFlawOf s flaw → IsFlawOfAll (before ++ s ∷ []) flaw
new_flaw before s Escape readable is = inl (refl, λ all. is (all_front IsReadable before s all).1)
new_flaw before s Range readable is = inr (refl, all-append IsReadable before (s ∷ []) readable (is.0, tt), λ all. is.1 (all_front IsInRange before s all).1)

readable_of : (before : List Segment) → IsFlawOfAll before Range → AllByRecursion IsReadable before
readable_of before wrong = elim wrong [ inl escape ↦ absurd (omega (arith, escape.0)) | inr range ↦ range.1 ]

pub flaw_noted : (before : List Segment) (old : Option Flaw) (flaw : Flaw) (new : Option Flaw) (steps more : List Step) (s : Segment) → Keeps old flaw new → IsFlawOf s flaw
    → MatchOption old (HasSteps before steps) (IsFlawOfAll before) → MatchOption new (HasSteps (before ++ s ∷ []) more) (IsFlawOfAll (before ++ s ∷ []))
flaw_noted before None flaw new steps more s keeps is has = rw keeps (new_flaw before s flaw has.readable is)
flaw_noted before (Some Escape) flaw new steps more s keeps is has = rw keeps (escape_stays before s has)
flaw_noted before (Some Range) flaw new steps more s keeps is has = rw keeps (new_flaw before s flaw (readable_of before has) is)

-- ---- whether there were any

pub undotted_takes : (segment : Segment) (rest : List ℕ) → IsSegment segment → Takes (undotted segment rest) rest
undotted_takes (field name) rest is = record { front = name; parts = refl; some = is.0 }
undotted_takes (quoted cs) rest is = takes_on (first_byte 34 (spelling_of cs ++ 34 ∷ rest)) (ends_on (front_of (spelling_of cs) (34 ∷ rest)) (is_end (first_byte 34 rest)))
undotted_takes (index negative digits) rest is =
    takes_on (first_byte 91 (minus_text negative ++ (digits ++ 93 ∷ rest))) (ends_on (front_of (minus_text negative) (digits ++ 93 ∷ rest)) (ends_on (front_of digits (93 ∷ rest)) (is_end (first_byte 93 rest))))

dotted_takes : (segment : Segment) (rest : List ℕ) → IsSegment segment → Takes (dotted segment rest) rest
dotted_takes (field name) rest is = takes_on (first_byte 46 (undotted (field name) rest)) (is_end (undotted_takes (field name) rest is))
dotted_takes (quoted cs) rest is = takes_on (first_byte 46 (undotted (quoted cs) rest)) (is_end (undotted_takes (quoted cs) rest is))
dotted_takes (index negative digits) rest is = undotted_takes (index negative digits) rest is

pub begins_takes : {text rest : List ℕ} (segment : Segment) → BeginsDotted text segment rest → Takes text rest
begins_takes {text} {rest} segment begins = subst (λ t. Takes t rest) (sym begins.parts) (dotted_takes segment rest begins.is_segment)

pub segments_end : (segments : List Segment) (text rest : List ℕ) → Segments text segments rest → EndsWith text rest
segments_end [] text rest walk = same_end walk.0
segments_end (s ∷ ss) text rest walk = ends_on (is_end (begins_takes s walk.1)) (segments_end ss walk.0 rest walk.2)

pub nothing_walked : (text rest : List ℕ) (segments : List Segment) → Segments text segments rest → length rest ≡ length text → NoSegment text
nothing_walked text rest [] walk same = walk.1
nothing_walked text rest (s ∷ ss) walk same = let one = is_shorter (begins_takes s walk.1) in let more = is_no_longer (segments_end ss walk.0 rest walk.2) in absurd (omega arith)

pub something_walked : (text rest : List ℕ) (segments : List Segment) → Segments text segments rest → length rest ≢ length text → IsNonempty segments
something_walked text rest [] walk other = absurd (other (ap length (sym walk.0)))
something_walked text rest (s ∷ ss) walk other = tt
