-- What the rules of the judgement leave open: which tag the empty value of an error assignment has,
-- whether the state of a closure is found by tries, and which state it may have that isn't.
--
-- The judgement of the language is one instance, where each closure has the state of its last try.
-- Another is a judgement whose empty values and whose states of closures are given beforehand: it
-- allows every tag, and no tries, so what each closure was judged with stands in the judgement.
-- What is shown of every instance holds of both.
--
-- A rule is a test, since a law over all instances of rules that are relations would be too large
-- for a clause.
use Rattle.std.specs.Prelude.{◌≡◌, ◌&&◌, ℕ, Bool, true, false, List, Option}
use Rattle.std.specs.List.{list_all}
use Rattle.std.specs.Option.{option_map_or}
use Rattle.vrl_value.specs.declared.value.Tag.{Tag}
use Rattle.vrl_kind.specs.KindTree.{KindTree}
use Rattle.vrl_kind.specs.Tags.{same_tag}
use Rattle.vrl_judge.specs.Rules.{Loop, empty_tag}
use Rattle.vrl_value.specs.declared.value.Tag.TheVariants as tag

pub record OpenRules : Type 0 where
  -- the sources of the script's regex literals, in order
  pub sources : List (List ℕ)
  -- whether the empty value that stands for one of this kind may have this tag
  pub empty : KindTree → Tag → Bool
  -- whether that of an error assignment which isn't judged, or is judged in a dead state, may have
  -- this tag
  pub unjudged : Tag → Bool
  -- whether the state of a closure may be found by tries
  pub tries : Bool
  -- whether a closure may have this state, though no try gave it
  pub given : Loop → Bool

-- those of the language, where each kind has one tag, what isn't judged has null, and a closure has
-- the state that a try gave
abbrev pub language_rules : List (List ℕ) → OpenRules
language_rules sources = record {
  sources = sources;
  empty = λ K t. same_tag (empty_tag K) t;
  unjudged = λ t. same_tag tag.Null t;
  tries = true;
  given = λ loop. false;
}

-- Nothing is left open: each kind has one tag at most, so has what isn't judged, and no closure has
-- a state that no try gave.
pub record LeaveNothingOpen (rules : OpenRules) : Type 0 where
  pub tag : (K : KindTree) (t u : Tag) → rules.empty K t ≡ true → rules.empty K u ≡ true → t ≡ u
  pub unjudged : (t u : Tag) → rules.unjudged t ≡ true → rules.unjudged u ≡ true → t ≡ u
  pub loop : (loop : Loop) → rules.given loop ≡ false

-- ---- states that are given

-- a closure's state holds: what is known where the call begins to run it is within it, and so is
-- what is known behind a run
abbrev pub holds : Loop → Bool
holds loop = loop.begins && loop.goes_on

-- so it is of each closure that is judged
abbrev pub each_holds : List (Option Loop) → Bool
each_holds loops = list_all (λ loop. option_map_or holds loop true) loops

-- each state that may be given holds
abbrev pub GiveWhatHolds : OpenRules → Type 0
GiveWhatHolds rules = (loop : Loop) → rules.given loop ≡ true → (loop.begins ≡ true) × (loop.goes_on ≡ true)

-- these rules, but of the states that may be given only those that hold
abbrev pub only_what_holds : OpenRules → OpenRules
only_what_holds rules = record rules { given = λ loop. rules.given loop && holds loop }
