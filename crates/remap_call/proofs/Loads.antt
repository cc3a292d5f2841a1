-- What comes of loading the script and the kind file.
use Rattle.std.proofs.Common.{◌≡◌, ℕ, List, [], ◌∷◌, ◌++◌, take, Option, Some, None, IfSome, refl, sym, subst, ◌∙◌}
use Rattle.std.specs.Prelude.{option_map}
use Rattle.vrl_io.specs.declared.fault.LoadFault.{LoadFault}
use Rattle.vrl_io.specs.declared.fault.LoadFault.TheVariants.{Failed, Memory}
use Rattle.vrl_io.specs.Faults.{failures_after as added}
use Rattle.vrl_token.specs.Reading.{IsNoScript}
use Rattle.vrl_run.specs.Devices.{Held, IsLoaded, load_limit}
use Rattle.vrl_run.specs.Request.{Request, bad_words}
use Rattle.remap_words.specs.Words.{Invocation}
use Rattle.remap_call.specs.Loading.{IsFileOf, IsReady, IsUnready}
use Rattle.remap_call.specs.Request.{AsksByScript, IsUnloaded, Texts, kind_failed, no_kind_file, no_script, none_failed, script_failed}
use Rattle.remap_call.proofs.AnswerLemmas.{not_longer}

-- the bytes that the store tells, where it tells them
abbrev told : Held → List ℕ → Option (List ℕ)
told None name = None
told (Some held) name = option_map (take load_limit) (held name)

is_told : (held : Held) (name : List ℕ) → IsLoaded held name (told held name)
is_told None name = tt
is_told (Some held) name = refl

abbrev pub told_file : Held → Option (List ℕ) → Option (List ℕ)
told_file held None = None
told_file held (Some name) = told held name

is_told_file : (held : Held) (name : Option (List ℕ)) → IfSome name (λ n. IsLoaded held n (told_file held name))
is_told_file held None = tt
is_told_file held (Some name) = is_told held name

-- ---- what is asked is known

no_texts : Texts
no_texts = record { script = None; kind_file = None }

abbrev texts_of : List ℕ → Option (List ℕ) → Texts
texts_of script file = record { script = Some script; kind_file = file }

-- words that are refused ask nothing else
pub ready_words : (held : Held) (invocation : Option Invocation) (failures : List (List ℕ)) → invocation ≡ None
    → IsReady held invocation failures failures bad_words
ready_words held invocation failures is =
    subst (λ i. IsReady held i failures failures bad_words) (sym is)
    (record { texts = no_texts; are_texts = tt; loaded = tt; asks = refl; none_failed = refl })

-- a script that is no text needs no kind file
pub ready_no_text : (held : Held) (i : Invocation) (script : List ℕ) (failures : List (List ℕ)) (request : Request)
    → IsLoaded held i.script (Some script) → IsNoScript script
    → AsksByScript i (told_file held i.kind) script request → IsReady held (Some i) failures failures request
ready_no_text held i script failures request loaded none asks = record {
  texts = texts_of script (told_file held i.kind);
  are_texts = record { script = loaded; kind_file = is_told_file held i.kind };
  loaded = all;
  asks = asks;
  none_failed = refl;
} where
  all : IsUnloaded i (texts_of script (told_file held i.kind)) → ⊥
  all (no_script missing) = absurd cc
  all (no_kind_file name text named same is_text missing) = let texts_are : script ≡ text = cc in is_text (subst IsNoScript texts_are none)

-- and one that is a text has it
pub ready_text : (held : Held) (i : Invocation) (script : List ℕ) (file : Option (List ℕ))
    (failures failures_after : List (List ℕ)) (request : Request) → IsLoaded held i.script (Some script)
    → IsFileOf i.kind file
    → IfSome i.kind (λ name. IsLoaded held name file) → failures_after ≡ failures → AsksByScript i file script request → IsReady held (Some i) failures failures_after request
ready_text held i script file failures failures_after request loaded is_file file_loaded same asks = record {
  texts = texts_of script file;
  are_texts = record { script = loaded; kind_file = file_loaded };
  loaded = all;
  asks = asks;
  none_failed = same;
} where
  not_missing : (named : Option (List ℕ)) (file : Option (List ℕ)) (name : List ℕ) → IsFileOf named file
      → named ≡ Some name → file ≡ None → ⊥
  not_missing None file name is named missing = absurd cc
  not_missing (Some other) None name is named missing = is
  not_missing (Some other) (Some bytes) name is named missing = absurd cc

  all : IsUnloaded i (texts_of script file) → ⊥
  all (no_script missing) = absurd cc
  all (no_kind_file name text named same_text is_text missing) = not_missing i.kind file name is_file named missing

-- as the words mean it
pub ready_as : (held held_then : Held) (invocation : Option Invocation) (i : Invocation)
    (failures failures_then failures_after : List (List ℕ)) (request : Request) → invocation ≡ Some i → held_then ≡ held
    → failures_then ≡ failures → IsReady held_then (Some i) failures_then failures_after request → IsReady held invocation failures failures_after request
ready_as held held_then invocation i failures failures_then failures_after request is same unfailed ready =
    subst (λ w. IsReady held w failures failures_after request) (sym is)
    (subst (λ f. IsReady held (Some i) f failures_after request) unfailed (subst (λ h. IsReady h (Some i) failures_then failures_after request) same ready))

-- ---- what is asked isn't known

-- out of memory
pub wanting : (held : Held) (invocation : Option Invocation) (failures failures_after : List (List ℕ))
    → failures_after ≡ failures → IsUnready held invocation failures failures_after Memory
wanting held None failures failures_after same = record { texts = no_texts; are_texts = tt; loads = same; cause = same }
wanting held (Some i) failures failures_after same = record {
  texts = record { script = told held i.script; kind_file = told_file held i.kind };
  are_texts = record { script = is_told held i.script; kind_file = is_told_file held i.kind };
  loads = none_failed same;
  cause = same;
}

longer : (failures failures_after : List (List ℕ)) (name : List ℕ) → failures_after ≡ failures ++ name ∷ []
    → ¬ (failures_after ≡ failures)
longer failures failures_after name failed same = not_longer failures name (sym failed ∙ same)

-- the script could not be loaded
pub script_unloaded : (held : Held) (invocation : Option Invocation) (i : Invocation)
    (failures failures_after : List (List ℕ)) (fault : LoadFault) → invocation ≡ Some i
    → failures_after ≡ added fault i.script failures
    → IsUnready held invocation failures failures_after fault
script_unloaded held invocation i failures failures_after Failed is failed =
    subst (λ w. IsUnready held w failures failures_after Failed) (sym is)
    (record {
      texts = record { script = told held i.script; kind_file = told_file held i.kind };
      are_texts = record { script = is_told held i.script; kind_file = is_told_file held i.kind };
      loads = script_failed failed;
      cause = longer failures failures_after i.script failed;
    })
script_unloaded held invocation i failures failures_after Memory is same = wanting held invocation failures failures_after same

-- or the kind file could not
pub kind_unloaded : (held : Held) (i : Invocation) (script name : List ℕ) (failures failures_after : List (List ℕ))
    (fault : LoadFault) → IsLoaded held i.script (Some script) → ¬ IsNoScript script → i.kind ≡ Some name
    → failures_after ≡ added fault name failures → IsUnready held (Some i) failures failures_after fault
kind_unloaded held i script name failures failures_after Failed loaded is_text named failed = record {
  texts = record { script = Some script; kind_file = told_file held i.kind };
  are_texts = record { script = loaded; kind_file = is_told_file held i.kind };
  loads = kind_failed name script named refl is_text failed;
  cause = longer failures failures_after name failed;
}
kind_unloaded held i script name failures failures_after Memory loaded is_text named same = wanting held (Some i) failures failures_after same

pub unready_as : (held held_then : Held) (invocation : Option Invocation) (i : Invocation)
    (failures failures_then failures_after : List (List ℕ)) (fault : LoadFault) → invocation ≡ Some i → held_then ≡ held
    → failures_then ≡ failures → IsUnready held_then (Some i) failures_then failures_after fault → IsUnready held invocation failures failures_after fault
unready_as held held_then invocation i failures failures_then failures_after fault is same unfailed unready =
    subst (λ w. IsUnready held w failures failures_after fault) (sym is)
    (subst (λ f. IsUnready held (Some i) f failures_after fault) unfailed (subst (λ h. IsUnready h (Some i) failures_then failures_after fault) same unready))
