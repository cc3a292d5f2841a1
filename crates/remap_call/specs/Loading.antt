-- What comes of reading the words, and of loading what they name.
use Rattle.std.specs.Prelude.{◌≡◌, ℕ, List, Option, Some, None, IfSome, ⊤}
use Rattle.vrl_io.specs.declared.fault.LoadFault.{LoadFault}
use Rattle.vrl_io.specs.declared.fault.LoadFault.TheVariants.{Failed, Memory}
use Rattle.vrl_run.specs.Devices.{Held}
use Rattle.vrl_run.specs.Request.{Request}
use Rattle.remap_words.specs.Words.{Invocation}
use Rattle.remap_call.specs.Request.{AreTexts, Asks, HasLoadedBy, IsUnloaded, Texts}

-- there are bytes of a file where one is named, and no others
abbrev pub IsFileOf : (name file : Option (List ℕ)) → Type 0
IsFileOf None None = ⊤
IsFileOf (Some name) (Some bytes) = ⊤
IsFileOf name file = ⊥

-- What is asked is known: all that is to be loaded was.
pub record IsReady (held : Held) (invocation : Option Invocation) (failures failures_after : List (List ℕ))
    (request : Request) : Type 0 where
  pub texts : Texts
  pub are_texts : AreTexts held invocation texts
  pub loaded : IfSome invocation (λ i. ¬ IsUnloaded i texts)
  pub asks : Asks invocation texts request
  pub none_failed : failures_after ≡ failures

-- why it isn't: a load failed, or there was no memory
abbrev pub HasCause : (failures failures_after : List (List ℕ)) → LoadFault → Type 0
HasCause failures failures_after Failed = ¬ (failures_after ≡ failures)
HasCause failures failures_after Memory = failures_after ≡ failures

-- What is asked isn't known, for this reason.
pub record IsUnready (held : Held) (invocation : Option Invocation) (failures failures_after : List (List ℕ))
    (fault : LoadFault) : Type 0 where
  pub texts : Texts
  pub are_texts : AreTexts held invocation texts
  pub loads : HasLoadedBy invocation texts failures failures_after
  pub cause : HasCause failures failures_after fault
