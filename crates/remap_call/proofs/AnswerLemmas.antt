-- How what is done of a request is what is done of all that is asked.
use Rattle.std.proofs.Common.{◌≡◌, ℕ, List, [], ◌∷◌, ◌++◌, ◌⊎◌, inl, inr, sym, subst}
use Rattle.vrl_run.specs.Answered.{IsAnswered, IsAsked, IsAtMostFront, IsCutOff, IsWhole}
use Rattle.vrl_run.specs.Devices.{Devices}
use Rattle.vrl_run.specs.Request.{IsSame, MayCome, Request, ScriptRun, map_lines}
use Rattle.vrl_run.specs.Status.{IsInterrupted}
use Rattle.vrl_run.specs.declared.status.Status.{Status}

module _ (asks : Request → Type 0) (one : Request) (asked : asks one) (before after : Devices) where
  -- what is asked has each request that is the same
  only : (request : Request) → IsSame one request → asks request
  only request is = subst asks (sym is) asked

  abbrev is_asked : IsAsked (IsSame one) before → IsAsked asks before
  is_asked of = record { request = of.request; asked = only of.request of.asked; input = of.input; moments = of.moments; told = of.told }

  is_whole : (status : Status) → IsWhole (IsSame one) status before after → IsWhole asks status before after
  is_whole status whole = record { asked = is_asked whole.asked; holds = whole.holds; read = whole.read }

  is_front : IsAtMostFront (IsSame one) before after → IsAtMostFront asks before after
  is_front (inl nothing) = inl nothing
  is_front (inr front) = inr (record { asked = is_asked front.asked; ran = front.ran; in_range = front.in_range; holds = front.holds })

  is_cut_off : (more : ℕ) → IsCutOff (IsSame one) more before after → IsCutOff asks more before after
  is_cut_off more cut = record {
    run = cut.run;
    asked = only (map_lines cut.run) cut.asked;
    input = cut.input;
    behind = cut.behind;
    is_left = cut.is_left;
    counted = cut.counted;
    more_is = cut.more_is;
    moments = cut.moments;
    are_ahead = cut.are_ahead;
    in_range = cut.in_range;
    clock = cut.clock;
    holds = cut.holds;
  }

  came_of : (status : Status)
      → IsInterrupted status ⊎ ((request : Request) × IsSame one request × MayCome request status)
      → IsInterrupted status ⊎ ((request : Request) × asks request × MayCome request status)
  came_of status (inl interrupted) = inl interrupted
  came_of status (inr came) = inr (came.0, only came.0 came.1, came.2)

  first_of : {Unasked : Type 0} → Unasked ⊎ ((run : ScriptRun) × IsSame one (map_lines run))
      → Unasked ⊎ ((run : ScriptRun) × asks (map_lines run))
  first_of (inl unasked) = inl unasked
  first_of (inr run) = inr (run.0, only (map_lines run.0) run.1)

  -- and so is all that is done
  pub answered : (status : Status) (Unasked : Type 0) → IsAnswered (IsSame one) status before after Unasked
      → IsAnswered asks status before after Unasked
  answered status Unasked is = record {
    leaves = record {
      whole = λ answers. is_whole status (is.leaves.whole answers);
      front = is_front is.leaves.front;
      limit = is.leaves.limit;
      clock = is.leaves.clock;
    };
    causes = is.causes;
    read_cut = λ told. is_cut_off 0 (is.read_cut told);
    limit_cut = λ told. is_cut_off 1 (is.limit_cut told);
    came = came_of status is.came;
    first = first_of is.first;
  }

-- ---- failures

-- a list with one more isn't the list
pub not_longer : {X : Type 0} (xs : List X) (x : X) → xs ++ x ∷ [] ≡ xs → ⊥
not_longer [] x is = cc
not_longer (y ∷ ys) x is = not_longer ys x cc
