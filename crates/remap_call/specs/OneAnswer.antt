-- What is asked is one request.
use Rattle.std.specs.Prelude.{◌≡◌}
use Rattle.vrl_run.specs.Request.{Request}

-- any two requests that are asked are the same, and so are their answers over each input
abbrev pub HasOneAnswer : (Request → Type 0) → Type 0
HasOneAnswer asks = (a b : Request) → asks a → asks b → a ≡ b
