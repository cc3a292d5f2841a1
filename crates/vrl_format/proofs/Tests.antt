-- Tests of what stands between two pieces, joined by "or".
use Rattle.std.proofs.Common.{◌≡◌, refl, ap, ◌∙◌, Bool, true, false, ◌||◌, List, [], ◌∷◌, ◌++◌}
use Rattle.std.specs.List.{list_any}
use Rattle.vrl_format.specs.Pieces.{Between}

pub or_nothing : (a : Bool) → (a || false) ≡ a
or_nothing true = refl
or_nothing false = refl

pub or_grouped : (a b c : Bool) → (a || (b || c)) ≡ ((a || b) || c)
or_grouped true b c = refl
or_grouped false b c = refl

pub or_all : (a : Bool) → (a || true) ≡ true
or_all true = refl
or_all false = refl

pub any_more : (p : Between → Bool) (bs : List Between) (b : Between) → list_any p (bs ++ b ∷ []) ≡ (list_any p bs || p b)
any_more p [] b = or_nothing (p b)
any_more p (a ∷ bs) b = ap (λ t. p a || t) (any_more p bs b) ∙ or_grouped (p a) (list_any p bs) (p b)
