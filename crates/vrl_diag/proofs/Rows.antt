-- The table of codes.
use Rattle.std.proofs.Common.{◌≡◌, ℕ, Bool, true, false, ◌==◌, List, [], ◌∷◌, Option, Some, find, map, option_map, refl, ◌∙◌, ap, cond}
use Rattle.vrl_diag.specs.Table.{row_in}
use Rattle.vrl_diag.specs.declared.titles.Row.{Row as CodeRow}

map-cond : (b : Bool) (r : CodeRow) (o : Option CodeRow) → option_map row_in (cond b (Some r) o) ≡ cond b (Some (row_in r)) (option_map row_in o)
map-cond true r o = refl
map-cond false r o = refl

-- a row is found among the code's rows as it is among those that they stand for
pub find-map : (code : ℕ) (rs : List CodeRow) → option_map row_in (find (λ r. r.code == code) rs) ≡ find (λ r. r.code == code) (map row_in rs)
find-map code [] = refl
find-map code (r ∷ rs) = map-cond (r.code == code) r (find (λ r. r.code == code) rs) ∙ ap (cond (r.code == code) (Some (row_in r))) (find-map code rs)
