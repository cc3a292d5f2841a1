-- Words that all pass a test, and the parts of their list.
use Rattle.std.proofs.Common.{◌≡◌, Bool, true, List, ◌∷◌, ◌++◌, sym, ◌∙◌}
use Rattle.std.specs.List.{list_all}
use Rattle.std.proofs.lemmas.Bool.{and_parts}
use Rattle.std.proofs.lemmas.List.Folds.{list_all-append}
use Rattle.vrl_word.specs.Words.{Word}

abbrev pub Pass : (Word → Bool) → List Word → Type 0
Pass p ws = list_all p ws ≡ true

pub first_passes : (p : Word → Bool) (w : Word) (ws : List Word) → Pass p (w ∷ ws) → p w ≡ true
first_passes p w ws all = (and_parts (p w) (list_all p ws) all).0

pub rest_pass : (p : Word → Bool) (w : Word) (ws : List Word) → Pass p (w ∷ ws) → Pass p ws
rest_pass p w ws all = (and_parts (p w) (list_all p ws) all).1

pub front_pass : (p : Word → Bool) (ws vs : List Word) → Pass p (ws ++ vs) → Pass p ws
front_pass p ws vs all = (and_parts (list_all p ws) (list_all p vs) (sym (list_all-append p ws vs) ∙ all)).0

pub back_pass : (p : Word → Bool) (ws vs : List Word) → Pass p (ws ++ vs) → Pass p vs
back_pass p ws vs all = (and_parts (list_all p ws) (list_all p vs) (sym (list_all-append p ws vs) ∙ all)).1

-- those behind one word
pub behind_pass : (p : Word → Bool) (ws : List Word) (w : Word) (vs : List Word) → Pass p (ws ++ w ∷ vs) → Pass p vs
behind_pass p ws w vs all = rest_pass p w vs (back_pass p ws (w ∷ vs) all)
