-- Faults of paths, told of the elements that are given.
use Rattle.std.proofs.Common.{◌≡◌, ◌==◌, ◌<◌, ◌≤◌, ℕ, Bool, true, false, ◌&&◌, nat_lt, List, [], ◌∷◌, Some, None, map, length, codes, refl, sym, ap, ◌∙◌, arith, if◌then◌else◌}
use Rattle.std.proofs.lemmas.Bool.{true≢false, ltb-true}
use Rattle.std.proofs.lemmas.List.{length-map}
use Rattle.std.specs.List.{list_all}
use Rattle.vrl_value.specs.View.{tree_of}
use Rattle.vrl_value.specs.declared.value.Value.{Value}
use Rattle.vrl_path.specs.declared.path.Step.{Step}
use Rattle.fn_object.specs.Paths.{is_plain, is_writable, removal_fault, step_of, steps_of, write_fault}

all_map : (f : Step → Bool) (es : List Value) → list_all (λ e. f (step_of (tree_of e))) es ≡ list_all f (steps_of (map tree_of es))
all_map f [] = refl
all_map f (e ∷ es) = ap (λ b. f (step_of (tree_of e)) && b) (all_map f es)

pub removal_told : (es : List Value) (b : Bool) → (length es == 0) ≡ false → list_all (λ e. is_plain (step_of (tree_of e))) es ≡ b → (if b then None else Some (codes "index out of range")) ≡ removal_fault (steps_of (map tree_of es))
removal_told [] b some all = absurd (true≢false some)
removal_told (e ∷ es) b some all = ap (λ c. if c then None else Some (codes "index out of range")) (sym all ∙ all_map is_plain (e ∷ es))

lengths : (es : List Value) → length (steps_of (map tree_of es)) ≡ length es
lengths es = length-map (map tree_of es) step_of ∙ length-map es tree_of

not_more : (n : ℕ) (b : Bool) → nat_lt 64 n ≡ b → n ≤ 64 → b ≡ false
not_more n true more few = let over : 64 < n = ltb-true 64 n more in let no : ⊥ = omega (arith, over, few) in absurd no
not_more n false more few = refl

pub write_told : (es : List Value) (b : Bool) → (length es == 0) ≡ false → length es ≤ 64 → list_all (λ e. is_writable (step_of (tree_of e))) es ≡ b →
    (if b then None else Some (codes "index out of range")) ≡ write_fault (steps_of (map tree_of es))
write_told [] b some short all = absurd (true≢false some)
write_told (e ∷ es) b some short all =
    ap (λ c. if c then None else Some (codes "index out of range")) (sym all ∙ all_map is_writable (e ∷ es))
    ∙ ap (λ c. if c then Some (codes "path too long") else (if list_all is_writable (steps_of (map tree_of (e ∷ es))) then None else Some (codes "index out of range"))) (sym (ap (nat_lt 64) (lengths (e ∷ es)) ∙ not_more (length (e ∷ es)) (nat_lt 64 (length (e ∷ es))) refl short))
