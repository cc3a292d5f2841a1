-- Refusals: the first of the faults, told from one value further out.
use Rattle.std.proofs.Common.{◌≡◌, ℕ, Bool, true, List, [], ◌∷◌, ◌++◌, Some, option_map, sym, ap, ◌∙◌}
use Rattle.vrl_value.specs.Look.{Step}
use Rattle.vrl_kindfile.specs.Faults.{first_of, own_or, under}
use Rattle.vrl_kindfile.specs.Pointer.{pointer_of, step_text}
use Rattle.vrl_kindfile.specs.Walk.{IsRefusal, IsUnder}
use Rattle.vrl_kindfile.specs.declared.refusal.Refusal.{Refusal}
use Rattle.vrl_kindfile.specs.declared.refusal.Refusal.TheVariants as refusal

first_under : (s : Step) (paths others : List (List Step)) (pointer longer : List ℕ) → option_map pointer_of (first_of paths) ≡ Some pointer → longer ≡ 47 ∷ (step_text s ++ pointer)
    → option_map pointer_of (first_of (under s paths ++ others)) ≡ Some longer
first_under s [] others pointer longer first is = cc
first_under s (p ∷ paths) others pointer longer first is =
    let same : pointer_of p ≡ pointer = cc in
    ap (λ (text : List ℕ). Some (47 ∷ (step_text s ++ text))) same ∙ ap Some (sym is)

-- the first fault is that of the part under the step
pub refused_under : (s : Step) (paths others : List (List Step)) (r longer : Refusal) → IsRefusal paths r → IsUnder s r longer → IsRefusal (under s paths ++ others) longer
refused_under s paths others (refusal.Bad pointer) (refusal.Bad longer) first is = first_under s paths others pointer longer first is
refused_under s paths others (refusal.Bad pointer) refusal.Memory first is = tt
refused_under s paths others refusal.Memory (refusal.Bad longer) first is = absurd is
refused_under s paths others refusal.Memory refusal.Memory first is = tt

-- the same where no other part is looked at
pub refused_alone : (s : Step) (paths : List (List Step)) (r longer : Refusal) → IsRefusal paths r → IsUnder s r longer → IsRefusal (under s paths) longer
refused_alone s paths (refusal.Bad pointer) (refusal.Bad longer) first is = alone paths (first_under s paths [] pointer longer first is) where
  alone : (paths : List (List Step)) → option_map pointer_of (first_of (under s paths ++ [])) ≡ Some longer → option_map pointer_of (first_of (under s paths)) ≡ Some longer
  alone [] e = e
  alone (p ∷ ps) e = e
refused_alone s paths (refusal.Bad pointer) refusal.Memory first is = tt
refused_alone s paths refusal.Memory (refusal.Bad longer) first is = absurd is
refused_alone s paths refusal.Memory refusal.Memory first is = tt

-- other faults behind change nothing
pub refused_before : (paths others : List (List Step)) (r : Refusal) → IsRefusal paths r → IsRefusal (paths ++ others) r
refused_before [] others (refusal.Bad pointer) first = cc
refused_before (p ∷ paths) others (refusal.Bad pointer) first = first
refused_before paths others refusal.Memory first = tt

-- nothing is at fault
pub faultless_both : (s : Step) (paths others : List (List Step)) → paths ≡ [] → others ≡ [] → under s paths ++ others ≡ []
faultless_both s paths others first second = rw first second

-- it isn't
pub refused_inside : (fits : Bool) (parts : List (List Step)) (r : Refusal) → fits ≡ true → IsRefusal parts r → IsRefusal (own_or fits parts) r
refused_inside fits parts r fit first = rw fit first

pub faultless_inside : (fits : Bool) (parts : List (List Step)) → fits ≡ true → parts ≡ [] → own_or fits parts ≡ []
faultless_inside fits parts fit none = rw fit none
