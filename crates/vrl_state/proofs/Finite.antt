-- Finite maps by names.
use Rattle.std.proofs.Common.{◌≡◌, ℕ, Bool, true, false, cond, List, Some, None, Ordering, Less, Equal, Greater, nat_cmp, is_eq, refl, sym, ap, ◌∙◌, subst}
use Rattle.std.proofs.lemmas.Cmp.{nat_list_cmp_total, tied_itself}
use Rattle.std.specs.Cmp.Lexicographic.{slice_cmp}
use Rattle.std.specs.FinMap as map
use Rattle.std.specs.FinMap.{IsAntisymmetric, nat_cmp-IsAntisymmetric, slice_cmp-IsAntisymmetric}
use Rattle.std.specs.Ordering.{eq_by_cmp}

-- names that tie are equal
pub one_name : IsAntisymmetric (slice_cmp nat_cmp)
one_name = slice_cmp-IsAntisymmetric nat_cmp-IsAntisymmetric

tied : (o : Ordering) → is_eq o ≡ true → o ≡ Equal
tied Less e = cc
tied Equal e = refl
tied Greater e = cc

-- what holds at a name, and at each other name, holds at every name
pub by_name : (P : List ℕ → Type 0) (name : List ℕ) → P name → ((x : List ℕ) → eq_by_cmp (slice_cmp nat_cmp) x name ≡ false → P x) → (x : List ℕ) → P x
by_name P name here others x =
    elim (eq_by_cmp (slice_cmp nat_cmp) x name) as (λ b. eq_by_cmp (slice_cmp nat_cmp) x name ≡ b → P x) [
      | true ↦ λ same. subst P (sym (one_name x name (tied _ same))) here
      | false ↦ λ other. others x other
    ] refl

module _ {X : Type 0} where
  pub at_name : (m : map.FinMap (slice_cmp nat_cmp) X) (name : List ℕ) (v : X) → map.get (map.insert m name v) name ≡ Some v
  at_name m name v = map.get-insert nat_list_cmp_total m name v name ∙ ap (λ o. cond (is_eq o) (Some v) (map.get m name)) (tied_itself nat_list_cmp_total name)

  pub at_other : (m : map.FinMap (slice_cmp nat_cmp) X) (name : List ℕ) (v : X) (x : List ℕ) → eq_by_cmp (slice_cmp nat_cmp) x name ≡ false → map.get (map.insert m name v) x ≡ map.get m x
  at_other m name v x other = map.get-insert nat_list_cmp_total m name v x ∙ ap (λ b. cond b (Some v) (map.get m x)) other

  pub same_map : (m n : map.FinMap (slice_cmp nat_cmp) X) → ((x : List ℕ) → map.get m x ≡ map.get n x) → m ≡ n
  same_map m n is = map.same_map nat_list_cmp_total one_name m n is

  -- a test of names answers alike at names that tie
  pub at_kept : (m : map.FinMap (slice_cmp nat_cmp) X) (test : List ℕ → Bool) (x : List ℕ) → map.get (map.retain_keys m test) x ≡ cond (test x) (map.get m x) None
  at_kept m test x = map.get-retain_keys m test x (λ y tie. ap test (sym (one_name x y tie)))
