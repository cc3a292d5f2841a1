-- Whole kinds that are allowed, and those that aren't.
use Rattle.std.proofs.Common.{◌≡◌, ◌↔◌, ℕ, ◌^◌, ◌-◌, ◌≤◌, min, Bool, true, false, IsTrue, List, [], inr, length, refl, sym, ap, subst, arith}
use Rattle.vrl_value.specs.Look.{Step}
use Rattle.vrl_value.specs.Tree.{Tree}
use Rattle.vrl_value.specs.declared.value.Tag.TheVariants as tag
use Rattle.vrl_json.specs.Line.{reading_of, whole}
use Rattle.vrl_kind.specs.Canonical.{IsCanonical}
use Rattle.vrl_kind.specs.Count.{nodes, levels}
use Rattle.vrl_kind.specs.KindTree.{KindTree}
use Rattle.vrl_kind.specs.Kinds.{tags_at, only_at, IsWithin}
use Rattle.vrl_kindfile.specs.Faults.{first_of}
use Rattle.vrl_kindfile.specs.Files.{IsAllowed, IsKindOf, IsRefused, file_limit}
use Rattle.vrl_kindfile.specs.Lines.{of_refusal}
use Rattle.vrl_kindfile.specs.Walk.{IsDescription, IsHere}
use Rattle.vrl_kindfile.specs.declared.fault.KindFault.{KindFault}
use Rattle.vrl_kindfile.specs.declared.refusal.Refusal.{Refusal}
use Rattle.vrl_kindfile.specs.declared.refusal.Refusal.TheVariants as refusal

-- a size that is counted up to the greatest number of 64 bits
counted : (size count limit : ℕ) → count ≡ min size (2 ^ 64 - 1) → count ≤ limit → limit ≤ 1000 → size ≤ limit
counted size count limit is low small = grind arith

pub allowed : (K L : KindTree) (within : Bool) (count depth : ℕ) → (IsTrue within ↔ IsWithin K L) → ((p : List Step) → tags_at L p ≡ only_at tag.Object p)
    → count ≡ min (nodes K) (2 ^ 64 - 1) → count ≤ 1000 → depth ≡ min (levels K) (2 ^ 64 - 1) → depth ≤ 32 → IsTrue within ↔ IsAllowed K
allowed K L within count depth same objects counts few deep shallow = (
  λ is. record {
    objects = λ p t has. subst (λ T. IsTrue (T t)) (objects p) (same.0 is p t has);
    nodes = counted (nodes K) count 1000 counts few (omega arith);
    levels = counted (levels K) depth 32 deep shallow (omega arith);
  },
  λ may. same.1 (λ p t has. subst (λ T. IsTrue (T t)) (sym (objects p)) (may.objects p t has)),
)

pub kind_of_file : (t : Tree) (K : KindTree) → IsDescription t K → IsCanonical K → IsKindOf t K
kind_of_file t K is canonical = record { faultless = ap first_of is.faultless; described = record { tags = is.tags; canonical = canonical } }

pub whole_refused : (file : List ℕ) (t : Tree) (K : KindTree) (may : Bool) (r : Refusal) (given : KindFault) → length file ≤ file_limit → reading_of file ≡ whole t → IsKindOf t K → (IsTrue may ↔ IsAllowed K) → may ≡ false
    → IsHere r → given ≡ of_refusal r → IsRefused file given
whole_refused file t K may (refusal.Bad pointer) given small reads is tells not_allowed here same = subst (IsRefused file) (sym same) record {
  tree = t;
  text = record { size = small; reading = reads };
  path = [];
  at_fault = inr (
    refl,
    record {
      kind = K;
      is_kind = is;
      refused = λ fine.
          let wrong : may ≡ true = tells.1 fine in
          cc;
    },
  );
  is_pointer = here;
}
whole_refused file t K may refusal.Memory given small reads is tells not_allowed here same = absurd here
