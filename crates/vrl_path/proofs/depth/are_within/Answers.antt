use Rattle.std.proofs.Common.{◌≡◌, ◌≤◌, [], ◌∷◌, ◌++◌, String, Global, sym, ap, ◌∙◌, subst, refl, append_assoc, arith}
use Rattle.std.proofs.lemmas.Bool.{true≢false}
use Rattle.std.proofs.lemmas.List.{append-nil}
use Rattle.vrl_value.specs.Depth.{members_depth}
use Rattle.vrl_value.specs.Parts.{without}
use Rattle.vrl_value.specs.View.{members_view}
use Rattle.vrl_value.specs.declared.value.Value.{Value}
use Rattle.vrl_path.proofs.Fits.{depth_joined, fields_within, keys_ascend}
use Rattle.vrl_path.proofs.depth.are_within.Goals as goal

pub loop-key-preserved : goal.loop-key-preserved
loop-key-preserved c =
    let l = c.loop-key in
    let done = l.invariant.0 in
    let e : String Global × Value = (c.in-Some.key.now, c.in-Some.part.now) in
    let left = c.next.new.self in
    let fits = rw c.as_str.ensures.value at (c.entry_fits.ensures.0 c.if-not-entry_fits.false) in
    let before = l.invariant.2 in
    let joined = depth_joined c.args.name.now done (e ∷ []) in (
      done ++ e ∷ [],
      l.invariant.1 ∙ ap (λ es. done ++ es) c.in-Some.ensures.steps ∙ sym (append_assoc done (e ∷ []) left),
      omega arith,
    )

pub returns : goal.returns
returns c = λ t new.
    let l = c.loop-key in
    let es = c.args.map.now.entries in
    let all = l.invariant.1 ∙ ap (λ rest. l.invariant.0 ++ rest) c.in-None.ensures.steps.0 ∙ append-nil l.invariant.0 in
    let within = subst (λ xs. members_depth (without c.args.name.now (members_view xs)) ≤ c.args.limit) (sym all) l.invariant.2 in
    (λ yes. (fields_within c.members_are_maps.ensures c.args.name.now t (members_view es) c.args.limit (keys_ascend es c.iter-key-items.ensures.ordered) new).0 within, λ fits. refl)

pub returns-then-not-entry_fits : goal.returns-then-not-entry_fits
returns-then-not-entry_fits c = λ t new.
    let l = c.loop-key in
    let name = c.args.name.now in
    let es = c.args.map.now.entries in
    let done = l.invariant.0 in
    let e : String Global × Value = (c.in-Some.key.now, c.in-Some.part.now) in
    let left = c.next.new.self in
    let all : es ≡ done ++ e ∷ left = l.invariant.1 ∙ ap (λ xs. done ++ xs) c.in-Some.ensures.steps in
    let front = depth_joined name done (e ∷ left) in
    let back = depth_joined name (e ∷ []) left in
    let decides = rw c.as_str.ensures.value at c.entry_fits.ensures in (
      λ yes. absurd cc,
      λ fits.
          let within = (fields_within c.members_are_maps.ensures name t (members_view es) c.args.limit (keys_ascend es c.iter-key-items.ensures.ordered) new).1 fits in
          let whole = subst (λ xs. members_depth (without name (members_view xs)) ≤ c.args.limit) all within in
          let one : members_depth (without name (members_view (e ∷ []))) ≤ c.args.limit = omega arith in
          absurd (true≢false (sym (decides.1 one) ∙ c.if-not-entry_fits.true)),
    )
