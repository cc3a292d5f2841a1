use Rattle.std.proofs.Common.{◌≡◌, ◌++◌, true, Some, map, option_map, take, refl, sym, ap, ◌∙◌, arith}
use Rattle.std.proofs.lemmas.Str.{IsCharBoundary-start}
use Rattle.regex.specs.Patterns.{span}
use Rattle.regex.specs.Search.{matches_after, next_match}
use Rattle.regex.specs.Strings.{matcher_pattern}
use Rattle.regex.proofs.SearchLemmas.{matches_after_none, matches_after_text}
use Rattle.vrl_value.specs.Tree.{string}
use Rattle.vrl_value.specs.View.{tree_of}
use Rattle.vrl_pattern.specs.Matches.{cut}
use Rattle.vrl_pattern.specs.Places.{place_span}
use Rattle.vrl_pattern.proofs.Next.{not_spanned}
use Rattle.vrl_pattern.proofs.Read.{take_none}
use Rattle.vrl_pattern.proofs.Split.{parts_end, parts_go_on}
use Rattle.vrl_pattern.proofs.matching.first_parts.Goals as goal

pub loop-left-init : goal.loop-left-init
loop-left-init c =
    let all = matches_after_text (matcher_pattern c.args.matcher.now) c.args.text.now in
    let text = c.args.text.now in record {
      same = refl;
      behind = refl;
      boundary = IsCharBoundary-start text c.utf8.text;
      whole = λ i. map tree_of (c.new-parts.ensures.items i) ++ map string (cut text 0 (take c.args.most (all i)));
    }

pub loop-left-preserved : goal.loop-left-preserved
loop-left-preserved c =
    let l = c.loop-left in
    let was = l.invariant in
    let re = matcher_pattern c.args.matcher.now in
    let text = c.args.text.now in
    let place = c.in-Some.place in
    let found : option_map span (next_match true re text l.after) ≡ Some (place_span place) =
    ap (λ re. option_map span (next_match true re text l.after)) (sym was.same) ∙ sym c.in-Some.ensures.found in
    let part = c.in_ok-text_of.ensures ∙ ap string c.range.ensures.value in record {
      same = c.in-Some.ensures.same ∙ was.same;
      behind = omega arith;
      boundary = c.in-Some.ensures.within.ends;
      whole = parts_go_on re text l.start l.after l.left (place_span place) l.parts.items _ c.in_ok-text_of.field-0 _
          c.loop-left-test.true found part c.in_ok-push.ensures.items was.whole;
    }

pub returns-in_default-clause-parts : goal.returns-in_default-clause-parts
returns-in_default-clause-parts c =
    let l = c.loop-left in
    let re = matcher_pattern c.args.matcher.now in
    let text = c.args.text.now in
    let none_here = not_spanned (next_match true (matcher_pattern l.matcher) text l.after) (sym c.in_default.ensures.found) in
    let none = ap (λ re. next_match true re text l.after) (sym l.invariant.same) ∙ none_here in
    parts_end text l.start (take l.left (matches_after true re text l.after)) (map tree_of l.parts.items) _
    (take_none l.left _ (matches_after_none re text true l.after none)) l.invariant.whole

pub returns-clause-parts : goal.returns-clause-parts
returns-clause-parts c =
    let l = c.loop-left in
    let text = c.args.text.now in
    let matches = matches_after true (matcher_pattern c.args.matcher.now) text l.after in
    let over : l.left ≡ 0 = omega arith in
    parts_end text l.start (take l.left matches) (map tree_of l.parts.items) _
    (ap (λ n. take n matches) over) l.invariant.whole
