use Rattle.std.proofs.Common.{rules, ◌≡◌, ap, sym, ◌∙◌, map-id, chars}
use Rattle.std.proofs.lemmas.Iterator.{YieldsList-from_chars}
use Rattle.std.proofs.lemmas.Iterator.Consumers.{YieldsList-end}
use Rattle.vrl_value.specs.Tree.{array}
use Rattle.vrl_value.specs.View.{items_of, items_of_trees, tree_of}
use Rattle.vrl_value.specs.declared.value.Value.{the_lemmas}
use Rattle.vrl_value.specs.declared.value.Value.TheVariants as value
use Rattle.fn_list.specs.Pieces.{all_pieces, start, with_character, with_characters}
use Rattle.fn_list.proofs.Chunking.{pieces_told, snoc}
use Rattle.fn_list.proofs.chunks.pieces.Goals as goal

pub loop-character-preserved : goal.loop-character-preserved
loop-character-preserved c =
    let size = c.args.size in
    c.in_ok-cutting.ensures ∙ ap (λ s. with_character size s c.in-Some.character) c.loop-character.invariant ∙ sym (snoc size (start size) c.loop-character.yielded c.in-Some.character)

pub returns : goal.returns
returns c =
    let size = c.args.size in
    let text = c.args.text.now in
    let done = YieldsList-end (YieldsList-from_chars text c.utf8.text cc) c.loop-character.yielded _ c.loop-character.yielded_by _ _ c.in-None.is c.next.ensures.steps in
    let whole : c.loop-character.yielded ≡ chars text = sym (map-id c.loop-character.yielded) ∙ done.0 in
    let seen : tree_of (value.List c.new-3.result) ≡ array (items_of c.new-3.result) = search (rules, the_lemmas) in
    seen
    ∙ ap array (c.new-3.ensures
    ∙ ap items_of_trees (c.in_ok-all_pieces.ensures ∙ ap all_pieces c.loop-character.invariant ∙ ap (λ cs. all_pieces (with_characters size (start size) cs)) whole ∙ pieces_told size (chars text) c.requires))
