use Rattle.std.proofs.Common.{rules, ◌≡◌, ◌++◌, ℕ, List, [], ◌∷◌, drop, map, Some, None, sym, ap, ◌∙◌}
use Rattle.std.proofs.lemmas.List.{append-nil, map-append}
use Rattle.std.specs.Str.Lossy.{utf8_lossy}
use Rattle.csv.specs.Records.{field_at, fields_of}
use Rattle.vrl_value.specs.Tree.{Tree, string}
use Rattle.vrl_value.specs.View.{tree_of}
use Rattle.vrl_value.specs.declared.value.Value.{the_lemmas}
use Rattle.vrl_value.specs.declared.value.Value.TheVariants as value
use Rattle.fn_parse.proofs.Fields.{all_shown, one_shown}
use Rattle.fn_parse.proofs.parse_csv.texts_of.Goals as goal

pub loop-field-preserved : goal.loop-field-preserved
loop-field-preserved c =
    let before = c.loop-field.invariant in
    let steps = c.in-Some.ensures.steps in
    let fields = fields_of c.args.row.now in
    let at = c.loop-field.field-iterator.at in
    let texts = c.loop-field.texts.items in
    let field = c.in-Some.field.now in
    let shown : List ℕ → Tree = λ f. string (utf8_lossy f) in
    let found : field_at fields at ≡ Some field = ap (λ r. field_at (fields_of r) at) (sym before.row) ∙ sym steps.1 in
    let seen : tree_of (value.Text c.new.result) ≡ string c.new.result = search (rules, the_lemmas) in
    let items : c.push.new.self.items ≡ texts ++ value.Text c.new.result ∷ [] = search rules in
    let all : map tree_of c.push.new.self.items ≡ map tree_of texts ++ shown field ∷ [] =
    ap (map tree_of) items ∙ map-append tree_of texts (value.Text c.new.result ∷ [])
    ∙ ap (λ t. map tree_of texts ++ t ∷ []) (seen ∙ ap string (c.new.ensures ∙ c.in_ok-text.ensures.lossy)) in
    record {
      row = rw steps.0 before.row;
      shown = ap (λ ts. ts ++ map shown (drop c.next.new.self.at fields)) all ∙ one_shown shown (map tree_of texts) fields fields at c.next.new.self.at field steps.2 found before.shown;
    }

pub returns : goal.returns
returns c =
    let before = c.loop-field.invariant in
    let fields = fields_of c.args.row.now in
    let at = c.loop-field.field-iterator.at in
    let texts = map tree_of c.loop-field.texts.items in
    let shown : List ℕ → Tree = λ f. string (utf8_lossy f) in
    let none : field_at fields at ≡ None = ap (λ r. field_at (fields_of r) at) (sym before.row) ∙ sym c.in-None.ensures.steps.1 in
    sym (append-nil texts) ∙ all_shown shown texts fields fields at none before.shown
