-- The words of known parts, and texts with something between.
use Rattle.std.proofs.Common.{◌≡◌, ℕ, zero, suc, ◌<◌, ◌≤◌, Bool, true, false, ◌&&◌, ◌==◌, List, [], ◌∷◌, ◌++◌, length, drop, get_or, refl, sym, ap, ◌∙◌, arith, append_assoc, codes, Option, Some}
use Rattle.std.proofs.lemmas.Bool.{true≢false, eqb-true}
use Rattle.std.proofs.lemmas.List.{append-nil, drop_all}
use Rattle.json.specs.Token.{Token, string}
use Rattle.json.specs.Print.{print, print_from, quoted}
use Rattle.vrl_kind.specs.KindTree.{KindTree, kind, ListTree, ObjectTree, RestTree, Places, KnownFields, list_part, object_part}
use Rattle.vrl_kind.specs.View.{places_view, fields_view, list_of, object_of, rest_of}
use Rattle.vrl_kind.specs.Print.{absent_mark, printed, scalar_words, list_words, object_words, place_words, field_words, rest_words, named_or, separated, has_rests, is_rest}
use Rattle.vrl_kind.specs.Separated.{separated_after}
use Rattle.vrl_kind.specs.declared.kind.KindField.{KindField}
use Rattle.vrl_kind.specs.declared.kind.ListPart.{ListPart}
use Rattle.vrl_kind.specs.declared.kind.ObjectPart.{ObjectPart}
use Rattle.vrl_kind.specs.declared.scalars.Scalars.{Scalars}

pub no_rests_with_places : (ks : List KindTree) (ps : Places) (fs : KnownFields) (q p r : RestTree) (b : Bool) → places_view ks ≡ ps → b ≡ (length ks == 0) → b ≡ false → has_rests r (list_part ps q) (object_part fs p) ≡ false
no_rests_with_places [] ps fs q p r b e empty false_is = absurd (true≢false (sym empty ∙ false_is))
no_rests_with_places (k ∷ ks) ps fs q p r b e empty false_is = rw (← e) refl

pub rests_without_places : (ks : List KindTree) (ps : Places) (fields : List KindField) (fs : KnownFields) (q p r : RestTree) (b d : Bool) → places_view ks ≡ ps → b ≡ (length ks == 0) → b ≡ true → fields_view fields ≡ fs → d ≡ (length fields == 0) → has_rests r (list_part ps q) (object_part fs p) ≡ d && (is_rest r q && is_rest r p)
rests_without_places (k ∷ ks) ps fields fs q p r b d e empty true_is e' empty' = absurd (omega (arith, eqb-true _ _ (sym empty ∙ true_is)))
rests_without_places [] ps [] fs q p r b true e empty true_is e' empty' = rw (← e, ← e') refl
rests_without_places [] ps [] fs q p r b false e empty true_is e' empty' = absurd (true≢false (sym empty'))
rests_without_places [] ps (f ∷ fields) fs q p r b true e empty true_is e' empty' = absurd (omega (arith, eqb-true _ _ (sym empty')))
rests_without_places [] ps (f ∷ fields) fs q p r b false e empty true_is e' empty' = rw (← e, ← e') refl

-- a word behind others, and those behind it
pub word_next : (by before w text written : List ℕ) (ws : List (List ℕ)) → written ≡ text ++ (before ++ w) → written ++ separated_after by by ws ≡ text ++ separated_after before by (w ∷ ws)
word_next by before w text written ws is = rw is (simp append_assoc)

-- a last word
pub word_last : (by before w text written : List ℕ) → written ≡ text ++ (before ++ w) → written ≡ text ++ separated_after before by (w ∷ [])
word_last by before w text written is = is ∙ ap (λ x. text ++ (before ++ x)) (sym (append-nil w))

separated_behind : (by w : List ℕ) (ws : List (List ℕ)) → w ++ separated_after by by ws ≡ separated by (w ∷ ws)
separated_behind by w [] = append-nil w
separated_behind by w (v ∷ ws) = rw (← separated_behind by v ws) (simp append_assoc)

-- behind nothing the words stand as they are separated
pub separated_alone : (by : List ℕ) (ws : List (List ℕ)) → separated_after [] by ws ≡ separated by ws
separated_alone by [] = refl
separated_alone by (w ∷ ws) = separated_behind by w ws

-- the words of the places from i on
place_words_from : (ks : List KindTree) (i next : ℕ) (k : KindTree) (more : List (List ℕ)) → next ≡ suc i → i < length ks → k ≡ get_or ks i k → place_words (places_view (drop i ks)) more ≡ (absent_mark k ++ printed k) ∷ place_words (places_view (drop next ks)) more
place_words_from [] i next k more e below is = absurd (omega arith)
place_words_from (x ∷ ks) zero next k more e below is = rw (e, is) refl
place_words_from (x ∷ ks) (suc i) next k more e below is = rw e (place_words_from ks i (suc i) k more refl (omega arith) is)

pub place_words_next : (ks : List KindTree) (i next : ℕ) (k : KindTree) (by before mark start text marked written : List ℕ) → next ≡ suc i → i < length ks → k ≡ get_or ks i k → mark ≡ absent_mark k → marked ≡ text ++ (before ++ mark) → written ≡ marked ++ printed k → ((more : List (List ℕ)) → text ++ separated_after before by (place_words (places_view (drop i ks)) more) ≡ start ++ separated_after [] by (place_words (places_view ks) more)) → (more : List (List ℕ)) → written ++ separated_after by by (place_words (places_view (drop next ks)) more) ≡ start ++ separated_after [] by (place_words (places_view ks) more)
place_words_next ks i next k by before mark start text marked written e below is mark_is marked_is written_is so_far more =
    let all : written ≡ text ++ (before ++ (absent_mark k ++ printed k)) = rw (written_is, marked_is, mark_is) (simp append_assoc) in
    word_next by before _ text written _ all ∙ ap (λ ws. text ++ separated_after before by ws) (sym (place_words_from ks i next k more e below is)) ∙ so_far more

pub place_words_all : (ks : List KindTree) (i : ℕ) (by before start text : List ℕ) → length ks ≤ i → ((more : List (List ℕ)) → text ++ separated_after before by (place_words (places_view (drop i ks)) more) ≡ start ++ separated_after [] by (place_words (places_view ks) more)) → (more : List (List ℕ)) → text ++ separated_after before by more ≡ start ++ separated_after [] by (place_words (places_view ks) more)
place_words_all ks i by before start text above so_far more = rw (← so_far more, drop_all i ks above) refl

-- the words of the fields from i on
field_words_from : (fs : List KindField) (i next : ℕ) (f : KindField) (more : List (List ℕ)) → next ≡ suc i → i < length fs → f ≡ get_or fs i f → field_words (fields_view (drop i fs)) more ≡ (quoted f.name ++ (absent_mark f.kind ++ (codes ": " ++ printed f.kind))) ∷ field_words (fields_view (drop next fs)) more
field_words_from [] i next f more e below is = absurd (omega arith)
field_words_from (x ∷ fs) zero next f more e below is = rw (e, is) refl
field_words_from (x ∷ fs) (suc i) next f more e below is = rw e (field_words_from fs i (suc i) f more refl (omega arith) is)

pub field_words_next : (fs : List KindField) (i next : ℕ) (f : KindField) (by before start text keyed written : List ℕ) → next ≡ suc i → i < length fs → f ≡ get_or fs i f → keyed ≡ text ++ (before ++ (quoted f.name ++ (absent_mark f.kind ++ codes ": "))) → written ≡ keyed ++ printed f.kind → ((more : List (List ℕ)) → text ++ separated_after before by (field_words (fields_view (drop i fs)) more) ≡ start ++ separated_after [] by (field_words (fields_view fs) more)) → (more : List (List ℕ)) → written ++ separated_after by by (field_words (fields_view (drop next fs)) more) ≡ start ++ separated_after [] by (field_words (fields_view fs) more)
field_words_next fs i next f by before start text keyed written e below is key_is written_is so_far more =
    let all : written ≡ text ++ (before ++ (quoted f.name ++ (absent_mark f.kind ++ (codes ": " ++ printed f.kind)))) = rw (written_is, key_is) (simp append_assoc) in
    word_next by before _ text written _ all ∙ ap (λ ws. text ++ separated_after before by ws) (sym (field_words_from fs i next f more e below is)) ∙ so_far more

pub field_words_all : (fs : List KindField) (i : ℕ) (by before start text : List ℕ) → length fs ≤ i → ((more : List (List ℕ)) → text ++ separated_after before by (field_words (fields_view (drop i fs)) more) ≡ start ++ separated_after [] by (field_words (fields_view fs) more)) → (more : List (List ℕ)) → text ++ separated_after before by more ≡ start ++ separated_after [] by (field_words (fields_view fs) more)
field_words_all fs i by before start text above so_far more = rw (← so_far more, drop_all i fs above) refl

-- what is known of arrays, and of objects, by its parts as a slice
pub array_seen : (given : Option ListPart) (part : ListPart) (ks : List KindTree) → given ≡ Some part → ks ≡ part.places.kinds.items → list_of given ≡ list_part (places_view ks) (rest_of part.rest)
array_seen given part ks is items = rw (is, items) refl

pub object_seen : (given : Option ObjectPart) (part : ObjectPart) (fs : List KindField) → given ≡ Some part → fs ≡ part.fields.fields.items → object_of given ≡ object_part (fields_view fs) (rest_of part.rest)
object_seen given part fs is items = rw (is, items) refl

-- parts between brackets, the last of them behind the others
bracketed : (left right : ℕ) (before within text opened placed rested written : List ℕ) (words : List (List ℕ) → List (List ℕ)) (last : List (List ℕ)) → opened ≡ text ++ (before ++ left ∷ []) → ((more : List (List ℕ)) → placed ++ separated_after within (codes ", ") more ≡ opened ++ separated_after [] (codes ", ") (words more)) → rested ≡ placed ++ separated_after within (codes ", ") last → written ≡ rested ++ right ∷ [] → written ≡ text ++ (before ++ (left ∷ (separated (codes ", ") (words last) ++ right ∷ [])))
bracketed left right before within text opened placed rested written words last open_is placed_is rested_is written_is =
    rw (written_is, rested_is, placed_is last, open_is, separated_alone (codes ", ") (words last)) (simp append_assoc)

pub array_written : (l : ListTree) (ps : Places) (r : RestTree) (before within text opened placed rested written : List ℕ) → l ≡ list_part ps r → opened ≡ text ++ (before ++ codes "[") → ((more : List (List ℕ)) → placed ++ separated_after within (codes ", ") more ≡ opened ++ separated_after [] (codes ", ") (place_words ps more)) → rested ≡ placed ++ separated_after within (codes ", ") (rest_words r) → written ≡ rested ++ codes "]" → (more : List (List ℕ)) → written ++ separated_after (codes "|") (codes "|") more ≡ text ++ separated_after before (codes "|") (list_words l more)
array_written l ps r before within text opened placed rested written is open_is placed_is rested_is written_is more =
    rw is (word_next (codes "|") before _ text written more (bracketed 91 93 before within text opened placed rested written (place_words ps) (rest_words r) open_is placed_is rested_is written_is))

pub object_written : (o : ObjectTree) (fs : KnownFields) (r : RestTree) (before within text opened placed rested written : List ℕ) → o ≡ object_part fs r → opened ≡ text ++ (before ++ codes "{") → ((more : List (List ℕ)) → placed ++ separated_after within (codes ", ") more ≡ opened ++ separated_after [] (codes ", ") (field_words fs more)) → rested ≡ placed ++ separated_after within (codes ", ") (rest_words r) → written ≡ rested ++ codes "}" → written ≡ text ++ separated_after before (codes "|") (object_words o)
object_written o fs r before within text opened placed rested written is open_is placed_is rested_is written_is =
    rw is (word_last (codes "|") before _ text written (bracketed 123 125 before within text opened placed rested written (field_words fs) (rest_words r) open_is placed_is rested_is written_is))

-- a kind with a word for the whole of it
pub word_written : (k : KindTree) (word text written : List ℕ) → written ≡ text ++ word → ((parts : List ℕ) → named_or k parts ≡ word) → written ≡ text ++ printed k
word_written (kind s l o) word text written is named = is ∙ ap (λ x. text ++ x) (sym (named (separated (codes "|") (scalar_words s (list_words l (object_words o))))))

-- a kind without a word of its own
pub kind_written : (k : KindTree) (s : Scalars) (l : ListTree) (o : ObjectTree) (before next text scalars lists written : List ℕ) → k ≡ kind s l o → ((parts : List ℕ) → named_or k parts ≡ parts) → ((more : List (List ℕ)) → scalars ++ separated_after before (codes "|") more ≡ text ++ separated_after [] (codes "|") (scalar_words s more)) → ((more : List (List ℕ)) → lists ++ separated_after next (codes "|") more ≡ scalars ++ separated_after before (codes "|") (list_words l more)) → written ≡ lists ++ separated_after next (codes "|") (object_words o) → written ≡ text ++ printed k
kind_written k s l o before next text scalars lists written is unnamed scalars_are list_is object_is =
    let parts : written ≡ text ++ separated (codes "|") (scalar_words s (list_words l (object_words o))) = object_is ∙ list_is (object_words o) ∙ scalars_are (list_words l (object_words o)) ∙ ap (λ x. text ++ x) (separated_alone (codes "|") (scalar_words s (list_words l (object_words o)))) in
    parts ∙ ap (λ x. text ++ x) (sym (unnamed (separated (codes "|") (scalar_words s (list_words l (object_words o)))))) ∙ rw is refl

-- what a writer of JSON gives for one string
pub written_string : (name text items before before' start : List ℕ) (ts ts' : List Token) → text ≡ items → items ≡ before' ++ print ts' → ts' ≡ ts ++ string name ∷ [] → ts ≡ [] → before' ≡ before → before ≡ start → start ≡ [] → text ≡ quoted name
unfolding print_from
written_string name text items before before' start ts ts' a b c d e f g = rw (a, b, c, d, e, f, g) (append-nil (quoted name))
